use Rattle.std.proofs.Common.{◌≡◌, ◌≢◌, ℕ, ◌+◌, ◌-◌, ◌<◌, length, get_or, subst, sym, arith, rules, Some}
use Rattle.educe_settings.specs.declared.ranked.Ranked.{Ranked}
use Rattle.educe_settings.proofs.Earliest.{EarliestBefore, earliest_more, earliest_same}
use Rattle.educe_settings.proofs.ranks.repeat_at.Goals.{then-sorted-i, else-sorted-i}
use Rattle.educe_settings.proofs.ranks.repeat_at.Goals as goal

pub loop-i-preserved : goal.loop-i-preserved
loop-i-preserved c =
    let sorted = c.args.sorted.now in
    let i = c.loop-i.i in
    let p = i - 1 in
    let next : p + 1 ≡ i = omega (arith, c.loop-i.auto.i) in
    let within : p + 1 < length sorted = omega (arith, c.loop-i.auto.i, c.loop-i-test.true) in
    let first : Ranked = c.index-sorted-i.result in
    let second : Ranked = c.index-sorted-i-in-loop-i.result in
    let second_is = subst (λ (n : ℕ). second ≡ get_or sorted n second) (sym next) c.index-sorted-i-in-loop-i.is in
    let before = subst (λ (n : ℕ). EarliestBefore sorted n c.loop-i.found) (sym next) c.loop-i.invariant in
    elim c.if-sorted-i.branch [
      | then-sorted-i w ↦ (
          let same : first.rank ≡ second.rank = search rules in
          rw w.found-is (subst (λ (n : ℕ). EarliestBefore sorted (n + 1) (Some w.earlier.result)) next
          (earliest_more sorted p within first second first second c.index-sorted-i.is second_is c.loop-i.found w.earlier.result before same w.earlier.ensures.one
          w.earlier.ensures.at w.earlier.ensures.found)))
      | else-sorted-i w ↦ (
          let apart : first.rank ≢ second.rank = search rules in
          rw w.found-is (subst (λ (n : ℕ). EarliestBefore sorted (n + 1) c.loop-i.found) next
          (earliest_same sorted p within first second first second c.index-sorted-i.is second_is c.loop-i.found before apart)))
    ]
