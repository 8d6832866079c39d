use Rattle.std.proofs.Common.{rules}
use Rattle.educe_settings.specs.declared.ranked.Ranked.{Ranked}
use Rattle.educe_settings.specs.Ranks.{Rises}
use Rattle.educe_settings.specs.Settings.{kept_by}
use Rattle.educe_settings.proofs.Kept.{places_rise}
use Rattle.educe_settings.proofs.Sorting.{Rises-from_sort, IsStableByKey-from_sort, IsSortedByKey-from_sort}
use Rattle.educe_settings.proofs.Repeats.{IsByRank-from_sort, RanksDiffer-from_sort, ReusesARank-from_sort}
use Rattle.educe_settings.proofs.ranks.by_rank.Goals as goal

rises : (c : goal.In-None) → Rises (λ (f : Ranked). f.rank) c.sort_by_key.new.self.items
rises c =
    Rises-from_sort (λ (f : Ranked). f.rank) c.sort_by_key.new.self.items c.in_ok-sort_by_key.ensures.sorted (λ a r q k. search rules)
    (rw c.deref.ensures.value at c.in-None.ensures.none)

pub returns-in-Some-clause-err : goal.returns-in-Some-clause-err
returns-in-Some-clause-err c =
    let sorted = c.sort_by_key.new.self.items in
    let later = c.index.result.now in
    let stable = IsStableByKey-from_sort (λ (f : Ranked). f.rank) c.in_ok-sorted.sorted.items sorted c.in_ok-sort_by_key.ensures.stable (λ a r q k. search rules) in
    let up = IsSortedByKey-from_sort (λ (f : Ranked). f.rank) sorted c.in_ok-sort_by_key.ensures.sorted (λ a r q k. search rules) in
    let repeats = rw c.deref.ensures.value at c.in-Some.ensures.some in
    let least = rw c.deref.ensures.value at c.in-Some.ensures.earliest in
    let kept = kept_by 0 c.args.fields.now c.args.settings.now in
    let reuses = ReusesARank-from_sort kept c.in_ok-sorted.sorted.items sorted c.in_ok-sorted.ensures c.in_ok-sort_by_key.ensures.permutation
    (places_rise c.args.fields.now c.args.settings.now) c.in-Some.at later up stable repeats least c.index.ensures in
    record { rank = later.rank; place = later.rank_span; reuses = reuses; is = c.reuse.ensures }

pub returns-clause-sorted : goal.returns-clause-sorted
returns-clause-sorted c =
    let kept = kept_by 0 c.args.fields.now c.args.settings.now in
    IsByRank-from_sort kept c.in_ok-sorted.sorted.items c.sort_by_key.new.self.items c.in_ok-sorted.ensures c.in_ok-sort_by_key.ensures.permutation (rises c)

pub returns-clause-apart : goal.returns-clause-apart
returns-clause-apart c =
    let kept = kept_by 0 c.args.fields.now c.args.settings.now in
    RanksDiffer-from_sort kept c.in_ok-sorted.sorted.items c.sort_by_key.new.self.items c.in_ok-sorted.ensures c.in_ok-sort_by_key.ensures.permutation (rises c)
