use Rattle.std.proofs.Common.{◌≡◌, ◌+◌, true, false, take, drop, ap, sym, subst, ◌∙◌, chars}
use Rattle.std.specs.BTreeSet.{contains}
use Rattle.educe_grammar.specs.Naming.{Named, IsRepeated}
use Rattle.educe_syntax.proofs.Seen.{Seen, text_cmp, has_name, seen_more, take_more, around, repeated, flipped}
use Rattle.educe_syntax.proofs.duplicate_names.first_repeat.Goals as goal

pub returns-then-not-branch-clause-some : goal.returns-then-not-branch-clause-some
returns-then-not-branch-clause-some c =
    let before = take c.loop-name.name-index c.args.names.now in
    let after = drop (c.loop-name.name-index + 1) c.args.names.now in
    let name = c.name-item.result in
    let there : contains text_cmp c.loop-name.seen c.unraw.result ≡ true = flipped _ true (sym c.in_ok-insert.ensures.added ∙ c.if-not-branch.true) in
    let found = ap (has_name before) (sym c.unraw.ensures.bytes) ∙ sym (c.loop-name.invariant.has c.unraw.result) ∙ there in
    let text = ap chars (sym c.unraw.ensures.bytes) ∙ c.unraw.ensures.chars in
    let whole = around c.args.names.now c.loop-name.name-index name c.loop-name-test.true c.name-item.is in
    let is = repeated before after name c.loop-name.invariant.texts text found c.loop-name.invariant.apart in
    subst (λ (n : Named). IsRepeated n c.args.names.now) (sym c.same.ensures) (subst (IsRepeated name) (sym whole) is)

pub loop-name-preserved : goal.loop-name-preserved
loop-name-preserved c =
    let before = take c.loop-name.name-index c.args.names.now in
    let new : contains text_cmp c.loop-name.seen c.unraw.result ≡ false = flipped _ false (sym c.in_ok-insert.ensures.added ∙ c.if-not-branch.false) in
    let text = ap chars (sym c.unraw.ensures.bytes) ∙ c.unraw.ensures.chars in
    subst (Seen c.insert.new.self)
    (sym (take_more c.args.names.now c.loop-name.name-index c.name-item.result c.loop-name-test.true c.name-item.is))
    (seen_more c.loop-name.seen c.insert.new.self before c.name-item.result c.unraw.result c.loop-name.invariant text c.unraw.ensures.bytes new c.in_ok-insert.ensures.updates)
