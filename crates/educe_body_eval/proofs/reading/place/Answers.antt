use Rattle.std.proofs.Common.{◌∙◌, true, false, List, Some, sym, ap, arith}
use Rattle.std.proofs.lemmas.List.{drop_all}
use Rattle.educe_tree.specs.declared.data.Field.{Field}
use Rattle.educe_body_forms.specs.Keys.{keys_from}
use Rattle.educe_body_values.specs.Meaning.{place_named}
use Rattle.educe_body_values.proofs.Steps.{counted_from, counted_from-zero, counted_from-next, place_named-step}
use Rattle.educe_body_eval.proofs.reading.place.Goals as goal

pub loop-i-init : goal.loop-i-init
loop-i-init c = counted_from-zero (place_named (keys_from 0 c.args.fields.now) c.args.key.now)

pub returns-then-has_key : goal.returns-then-has_key
returns-then-has_key c =
    let step = place_named-step c.args.fields.now c.loop-i.i c.index-fields-i.result c.args.key.now true c.loop-i-test.true c.index-fields-i.is (sym c.has_key.ensures ∙ c.if-has_key.true) in
    ap Some (omega arith) ∙ ap (counted_from c.loop-i.i) (sym step) ∙ c.loop-i.invariant

pub loop-i-preserved : goal.loop-i-preserved
loop-i-preserved c =
    let step = place_named-step c.args.fields.now c.loop-i.i c.index-fields-i.result c.args.key.now false c.loop-i-test.true c.index-fields-i.is (sym c.has_key.ensures ∙ c.if-has_key.false) in
    counted_from-next c.loop-i.i _ ∙ ap (counted_from c.loop-i.i) (sym step) ∙ c.loop-i.invariant

pub returns : goal.returns
returns c =
    ap (λ (fields : List Field). counted_from c.loop-i.i (place_named (keys_from c.loop-i.i fields) c.args.key.now)) (sym (drop_all c.loop-i.i c.args.fields.now c.loop-i-test.false))
    ∙ c.loop-i.invariant
