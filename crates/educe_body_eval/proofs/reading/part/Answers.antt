use Rattle.std.proofs.Common.{◌∙◌, ◌+◌, drop, refl, sym, ap, add-one, arith}
use Rattle.std.specs.Str.{bytes_eq}
use Rattle.educe_tree.specs.declared.data.Field.{Field}
use Rattle.educe_body_forms.specs.Keys.{key_of, keys_from}
use Rattle.educe_body_values.specs.Meaning.{part_of}
use Rattle.educe_body_values.proofs.Steps.{part_of-drop}
use Rattle.educe_body_eval.proofs.reading.part.Goals as goal

pub loop-i-preserved : goal.loop-i-preserved
loop-i-preserved c =
    let key = c.args.key.now in
    let i = c.loop-i.i in
    let differs = ap (λ (f : Field). bytes_eq (key_of i f) key) (sym c.index-fields-i.is) ∙ sym c.has_key.ensures ∙ c.if-has_key.false in
    ap (λ n. part_of (keys_from (i + 1) (drop n c.args.fields.now)) (drop n c.args.values.now) key) (add-one i)
    ∙ part_of-drop c.args.fields.now c.args.values.now key 0 i i (i + 1) c.index-fields-i.result (omega arith) refl c.loop-i-test.true differs ∙ c.loop-i.invariant
