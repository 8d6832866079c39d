use Rattle.std.proofs.Common.{◌∙◌, [], get_or, inl, inr, sym, ap, arith}
use Rattle.std.specs.Option.{option_map}
use Rattle.std.specs.Prelude.{pos}
use Rattle.educe_body_values.specs.declared.value.FieldValue.{FieldValue}
use Rattle.educe_body_values.specs.Meaning.{enter, fields_from}
use Rattle.educe_body_values.specs.Matching.{bound_to}
use Rattle.educe_body_eval.proofs.Binds.{fields_bound-few, fields_bound-step, length-fields_from}
use Rattle.educe_body_eval.proofs.matching.bind_fields.Goals as goal

pub returns-then-fields-pattern : goal.returns-then-fields-pattern
returns-then-fields-pattern c =
    let count = length-fields_from c.args.found.now 0 c.args.values.now in
    sym (
    ap (option_map (enter c.args.env))
    (fields_bound-few c.args.fields.now c.args.pattern.now (fields_from c.args.found.now 0 c.args.values.now) (elim c.then-fields-pattern.either [ inl differ ↦ inl differ | inr differ ↦ inr (differ.0, λ same. differ.1 (same ∙ count)) ]))
    )

pub loop-i-preserved : goal.loop-i-preserved
loop-i-preserved c =
    let loop = c.loop-i in
    let fields = c.args.fields.now in
    let test = sym c.has_key.ensures ∙ c.if-not-has_key.false in
    let entered = c.in_ok-env.ensures ∙ ap (λ referent. enter loop.env (bound_to (get_or c.args.pattern.now loop.i c.index-pattern-i-in-loop-i.result).name referent [])) c.referent_at-referent.ensures in
    let none : FieldValue = record { ty = 0; number = pos 0 } in
    fields_bound-step loop.env c.in_ok-env.env fields c.args.pattern.now c.args.found.now c.args.values.now loop.i c.index-fields-i.result c.index-pattern-i.result c.index-pattern-i-in-loop-i.result none
    c.loop-i-test.true (omega arith) (omega arith) test entered
    ∙ loop.invariant
