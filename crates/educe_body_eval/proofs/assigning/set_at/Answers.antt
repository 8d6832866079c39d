use Rattle.std.proofs.Common.{◌∙◌, ◌++◌, List, take, sym, ap}
use Rattle.educe_body_values.specs.declared.value.FieldValue.{FieldValue}
use Rattle.educe_body_eval.proofs.Assigned.{set_at-past, set_at-made}
use Rattle.educe_body_eval.proofs.assigning.set_at.Goals as goal

pub returns-then-place-fields : goal.returns-then-place-fields
returns-then-place-fields c = sym (set_at-past c.args.place c.args.x c.args.fields.now c.if-place-fields.true)

pub returns : goal.returns
returns c =
    let fields = c.args.fields.now in
    let first = c.in_ok-found.ensures ∙ ap (λ (none : List FieldValue). none ++ take c.args.place fields) c.new.ensures in
    set_at-made c.args.place c.args.x fields c.in_ok-found.found c.push.new.self c.in_ok-found-2.found c.if-place-fields.false first c.in_ok-push.ensures.ok c.in_ok-found-2.ensures
