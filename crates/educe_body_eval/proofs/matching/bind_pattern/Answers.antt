use Rattle.std.proofs.Common.{◌≡◌, ◌∙◌, Option, IfOk, List, Some, sym, ap, subst}
use Rattle.std.specs.Option.{option_map}
use Rattle.educe_body_values.specs.declared.environment.Binding.{Binding}
use Rattle.educe_body_values.specs.Matching.{bound_of}
use Rattle.educe_body_values.specs.Meaning.{scene_at, enter, fields_from}
use Rattle.educe_body_eval.proofs.Binds.{fields_from-named}
use Rattle.educe_body_values.proofs.Rows.{bound_named-known}
use Rattle.educe_body_eval.proofs.matching.bind_pattern.Goals as goal

pub returns : goal.returns
returns c =
    let s = scene_at c.args.stage.now in
    let value = c.in-Some.value in
    let variant = c.in-Some-variant_of.variant.now in
    let named = sym (c.in_ok-value.ensures) ∙ c.in-Some.is in
    let bindings = ap (λ values. bound_of (Some variant) c.args.pattern.now (fields_from c.args.found.now 0 values)) c.as_slice.ensures
    ∙ ap (bound_of (Some variant) c.args.pattern.now) (fields_from-named c.args.found.now value)
    ∙ sym (bound_named-known s c.args.env c.args.found.now c.args.pattern.now value (Some variant) named (sym c.in-Some-variant_of.ensures)) in
    subst (λ (bindings : Option (List Binding)). IfOk c.bind_variant.result (λ after. after ≡ option_map (enter c.args.env) bindings)) bindings c.bind_variant.ensures
