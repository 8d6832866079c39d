use Rattle.std.proofs.Common.{ℕ, List, ◌++◌, refl, ap, ◌∙◌}
use Rattle.educe_body_forms.specs.Keys.{binding_key}
use Rattle.educe_handlers.proofs.reading.variable.Goals as goal

pub returns : goal.returns
returns c = record {
  name = c.in_ok-binding.field-0;
  is = refl;
  name_is = c.in_ok-binding.ensures.text ∙ ap (λ (text : List ℕ). text ++ binding_key c.args.place c.args.field.now) c.as_str.ensures.chars;
  nowhere = c.in_ok-binding.ensures.nowhere;
}
