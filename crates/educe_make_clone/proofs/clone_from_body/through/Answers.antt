use Rattle.std.proofs.Common.{ℕ, List, ◌++◌, ap, ◌∙◌}
use Rattle.educe_body_forms.specs.Keys.{binding_key}
use Rattle.educe_body_values.specs.declared.callee.BuiltIn.TheVariants.{CloneFrom}
use Rattle.educe_body_forms.specs.declared.form.Form.{AssignThrough}
use Rattle.educe_settings.specs.Ranked.{how_of}
use Rattle.educe_handlers.proofs.CalledPaths.{called_is}
use Rattle.educe_make_clone.proofs.clone_from_body.through.Goals as goal

pub returns : goal.returns
returns c =
    let ranked = c.args.ranked.now in
    record {
      target = c.in_ok-target.target;
      target_is = record {
        is = c.in_ok-target.ensures.text ∙ ap (λ (text : List ℕ). text ++ binding_key ranked.place ranked.field.now) c.as_str.ensures.chars;
        nowhere = c.in_ok-target.ensures.nowhere;
      };
      path = c.in_ok-path.path;
      path_is = called_is CloneFrom (how_of ranked.how) c.args.plain.now c.in_ok-path.path c.requires c.in_ok-path.ensures;
      read = c.in_ok-read.read;
      read_is = c.in_ok-read.ensures;
      is = (λ i. AssignThrough c.in_ok-target.target c.in_ok-path.path (c.in_ok-read-2.ensures i) (c.hands_over-handed.ensures i));
    }
