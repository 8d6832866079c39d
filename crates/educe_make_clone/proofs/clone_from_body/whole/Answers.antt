use Rattle.std.proofs.Common.{false, ap, subst, sym}
use Rattle.educe_body_values.specs.BuiltIn.{IsBuiltIn}
use Rattle.educe_body_values.specs.declared.callee.BuiltIn.TheVariants.{Clone}
use Rattle.educe_body_forms.specs.declared.form.Form.{Form, AssignThrough}
use Rattle.educe_make_clone.proofs.clone_from_body.whole.Goals as goal

pub returns : goal.returns
returns c = record {
  target = c.in_ok-target.target;
  target_is = record { is = c.in_ok-target.ensures.text; nowhere = c.in_ok-target.ensures.nowhere };
  path = c.in_ok-path.path;
  path_is = subst (IsBuiltIn Clone) (sym c.in_ok-path.ensures) c.requires.plain;
  name = c.in_ok-name.name;
  name_is = c.in_ok-name.ensures;
  is = ap (λ (read : Form). AssignThrough c.in_ok-target.target c.in_ok-path.path read false) c.in_ok-read.ensures;
}
