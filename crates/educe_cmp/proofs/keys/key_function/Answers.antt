use Rattle.std.proofs.Common.{refl, subst}
use Rattle.std.specs.List.{AllZip}
use Rattle.std.specs.Prelude.{None}
use Rattle.educe_meaning.specs.Arms.{IsKeyArm}
use Rattle.educe_meaning.specs.Discriminants.{counted_from}
use Rattle.educe_handlers.proofs.Named.{name_copied}
use Rattle.educe_cmp.proofs.keys.key_function.Goals as goal

pub returns : goal.returns
returns c =
    let names = c.args.names.now in
    record {
      function = c.in_ok-function.function;
      function_is = name_copied names.discriminant c.in_ok-function.function c.in_ok-function.ensures names.discriminant_nowhere;
      this = c.in_ok-this.this;
      this_is = name_copied names.this c.in_ok-this.this c.in_ok-this.ensures names.this_nowhere;
      ty = c.in_ok-ty.ty;
      ty_is = c.in_ok-ty.ensures.found;
      arms = c.in_ok-arms.arms;
      arms_are =
          subst (λ variants. AllZip (IsKeyArm c.in_ok-ty.ty names.base.text) (counted_from None 0 variants) c.in_ok-arms.arms) c.requires
          (c.in_ok-arms.ensures c.in_ok-ty.ty names.base.text c.in_ok-constants.ensures);
      is = refl;
    }
