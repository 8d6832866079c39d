use Rattle.std.proofs.Common.{ap, sym, subst}
use Rattle.educe_body_values.specs.BuiltIn.{IsBuiltIn}
use Rattle.educe_body_values.specs.declared.callee.BuiltIn.TheVariants.{Cmp}
use Rattle.educe_body_forms.specs.declared.form.Form.{Call}
use Rattle.educe_cmp.specs.Names.{names_of}
use Rattle.educe_meaning.specs.Arms.{IsKeyOf}
use Rattle.educe_settings.proofs.Lists.{two_pushed}
use Rattle.educe_cmp.proofs.keys.key_comparison.Goals as goal

pub returns : goal.returns
returns c =
    let first = c.in_ok-key_of.field-0 in
    record {
      path = c.in_ok-path.path;
      path_is = subst (IsBuiltIn Cmp) (sym c.in_ok-path.ensures) c.in_ok-built_in_path.ensures;
      first = first;
      first_is = subst (λ text. IsKeyOf (names_of c.args.names.now) text first) c.in_ok-own.ensures.text c.in_ok-key_of.ensures;
      second = c.in_ok-key_of-2.field-0;
      second_is = c.in_ok-key_of-2.ensures;
      is = ap (Call c.in_ok-path.path) (two_pushed _ _ _ _ _ c.new-arguments.ensures c.in_ok-push.ensures.ok c.in_ok-push-2.ensures.ok);
    }
