use Rattle.std.proofs.Common.{refl, ◌∙◌}
use Rattle.educe_body_forms.specs.declared.form.Form.{MethodArgument}
use Rattle.educe_make_debug.proofs.debug_entries.argument.Goals as goal

pub returns : goal.returns
returns c =
    let names = c.args.names.now in
    record {
      own = names.argument;
      own_are = record {
        argument_is = record { is = refl; nowhere = names.argument_nowhere };
        wrapper_is = record { is = refl; nowhere = names.wrapper_nowhere };
        value_type_is = record { is = refl; nowhere = names.value_type_nowhere };
        function_type_is = record { is = refl; nowhere = names.function_type_nowhere };
        formatter_is = record { is = names.formatter_same; nowhere = names.own_formatter_nowhere };
        own_value_is = record { is = refl; nowhere = names.value_nowhere };
        own_formatter_is = record { is = refl; nowhere = names.value_formatter_nowhere };
      };
      is = (λ i. MethodArgument (c.in_ok-own.ensures i) (c.in_ok-held.ensures i) (c.in_ok-ty.ensures i) ((c.in_ok-method.ensures ∙ c.in_ok-duplicate.ensures) i));
    }
