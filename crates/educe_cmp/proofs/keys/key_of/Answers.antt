use Rattle.std.proofs.Common.{refl}
use Rattle.educe_handlers.proofs.Named.{name_copied}
use Rattle.educe_cmp.proofs.keys.key_of.Goals as goal

pub returns : goal.returns
returns c = record {
  function = c.in_ok-function.function;
  function_is = name_copied c.args.names.now.discriminant c.in_ok-function.function c.in_ok-function.ensures c.args.names.now.discriminant_nowhere;
  name = c.in_ok-duplicate.field-0;
  name_is = name_copied c.args.value.now c.in_ok-duplicate.field-0 c.in_ok-duplicate.ensures c.requires;
  is = refl;
}
