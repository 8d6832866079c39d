use Rattle.std.proofs.Common.{◌∙◌}
use Rattle.educe_cmp.specs.Names.{names_of}
use Rattle.educe_settings.proofs.Lists.{one_pushed}
use Rattle.educe_cmp.proofs.enum_body.enum_body.Goals as goal

pub returns : goal.returns
returns c = record {
  names = names_of c.args.names.now;
  names_are = c.requires.names;
  param = c.new.result;
  params_are = one_pushed _ _ _ c.new-params.ensures c.in_ok-push.ensures.ok;
  param_is = c.new.ensures ∙ c.in_ok-duplicate.ensures;
  block_is = c.in_ok-block.ensures;
}
