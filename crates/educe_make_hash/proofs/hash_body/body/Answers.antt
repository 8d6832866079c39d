use Rattle.educe_settings.proofs.Lists.{two_pushed}
use Rattle.educe_make_hash.specs.HashNames.{names_of}
use Rattle.educe_make_hash.proofs.hash_body.body.Goals as goal

pub returns-clause-ok : goal.returns-clause-ok
returns-clause-ok c = record {
  names = names_of c.in_ok-names.names;
  names_are = c.in_ok-names.ensures;
  params_are = record {
    state = c.new.result;
    hasher = c.new-2.result;
    are = two_pushed _ _ _ c.new.result c.new-2.result c.new-params.ensures c.in_ok-push.ensures.ok c.in_ok-push-2.ensures.ok;
    state_is = c.new.ensures;
    hasher_is = c.new-2.ensures;
  };
  block_is = c.in_ok-block.ensures.ok;
}
