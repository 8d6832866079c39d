use Rattle.std.specs.Prelude.{codes}
use Rattle.std.proofs.Common.{◌∙◌}
use Rattle.std.proofs.lemmas.Result.{IfOk-weaker}
use Rattle.educe_handlers.proofs.Formed.{function_with}
use Rattle.educe_settings.proofs.Lists.{one_pushed}
use Rattle.educe_meaning.specs.Blocks.{IsFunction}
use Rattle.educe_meaning.specs.CloneBodies.{IsFromBody}
use Rattle.educe_make_clone.specs.CloneNames.{names_of}
use Rattle.educe_make_clone.proofs.clone_handling.from_function.Goals as goal

pub returns : goal.returns
returns c = λ definition is.
    let names = names_of c.args.names.now in
    IfOk-weaker c.function.result _ (IsFunction (codes "clone_from") (IsFromBody definition names))
    (λ functions one. function_with (codes "clone_from") (IsFromBody definition names) _ functions one (record {
      param = c.new.result;
      params_are = one_pushed _ _ _ c.new-params.ensures c.in_ok-push.ensures.ok;
      param_is = c.new.ensures ∙ c.in_ok-duplicate.ensures;
      block_is = is;
    })) c.function.ensures
