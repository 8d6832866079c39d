use Rattle.std.specs.Prelude.{codes}
use Rattle.std.proofs.lemmas.Result.{IfOk-weaker}
use Rattle.educe_handlers.proofs.Formed.{function_with}
use Rattle.educe_meaning.specs.Blocks.{IsFunction}
use Rattle.educe_meaning.specs.CloneBodies.{IsCloneBody}
use Rattle.educe_make_clone.proofs.clone_handling.own_function.Goals as goal

pub returns : goal.returns
returns c = λ definition names is.
    IfOk-weaker c.function.result _ (IsFunction (codes "clone") (IsCloneBody definition names))
    (λ functions one. function_with (codes "clone") (IsCloneBody definition names) _ functions one (record { params_are = c.new-params.ensures; block_is = is })) c.function.ensures
