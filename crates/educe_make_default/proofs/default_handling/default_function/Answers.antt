use Rattle.std.specs.Prelude.{codes}
use Rattle.std.proofs.lemmas.Result.{IfOk-weaker}
use Rattle.educe_meaning.specs.Blocks.{IsFunction}
use Rattle.educe_meaning.specs.Making.{IsDefaultBody}
use Rattle.educe_handlers.proofs.Formed.{function_with}
use Rattle.educe_make_default.proofs.default_handling.default_function.Goals as goal

pub returns : goal.returns
returns c = λ definition made.
    IfOk-weaker c.function.result _ (IsFunction (codes "default") (IsDefaultBody definition))
    (λ functions one. function_with (codes "default") (IsDefaultBody definition) _ functions one (record {
      choice = made.choice;
      choice_is = made.choice_is;
      body_has = record { params_are = c.in_ok-body.ensures.params; form = c.args.form; block_is = c.in_ok-body.ensures.block; form_is = made.form_is };
    })) c.function.ensures
