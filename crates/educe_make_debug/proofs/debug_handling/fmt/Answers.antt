use Rattle.std.proofs.Common.{subst, sym}
use Rattle.std.specs.Prelude.{codes}
use Rattle.std.proofs.lemmas.Result.{IfOk-weaker}
use Rattle.educe_syntax.specs.DeriveInput.{DeriveInput}
use Rattle.educe_handlers.proofs.Formed.{function_with}
use Rattle.educe_meaning.specs.Blocks.{IsFunction}
use Rattle.educe_settings.specs.Packed.{AreCopied}
use Rattle.educe_meaning.specs.ShownBodies.{IsDebugBody}
use Rattle.educe_make_debug.specs.DebugNames.{names_of}
use Rattle.educe_make_debug.proofs.debug_handling.fmt.Goals as goal

pub body-requires-clause-copied : goal.body-requires-clause-copied
body-requires-clause-copied c = subst (λ (d : DeriveInput). AreCopied d c.in_ok-copied.copied) (sym c.requires.ast) c.in_ok-copied.ensures

pub returns : goal.returns
returns c =
    let names = names_of c.args.names.now in
    let IsRight = IsDebugBody c.args.ast.now names in
    let right : IsRight c.in_ok-body.body = subst (λ (d : DeriveInput). IsDebugBody d names c.in_ok-body.body) c.requires.ast c.in_ok-body.ensures in
    IfOk-weaker c.function.result _ (IsFunction (codes "fmt") IsRight) (λ functions one. function_with (codes "fmt") IsRight _ functions one right) c.function.ensures
