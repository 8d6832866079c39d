use Rattle.std.proofs.Common.{◌≡◌}
use Rattle.std.proofs.lemmas.Result.{IfOk-weaker}
use Rattle.educe_syntax.specs.Ident.{Ident}
use Rattle.educe_handlers.proofs.Named.{name_copied}
use Rattle.educe_meaning.specs.Arms.{IsName}
use Rattle.educe_handlers.proofs.bodies.same_name.Goals as goal

pub returns : goal.returns
returns c =
    let name = c.args.name.now in
    IfOk-weaker c.duplicate.result (λ (copy : Ident). copy ≡ name) (IsName name.text) (λ copy same. name_copied name copy same c.requires) c.duplicate.ensures
