use Rattle.std.proofs.Common.{subst}
use Rattle.educe_settings.specs.SeenTypes.{read_of, touched_of}
use Rattle.educe_settings.specs.Types.{AreOfFields}
use Rattle.educe_settings_types.proofs.CheckedTypes.{seen_checked}
use Rattle.educe_settings_types.proofs.eq_types.compared_types.Goals as goal

pub returns-clause-are : goal.returns-clause-are
returns-clause-are c =
    let ast = c.args.task.ast.now in
    let types = c.in_ok-types.types in
    seen_checked ast (read_of types) (touched_of types) (subst (λ which. AreOfFields which ast (read_of types) (touched_of types)) c.requires.equality c.in_ok-types.ensures.types)
