use Rattle.std.proofs.Common.{◌∙◌, subst, sym}
use Rattle.std.proofs.lemmas.Result.{IfOk-weaker}
use Rattle.educe_settings.specs.Copying.{copies_whole}
use Rattle.educe_settings.specs.SeenTypes.{read_of, touched_of}
use Rattle.educe_settings.specs.Types.{AreCloneTypes}
use Rattle.educe_settings_types.proofs.clone_types.clone_types.Goals as goal

pub returns-then-copies-clause-types : goal.returns-then-copies-clause-types
returns-then-copies-clause-types c =
    let ast = c.args.ast.now in
    let types = c.no_types.result in
    subst (λ b. AreCloneTypes b ast (read_of types) (touched_of types)) (sym c.if-copies.true ∙ c.in_ok-copies.ensures.are)
    (record { none_read = c.no_types.ensures.read; touched_are = c.no_types.ensures.touched })

pub returns-else-copies-clause-types : goal.returns-else-copies-clause-types
returns-else-copies-clause-types c =
    let ast = c.args.ast.now in
    IfOk-weaker c.cloned_types.result _ (λ types. AreCloneTypes (copies_whole ast) ast (read_of types) (touched_of types))
    (λ types are. subst (λ b. AreCloneTypes b ast (read_of types) (touched_of types)) (sym c.if-copies.false ∙ c.in_ok-copies.ensures.are) are) c.cloned_types.ensures.types
