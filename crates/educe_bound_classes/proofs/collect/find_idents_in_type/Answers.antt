use Rattle.std.proofs.Common.{List, subst}
use Rattle.std.specs.Prelude.{OnOk}
use Rattle.educe_tree.specs.declared.generics.GenericParam.{GenericParam}
use Rattle.educe_bound_classes.specs.Classes.{names_in}
use Rattle.educe_bound_classes.specs.Texts.{AddsTexts}
use Rattle.educe_bound_classes.proofs.collect.find_idents_in_type.Goals as goal

pub returns-clause-ok : goal.returns-clause-ok
returns-clause-ok c =
    subst (λ (ps : List GenericParam). OnOk c.add_idents.result (AddsTexts (names_in ps c.args.exceptions.now c.args.ty.now) c.args.set.now c.add_idents.new.set)) c.in_ok-names.ensures c.add_idents.ensures.ok
