use Rattle.std.proofs.Common.{List, ℕ, Bor, subst, ap}
use Rattle.std.proofs.lemmas.Result.{IfOk-weaker}
use Rattle.educe_tree.specs.declared.generics.GenericParam.{GenericParam}
use Rattle.educe_bound_classes.specs.Texts.{has_text}
use Rattle.educe_bound_classes.specs.Places.{HaveTheirPlaces, HasFound}
use Rattle.educe_bound_classes.proofs.Declared.{has_found}
use Rattle.educe_bound_classes.proofs.params.ParamNames.found_places.Goals as goal

pub returns : goal.returns
returns c =
    let own = c.self.inside in
    let keys = c.texts.result.now.keys in
    let same = ap (λ (ps : Bor (List GenericParam)). ps.now) c.self.view_is in
    IfOk-weaker c.places_of.result (HaveTheirPlaces own.places keys) (HasFound c.args.self.now.now (has_text c.args.found.now)) (λ found have.
    subst (λ (ps : List GenericParam). HasFound ps (has_text c.args.found.now) found) same
    (subst (λ (texts : List (List ℕ)). HasFound own.params.now (has_text texts) found) c.texts.ensures.same (has_found own.params.now own.places keys found c.texts.ensures.utf8 c.self.invariant.2 have))) c.places_of.ensures
