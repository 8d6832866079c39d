use Rattle.std.proofs.Common.{◌≡◌, ℕ, List, [], sym, subst}
use Rattle.std.proofs.lemmas.Result.{IfOk-weaker}
use Rattle.educe_syntax.specs.GenericParam.{GenericParam}
use Rattle.educe_syntax.specs.WherePredicate.{WherePredicate}
use Rattle.educe_bound_classes.specs.declared.needs.Asked.{Asked}
use Rattle.educe_bound_classes.specs.Asked as needs
use Rattle.educe_bound_classes.specs.Deriving.{Extends}
use Rattle.educe_bound_classes.specs.Exceptions.{Exceptions}
use Rattle.educe_bound_classes.specs.Needs.{AreNames, AreOwn}
use Rattle.educe_bound.specs.Predicates.{keys_of, asks_for}
use Rattle.educe_bound.proofs.Once.{are_own}
use Rattle.educe_bound.proofs.asked.needed_predicates.Goals as goal

pub returns : goal.returns
returns c =
    let asker = c.in_ok-asker.asker in
    let is = c.in_ok-asker.ensures in
    let bound = asks_for c.args.which in
    let types = needs.types_of c.args.types.now in
    let name = c.args.self_ident.now.text in
    let adds = c.in_ok-asked.ensures in
    let same = c.as_slice.ensures.value in
    let asked = c.as_slice.result.now in
    record {
      keys = IfOk-weaker c.predicates_of.result (λ (found : List WherePredicate). Extends [] (needs.keys_of bound asked) (keys_of found))
          (λ (found : List WherePredicate). AreOwn c.args.exceptions.now c.args.params.now name bound types (keys_of found))
          (λ found once.
          subst (λ (ex : Exceptions). AreOwn ex c.args.params.now name bound types (keys_of found)) is.exceptions
          (subst (λ (ps : List GenericParam). AreOwn asker.exceptions.now ps name bound types (keys_of found)) is.params
          (subst (λ (self : List ℕ). AreOwn asker.exceptions.now asker.params.now self bound types (keys_of found)) is.name
          (are_own asker.exceptions.now asker.params.now asker.name.now bound types c.in_ok-asked.asked.items (keys_of found) adds
          (subst (λ (xs : List Asked). Extends [] (needs.keys_of bound xs) (keys_of found)) same once)))))
          c.predicates_of.ensures.keys;
      read = λ names read.
          c.predicates_of.ensures.read asker.params.now asker.exceptions.now asker.name.now
          (subst (needs.AreAskedRead asker.params.now asker.exceptions.now asker.name.now) (sym same) (adds.read (subst AreNames (sym is.params) names) read tt));
    }
