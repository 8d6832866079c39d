use Rattle.std.proofs.Common.{List, [], map, refl, subst, sym}
use Rattle.std.specs.Borrow.{Bor}
use Rattle.std.proofs.lemmas.Result.{IfOk-weaker}
use Rattle.educe_syntax.specs.Ty.{Ty}
use Rattle.educe_syntax.specs.WherePredicate.{WherePredicate}
use Rattle.educe_bound_classes.specs.Deriving.{Extends}
use Rattle.educe_bound_classes.specs.Needs.{AreOwn}
use Rattle.educe_bound.specs.declared.bound.Bound.{Bound}
use Rattle.educe_bound.specs.Predicates.{keys_of, asks_for, AreByBound, AreRead, IsReadBound}
use Rattle.educe_bound.specs.Sets.{AreOnceByBound}
use Rattle.educe_bound.proofs.Once.{once_if, own_once}
use Rattle.educe_bound.proofs.bound.Bound.predicate_set.Goals as goal

pub returns-in-Disabled : goal.returns-in-Disabled
returns-in-Disabled c =
    let types = map (λ (t : Bor Ty). t.now) c.args.types.now in
    record {
      keys = subst (λ (bound : Bound). AreOnceByBound bound c.args.exceptions.now c.args.params.now c.args.self_ident.now.text c.args.bound_trait types (keys_of c.new.result)) (sym c.in-Disabled.is)
          ([], refl, subst (λ (found : List WherePredicate). Extends [] [] (keys_of found)) (sym c.new.ensures) (Extends.done []));
      read = λ bound names types. subst AreRead (sym c.new.ensures) tt;
    }

pub returns-in-Auto : goal.returns-in-Auto
returns-in-Auto c =
    let ex = c.args.exceptions.now in
    let params = c.args.params.now in
    let self = c.args.self_ident.now.text in
    let which = c.args.bound_trait in
    let types = map (λ (t : Bor Ty). t.now) c.args.types.now in
    record {
      keys = IfOk-weaker c.needed_predicates.result (λ (found : List WherePredicate). AreOwn ex params self (asks_for which) types (keys_of found))
          (λ (found : List WherePredicate). AreOnceByBound c.args.self.now ex params self which types (keys_of found))
          (λ found own.
          subst (λ (bound : Bound). AreOnceByBound bound ex params self which types (keys_of found)) (sym c.in-Auto.is) (own_once ex params self which types (keys_of found) own))
          c.needed_predicates.ensures.keys;
      read = λ bound names types. c.needed_predicates.ensures.read names types;
    }

pub returns-in_ok-predicates_on_params-in-All : goal.returns-in_ok-predicates_on_params-in-All
returns-in_ok-predicates_on_params-in-All c =
    let ex = c.args.exceptions.now in
    let params = c.args.params.now in
    let self = c.args.self_ident.now.text in
    let which = c.args.bound_trait in
    let types = map (λ (t : Bor Ty). t.now) c.args.types.now in
    let listed = c.in_ok-predicates_on_params-in-All.field-0 in
    record {
      keys = once_if c.args.self.now ex params self which types (keys_of listed) c.set_of-in-All.result
          (subst (λ (bound : Bound). AreByBound bound ex params self which types (keys_of listed)) (sym c.in-All.is) c.in_ok-predicates_on_params-in-All.ensures.keys) c.set_of-in-All.ensures.keys;
      read = λ bound names types. c.set_of-in-All.ensures.read (c.in_ok-predicates_on_params-in-All.ensures.read names);
    }

pub returns-in-Custom : goal.returns-in-Custom
returns-in-Custom c =
    let ex = c.args.exceptions.now in
    let params = c.args.params.now in
    let self = c.args.self_ident.now.text in
    let which = c.args.bound_trait in
    let types = map (λ (t : Bor Ty). t.now) c.args.types.now in
    let listed = c.in-Custom.predicates in
    record {
      keys = once_if c.args.self.now ex params self which types (keys_of listed) c.set_of-in-Custom.result
          (subst (λ (bound : Bound). AreByBound bound ex params self which types (keys_of listed)) (sym c.in-Custom.is) refl) c.set_of-in-Custom.ensures.keys;
      read = λ bound names types. c.set_of-in-Custom.ensures.read (subst IsReadBound c.in-Custom.is bound);
    }
