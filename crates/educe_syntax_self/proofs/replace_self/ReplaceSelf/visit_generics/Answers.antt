use Rattle.std.proofs.Common.{List, sym, subst}
use Rattle.std.specs.List.{AllByRecursion, AllZip}
use Rattle.educe_tree.specs.declared.generics.GenericParam.{GenericParam}
use Rattle.educe_tree.specs.declared.generics.WherePredicate.{WherePredicate}
use Rattle.educe_grammar.specs.Readings.{IsReadParam, IsReadPredicate}
use Rattle.educe_syntax_self.specs.Visits.{IsVisitedParam, IsVisitedPredicate}
use Rattle.educe_syntax_self.proofs.replace_self.ReplaceSelf.visit_generics.Goals as goal

pub visit_params-requires : goal.visit_params-requires
visit_params-requires c = subst (AllByRecursion IsReadParam) (sym c.as_slice.ensures) c.requires.0

pub visit_predicates-requires : goal.visit_predicates-requires
visit_predicates-requires c = subst (AllByRecursion IsReadPredicate) (sym c.as_slice-2.ensures) c.requires.1

pub returns : goal.returns
returns c =
    let head = c.args.self.now.head in (
      subst (λ (xs : List GenericParam). AllZip (IsVisitedParam head) xs c.in_ok-params.params) c.as_slice.ensures c.in_ok-params.ensures,
      subst (λ (xs : List WherePredicate). AllZip (IsVisitedPredicate head) xs c.in_ok-predicates.predicates) c.as_slice-2.ensures c.in_ok-predicates.ensures,
    )
