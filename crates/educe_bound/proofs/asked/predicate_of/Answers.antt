use Rattle.std.proofs.Common.{◌≡◌, List, ◌∷◌, ◌++◌, map, ap, sym, subst, ◌∙◌}
use Rattle.std.proofs.lemmas.Result.{IfOk-weaker}
use Rattle.educe_tokens.specs.TokenKind.TheVariants as kind
use Rattle.educe_tokens.specs.Lexes.{Lexeme, lexemes}
use Rattle.educe_tokens.specs.Copied.{unjoin}
use Rattle.educe_tokens.specs.WrittenLexemes.{written_lexemes}
use Rattle.educe_syntax.specs.WherePredicate.{WherePredicate}
use Rattle.educe_grammar.specs.Readings.{IsReadPredicate}
use Rattle.educe_bound_classes.specs.Asked as needs
use Rattle.educe_bound_classes.specs.Asked.{IsAskedRead}
use Rattle.educe_bound.specs.Predicates.{key_of, asks_for, behind}
use Rattle.educe_bound.proofs.AskedPredicates.{laws}
use Rattle.educe_bound.proofs.Asking.{copied_aside}
use Rattle.educe_bound.proofs.asked.predicate_of.Goals as goal

pub returns-in-Itself : goal.returns-in-Itself
returns-in-Itself c =
    let which = c.args.which in
    let bound = asks_for which in
    let ty = c.in-Itself.ty.now in
    record {
      key = IfOk-weaker c.predicate_on.result (λ (found : WherePredicate). key_of found ≡ map unjoin (written_lexemes ty.written) ++ bound)
          (λ (found : WherePredicate). key_of found ≡ needs.key_of bound c.args.asked.now)
          (λ found is. is ∙ ap (λ (xs : List Lexeme). xs ++ bound) (copied_aside ty.written.tokens) ∙ sym (ap (needs.key_of bound) c.in-Itself.is)) c.predicate_on.ensures.key;
      read = λ params ex self asked.
          IfOk-weaker c.predicate_on.result (λ (found : WherePredicate). lexemes found.written.tokens ≡ written_lexemes ty.written ++ behind which) IsReadPredicate
          (λ found is. laws.types params ex self which ty found (subst (IsAskedRead params ex self) c.in-Itself.is asked) is) c.predicate_on.ensures.tokens;
    }

pub returns-in-Param : goal.returns-in-Param
returns-in-Param c =
    let which = c.args.which in
    let bound = asks_for which in
    let text = c.in-Param.name.now.text in
    record {
      key = IfOk-weaker c.predicate_on-in-Param.result (λ (found : WherePredicate). key_of found ≡ record { kind = kind.Ident; spelling = text } ∷ bound)
          (λ (found : WherePredicate). key_of found ≡ needs.key_of bound c.args.asked.now) (λ found is. is ∙ sym (ap (needs.key_of bound) c.in-Param.is)) c.predicate_on-in-Param.ensures.key;
      read = λ params ex self asked.
          IfOk-weaker c.predicate_on-in-Param.result (λ (found : WherePredicate). lexemes found.written.tokens ≡ record { kind = kind.Ident; spelling = text } ∷ behind which) IsReadPredicate
          (λ found is. laws.params which text found (subst (IsAskedRead params ex self) c.in-Param.is asked) is) c.predicate_on-in-Param.ensures.tokens;
    }
