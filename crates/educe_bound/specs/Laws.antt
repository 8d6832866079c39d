-- The law of predicates: those that bounds ask for are readings of their tokens.
use Rattle.std.specs.Prelude.{◌≡◌, ℕ, List, ◌∷◌, ◌++◌}
use Rattle.educe_tokens.specs.TokenKind.TheVariants as kind
use Rattle.educe_tokens.specs.Lexes.{lexemes}
use Rattle.educe_tokens.specs.WrittenLexemes.{written_lexemes}
use Rattle.educe_tree.specs.declared.generics.GenericParam.{GenericParam}
use Rattle.educe_tree.specs.declared.generics.WherePredicate.{WherePredicate}
use Rattle.educe_tree.specs.declared.ty.Ty.{Ty, out-Ty}
use Rattle.educe_grammar.specs.Generics.{predicates}
use Rattle.educe_grammar.specs.Parsed.{IsWhole}
use Rattle.educe_grammar.specs.Readings.{IsName, IsReadPredicate}
use Rattle.educe_grammar.specs.Steps.{Tokens}
use Rattle.educe_attrs_values.specs.declared.choices.WherePredicatesOrBool.{WherePredicatesOrBool}
use Rattle.educe_attrs_values.specs.declared.source.Source.{Source}
use Rattle.educe_attrs_values.specs.Values.{IsBound}
use Rattle.educe_bound_classes.specs.Asked.{IsAskedType}
use Rattle.educe_bound_classes.specs.Exceptions.{Exceptions}
use Rattle.educe_bound_traits.specs.declared.traits.Trait.{Trait}
use Rattle.educe_bound.specs.Bounds.{bound_of}
use Rattle.educe_bound.specs.Predicates.{behind, AreRead, IsReadBound}

-- Laws of the predicates that bounds ask for.
pub record PredicateLaws : Type 0 where
  -- A predicate on a type consists of the copied tokens of the type, `:` and the path of the trait.
  pub types : (params : List GenericParam) (ex : Exceptions) (self : List ℕ) (which : Trait) (ty : Ty) (p : WherePredicate) → IsAskedType params ex self ty
      → lexemes p.written.tokens ≡ written_lexemes (out-Ty ty).written ++ behind which → IsReadPredicate p
  -- A predicate on a parameter consists of its name, `:` and the path of the trait.
  pub params : (which : Trait) (text : List ℕ) (p : WherePredicate) → IsName text
      → lexemes p.written.tokens ≡ record { kind = kind.Ident; spelling = text } ∷ behind which → IsReadPredicate p
  -- The predicates of a parsed list are readings of their tokens.
  pub lists : (tokens : Tokens) (found : List WherePredicate) → IsWhole predicates tokens found → AreRead found
  -- The predicates that a bound lists are readings of their tokens.
  pub bounds : (value : WherePredicatesOrBool) (s : Source) → IsBound s value → IsReadBound (bound_of value)
