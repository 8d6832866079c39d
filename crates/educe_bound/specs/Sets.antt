-- Sets of predicates: predicates in their order, each once, by their tokens.
use Rattle.std.specs.Prelude.{◌≡◌, ℕ, ◌+◌, Bool, true, false, List, [], ◌∷◌, ◌++◌, map}
use Rattle.educe_tokens.specs.declared.token.Token.{Token}
use Rattle.educe_syntax.specs.GenericParam.{GenericParam}
use Rattle.educe_syntax.specs.Ty.{Ty}
use Rattle.educe_syntax.specs.WherePredicate.{WherePredicate}
use Rattle.educe_bound_classes.specs.Deriving.{Has, Extends}
use Rattle.educe_bound_classes.specs.Exceptions.{Exceptions}
use Rattle.educe_bound_traits.specs.declared.traits.Trait.{Trait}
use Rattle.educe_bound.specs.declared.bound.Bound.{Bound}
use Rattle.educe_bound.specs.Predicates.{Key, key_of, keys_of, AreByBound}

-- The tokens of each predicate.
abbrev pub tokens_of : List WherePredicate → List (List Token)
tokens_of predicates = map (λ (p : WherePredicate). p.written.tokens) predicates

-- A number for each predicate, in sequence from this one on.
abbrev pub places_from : ℕ → List WherePredicate → List ℕ
places_from n [] = []
places_from n (p ∷ ps) = n ∷ places_from (n + 1) ps

-- The places of predicates, counted from 0.
abbrev pub places : List WherePredicate → List ℕ
places predicates = places_from 0 predicates

-- A predicate is inserted. If the answer is true, no equal one was there, and it is the last; else an equal one was
-- there, and nothing changes.
abbrev pub Inserts : List WherePredicate → WherePredicate → Bool → List WherePredicate → Type 0
Inserts before predicate true after = (Has (keys_of before) (key_of predicate) → ⊥) × (after ≡ before ++ predicate ∷ [])
Inserts before predicate false after = Has (keys_of before) (key_of predicate) × (after ≡ before)

-- The predicates that a bound asks for, each once.
abbrev pub AreOnceByBound : Bound → Exceptions → List GenericParam → List ℕ → Trait → List Ty → List Key → Type 0
AreOnceByBound bound ex params self which types all = (own : List Key) × AreByBound bound ex params self which types own × Extends [] own all
