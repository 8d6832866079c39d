-- Properties of the errors of attributes, whatever their causes.
use Rattle.std.specs.Prelude.{ℕ, ◌≢◌, List}
use Rattle.std.specs.List.{AllByRecursion}
use Rattle.educe_tokens.specs.declared.error.EduceError.{EduceError}
use Rattle.educe_tokens.specs.declared.error.Kind.TheVariants.{Alloc}
use Rattle.educe_tokens.specs.declared.span.Span.{Span}
use Rattle.educe_tokens.specs.declared.token.Token.{Token}
use Rattle.educe_tokens.specs.Message.{HasWords}
use Rattle.educe_syntax.specs.Laws.{place_has}
use Rattle.educe_syntax.specs.Placed.{HasPlace}

-- The error has a message: it isn't out of memory, and has the words that its message cites.
pub record HasMessage (e : EduceError) : Type 0 where
  pub kind : e.kind ≢ Alloc
  pub words : HasWords e.kind e.words

-- The offset is 0, or that where a token of the list starts or ends.
pub data IsBoundary (tokens : List Token) : ℕ → Type 0 where
  beginning : IsBoundary tokens 0
  start : (place : Span) → HasPlace tokens place → IsBoundary tokens place.start
  end : (place : Span) → HasPlace tokens place → IsBoundary tokens place.end

-- What holds at offset 0, and where each token starts and ends, holds at each boundary.
pub boundary_has : (P : ℕ → Type 0) (tokens : List Token) → P 0 → AllByRecursion (λ (t : Token). P t.span.start × P t.span.end) tokens → (n : ℕ) → IsBoundary tokens n → P n
boundary_has P tokens first each _ IsBoundary.beginning = first
boundary_has P tokens first each _ (IsBoundary.start place has) = (place_has (λ s. P s.start × P s.end) tokens place each has).0
boundary_has P tokens first each _ (IsBoundary.end place has) = (place_has (λ s. P s.start × P s.end) tokens place each has).1
