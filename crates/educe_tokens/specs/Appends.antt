-- The tokens that were added at the end of a token list.
use Rattle.std.specs.Prelude.{◌≡◌, List, ◌++◌, map}
use Rattle.std.specs.List.{AllByRecursion}
use Rattle.educe_tokens.specs.declared.span.Span.{Span}
use Rattle.educe_tokens.specs.declared.token.Token.{Token}
use Rattle.educe_tokens.specs.Lexes.{Lexeme, lexemes}
pub use Rattle.educe_tokens.specs.Prefix.{HasPrefix}

-- The new list is the old one followed by tokens that equal these, spans aside.
pub record Appends (found : List Lexeme) (old new : List Token) : Type 0 where
  pub more : List Token
  pub joined : new ≡ old ++ more
  pub same : lexemes more ≡ found

-- The new list is the old one followed by tokens with these spans.
pub record AppendsAt (places : List Span) (old new : List Token) : Type 0 where
  pub more : List Token
  pub joined : new ≡ old ++ more
  pub placed : map (λ t. t.span) more ≡ places

-- The span of generated tokens, which have no place in the source.
abbrev pub no_place : Span
no_place = record { start = 0; end = 0 }

-- Each token has the span of no place.
abbrev pub LieNowhere : List Token → Type 0
LieNowhere tokens = AllByRecursion (λ t. t.span ≡ no_place) tokens

-- The new list is the old one followed by tokens with the span of no place.
pub record AppendsNowhere (old new : List Token) : Type 0 where
  pub more : List Token
  pub joined : new ≡ old ++ more
  pub nowhere : LieNowhere more
