-- Rejections start where a character begins, or at the end.
use Rattle.std.proofs.Common.{ℕ, zero, suc, ◌-◌, ◌≡◌, List, [], ◌∷◌, Option, Some, None, length, inl, inr, refl, sym, subst, chars, IsUtf8}
use Rattle.std.specs.Prelude.{slice_get}
use Rattle.std.specs.List.{AllByRecursion}
use Rattle.std.specs.Str.{IsCharBoundary}
use Rattle.std.proofs.lemmas.Option.{same_Some}
use Rattle.std.proofs.lemmas.Str.{IsCharBoundary-start}
use Rattle.educe_tokens.specs.declared.error.EduceError.{EduceError}
use Rattle.educe_tokens.specs.declared.span.Span.{Span}
use Rattle.educe_tokens.specs.declared.token.Token.{Token}
use Rattle.educe_tokens.specs.Slices.{IsSlice}
use Rattle.educe_tokens.specs.Steps.{IsReading}
use Rattle.educe_syntax.specs.Parsed.{end_of}
use Rattle.educe_syntax.specs.Refusal.{IsRefusalOf}
use Rattle.educe_syntax.specs.Laws.{lawful_definitions, lawful_places, place_has}
use Rattle.educe_syntax.specs.TokenLaws.{lawful_lexing}
use Rattle.educe_core.specs.Headline.{IsCause}
use Rattle.educe_core.proofs.HandlerCauses.{handler_placed}
use Rattle.educe_attrs.specs.Messages.{boundary_has}

-- what holds of each token follows from what holds of each
all_from : (P Q : Token → Type 0) (tokens : List Token) → ((t : Token) → P t → Q t) → AllByRecursion P tokens → AllByRecursion Q tokens
all_from P Q [] follows all = tt
all_from P Q (t ∷ ts) follows all = (follows t all.0, all_from P Q ts follows all.1)

-- what holds of each token holds of one
all_get : (Q : Token → Type 0) (tokens : List Token) (n : ℕ) (t : Token) → AllByRecursion Q tokens → slice_get tokens n ≡ Some t → Q t
all_get Q [] n t all is = absurd (cc)
all_get Q (u ∷ ts) zero t all is = subst Q (same_Some u t is) all.0
all_get Q (u ∷ ts) (suc n) t all is = all_get Q ts n t all.1 is

module _ (source : List ℕ) (utf8 : IsUtf8 source) where
  -- a character begins there, or the source ends
  abbrev Begins : ℕ → Type 0
  Begins n = IsCharBoundary source n

  beginning : Begins 0
  beginning = IsCharBoundary-start source utf8

  module _ (tokens : List Token) (are : IsReading (chars source) tokens) where
    -- a character begins, or the source ends, where each token starts and where it ends
    tokens_begin : AllByRecursion (λ (t : Token). Begins t.span.start × Begins t.span.end) tokens
    tokens_begin =
        all_from (IsSlice source) (λ (t : Token). Begins t.span.start × Begins t.span.end) tokens (λ t slice. (slice.starts, slice.ends)) (lawful_lexing.slices source tokens utf8 are.lexes)

    -- where the last one ends
    last_ends : Begins (end_of tokens)
    last_ends = go (slice_get tokens (length tokens - 1)) refl
      where
        go : (o : Option Token) → slice_get tokens (length tokens - 1) ≡ o → Begins (end_of tokens)
        go None is = rw is beginning
        go (Some t) is = rw is (all_get (λ (t : Token). Begins t.span.start × Begins t.span.end) tokens (length tokens - 1) t tokens_begin is).1

    -- where a rejection of the tokens starts
    refusal_begins : (e : EduceError) → IsRefusalOf tokens e → Begins e.span.start
    refusal_begins e refusal =
        elim (lawful_definitions.reported tokens e refusal).place [
          | inl (inl has) ↦ (place_has (λ (s : Span). Begins s.start × Begins s.end) tokens e.span tokens_begin has).0
          | inl (inr end) ↦ subst (λ (s : Span). Begins s.start) (sym end) last_ends
          | inr short ↦ subst (λ (e : EduceError). Begins e.span.start) (sym short) beginning
        ]

  -- A cause starts where a character begins, or where the source ends.
  pub cause_placed : (e : EduceError) → IsCause source e → IsCharBoundary source e.span.start
  cause_placed e (IsCause.lexical cause) = lawful_lexing.place source e utf8 cause
  cause_placed e (IsCause.grammatical tokens are refusal) = refusal_begins tokens are e refusal
  cause_placed e (IsCause.handled d defines cause) =
      boundary_has Begins d.tokens beginning (tokens_begin d.tokens defines.tokens_are) e.span.start
      (handler_placed d.tokens d (lawful_places.definitions d.tokens d defines.whole) e cause)
  cause_placed e IsCause.memory = beginning
