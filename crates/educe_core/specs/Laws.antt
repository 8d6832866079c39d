-- What holds of each text: without a cause of a rejection it is valid, and a valid text has none. Out of memory is no cause here.
use Rattle.std.specs.Prelude.{◌≡◌, ◌≢◌, ◌⊎◌, ℕ, List, chars}
use Rattle.educe_tokens.specs.declared.error.EduceError.{EduceError}
use Rattle.educe_tokens.specs.declared.error.Kind.TheVariants.{Syntax, TooDeep, NotCarried, Alloc}
use Rattle.educe_tokens.specs.declared.token.Token.{Token}
use Rattle.educe_tokens.specs.Causes.{HasCause}
use Rattle.educe_tokens.specs.Steps.{IsReading}
use Rattle.educe_syntax.specs.DeriveInput.{DeriveInput}
use Rattle.educe_syntax.specs.Definitions.{definition}
use Rattle.educe_syntax.specs.Parsed.{IsWhole}
use Rattle.educe_core.specs.Headline.{Defines, IsValid, IsCause, IsUndefined, IsAlone}

-- What holds of each text.
pub record ExpansionLaws : Type 0 where
  -- Each text is a definition within the limits whose names are apart, or it has a cause of a rejection.
  pub defined_or_refused : (source : List ℕ) → ((d : DeriveInput) × Defines (chars source) d) ⊎ HasCause (IsCause source)
  -- If no tokens of a text are a definition within the limits, the text has a cause `Syntax`, `TooDeep` or `NotCarried`.
  pub unread_refused : (source : List ℕ) → ((found : List Token) → IsReading (chars source) found → (d : DeriveInput) → IsWhole definition found d → ⊥)
      → (e : EduceError) × (IsCause source e × ((e.kind ≡ Syntax) ⊎ ((e.kind ≡ TooDeep) ⊎ (e.kind ≡ NotCarried))))
  -- A text without a cause of a rejection is valid.
  pub valid_if_uncaused : (source : List ℕ) → ((e : EduceError) → IsCause source e → e.kind ≡ Alloc) → IsValid source
  -- A valid text has no cause of a rejection.
  pub uncaused_if_valid : (source : List ℕ) → IsValid source → (e : EduceError) → IsCause source e → e.kind ≢ Alloc → ⊥
  -- If a text is no definition with distinct names, no rejection other than the one whose cause is in it has one.
  pub alone_if_undefined : (source : List ℕ) → IsUndefined source → (e : EduceError) → IsCause source e → e.kind ≢ Alloc → IsAlone source e
