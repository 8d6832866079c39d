-- A text in which no cause of a rejection stands is valid, out of memory aside.
use Rattle.std.proofs.Common.{◌≡◌, ◌≢◌, ℕ, List, ◌⊎◌, inl, inr, refl, chars}
use Rattle.educe_tokens.specs.declared.error.EduceError.{EduceError}
use Rattle.educe_tokens.specs.declared.error.Kind.{Kind}
use Rattle.educe_tokens.specs.declared.error.Kind.TheVariants.{Syntax, TooDeep, NotCarried, Alloc}
use Rattle.educe_tokens.specs.declared.token.Token.{Token}
use Rattle.educe_tokens.specs.Causes.{HasCause, IsLexicalCause, IsLexicalCauseWithin}
use Rattle.educe_tokens.specs.Steps.{IsReading}
use Rattle.educe_syntax.specs.DeriveInput.{DeriveInput}
use Rattle.educe_syntax.specs.Definitions.{definition}
use Rattle.educe_syntax.specs.Parsed.{IsWhole, IsCauseWithin, IsParseCause}
use Rattle.educe_syntax.specs.Refusal.{IsRefusalOf}
use Rattle.educe_syntax.specs.Laws.{lawful_definitions}
use Rattle.educe_syntax.specs.TokenLaws.{lawful_lexing}
use Rattle.educe_attrs.specs.Causes.{Cause, NoCause}
use Rattle.educe_settings.specs.Handled.{IsListedCause}
use Rattle.educe_core.specs.Headline.{Defines, IsValid, IsHandlerCause, IsCause}
use Rattle.educe_settings.specs.Listed.{IsListingCause}
use Rattle.educe_core.proofs.Causes.{defined_by}
use Rattle.educe_core.proofs.HandlerCauses.{listing_message, listed_message}

-- A text is a definition within the limits whose names are apart, or there is a cause why it is none.
pub defined_or_refused : (source : List ℕ) → ((d : DeriveInput) × Defines (chars source) d) ⊎ HasCause (IsCause source)
defined_or_refused source =
    elim (lawful_lexing.decided (chars source)) [
      | inl read ↦ elim (lawful_definitions.decided read.0) [
        | inl found ↦ inl (found.0, defined_by source read.0 found.0 read.1 found.1.whole found.1.apart)
        | inr refused ↦ inr (record { error = refused.error; is_told = refused.is_told; stands = IsCause.grammatical read.0 read.1 refused.stands })
      ]
      | inr lexical ↦ inr (record { error = lexical.error; is_told = lexical.is_told; stands = IsCause.lexical lexical.stands })
    ]

-- ---- texts without a reading

-- the kinds of rejections of texts that are no definition
abbrev OfNone : Kind → Type 0
OfNone kind = (kind ≡ Syntax) ⊎ ((kind ≡ TooDeep) ⊎ (kind ≡ NotCarried))

-- a lexical cause is of these
lexical_kind : (text : List ℕ) (e : EduceError) → e.kind ≢ Alloc → IsLexicalCause text e → OfNone e.kind
lexical_kind text e told (IsLexicalCauseWithin.not_carried before literal kind rest reads carried is) = inr (inr refl)
lexical_kind text e told (IsLexicalCauseWithin.no_piece before rest reads carried some none) = inl refl
lexical_kind text e told (IsLexicalCauseWithin.wrong_close before token behind outer meets none) = inl refl
lexical_kind text e told (IsLexicalCauseWithin.unclosed found innermost outer lexes opened shallow) = inl refl
lexical_kind text e told (IsLexicalCauseWithin.too_deep before token behind outer b meets opens full) = inr (inl refl)
lexical_kind text e told IsLexicalCauseWithin.memory = absurd (told refl)

-- a cause of the grammar is of these
parse_kind : (found : List Token) (e : EduceError) → e.kind ≢ Alloc → IsParseCause definition found e → OfNone e.kind
parse_kind found e told (IsCauseWithin.syntax left none stop) = inl refl
parse_kind found e told (IsCauseWithin.too_deep front rest t none stop is many) = inr (inl refl)
parse_kind found e told IsCauseWithin.memory = absurd (told refl)

-- a rejection of tokens that are no definition is of these
refusal_kind : (found : List Token) (e : EduceError) → e.kind ≢ Alloc → ((d : DeriveInput) → IsWhole definition found d → ⊥) → IsRefusalOf found e → OfNone e.kind
refusal_kind found e told none (IsRefusalOf.union word is) = inr (inr refl)
refusal_kind found e told none (IsRefusalOf.grammar never cause) = parse_kind found e told cause
refusal_kind found e told none IsRefusalOf.memory = absurd (told refl)
refusal_kind found e told none (IsRefusalOf.repeated d name whole twice) = absurd (none d whole)

-- the text has no reading as a definition within the limits, whatever names that gives twice
abbrev IsUnread : List ℕ → Type 0
IsUnread source = (found : List Token) → IsReading (chars source) found → (d : DeriveInput) → IsWhole definition found d → ⊥

-- each cause of such a text is of these kinds
unread_kind : (source : List ℕ) (e : EduceError) → e.kind ≢ Alloc → IsUnread source → IsCause source e → OfNone e.kind
unread_kind source e told none (IsCause.lexical cause) = lexical_kind (chars source) e told cause
unread_kind source e told none (IsCause.grammatical found are refusal) = refusal_kind found e told (none found are) refusal
unread_kind source e told none (IsCause.handled d defines cause) = absurd (none d.tokens defines.tokens_are d defines.whole)
unread_kind source e told none IsCause.memory = absurd (told refl)

-- A text without a reading as a definition within the limits has a cause `Syntax`, `TooDeep` or `NotCarried`.
pub unread_refused : (source : List ℕ) → ((found : List Token) → IsReading (chars source) found → (d : DeriveInput) → IsWhole definition found d → ⊥)
    → (e : EduceError) × (IsCause source e × ((e.kind ≡ Syntax) ⊎ ((e.kind ≡ TooDeep) ⊎ (e.kind ≡ NotCarried))))
unread_refused source none =
    elim (defined_or_refused source) [
      | inl defined ↦ absurd (none defined.0.tokens defined.1.tokens_are defined.0 defined.1.whole)
      | inr refused ↦ (refused.error, (refused.stands, unread_kind source refused.error refused.is_told none refused.stands))
    ]

-- ---- valid texts

-- where each cause is out of memory, and none is, no cause stands
no_cause : (P : Cause) → ((e : EduceError) → P e → e.kind ≢ Alloc) → ((e : EduceError) → P e → e.kind ≡ Alloc) → NoCause P
no_cause P told none = record { none_stands = λ e cause. told e cause (none e cause) }

-- a definition of which the handler has no cause is valid
valid_definition : (source : List ℕ) (d : DeriveInput) → Defines (chars source) d → ((e : EduceError) → IsHandlerCause d e → e.kind ≡ Alloc) → IsValid source
valid_definition source d defines none =
    let listing = no_cause (IsListingCause d) (λ e cause. (listing_message d e cause).kind) (λ e cause. none e (IsHandlerCause.listing cause)) in
    record {
      definition = d;
      defines = defines;
      listing = listing;
      uncaused = no_cause (IsListedCause d) (λ e cause. (listed_message d e cause).kind) (λ e cause. none e (IsHandlerCause.handled listing cause));
    }

-- A text in which no cause stands, out of memory aside, is valid.
pub valid_if_uncaused : (source : List ℕ) → ((e : EduceError) → IsCause source e → e.kind ≡ Alloc) → IsValid source
valid_if_uncaused source none =
    elim (defined_or_refused source) [
      | inl defined ↦ valid_definition source defined.0 defined.1 (λ e cause. none e (IsCause.handled defined.0 defined.1 cause))
      | inr refused ↦ absurd (refused.is_told (none refused.error refused.stands))
    ]
