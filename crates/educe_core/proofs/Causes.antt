-- Rejections and their causes, and words.
use Rattle.std.proofs.Common.{◌≡◌, ◌≢◌, ◌∙◌, ℕ, List, Result, Ok, Err, refl, sym, ap, subst, chars}
use Rattle.std.specs.Prelude.{IfOk, IfErr}
use Rattle.educe_tokens.specs.declared.error.EduceError.{EduceError}
use Rattle.educe_tokens.specs.declared.error.Kind.TheVariants.{Alloc}
use Rattle.educe_tokens.specs.declared.token.Token.{Token}
use Rattle.educe_tokens.specs.Steps.{IsReading}
use Rattle.educe_tokens.specs.Refusals.{placeless}
use Rattle.educe_tokens.specs.Message.{HasWords}
use Rattle.educe_syntax.specs.DeriveInput.{DeriveInput}
use Rattle.educe_syntax.specs.Definitions.{definition}
use Rattle.educe_syntax.specs.Naming.{AreNamesApart}
use Rattle.educe_syntax.specs.Parsed.{IsWhole}
use Rattle.educe_syntax.specs.Reading.{Parses}
use Rattle.educe_syntax.specs.Refusal.{IsRefusalOf}
use Rattle.educe_syntax.specs.Laws.{lawful_definition, lawful_definitions}
use Rattle.educe_syntax.specs.TokenLaws.{lawful_lexing}
use Rattle.educe_attrs.specs.Causes.{NoCause}
use Rattle.educe_settings.specs.Handled.{IsListedCause}
use Rattle.educe_core.specs.Headline.{Defines, IsHandlerCause, IsCause, IsValid}
use Rattle.educe_settings.specs.Listed.{IsListingCause}
use Rattle.educe_core.proofs.HandlerCauses.{handler_words}

-- ---- readings

pub memory_cause : (source : List ℕ) (e : EduceError) → e ≡ placeless Alloc → IsCause source e
memory_cause source e is = subst (IsCause source) (sym is) IsCause.memory

-- a definition has the tokens that it was read from
tokens_read : (tokens : List Token) (d : DeriveInput) → IsWhole definition tokens d → d.tokens ≡ tokens
unfolding definition Parses
tokens_read tokens d whole = ap (λ (x : DeriveInput). x.tokens) whole.1 ∙ whole.2.1

-- a text is the definition that its tokens are
pub defined_by : (source : List ℕ) (tokens : List Token) (d : DeriveInput) → IsReading (chars source) tokens → IsWhole definition tokens d → AreNamesApart d → Defines (chars source) d
defined_by source tokens d are whole apart =
    let same = sym (tokens_read tokens d whole) in record {
      tokens_are = subst (IsReading (chars source)) same are;
      whole = subst (λ (ts : List Token). IsWhole definition ts d) same whole;
      names_apart = apart;
    }

-- the tokens of a text are those of the definition that it is
pub whole_of : (source : List ℕ) (tokens : List Token) (d : DeriveInput) → IsReading (chars source) tokens → Defines (chars source) d → IsWhole definition tokens d
whole_of source tokens d are defines = subst (λ (ts : List Token). IsWhole definition ts d) (lawful_lexing.one_list (chars source) d.tokens tokens defines.tokens_are.lexes are.lexes) defines.whole

-- a text is one definition
one_defined : (source : List ℕ) (d other : DeriveInput) → Defines (chars source) d → Defines (chars source) other → d ≡ other
one_defined source d other defines also = lawful_definition.one_reading d.tokens d other defines.whole (whole_of source d.tokens other defines.tokens_are also)

-- what the parser reads is the definition
pub parsed_defines :
    (source : List ℕ) (tokens : List Token) (r : Result DeriveInput EduceError) → IsReading (chars source) tokens → IfOk r (IsWhole definition tokens)
    → IfOk r AreNamesApart → IfOk r (Defines (chars source))
parsed_defines source tokens (Ok found) are whole apart = defined_by source tokens found are whole apart
parsed_defines source tokens (Err e) are whole apart = tt

-- what the parser rejects has a cause
pub parsed_cause : (source : List ℕ) (tokens : List Token) (r : Result DeriveInput EduceError) → IsReading (chars source) tokens → IfErr r (IsRefusalOf tokens) → IfErr r (IsCause source)
parsed_cause source tokens (Ok found) are refused = tt
parsed_cause source tokens (Err e) are refused = IsCause.grammatical tokens are refused

-- ---- words

pub cause_words : (source : List ℕ) (e : EduceError) → IsCause source e → HasWords e.kind e.words
cause_words source e (IsCause.lexical cause) = lawful_lexing.words (chars source) e cause
cause_words source e (IsCause.grammatical tokens are refusal) = (lawful_definitions.reported tokens e refusal).words
cause_words source e (IsCause.handled d defines cause) = handler_words d e cause
cause_words source e IsCause.memory = refl

-- ---- what is done has no cause

-- where no cause stands in any phase, the handler rejects only for out of memory
handled_undone : (d : DeriveInput) (e : EduceError) → NoCause (IsListingCause d) → NoCause (IsListedCause d) → IsHandlerCause d e → e.kind ≡ Alloc
handled_undone d e listing uncaused (IsHandlerCause.listing cause) = absurd (listing.none_stands e cause)
handled_undone d e listing uncaused (IsHandlerCause.handled none cause) = absurd (uncaused.none_stands e cause)
handled_undone d e listing uncaused IsHandlerCause.memory = refl

-- the handler rejects a valid text only where memory runs out
pub valid_handler : (source : List ℕ) (d : DeriveInput) (e : EduceError) → Defines (chars source) d → IsHandlerCause d e → IsValid source → e.kind ≡ Alloc
valid_handler source d e defines cause valid =
    handled_undone valid.definition e valid.listing valid.uncaused (subst (λ (x : DeriveInput). IsHandlerCause x e) (one_defined source d valid.definition defines valid.defines) cause)

-- in a valid text no cause stands, out of memory aside
pub uncaused_if_valid : (source : List ℕ) → IsValid source → (e : EduceError) → IsCause source e → e.kind ≢ Alloc → ⊥
uncaused_if_valid source valid e (IsCause.lexical cause) kind = kind (lawful_lexing.uncaused (chars source) valid.definition.tokens valid.defines.tokens_are e cause)
uncaused_if_valid source valid e (IsCause.grammatical tokens are refusal) kind =
    kind (lawful_definitions.uncaused tokens valid.definition (record { whole = whole_of source tokens valid.definition are valid.defines; apart = valid.defines.names_apart }) e refusal)
uncaused_if_valid source valid e (IsCause.handled d defines cause) kind = kind (valid_handler source d e defines cause valid)
uncaused_if_valid source valid e IsCause.memory kind = kind refl
