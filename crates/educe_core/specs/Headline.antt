-- What a text is expanded to, and why a text is rejected.
use Rattle.std.specs.Prelude.{◌≡◌, ◌≢◌, ℕ, List, chars, encode_utf8_all}
use Rattle.std.specs.List.{AllByRecursion}
use Rattle.educe_tokens.specs.declared.token.Token.{Token}
use Rattle.educe_tokens.specs.declared.error.EduceError.{EduceError}
use Rattle.educe_tokens.specs.declared.error.Kind.TheVariants.{Alloc}
use Rattle.educe_tokens.specs.Lexes.{LexesAside}
use Rattle.educe_tokens.specs.Steps.{IsReading}
use Rattle.educe_tokens.specs.Causes.{IsLexicalCause}
use Rattle.educe_tokens.specs.Refusals.{placeless}
use Rattle.educe_syntax.specs.DeriveInput.{DeriveInput}
use Rattle.educe_syntax.specs.Definitions as grammar
use Rattle.educe_syntax.specs.Naming.{AreNamesApart}
use Rattle.educe_syntax.specs.Parsed.{IsWhole}
use Rattle.educe_syntax.specs.Refusal.{IsRefusalOf}
use Rattle.educe_body_items.specs.declared.items.Item.{Item}
use Rattle.educe_body_items.specs.Items.{tokens_of, spelling}
use Rattle.educe_attrs.specs.Causes.{NoCause}
use Rattle.educe_attrs.specs.Listing.{IsListing}
use Rattle.educe_meaning.specs.Blocks.{OneEach, EachEvaluates, HasTightBounds}
use Rattle.educe_settings.specs.Handled.{IsListedCause}
use Rattle.educe_settings.specs.Listed.{listed, IsListingCause}
use Rattle.educe_settings.specs.Said.{AreAllSaid}
use Rattle.educe_meaning_coherence.specs.Coherence.{IsCoherent}

-- The definition that a text is: its tokens are a reading of the text, with brackets that match, not too deep; they are the
-- definition by the grammar, within the limits; and its names are distinct.
pub record Defines (text : List ℕ) (definition : DeriveInput) : Type 0 where
  pub tokens_are : IsReading text definition.tokens
  pub whole : IsWhole grammar.definition definition.tokens definition
  pub names_apart : AreNamesApart definition

-- Why the handler rejects a definition, by phases, of which the first with a cause is the one that is reported: what the
-- definition lists is rejected; or a listed trait is rejected. Out of memory has no cause.
pub data IsHandlerCause (definition : DeriveInput) : EduceError → Type 0 where
  listing : {e : EduceError} → IsListingCause definition e → IsHandlerCause definition e
  handled : {e : EduceError} → NoCause (IsListingCause definition) → IsListedCause definition e → IsHandlerCause definition e
  memory : IsHandlerCause definition (placeless Alloc)

-- The text is a definition without a cause in any phase: it lists its traits as it should, and no listed trait is rejected.
pub record IsValid (source : List ℕ) : Type 0 where
  pub definition : DeriveInput
  pub defines : Defines (chars source) definition
  pub listing : NoCause (IsListingCause definition)
  pub uncaused : NoCause (IsListedCause definition)

-- The text is no definition.
abbrev pub IsUndefined : List ℕ → Type 0
IsUndefined source = (definition : DeriveInput) → Defines (chars source) definition → ⊥

-- Why a text is rejected, for each kind of rejection with its place and words: it has no tokens whose brackets close in
-- order, not too deep, or an unsupported literal; it has such tokens, and they begin as a union, are no definition
-- within the limits, or one in which a name is given twice; or it is a definition, and the handler rejects that. Out of
-- memory has no cause.
pub data IsCause (source : List ℕ) : EduceError → Type 0 where
  lexical : {e : EduceError} → IsLexicalCause (chars source) e → IsCause source e
  grammatical : {e : EduceError} (tokens : List Token) → IsReading (chars source) tokens → IsRefusalOf tokens e → IsCause source e
  handled : {e : EduceError} (definition : DeriveInput) → Defines (chars source) definition → IsHandlerCause definition e → IsCause source e
  memory : IsCause source (placeless Alloc)

-- No other rejection than this one has a cause, out of memory aside.
abbrev pub IsAlone : List ℕ → EduceError → Type 0
IsAlone source e = (other : EduceError) → other.kind ≢ Alloc → IsCause source other → other ≡ e

-- A source is expanded to these items, written as these bytes: the bytes are the spelling of the items, which lexes to their
-- tokens; no cause of a listed trait stands, and the settings of the type, of its variants and of its fields are what their
-- attributes say; the items hold one block for each listed trait of the definition, and nothing else; over each table, and the
-- values that it covers, their functions evaluate to what the traits mean; where the bound of a trait is the automatic one, its own
-- predicates suffice, and none of them can be dropped; and over tables that are lawful on the values that they cover, the derived
-- comparisons and `Hash` are coherent.
pub record IsExpansion (source : List ℕ) (items : List Item) (written : List ℕ) : Type 0 where
  pub definition : DeriveInput
  pub defines : Defines (chars source) definition
  pub lists : IsListing definition.attrs (listed definition)
  pub uncaused : NoCause (IsListedCause definition)
  pub said : AreAllSaid definition
  pub one_each : OneEach definition items
  pub evaluates : AllByRecursion (EachEvaluates definition) items
  pub bounded : AllByRecursion (HasTightBounds definition) items
  pub coherent : IsCoherent definition items
  pub bytes : written ≡ encode_utf8_all (spelling items)
  pub lexes : LexesAside (spelling items) (tokens_of items)
