-- The causes for which the value of a parameter is rejected.
use Rattle.std.specs.Prelude.{◌≡◌, ℕ, ◌<◌, ◌≤◌, IsTrue, List, [], ◌∷◌, ◌++◌, length, encode_utf8_all, Some, None}
use Rattle.educe_tokens.specs.declared.error.EduceError.{EduceError}
use Rattle.educe_tokens.specs.declared.error.Kind.TheVariants.{TooDeep, NotCarried, Alloc}
use Rattle.educe_tokens.specs.declared.span.TheConstants.{SOURCE_LIMIT}
use Rattle.educe_tokens.specs.declared.token.Token.{Token}
use Rattle.educe_tokens.specs.Causes.{IsLexicalCause}
use Rattle.educe_tokens.specs.Refusals.{placeless}
use Rattle.educe_tokens.specs.Steps.{IsReading}
use Rattle.educe_syntax.specs.Depth.{counted}
use Rattle.educe_syntax.specs.Meta.{Meta}
use Rattle.educe_syntax.specs.MetaPath.{MetaPath}
use Rattle.educe_syntax.specs.Parsed.{depth_limit}
use Rattle.educe_attrs_values.specs.declared.kind.ValueKind.{ValueKind}
use Rattle.educe_attrs_values.specs.declared.source.Source.{Source}
use Rattle.educe_attrs_values.specs.Kinds.{bare, opens_strings}
use Rattle.educe_attrs_values.specs.Refusals as refusals
use Rattle.educe_attrs_values.specs.Refusals.{refusal}
use Rattle.educe_attrs_values.specs.Sources.{value_source, value_place}
use Rattle.educe_attrs_values.specs.Texts.{only_text}
use Rattle.educe_attrs_values.specs.Values.{HasNoValue}
use Rattle.educe_attrs_values.specs.Words.{path_of}

-- At the token more openers count than the limit on nesting allows.
pub record IsTooDeep (tokens : List Token) (t : Token) : Type 0 where
  pub front : List Token
  pub rest : List Token
  pub is : tokens ≡ front ++ t ∷ rest
  pub many : depth_limit < counted (front ++ t ∷ [])

-- The text of a string that is the whole value and is parsed as the value; it is no longer than a source.
pub record IsOpened (k : ValueKind) (s : Source) (text : List ℕ) : Type 0 where
  pub opens : IsTrue (opens_strings k)
  pub is : only_text s.tokens ≡ Some text
  pub within : length (encode_utf8_all text) ≤ SOURCE_LIMIT

-- The text nests too deep: its brackets do, or at a token of it more openers count than the limit allows.
pub data IsTextTooDeep (text : List ℕ) : Type 0 where
  brackets : (e : EduceError) → IsLexicalCause text e → e.kind ≡ TooDeep → IsTextTooDeep text
  openers : (inner : List Token) (t : Token) → IsReading text inner → IsTooDeep inner t → IsTextTooDeep text

-- The text has an unsupported literal, which is the cause.
pub record IsUncarried (text : List ℕ) (e : EduceError) : Type 0 where
  pub cause : IsLexicalCause text e
  pub kind : e.kind ≡ NotCarried

-- No text that is parsed as the value has an unsupported literal.
abbrev pub IsCarried : ValueKind → Source → Type 0
IsCarried k s = (text : List ℕ) (e : EduceError) → IsOpened k s text → IsUncarried text e → ⊥

-- The causes of rejection of a parameter's value: it is missing; or it is not of the kind, and no literal is to blame;
-- or it is not, and it nests deeper than the limit allows, as it stands or in the text of a string; or that text has an
-- unsupported literal.
pub data IsValueCause (k : ValueKind) (path : MetaPath) (meta : Meta) : EduceError → Type 0 where
  missing : value_source meta ≡ None → bare k ≡ None → IsValueCause k path meta (refusals.missing k path)
  wrong : (s : Source) → value_source meta ≡ Some s → HasNoValue k s → IsCarried k s → IsValueCause k path meta (refusals.wrong k path (value_place meta))
  too_deep : (s : Source) (t : Token) → value_source meta ≡ Some s → HasNoValue k s → IsTooDeep s.tokens t → IsValueCause k path meta (refusal TooDeep t.span [])
  deep_text : (s : Source) (text : List ℕ) → value_source meta ≡ Some s → HasNoValue k s → IsOpened k s text → IsTextTooDeep text
      → IsValueCause k path meta (refusal TooDeep (value_place meta) [])
  not_carried : (s : Source) (text : List ℕ) (e : EduceError) → value_source meta ≡ Some s → HasNoValue k s → IsOpened k s text → IsUncarried text e
      → IsValueCause k path meta (refusals.not_carried (value_place meta) e.words)

-- ---- values of metas

-- The causes for which a call that reads a meta as a value of the kind rejects it.
pub data IsReaderCause (k : ValueKind) (meta : Meta) : EduceError → Type 0 where
  value : (path : MetaPath) (e : EduceError) → path_of meta ≡ Some path → IsValueCause k path meta e → IsReaderCause k meta e
  memory : IsReaderCause k meta (placeless Alloc)

-- The call has no cause of rejection but out of memory.
abbrev pub HasNoReaderCause : ValueKind → Meta → Type 0
HasNoReaderCause k meta = (e : EduceError) → IsReaderCause k meta e → e.kind ≡ Alloc
