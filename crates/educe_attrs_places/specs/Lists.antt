-- The metas of the `educe` lists of a place, and the causes for which a list has none.
use Rattle.std.specs.Prelude.{◌≡◌, ◌≢◌, Bool, true, if◌then◌else◌, List, [], ◌∷◌, ◌++◌, codes, Some, Result, Ok}
use Rattle.educe_tokens.specs.declared.error.EduceError.{EduceError}
use Rattle.educe_tokens.specs.declared.error.Kind.TheVariants.{Alloc}
use Rattle.educe_tokens.specs.declared.span.Span.{Span}
use Rattle.educe_tokens.specs.declared.token.Token.{Token}
use Rattle.educe_tokens.specs.declared.written.Written.{Written}
use Rattle.educe_syntax.specs.Attribute.{Attribute}
use Rattle.educe_syntax.specs.Attributes.{metas}
use Rattle.educe_syntax.specs.Meta.{Meta}
use Rattle.educe_syntax.specs.Meta.TheVariants as said
use Rattle.educe_syntax.specs.MetaPath.{MetaPath}
use Rattle.educe_syntax.specs.Parsed.{IsWhole, IsParseCause}
use Rattle.educe_attrs_values.specs.Chains.{and_then}
use Rattle.educe_attrs_values.specs.declared.stop.Stop.{Stop}
use Rattle.educe_attrs_values.specs.Sources.{inside}
use Rattle.educe_bound_traits.specs.OneWord.{is_one_word}
use Rattle.educe_attrs_rows.specs.Among.{IsAmong}
use Rattle.educe_attrs_values.specs.Metas.{IsNamed}
use Rattle.educe_attrs_rows.specs.Metas.{metas_in}
use Rattle.educe_attrs_values.specs.Words.{path_of}

-- ---- the computation

-- The path is `educe`.
abbrev pub is_educe : MetaPath → Bool
is_educe path = is_one_word (codes "educe") path.written.tokens

-- The metas of an `educe` list; any other attribute has none.
abbrev pub metas_of : Meta → Result (List Meta) Stop
metas_of (said.Word path) = Ok []
metas_of (said.List path tokens place) = if is_educe path then metas_in tokens.tokens else Ok []
metas_of (said.NameValue path value place) = Ok []
metas_of (said.Doc t) = Ok []
metas_of (said.Unread path tokens place) = Ok []

-- The metas so far, followed by those of the attributes: several lists of one place count as one.
abbrev pub all_metas : List Meta → List Attribute → Result (List Meta) Stop
all_metas found [] = Ok found
all_metas found (a ∷ more) = and_then (λ front. all_metas (found ++ front) more) (metas_of a.meta)

-- ---- the metas

-- The attribute is an `educe` list with these tokens.
pub record IsEduce (a : Attribute) (tokens : List Token) : Type 0 where
  pub path : MetaPath
  pub written : Written
  pub place : Span
  pub is : a.meta ≡ said.List path written place
  pub tokens_are : tokens ≡ written.tokens
  pub named : is_educe path ≡ true

-- The metas of an attribute: those of an `educe` list; any other attribute has none.
pub data AreOwn (a : Attribute) : List Meta → Type 0 where
  educe : (tokens : List Token) (found : List Meta) → IsEduce a tokens → IsWhole metas (inside tokens) found → AreOwn a found
  other : ((tokens : List Token) → IsEduce a tokens → ⊥) → AreOwn a []

-- The metas of all `educe` lists of a place together.
pub data AreMetas : List Attribute → List Meta → Type 0 where
  none_left : AreMetas [] []
  one_more : (a : Attribute) (more : List Attribute) (front found : List Meta) → AreOwn a front → AreMetas more found → AreMetas (a ∷ more) (front ++ found)

-- The path is that of a meta in one of the lists.
pub record IsNameIn (attributes : List Attribute) (path : MetaPath) : Type 0 where
  pub attribute : Attribute
  pub found : List Meta
  pub meta : Meta
  pub stands : IsAmong attribute attributes
  pub own : AreOwn attribute found
  pub among : IsAmong meta found
  pub named : IsNamed meta
  pub path_is : path_of meta ≡ Some path

-- The error with which one of the lists is rejected, since it is no list of metas.
pub record IsListCause (attributes : List Attribute) (e : EduceError) : Type 0 where
  pub attribute : Attribute
  pub tokens : List Token
  pub stands : IsAmong attribute attributes
  pub educe : IsEduce attribute tokens
  pub cause : IsParseCause metas (inside tokens) e
  pub has_place : e.kind ≢ Alloc
