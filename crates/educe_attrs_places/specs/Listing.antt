-- The traits that the attributes of a type list, and the causes for which they are rejected.
use Rattle.std.specs.Prelude.{◌≡◌, ◌≢◌, ℕ, true, if◌then◌else◌, List, [], ◌∷◌, ◌++◌, codes, chars, Option, Some, None, Result, Ok, Err, ◌⊎◌}
use Rattle.std.specs.List.{filter_map, IsDistinct}
use Rattle.std.specs.Result.{result_unwrap_or}
use Rattle.educe_tokens.specs.declared.error.EduceError.{EduceError}
use Rattle.educe_tokens.specs.declared.error.Kind.TheVariants.{UnsupportedTrait, ReuseATrait, EduceFormatIncorrect, DeriveAttributeNotSetUpYet}
use Rattle.educe_tokens.specs.declared.span.Span.{Span}
use Rattle.educe_tokens.specs.declared.written.Written.{Written}
use Rattle.educe_bound_traits.specs.declared.traits.Trait.{Trait}
use Rattle.educe_bound_traits.specs.Named.{trait_named}
use Rattle.educe_bound_traits.specs.Traits.{is_listed, same_trait}
use Rattle.educe_syntax.specs.Attribute.{Attribute}
use Rattle.educe_syntax.specs.Expr.{Expr}
use Rattle.educe_syntax.specs.Meta.{Meta}
use Rattle.educe_syntax.specs.Meta.TheVariants as said
use Rattle.educe_syntax.specs.MetaPath.{MetaPath}
use Rattle.educe_attrs_values.specs.Chains.{and_then}
use Rattle.educe_attrs_values.specs.declared.stop.Stop.{Stop}
use Rattle.educe_attrs_values.specs.declared.stop.Stop.TheVariants.{Refused}
use Rattle.educe_attrs_values.specs.Refusals.{at_name}
use Rattle.educe_attrs_rows.specs.Among.{IsAmong}
use Rattle.educe_attrs_values.specs.Words.{path_of, place_of}
use Rattle.educe_attrs_places.specs.Causes.{Cause, NoCause}
use Rattle.educe_attrs_places.specs.Lists.{is_educe, all_metas, AreMetas, IsNameIn, IsListCause}
use Rattle.educe_attrs_places.specs.Named.{trait_of, IsReused}

-- ---- rejections

-- The rejection of an `educe` attribute of a type that is no list; the words are `educe` and the required form.
abbrev pub format_incorrect : MetaPath → EduceError
format_incorrect path = record {
  kind = EduceFormatIncorrect;
  span = place_of path.written.tokens;
  words = chars (codes "educe") ∷ chars (codes "#[educe(Trait1, Trait2, ..., TraitN)]") ∷ [];
}

-- The rejection of a type that lists no trait, in a source with this end.
abbrev pub not_set_up : ℕ → EduceError
not_set_up end = record { kind = DeriveAttributeNotSetUpYet; span = record { start = 0; end = end }; words = [] }

-- ---- the computation

-- Rejects an attribute without a list whose path is `educe`.
abbrev pub checked_other : MetaPath → Result (Unit {0}) Stop
checked_other path = if is_educe path then Err (Refused (format_incorrect path)) else Ok tt

-- Rejects an `educe` attribute that is no list.
abbrev pub checked_list : Meta → Result (Unit {0}) Stop
checked_list (said.Word path) = checked_other path
checked_list (said.List path tokens place) = Ok tt
checked_list (said.NameValue path value place) = checked_other path
checked_list (said.Doc t) = Ok tt
checked_list (said.Unread path tokens place) = checked_other path

-- Each `educe` attribute among these is a list, as a program.
abbrev pub checked_lists : List Attribute → Result (Unit {0}) Stop
checked_lists [] = Ok tt
checked_lists (a ∷ more) = and_then (λ _. checked_lists more) (checked_list a.meta)

-- The traits with one more, if the path names one that is not listed yet.
abbrev pub with_trait : List Trait → MetaPath → Option Trait → Result (List Trait) Stop
with_trait before path None = Err (Refused (at_name UnsupportedTrait path))
with_trait before path (Some which) = if is_listed before which then Err (Refused (at_name ReuseATrait path)) else Ok (before ++ which ∷ [])

-- The traits with the one that a path names, if it is one and is not there yet.
abbrev pub with_named : List Trait → MetaPath → Result (List Trait) Stop
with_named before path = with_trait before path (trait_named path)

-- The traits with the one that a meta is of.
abbrev pub with_listed : List Trait → Meta → Result (List Trait) Stop
with_listed before (said.Word path) = with_named before path
with_listed before (said.List path tokens place) = with_named before path
with_listed before (said.NameValue path value place) = with_named before path
with_listed before (said.Doc t) = Ok before
with_listed before (said.Unread path tokens place) = Ok before

-- The traits with those of more metas.
abbrev pub traits_of : List Trait → List Meta → Result (List Trait) Stop
traits_of before [] = Ok before
traits_of before (m ∷ ms) = and_then (λ found. traits_of found ms) (with_listed before m)

-- The traits, if there is at least one.
abbrev pub if_set_up : ℕ → List Trait → Result (List Trait) Stop
if_set_up end [] = Err (Refused (not_set_up end))
if_set_up end (t ∷ ts) = Ok (t ∷ ts)

-- The traits that the attributes of a type list, in a source with this end.
unfoldable pub read_listing : List Attribute → ℕ → Result (List Trait) Stop
read_listing attributes end =
    and_then (λ _. and_then (λ metas. and_then (if_set_up end) (traits_of [] metas)) (all_metas [] attributes)) (checked_lists attributes)

-- ---- the listed traits

-- The traits that the metas of a type name, in their order; none where a list is no list of metas.
unfoldable pub listed_traits : List Attribute → List Trait
listed_traits attributes = filter_map trait_of (result_unwrap_or (all_metas [] attributes) [])

-- The type lists these traits: those that its metas name, in their order, at least one and each once.
pub record IsListing (attributes : List Attribute) (traits : List Trait) : Type 0 where
  pub found : List Meta
  pub are : AreMetas attributes found
  pub in_order : traits ≡ filter_map trait_of found
  pub once : IsDistinct same_trait traits
  pub some_listed : traits ≢ []

-- ---- causes of rejection

-- The attribute is `educe` with this path, and no list.
pub data IsBareEduce (path : MetaPath) : Meta → Type 0 where
  word : is_educe path ≡ true → IsBareEduce path (said.Word path)
  name_value : (value : Expr) (place : Span) → is_educe path ≡ true → IsBareEduce path (said.NameValue path value place)
  unread : (tokens : Written) (place : Span) → is_educe path ≡ true → IsBareEduce path (said.Unread path tokens place)

-- The causes for which a type's list is rejected: an `educe` attribute is no list, or no list of metas; a meta names no
-- trait; or a trait is listed twice.
pub data IsListingCause (attributes : List Attribute) : EduceError → Type 0 where
  format : (a : Attribute) (path : MetaPath) → IsAmong a attributes → IsBareEduce path a.meta → IsListingCause attributes (format_incorrect path)
  list : {e : EduceError} → IsListCause attributes e → IsListingCause attributes e
  unsupported : (path : MetaPath) → IsNameIn attributes path → trait_named path ≡ None → IsListingCause attributes (at_name UnsupportedTrait path)
  reuse : (which : Trait) (found : List Meta) (later : Meta) (path : MetaPath) → AreMetas attributes found → IsReused which found later → path_of later ≡ Some path
      → IsListingCause attributes (at_name ReuseATrait path)

-- No trait is listed, and there is no other cause.
pub record IsNotSetUp (attributes : List Attribute) : Type 0 where
  pub found : List Meta
  pub are : AreMetas attributes found
  pub none_listed : filter_map trait_of found ≡ []
  pub no_other : NoCause (IsListingCause attributes)

-- The causes for which the attributes of a type are rejected, in a source with this end.
abbrev pub OfListing : List Attribute → ℕ → Cause
OfListing attributes end = λ e. IsListingCause attributes e ⊎ (IsNotSetUp attributes × (e ≡ not_set_up end))
