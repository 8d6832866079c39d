-- What the metas of a place say of a trait, and the causes for which they are rejected.
use Rattle.std.specs.Prelude.{◌≡◌, true, false, if◌then◌else◌, List, [], ◌∷◌, Option, Some, None, Result, Ok, Err}
use Rattle.educe_tokens.specs.declared.error.EduceError.{EduceError}
use Rattle.educe_tokens.specs.declared.error.Kind.TheVariants.{UnsupportedTrait, ReuseATrait, TraitNotUsed}
use Rattle.educe_bound_traits.specs.declared.traits.Trait.{Trait}
use Rattle.educe_bound_traits.specs.Named.{trait_named}
use Rattle.educe_bound_traits.specs.Traits.{is_listed}
use Rattle.educe_syntax.specs.Attribute.{Attribute}
use Rattle.educe_syntax.specs.Meta.{Meta}
use Rattle.educe_syntax.specs.MetaPath.{MetaPath}
use Rattle.educe_attrs_values.specs.Chains.{and_then, map_ok}
use Rattle.educe_attrs_values.specs.declared.stop.Stop.{Stop}
use Rattle.educe_attrs_values.specs.declared.stop.Stop.TheVariants.{Memory, Refused}
use Rattle.educe_attrs_values.specs.Refusals.{at_name}
use Rattle.educe_attrs_rows.specs.declared.row.Row.{Row}
use Rattle.educe_attrs_rows.specs.declared.values.Values.{Values}
use Rattle.educe_attrs_rows.specs.Among.{IsAmong}
use Rattle.educe_attrs_rows.specs.Causes.{IsOwnCause, Says}
use Rattle.educe_attrs_rows.specs.Program.{read_meta}
use Rattle.educe_attrs_values.specs.Words.{path_of}
use Rattle.educe_attrs_places.specs.Lists.{all_metas, AreMetas, IsNameIn, IsListCause}
use Rattle.educe_attrs_places.specs.Named.{is_of, all_checked, IsReused}

-- ---- the computation

-- The metas, if each names a listed trait.
abbrev pub if_listed : List Trait → List Meta → Result (List Meta) Stop
if_listed listed found = map_ok (λ _. found) (all_checked listed found)

-- The metas of a place, if each names a listed trait.
abbrev pub listed_metas : List Trait → List Attribute → Result (List Meta) Stop
listed_metas listed attributes = and_then (if_listed listed) (all_metas [] attributes)

-- The rejection of a second meta of a trait, at its name.
abbrev pub refused_again : Option MetaPath → Result (Option Values) Stop
refused_again None = Err Memory
refused_again (Some path) = Err (Refused (at_name ReuseATrait path))

-- The values of a meta of the trait, if there was none before it.
abbrev pub said_once : Row → Meta → Option Values → Result (Option Values) Stop
said_once row m None = map_ok Some (read_meta row m)
said_once row m (Some values) = refused_again (path_of m)

-- What was said before, or what this meta says if it is of the trait; a second such meta is rejected.
abbrev pub next_said : Trait → Row → Meta → Option Values → Result (Option Values) Stop
next_said which row m before = if is_of which m then said_once row m before else Ok before

-- The values of the only meta of the trait, if there is one.
abbrev pub read_one : Trait → Row → List Meta → Option Values → Result (Option Values) Stop
read_one which row [] before = Ok before
read_one which row (m ∷ ms) before = and_then (read_one which row ms) (next_said which row m before)

-- ---- values of a trait

-- No meta of the place is of the trait.
abbrev pub IsUnsaid : Trait → List Attribute → Type 0
IsUnsaid which attributes = (found : List Meta) → AreMetas attributes found → (m : Meta) → IsAmong m found → is_of which m ≡ true → ⊥

-- A meta of the place is of the trait and has these values.
pub record SaysThere (which : Trait) (row : Row) (attributes : List Attribute) (values : Values) : Type 0 where
  pub found : List Meta
  pub meta : Meta
  pub are : AreMetas attributes found
  pub among : IsAmong meta found
  pub of : is_of which meta ≡ true
  pub says : Says row meta values

-- ---- causes of rejection

-- The causes for which the `educe` lists of a place are rejected, whatever the trait: one is no list of metas, or has a
-- meta that names no listed trait.
pub data IsPlaceCause (listed : List Trait) (attributes : List Attribute) : EduceError → Type 0 where
  list : {e : EduceError} → IsListCause attributes e → IsPlaceCause listed attributes e
  unsupported : (path : MetaPath) → IsNameIn attributes path → trait_named path ≡ None → IsPlaceCause listed attributes (at_name UnsupportedTrait path)
  not_used : (path : MetaPath) (which : Trait) → IsNameIn attributes path → trait_named path ≡ Some which → is_listed listed which ≡ false
      → IsPlaceCause listed attributes (at_name TraitNotUsed path)

-- The causes for which what the lists say of a trait is rejected: there are two metas of it, or a meta of it is
-- rejected.
pub data IsSaidCause (which : Trait) (row : Row) (attributes : List Attribute) : EduceError → Type 0 where
  reuse : (found : List Meta) (later : Meta) (path : MetaPath) → AreMetas attributes found → IsReused which found later → path_of later ≡ Some path
      → IsSaidCause which row attributes (at_name ReuseATrait path)
  meta : {e : EduceError} (found : List Meta) (m : Meta) → AreMetas attributes found → IsAmong m found → is_of which m ≡ true → IsOwnCause row m e
      → IsSaidCause which row attributes e
