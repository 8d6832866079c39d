-- What the attributes of a place say is read or rejected: no program on them ends out of memory.
use Rattle.std.proofs.Common.{◌≡◌, List, [], ◌∷◌, ◌++◌, Bool, true, false, Option, Some, None, Result, Ok, Err, refl}
use Rattle.std.specs.Prelude.{if◌then◌else◌}
use Rattle.educe_tokens.specs.declared.error.EduceError.{EduceError}
use Rattle.educe_tokens.specs.declared.span.Span.{Span}
use Rattle.educe_tokens.specs.declared.token.Token.{Token}
use Rattle.educe_bound_traits.specs.declared.traits.Trait.{Trait}
use Rattle.educe_bound_traits.specs.Named.{trait_named}
use Rattle.educe_bound_traits.specs.Traits.{is_listed}
use Rattle.educe_syntax.specs.Attribute.{Attribute}
use Rattle.educe_syntax.specs.Laws.{lawful_metas}
use Rattle.educe_syntax.specs.Meta.{Meta}
use Rattle.educe_syntax.specs.Meta.TheVariants as said
use Rattle.educe_syntax.specs.MetaPath.{MetaPath}
use Rattle.educe_attrs_values.specs.declared.kind.ValueKind.{ValueKind}
use Rattle.educe_attrs_values.specs.declared.kind.ValueKind.TheVariants as value
use Rattle.educe_attrs_values.specs.declared.stop.Stop.{Stop}
use Rattle.educe_attrs_values.specs.declared.stop.Stop.TheVariants.{Memory, Refused}
use Rattle.educe_attrs_values.specs.Chains.{and_then, map_ok, map_err}
use Rattle.educe_attrs_values.specs.Decisions.{parsed}
use Rattle.educe_attrs_values.specs.Metas.{IsNamed}
use Rattle.educe_attrs_values.specs.Readings.{value_of}
use Rattle.educe_attrs_values.specs.Sources.{inside}
use Rattle.educe_attrs_values.specs.Words.{path_of, place_of}
use Rattle.educe_attrs_values.proofs.ValueLaws.{lawful_kind}
use Rattle.educe_attrs_rows.specs.declared.param.Param.{Param}
use Rattle.educe_attrs_rows.specs.declared.param.Param.TheVariants.{Name, NamedField, New, Expression, Ignore, Method, Rank, Reverse, Bound}
use Rattle.educe_attrs_rows.specs.declared.row.NameKind.{NameKind}
use Rattle.educe_attrs_rows.specs.declared.row.NameKind.TheVariants as named
use Rattle.educe_attrs_rows.specs.declared.row.Row.{Row}
use Rattle.educe_attrs_rows.specs.declared.values.Values.{Values}
use Rattle.educe_attrs_rows.specs.Metas.{metas_in}
use Rattle.educe_attrs_rows.specs.Program.{add_param, add_named, read_params, read_bare, equals_as, read_metas, read_meta}
use Rattle.educe_attrs_rows.specs.Rows.{param_of, is_empty}
use Rattle.educe_attrs_rows.specs.Settings.{values_at, has, with_name, with_param, Behind, behind}
use Rattle.educe_attrs_places.specs.Lists.{is_educe, metas_of, all_metas}
use Rattle.educe_attrs_places.specs.Named.{is_of, unless_listed, checked, all_checked}
use Rattle.educe_attrs_places.specs.Places.{fallback, read_place, read_other, or_other, read_field}
use Rattle.educe_attrs_places.specs.Said.{if_listed, listed_metas, said_once, read_one}

-- ---- results

-- a value or a rejection
abbrev pub IsDecided : {A : Type 0} → Result A Stop → Type 0
IsDecided (Ok x) = Unit {0}
IsDecided (Err Memory) = ⊥
IsDecided (Err (Refused e)) = Unit {0}

decided_by : {A : Type 0} (r : Result A Stop) → (r ≡ Err Memory → ⊥) → IsDecided r
decided_by (Ok x) h = tt
decided_by (Err Memory) h = h refl
decided_by (Err (Refused e)) h = tt

decided_if : {A : Type 0} (b : Bool) (r s : Result A Stop) → IsDecided r → IsDecided s → IsDecided (if b then r else s)
decided_if true r s first second = first
decided_if false r s first second = second

decided_map : {A B : Type 0} (f : A → B) (r : Result A Stop) → IsDecided r → IsDecided (map_ok f r)
decided_map f (Ok x) h = tt
decided_map f (Err Memory) h = h
decided_map f (Err (Refused e)) h = tt

decided_then : {A B : Type 0} (f : A → Result B Stop) (r : Result A Stop) → IsDecided r → ((x : A) → IsDecided (f x)) → IsDecided (and_then f r)
decided_then f (Ok x) h more = more x
decided_then f (Err Memory) h more = h
decided_then f (Err (Refused e)) h more = tt

refused_decided : {A : Type 0} (r : Result A EduceError) → IsDecided (map_err Refused r)
refused_decided (Ok x) = tt
refused_decided (Err e) = tt

-- ---- a meta

value_decided : (k : ValueKind) (path : MetaPath) (meta : Meta) → IsDecided (value_of k path meta)
value_decided k path meta = decided_by (value_of k path meta) ((lawful_kind k).told path meta)

pair_decided : (tokens : List Token) → IsDecided (metas_in tokens)
pair_decided tokens = refused_decided (parsed lawful_metas (inside tokens))

name_decided : (kind : Option NameKind) (path : MetaPath) (m : Meta) (v : Values) → IsDecided (with_name kind path m v)
name_decided None path m v = decided_map _ _ (value_decided value.Name path m)
name_decided (Some named.Ident) path m v = decided_map _ _ (decided_map _ _ (value_decided value.Ident path m))
name_decided (Some (named.Name b)) path m v = decided_map _ _ (value_decided value.Name path m)

module _ (row : Row) where
  with_decided : (p : Param) (path : MetaPath) (m : Meta) (v : Values) → IsDecided (with_param row p path m v)
  with_decided Name path m v = name_decided row.name path m v
  with_decided NamedField path m v = decided_map _ _ (value_decided value.Truth path m)
  with_decided New path m v = decided_map _ _ (value_decided value.Flag path m)
  with_decided Expression path m v = decided_map _ _ (value_decided value.Expr path m)
  with_decided Ignore path m v = decided_map _ _ (value_decided value.Flag path m)
  with_decided Method path m v = decided_map _ _ (value_decided value.Path path m)
  with_decided Rank path m v = decided_map _ _ (decided_map _ _ (value_decided value.Integer path m))
  with_decided Reverse path m v = decided_map _ _ (value_decided value.Flag path m)
  with_decided Bound path m v = decided_map _ _ (value_decided value.Bound path m)

  param_decided : (name path : MetaPath) (m : Meta) (v : Values) (o : Option Param) → IsDecided (add_param row name path m v o)
  param_decided name path m v None = tt
  param_decided name path m v (Some p) = decided_if (has p v) _ _ tt (with_decided p path m v)

  named_decided : (name : MetaPath) (m : Meta) (v : Values) (o : Option MetaPath) → IsDecided (add_named row name m v o)
  named_decided name m v None = tt
  named_decided name m v (Some path) = param_decided name path m v (param_of row path)

  params_decided : (name : MetaPath) (ms : List Meta) (v : Values) → IsDecided (read_params row name ms v)
  params_decided name [] v = tt
  params_decided name (m ∷ ms) v = decided_then (read_params row name ms) _ (named_decided name m v (path_of m)) (λ w. params_decided name ms w)

  bare_decided : (name : MetaPath) (place : Span) → IsDecided (read_bare row name place)
  bare_decided name place = decided_if row.flag _ _ tt tt

  list_decided : (name : MetaPath) (place : Span) (params : List Meta) → IsDecided (read_metas row name place params)
  list_decided name place [] = bare_decided name place
  list_decided name place (m ∷ ms) = params_decided name (m ∷ ms) (values_at place)

  equals_decided : (name : MetaPath) (m : Meta) (o : Option Behind) → IsDecided (equals_as row name m o)
  equals_decided name m None = tt
  equals_decided name m (Some b) = decided_map _ _ (value_decided b.kind name m)

  meta_decided : (m : Meta) → IsNamed m → IsDecided (read_meta row m)
  meta_decided (said.Word path) named = decided_if (is_empty row) _ _ tt (bare_decided path (place_of path.written.tokens))
  meta_decided (said.List path tokens place) named = decided_if (is_empty row) _ _ tt (decided_then (read_metas row path place) _ (pair_decided tokens.tokens) (list_decided path place))
  meta_decided (said.NameValue path x place) named = decided_if (is_empty row) _ _ tt (equals_decided path (said.NameValue path x place) (behind row.equals))
  meta_decided (said.Doc t) named = absurd named
  meta_decided (said.Unread path tokens place) named = absurd named

  -- ---- those of a trait

  once_decided : (m : Meta) (before : Option Values) → IsNamed m → IsDecided (said_once row m before)
  once_decided m None named = decided_map _ _ (meta_decided m named)
  once_decided (said.Word path) (Some v) named = tt
  once_decided (said.List path tokens place) (Some v) named = tt
  once_decided (said.NameValue path x place) (Some v) named = tt
  once_decided (said.Doc t) (Some v) named = absurd named
  once_decided (said.Unread path tokens place) (Some v) named = absurd named

  module _ (which : Trait) where
    -- a meta of a trait has a name
    of_named : (m : Meta) → is_of which m ≡ true → IsNamed m
    of_named (said.Word path) of = tt
    of_named (said.List path tokens place) of = tt
    of_named (said.NameValue path x place) of = tt
    of_named (said.Doc t) of = absurd (cc)
    of_named (said.Unread path tokens place) of = absurd (cc)

    next_decided : (m : Meta) (before : Option Values) (b : Bool) → is_of which m ≡ b → IsDecided (if b then said_once row m before else Ok before)
    next_decided m before true of = once_decided m before (of_named m of)
    next_decided m before false of = tt

    pub one_decided : (ms : List Meta) (before : Option Values) → IsDecided (read_one which row ms before)
    one_decided [] before = tt
    one_decided (m ∷ ms) before = decided_then (read_one which row ms) _ (next_decided m before (is_of which m) refl) (λ next. one_decided ms next)

-- ---- the lists of a place

of_decided : (m : Meta) → IsDecided (metas_of m)
of_decided (said.Word path) = tt
of_decided (said.List path tokens place) = decided_if (is_educe path) _ _ (pair_decided tokens.tokens) tt
of_decided (said.NameValue path x place) = tt
of_decided (said.Doc t) = tt
of_decided (said.Unread path tokens place) = tt

all_decided : (before : List Meta) (attributes : List Attribute) → IsDecided (all_metas before attributes)
all_decided before [] = tt
all_decided before (a ∷ more) = decided_then (λ front. all_metas (before ++ front) more) _ (of_decided a.meta) (λ front. all_decided (before ++ front) more)

module _ (listed : List Trait) where
  unless_decided : (path : MetaPath) (o : Option Trait) → IsDecided (unless_listed listed path o)
  unless_decided path None = tt
  unless_decided path (Some which) = decided_if (is_listed listed which) _ _ tt tt

  check_decided : (m : Meta) → IsDecided (checked listed m)
  check_decided (said.Word path) = unless_decided path (trait_named path)
  check_decided (said.List path tokens place) = unless_decided path (trait_named path)
  check_decided (said.NameValue path x place) = unless_decided path (trait_named path)
  check_decided (said.Doc t) = tt
  check_decided (said.Unread path tokens place) = tt

  checks_decided : (ms : List Meta) → IsDecided (all_checked listed ms)
  checks_decided [] = tt
  checks_decided (m ∷ ms) = decided_then (λ _. all_checked listed ms) _ (check_decided m) (λ _. checks_decided ms)

  listed_decided : (attributes : List Attribute) → IsDecided (listed_metas listed attributes)
  listed_decided attributes = decided_then (if_listed listed) _ (all_decided [] attributes) (λ found. decided_map _ _ (checks_decided found))

  -- ---- the whole place

  module _ (which : Trait) (row : Row) where
    other_decided : (found : List Meta) (o : Option Trait) → IsDecided (read_other which row found o)
    other_decided found None = tt
    other_decided found (Some other) = decided_map _ _ (one_decided row other found None)

    or_decided : (found : List Meta) (o : Option Values) → IsDecided (or_other which row listed found o)
    or_decided found (Some v) = tt
    or_decided found None = other_decided found (fallback which listed)

    -- what is said at a type or a variant is
    pub place_decided : (attributes : List Attribute) → IsDecided (read_place which row listed attributes)
    unfolding read_place
    place_decided attributes = decided_then _ _ (listed_decided attributes) (λ found. decided_map _ _ (one_decided row which found None))

    -- what is said at a field is decided
    pub field_decided : (attributes : List Attribute) → IsDecided (read_field which row listed attributes)
    unfolding read_field
    field_decided attributes = decided_then _ _ (listed_decided attributes) (λ found. decided_then (or_other which row listed found) _ (one_decided row which found None) (or_decided found))
