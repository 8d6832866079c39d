-- What an attribute says, and the causes for which it is rejected.
use Rattle.std.specs.Prelude.{◌≡◌, ◌≢◌, Bool, true, false, List, [], ◌∷◌, ◌++◌, Option, Some, None, option_and_then}
use Rattle.educe_tokens.specs.declared.error.EduceError.{EduceError}
use Rattle.educe_tokens.specs.declared.error.Kind.TheVariants.{Alloc}
use Rattle.educe_tokens.specs.declared.span.Span.{Span}
use Rattle.educe_tokens.specs.declared.written.Written.{Written}
use Rattle.educe_tokens.specs.Refusals.{placeless}
use Rattle.educe_syntax.specs.Attributes.{metas}
use Rattle.educe_syntax.specs.Expr.{Expr}
use Rattle.educe_syntax.specs.Meta.{Meta}
use Rattle.educe_syntax.specs.Meta.TheVariants as said
use Rattle.educe_syntax.specs.MetaPath.{MetaPath}
use Rattle.educe_syntax.specs.Parsed.{IsWhole, IsParseCause}
use Rattle.educe_attrs_values.specs.Causes.{IsValueCause}
use Rattle.educe_attrs_values.specs.Kinds.{ValueOf}
use Rattle.educe_attrs_values.specs.Sources.{inside}
use Rattle.educe_attrs_values.specs.Values.{Holds}
use Rattle.educe_attrs_values.specs.Words.{path_of, meta_place}
use Rattle.educe_attrs_rows.specs.declared.param.Param.{Param}
use Rattle.educe_attrs_rows.specs.declared.row.Row.{Row}
use Rattle.educe_attrs_rows.specs.declared.values.Values.{Values}
use Rattle.educe_attrs_rows.specs.Among.{IsAmong}
use Rattle.educe_attrs_rows.specs.Refusals.{incorrect_place, incorrect_format, parameter_reset}
use Rattle.educe_attrs_rows.specs.Rows.{param_of, is_empty}
use Rattle.educe_attrs_rows.specs.Settings.{values_at, bare_values, Given, given, kind_of, given_as, Behind, behind}

-- ---- parameters

-- The parameter of the row that the meta's path names.
abbrev pub param_in : Row → Meta → Option Param
param_in row m = option_and_then (param_of row) (path_of m)

-- The meta gives this value as the parameter: its own value of the parameter's kind.
pub record Gives (row : Row) (p : Param) (m : Meta) (x : Given p) : Type 0 where
  pub value : ValueOf (kind_of row p)
  pub holds : Holds (kind_of row p) m value
  pub is : x ≡ given_as row p m value

-- The optional value is what one of the metas gives as the parameter; it is absent where none of them is the parameter.
abbrev pub IsGiven : Row → (p : Param) → List Meta → Option (Given p) → Type 0
IsGiven row p params None = (m : Meta) → IsAmong m params → param_in row m ≡ Some p → ⊥
IsGiven row p params (Some x) = (m : Meta) × IsAmong m params × (param_in row m ≡ Some p) × Gives row p m x

-- ---- what a meta says

-- The content of the meta's brackets is these metas.
abbrev pub Lists : Meta → List Meta → Type 0
Lists (said.Word path) params = ⊥
Lists (said.List path tokens place) params = IsWhole metas (inside tokens.tokens) params
Lists (said.NameValue path value place) params = ⊥
Lists (said.Doc t) params = ⊥
Lists (said.Unread path tokens place) params = ⊥

-- An earlier meta of the list is the same parameter as this one.
pub record IsReset (row : Row) (params : List Meta) (later : Meta) (p : Param) : Type 0 where
  pub front : List Meta
  pub earlier : Meta
  pub between : List Meta
  pub rest : List Meta
  pub is : params ≡ (front ++ earlier ∷ between) ++ later ∷ rest
  pub earlier_is : param_in row earlier ≡ Some p
  pub later_is : param_in row later ≡ Some p

-- The list of metas is empty.
abbrev pub is_bare : List Meta → Bool
is_bare [] = true
is_bare (m ∷ ms) = false

-- The values are those that the metas of a list give: each is a parameter of the row, none occurs twice, and the list
-- is not empty where the trait alone is not allowed.
pub record AreGiven (row : Row) (params : List Meta) (values : Values) : Type 0 where
  pub form : params ≡ [] → row.flag ≡ true
  pub known : (m : Meta) → IsAmong m params → param_in row m ≡ None → ⊥
  pub once : (m : Meta) (p : Param) → IsReset row params m p → ⊥
  pub gives : (p : Param) → IsGiven row p params (given p values)
  pub flag : values.flag ≡ is_bare params

-- What a meta says, by the row of its place: nothing, where it is the trait alone; what its value after `=` means
-- there; or what the parameters in its list give. The span is that of the whole meta.
pub data Says (row : Row) : Meta → Values → Type 0 where
  bare : (path : MetaPath) → row.flag ≡ true → Says row (said.Word path) (bare_values (meta_place (said.Word path)))
  equals : (path : MetaPath) (x : Expr) (place : Span) (b : Behind) (v : ValueOf b.kind) → behind row.equals ≡ Some b → Holds b.kind (said.NameValue path x place) v
      → Says row (said.NameValue path x place) (b.says v (values_at place))
  params : (path : MetaPath) (tokens : Written) (place : Span) (found : List Meta) (values : Values) → IsWhole metas (inside tokens.tokens) found
      → AreGiven row found values → values.span ≡ place → Says row (said.List path tokens place) values

-- ---- causes of rejection

-- The form is not in the row: the trait alone or an empty list where these are not allowed, or a list with a parameter
-- that is not.
pub data HasWrongForm (row : Row) : Meta → Type 0 where
  bare : (path : MetaPath) → row.flag ≡ false → HasWrongForm row (said.Word path)
  empty : (meta : Meta) → Lists meta [] → row.flag ≡ false → HasWrongForm row meta
  param : (meta m : Meta) (params : List Meta) → Lists meta params → IsAmong m params → param_in row m ≡ None → HasWrongForm row meta

-- The meta has a value after `=`.
abbrev pub HasValue : Meta → Type 0
HasValue (said.Word path) = ⊥
HasValue (said.List path tokens place) = ⊥
HasValue (said.NameValue path value place) = Unit {0}
HasValue (said.Doc t) = ⊥
HasValue (said.Unread path tokens place) = ⊥

-- The parser rejects the content of the meta's brackets with this error.
abbrev pub IsListCause : Meta → EduceError → Type 0
IsListCause (said.Word path) e = ⊥
IsListCause (said.List path tokens place) e = IsParseCause metas (inside tokens.tokens) e × (e.kind ≢ Alloc)
IsListCause (said.NameValue path value place) e = ⊥
IsListCause (said.Doc t) e = ⊥
IsListCause (said.Unread path tokens place) e = ⊥

-- The causes for which a meta of the trait with this name is rejected, by the row of its place.
pub data IsMetaCause (row : Row) (name : MetaPath) (meta : Meta) : EduceError → Type 0 where
  place : is_empty row ≡ true → IsMetaCause row name meta (incorrect_place name)
  format : is_empty row ≡ false → HasWrongForm row meta → IsMetaCause row name meta (incorrect_format row name)
  no_value : is_empty row ≡ false → HasValue meta → behind row.equals ≡ None → IsMetaCause row name meta (incorrect_format row name)
  reset : (params : List Meta) (later : Meta) (path : MetaPath) (p : Param) → is_empty row ≡ false → Lists meta params → IsReset row params later p
      → path_of later ≡ Some path → param_of row path ≡ Some p → IsMetaCause row name meta (parameter_reset path)
  param : {e : EduceError} (params : List Meta) (m : Meta) (path : MetaPath) (p : Param) → is_empty row ≡ false → Lists meta params → IsAmong m params
      → path_of m ≡ Some path → param_of row path ≡ Some p → IsValueCause (kind_of row p) path m e → IsMetaCause row name meta e
  equals : {e : EduceError} (b : Behind) → is_empty row ≡ false → HasValue meta → behind row.equals ≡ Some b → IsValueCause b.kind name meta e → IsMetaCause row name meta e
  list : {e : EduceError} → is_empty row ≡ false → IsListCause meta e → IsMetaCause row name meta e

-- The causes for which a meta is rejected under its own name, by the row of its place.
abbrev pub IsOwnCause : Row → Meta → EduceError → Type 0
IsOwnCause row meta e = (name : MetaPath) × (path_of meta ≡ Some name) × IsMetaCause row name meta e

-- The causes for which a meta is rejected, by the row of its place. Out of memory may end any call.
pub data IsCause (row : Row) (meta : Meta) : EduceError → Type 0 where
  own : {e : EduceError} → IsOwnCause row meta e → IsCause row meta e
  memory : IsCause row meta (placeless Alloc)

-- The meta has no cause of rejection but out of memory.
pub record HasNoCause (row : Row) (meta : Meta) : Type 0 where
  pub none_stands : (e : EduceError) → IsCause row meta e → e.kind ≡ Alloc
