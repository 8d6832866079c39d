-- The results of builders.
use Rattle.std.specs.Prelude.{Result, MatchResult}
use Rattle.educe_tokens.specs.declared.error.EduceError.{EduceError}
use Rattle.educe_tokens.specs.declared.error.Kind.TheVariants.{Alloc}
use Rattle.educe_tokens.specs.Refusals.{placeless}
use Rattle.educe_syntax.specs.Meta.{Meta}
use Rattle.educe_attrs_rows.specs.declared.row.Row.{Row}
use Rattle.educe_attrs_rows.specs.declared.values.Values.{Values}
use Rattle.educe_attrs_rows.specs.Causes.{Says, IsCause, HasNoCause}
use Rattle.educe_attrs_places.specs.declared.place.FieldSettings.{FieldSettings}
use Rattle.educe_attrs_places.specs.Causes.{Cause}
use Rattle.educe_attrs_places.specs.Places.{own_settings}

-- The attribute is that of the values of the meta, by the row of its place.
abbrev pub SaysAs : {A : Type 0} → Row → (FieldSettings → A → Type 0) → Meta → A → Type 0
SaysAs row IsOf meta attribute = (values : Values) × Says row meta values × IsOf (own_settings values) attribute

-- The postcondition of a call that reads a meta: the attribute of its values, and then there is no cause; or a
-- rejection with a cause.
abbrev pub Reads : {A : Type 0} → Row → (FieldSettings → A → Type 0) → Meta → Result A EduceError → Type 0
Reads row IsOf meta result =
    MatchResult result (λ attribute. SaysAs row IsOf meta attribute × HasNoCause row meta) (λ e. IsCause row meta e)

-- The error has the cause, or is out of memory.
pub data OfError (P : Cause) : EduceError → Type 0 where
  caused : {e : EduceError} → P e → OfError P e
  memory : OfError P (placeless Alloc)
