-- What equal settings are said by.
use Rattle.std.proofs.Common.{◌≡◌, List, subst}
use Rattle.educe_bound_traits.specs.declared.traits.Trait.{Trait}
use Rattle.educe_syntax.specs.Attribute.{Attribute}
use Rattle.educe_attrs_rows.specs.declared.row.Row.{Row}
use Rattle.educe_attrs_rows.specs.declared.values.Values.{Values}
use Rattle.educe_attrs_places.specs.declared.place.FieldSettings.{FieldSettings}
use Rattle.educe_attrs_places.specs.Places.{IsSaid, IsFieldSaid}

-- of a type or a variant
pub said_as : (which : Trait) (row : Row) (attributes : List Attribute) (v w : Values) → v ≡ w → IsSaid which row attributes v → IsSaid which row attributes w
said_as which row attributes v w same h = subst (IsSaid which row attributes) same h

-- of a field
pub field_said_as : (which : Trait) (row : Row) (listed : List Trait) (attributes : List Attribute) (v w : FieldSettings) → v ≡ w
    → IsFieldSaid which row listed attributes v → IsFieldSaid which row listed attributes w
field_said_as which row listed attributes v w same h = subst (IsFieldSaid which row listed attributes) same h
