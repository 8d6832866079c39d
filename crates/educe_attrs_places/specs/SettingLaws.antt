-- The laws of the settings of a trait at a place.
use Rattle.std.specs.Prelude.{◌≡◌, List, Contains, Some}
use Rattle.educe_tokens.specs.declared.token.Token.{Token}
use Rattle.educe_bound_traits.specs.declared.traits.Trait.{Trait}
use Rattle.educe_syntax.specs.Attribute.{Attribute}
use Rattle.educe_syntax.specs.ExprPath.{ExprPath}
use Rattle.educe_syntax.specs.Meta.{Meta}
use Rattle.educe_syntax.specs.Within.{AttributesWithin}
use Rattle.educe_attrs_rows.specs.Causes.{Says}
use Rattle.educe_attrs_rows.specs.declared.row.Row.{Row}
use Rattle.educe_attrs_rows.specs.declared.values.Values.{Values}
use Rattle.educe_attrs_places.specs.declared.place.FieldSettings.{FieldSettings}
use Rattle.educe_attrs_places.specs.Causes.{NoCause}
use Rattle.educe_attrs_places.specs.Methods.{IsTextOf}
use Rattle.educe_attrs_places.specs.Places.{place_settings, IsSaid, OfPlace, field_settings, IsFieldSaid, OfField}

-- Laws of the settings of a trait at a type, a variant or a field, by the row of the place.
pub record SettingLaws : Type 0 where
  -- A meta sets at most one list of values, by the row of its place.
  pub meta_only : (row : Row) (meta : Meta) (values others : Values) → Says row meta values → Says row meta others → values ≡ others
  -- Without a cause of rejection, the settings at a type or a variant are what its attributes say.
  pub place_said : (which : Trait) (row : Row) (listed : List Trait) (attributes : List Attribute) → NoCause (OfPlace which row listed attributes)
      → IsSaid which row attributes (place_settings which row listed attributes)
  -- Without a cause of rejection, the attributes of a type or a variant say nothing but the settings.
  pub place_only : (which : Trait) (row : Row) (listed : List Trait) (attributes : List Attribute) → NoCause (OfPlace which row listed attributes)
      → (values : Values) → IsSaid which row attributes values → values ≡ place_settings which row listed attributes
  -- Without a cause of rejection, the settings at a field are what its attributes say, and these say nothing else.
  pub field_said : (which : Trait) (row : Row) (listed : List Trait) (attributes : List Attribute) → NoCause (OfField which row listed attributes)
      → IsFieldSaid which row listed attributes (field_settings which row listed attributes)
  pub field_only : (which : Trait) (row : Row) (listed : List Trait) (attributes : List Attribute) → NoCause (OfField which row listed attributes)
      → (settings : FieldSettings) → IsFieldSaid which row listed attributes settings → settings ≡ field_settings which row listed attributes
  -- If the attributes of a field lie among tokens, the tokens of a method that they set are among these, or are those
  -- of the text of a string among these.
  pub methods : (all : List Token) (which : Trait) (row : Row) (listed : List Trait) (attributes : List Attribute) (settings : FieldSettings) (path : ExprPath)
      → AttributesWithin (λ t. Contains all t) attributes → IsFieldSaid which row listed attributes settings → settings.values.method ≡ Some path
      → IsTextOf all path.written.tokens
