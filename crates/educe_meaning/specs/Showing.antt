-- What the derived `fmt` shows.
use Rattle.std.specs.Prelude.{ℕ, Bool, true, false, List, [], ◌∷◌, Option, Some, None, slice_get, unwrap_or}
use Rattle.std.specs.List.{filter_map}
use Rattle.std.specs.Option.{option_map}
use Rattle.educe_syntax.specs.DeriveInput.{DeriveInput}
use Rattle.educe_syntax.specs.Field.{Field}
use Rattle.educe_attrs.specs.IdentOrBool.{IdentOrBool}
use Rattle.educe_attrs.specs.IdentOrBool.TheVariants as said
use Rattle.educe_body_forms.specs.Keys.{key_of}
use Rattle.educe_body_values.specs.Callees.{text_of_path}
use Rattle.educe_body_values.specs.declared.shape.DebugShape.{DebugShape}
use Rattle.educe_body_values.specs.declared.shape.Entry.{Entry}
use Rattle.educe_body_values.specs.declared.shape.ShapeForm.{ShapeForm}
use Rattle.educe_body_values.specs.declared.shape.ShapeForm.TheVariants as form
use Rattle.educe_body_values.specs.declared.value.FieldValue.{FieldValue}
use Rattle.educe_body_values.specs.declared.value.Value.{Value}
use Rattle.educe_settings.specs.Settings.{Kept, How, plainly, by_method, by_order}
use Rattle.educe_settings.specs.Shown.{ShownCase, entry_settings, shown_cases, shown_fields}

-- The form by whether a case is a unit, whether the names of its fields are shown, and its name: the name of a unit alone; else
-- without names of fields a tuple, and with them a struct, or a map where there is no name.
abbrev pub form_by : Bool → Bool → List ℕ → ShapeForm
form_by true named name = form.Word
form_by false false name = form.Tuple
form_by false true [] = form.Map
form_by false true (c ∷ name) = form.Struct

-- The form in which the values of a case are shown.
abbrev pub form_of : ShownCase → ShapeForm
form_of case = form_by case.unit case.named case.name

-- The text of the name of the field at a place: the given one, or its own, or its index.
abbrev pub key_text : Option IdentOrBool → ℕ → Field → List ℕ
key_text None place field = key_of place field
key_text (Some (said.Ident name)) place field = name.text
key_text (Some (said.Bool b)) place field = key_of place field

-- The text of the name of a field, where names of fields are shown; else none.
abbrev pub shown_key : Bool → DeriveInput → Kept → List ℕ
shown_key false definition kept = []
shown_key true definition kept = key_text (entry_settings true definition kept.field).values.name kept.place kept.field

-- A case without fields and without a name.
abbrev pub no_case : ShownCase
no_case = record { unit = false; name = []; named = false; fields = [] }

-- The case of a value; that one where the definition has no such case.
abbrev pub case_shown : DeriveInput → Value → ShownCase
case_shown definition value = unwrap_or (slice_get (shown_cases definition) value.variant) no_case

-- The text of the method that writes a field, if it has one.
abbrev pub method_text : How → Option (List ℕ)
method_text plainly = None
method_text (by_method path) = Some (text_of_path path)
method_text (by_order path) = Some (text_of_path path)

-- A field that is shown, with its value, as an entry.
abbrev pub entry_with : Bool → DeriveInput → Kept → FieldValue → Entry
entry_with named definition kept x = record { key = shown_key named definition kept; method = method_text kept.how; value = x }

-- The entry of a field that is shown, with the one of these values that stands at its place.
abbrev pub entry_among : Bool → DeriveInput → List FieldValue → Kept → Option Entry
entry_among named definition values kept = option_map (entry_with named definition kept) (slice_get values kept.place)

-- What is shown of these values of the fields of a case: its form, its name, and an entry for each field that is shown, in written order.
abbrev pub case_shape : DeriveInput → ShownCase → List FieldValue → DebugShape
case_shape definition case values = record {
  form = form_of case;
  name = case.name;
  entries = filter_map (entry_among case.named definition values) (shown_fields definition case);
}

-- What `fmt` shows of a value.
abbrev pub shape_of : DeriveInput → Value → DebugShape
shape_of definition value = case_shape definition (case_shown definition value) value.fields
