-- The keys of fields: what stands behind the `.` where a field is read.
use Rattle.std.specs.Prelude.{◌≡◌, ◌≢◌, ℕ, ◌+◌, ◌^◌, ◌<◌, ◌==◌, Bool, false, ◌&&◌, not, List, [], ◌∷◌, Option, None, Some}
use Rattle.std.specs.Fmt.{decimal}
use Rattle.std.specs.List.{AllByRecursion}
use Rattle.educe_tree.specs.declared.data.Field.{Field}
use Rattle.educe_tree.specs.declared.derive.DeriveInput.{DeriveInput}
use Rattle.educe_tree.specs.declared.derive.Shape.{Shape}
use Rattle.educe_tree.specs.declared.derive.Shape.TheVariants.{Struct, Enum}
use Rattle.educe_tree.specs.Names.{unraw}

-- The key of the field at a place: its name as it was written, or where it has none the decimal digits of the place.
abbrev pub key_of : ℕ → Field → List ℕ
key_of place field = elim field.ident [ None ↦ decimal place | Some ident ↦ ident.text ]

-- The keys of fields, the first of which stands at a place.
abbrev pub keys_from : ℕ → List Field → List (List ℕ)
keys_from place [] = []
keys_from place (f ∷ fields) = key_of place f ∷ keys_from (place + 1) fields

-- The key without `r#`, by which a local variable of the field is named.
abbrev pub binding_key : ℕ → Field → List ℕ
binding_key place field = unraw (key_of place field)

-- The fields of a struct in written order; of an enum none, since they are not read by their keys.
abbrev pub shape_fields : Shape → List Field
shape_fields (Struct shape) = shape.fields
shape_fields (Enum variants) = []

-- The fields of a struct in written order, and none for an enum, whose fields patterns bind.
abbrev pub fields_of : DeriveInput → List Field
fields_of definition = shape_fields definition.shape

-- The keys of the fields of a struct, in written order.
abbrev pub keys_of : DeriveInput → List (List ℕ)
keys_of definition = keys_from 0 (fields_of definition)

-- Each key differs from all that follow it.
abbrev pub AreDifferent : List (List ℕ) → Type 0
AreDifferent [] = Unit {0}
AreDifferent (key ∷ keys) = AllByRecursion (λ later. key ≢ later) keys × AreDifferent keys

-- The number whose decimal digits the text is, where there is one below 2^64.
abbrev pub IsIndexOf : List ℕ → Option ℕ → Type 0
IsIndexOf text None = (n : ℕ) → n < 2 ^ 64 → text ≢ decimal n
IsIndexOf text (Some n) = (n < 2 ^ 64) × (text ≡ decimal n)

-- The text is `0`, or it is not empty and begins neither with `0` nor with `+`.
abbrev pub begins_plain : List ℕ → Bool
begins_plain [] = false
begins_plain (c ∷ []) = not (c == 43)
begins_plain (c ∷ d ∷ cs) = not (c == 48) && not (c == 43)
