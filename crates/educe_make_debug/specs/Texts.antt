-- The names that are shown.
use Rattle.std.specs.Prelude.{ℕ, Bool, true, false, List, [], ◌∷◌}
use Rattle.educe_attrs.specs.FieldSettings.{FieldSettings}
use Rattle.educe_attrs.specs.declared.debug.TypeName.{TypeName}
use Rattle.educe_attrs.specs.declared.debug.TypeName.TheVariants as type_name
use Rattle.educe_settings.specs.Settings.{Kept}
use Rattle.educe_meaning.specs.Showing.{key_text}

-- With true the own name, where nothing is said, and else none.
abbrev pub plain_name : Bool → TypeName
plain_name false = type_name.Disable
plain_name true = type_name.Default

-- A name is shown where its text is not empty.
abbrev pub is_shown : List ℕ → Bool
is_shown [] = false
is_shown (c ∷ name) = true

-- The text of the name of a field with these settings, where names of fields are shown; else none.
abbrev pub key_with : Bool → FieldSettings → Kept → List ℕ
key_with false settings kept = []
key_with true settings kept = key_text settings.values.name kept.place kept.field
