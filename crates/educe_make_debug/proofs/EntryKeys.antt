-- The keys of entries, and the calls that begin a builder, by how a case is shown.
use Rattle.std.proofs.Common.{◌≡◌, ℕ, Bool, true, false, List, [], ◌∷◌, refl}
use Rattle.educe_syntax.specs.Ident.{Ident}
use Rattle.educe_attrs.specs.FieldSettings.{FieldSettings}
use Rattle.educe_body_forms.specs.declared.literal_text.LiteralText.{LiteralText}
use Rattle.educe_body_forms.specs.declared.shown.EntryKey.TheVariants.{Named, Mapped}
use Rattle.educe_body_forms.specs.declared.shown.Opening.TheVariants.{Struct, Tuple}
use Rattle.educe_meaning.specs.Arms.{IsName}
use Rattle.educe_settings.specs.Settings.{Kept}
use Rattle.educe_meaning.specs.Showing.{form_by, key_text}
use Rattle.educe_meaning.specs.ShownBodies.{DebugNames, IsEntryKey, IsOpening}
use Rattle.educe_make_debug.specs.Texts.{is_shown, key_with}

module _ (names : DebugNames) (settings : FieldSettings) (kept : Kept) (literal : LiteralText) (is : literal.text ≡ key_text settings.values.name kept.place kept.field) where
  -- the key where the names of fields and a name of the case are shown
  pub named_key : (unit named : Bool) (name : List ℕ) → unit ≡ false → named ≡ true → is_shown name ≡ true → IsEntryKey names (form_by unit named name) (key_with named settings kept) (Named literal)
  named_key true named name no_unit has_names shown = absurd (cc)
  named_key false false name no_unit has_names shown = absurd (cc)
  named_key false true [] no_unit has_names shown = absurd (cc)
  named_key false true (c ∷ name) no_unit has_names shown = (literal, record { is = is }, refl)

  -- and where no name of the case is
  pub mapped_key : (unit named : Bool) (name : List ℕ) (helper : Ident) → unit ≡ false → named ≡ true → is_shown name ≡ false → IsName names.helper helper
      → IsEntryKey names (form_by unit named name) (key_with named settings kept) (Mapped helper literal)
  mapped_key true named name helper no_unit has_names shown helper_is = absurd (cc)
  mapped_key false false name helper no_unit has_names shown helper_is = absurd (cc)
  mapped_key false true [] helper no_unit has_names shown helper_is = (helper, literal, helper_is, record { is = is }, refl)
  mapped_key false true (c ∷ name) helper no_unit has_names shown helper_is = absurd (cc)

module _ (literal : LiteralText) where
  -- the call that begins a tuple
  pub tuple_opening : (unit named : Bool) (name : List ℕ) → unit ≡ false → named ≡ false → literal.text ≡ name → IsOpening (form_by unit named name) name (Tuple literal)
  tuple_opening true named name no_unit no_names is = absurd (cc)
  tuple_opening false true name no_unit no_names is = absurd (cc)
  tuple_opening false false name no_unit no_names is = (literal, record { is = is }, refl)

  -- and a struct
  pub struct_opening : (unit named : Bool) (name : List ℕ) → unit ≡ false → named ≡ true → is_shown name ≡ true → literal.text ≡ name → IsOpening (form_by unit named name) name (Struct literal)
  struct_opening true named name no_unit has_names shown is = absurd (cc)
  struct_opening false false name no_unit has_names shown is = absurd (cc)
  struct_opening false true [] no_unit has_names shown is = absurd (cc)
  struct_opening false true (c ∷ name) no_unit has_names shown is = (literal, record { is = is }, refl)
