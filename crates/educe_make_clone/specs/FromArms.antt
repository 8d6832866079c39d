-- What the arm of a variant in `clone_from` does.
use Rattle.std.specs.Prelude.{◌≡◌, List, [], ◌∷◌, Some}
use Rattle.std.specs.List.{AllZip}
use Rattle.educe_syntax.specs.Ident.{Ident}
use Rattle.educe_syntax.specs.Variant.{Variant}
use Rattle.educe_attrs.specs.FieldSettings.{FieldSettings}
use Rattle.educe_body_forms.specs.declared.form.Form.{Form, IfLet}
use Rattle.educe_body_forms.specs.declared.pattern.Pattern.{Pattern}
use Rattle.educe_meaning.specs.Arms.{IsName, IsPatternBy}
use Rattle.educe_meaning.specs.CloneBodies.{CloneNames, IsThrough, IsWhole}
use Rattle.educe_settings.specs.Settings.{Kept}

-- If the source is of this variant, one step for each of these fields, and else it is cloned as a whole.
pub record IsFromArmBlock (names : CloneNames) (variant : Variant) (all : List FieldSettings) (fields : List Kept) (block : List Form) : Type 0 where
  pub inner : Pattern
  pub inner_is : IsPatternBy names.sources variant all inner
  pub value : Ident
  pub value_is : IsName names.source value
  pub steps : List Form
  pub steps_are : AllZip (IsThrough names) fields steps
  pub whole : Form
  pub whole_is : IsWhole names.source whole
  pub block_is : block ≡ IfLet inner value steps (Some (whole ∷ [])) ∷ []
