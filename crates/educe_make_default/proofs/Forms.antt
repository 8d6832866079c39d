-- What is made, by what is chosen.
use Rattle.std.proofs.Common.{◌≡◌, ℕ, Some, None}
use Rattle.educe_syntax.specs.DeriveInput.{DeriveInput}
use Rattle.educe_syntax.specs.Expr.{Expr}
use Rattle.educe_syntax.specs.FieldShape.{FieldShape}
use Rattle.educe_syntax.specs.Variant.{Variant}
use Rattle.educe_attrs.specs.Adjusted.{adjusted}
use Rattle.educe_body_forms.specs.declared.form.Form.{Form}
use Rattle.educe_settings.specs.Defaults.{by_value, of_struct, of_variant, choice_of}
use Rattle.educe_meaning.specs.Making.{IsPasted, IsConstruct}
use Rattle.educe_make_default.specs.MadeForms.{IsMadeForm}

-- the value that the type says
pub value_made : (d : DeriveInput) (said : Expr) (form : Form) → choice_of d ≡ Some (by_value said) → IsPasted (adjusted said.written None) form → IsMadeForm d form
value_made d said form is pasted = record { choice = by_value said; choice_is = is; form_is = pasted }

-- a struct
pub struct_made : (d : DeriveInput) (shape : FieldShape) (form : Form) → choice_of d ≡ Some (of_struct shape) → IsConstruct d None shape form → IsMadeForm d form
struct_made d shape form is constructs = record { choice = of_struct shape; choice_is = is; form_is = constructs }

-- a variant
pub variant_made : (d : DeriveInput) (place : ℕ) (v : Variant) (form : Form) → choice_of d ≡ Some (of_variant place v) → IsConstruct d (Some v.ident.text) v.fields form → IsMadeForm d form
variant_made d place v form is constructs = record { choice = of_variant place v; choice_is = is; form_is = constructs }
