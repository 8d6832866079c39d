-- The forms on a field with a method.
use Rattle.std.specs.Prelude.{◌≡◌, ℕ, true, List, [], ◌∷◌}
use Rattle.educe_syntax.specs.ExprPath.{ExprPath}
use Rattle.educe_syntax.specs.Field.{Field}
use Rattle.educe_syntax.specs.Ident.{Ident}
use Rattle.educe_body_forms.specs.declared.form.Form.{Form, Local}
use Rattle.educe_body_values.specs.declared.shape.ShapeForm.{ShapeForm}
use Rattle.educe_meaning.specs.Arms.{IsName}
use Rattle.educe_meaning.specs.ShownBodies.{DebugNames, IsArgument, IsEntry}

-- The argument of the method on what a form gives, and the entry of the argument.
pub record AreArgued (names : DebugNames) (form : ShapeForm) (text : List ℕ) (field : Field) (path : ExprPath) (held : Form) (forms : List Form) : Type 0 where
  pub argument : Form
  pub argument_is : IsArgument names field path held argument
  pub local : Ident
  pub local_is : IsName names.argument local
  pub entry : Form
  pub entry_is : IsEntry names form text true (Local local) entry
  pub are : forms ≡ argument ∷ entry ∷ []
