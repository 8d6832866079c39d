-- What is made for `Default`.
use Rattle.std.specs.Prelude.{◌≡◌, List, [], ◌∷◌, Option, Some, None}
use Rattle.educe_syntax.specs.DeriveInput.{DeriveInput}
use Rattle.educe_body_items.specs.declared.items.ImplItem.{ImplItem}
use Rattle.educe_body_items.specs.declared.items.Item.{Item}
use Rattle.educe_body_items.specs.declared.items.Item.TheVariants.{New}
use Rattle.educe_body_forms.specs.declared.form.Form.{Form}
use Rattle.educe_settings.specs.Defaults.{Choice, choice_of}
use Rattle.educe_meaning.specs.Making.{IsMaking}

-- The form makes what is chosen.
pub record IsMadeForm (definition : DeriveInput) (form : Form) : Type 0 where
  pub choice : Choice
  pub choice_is : choice_of definition ≡ Some choice
  pub form_is : IsMaking definition choice form

-- The impl that holds `new`, if there is one.
abbrev pub new_items : Option ImplItem → List Item
new_items None = []
new_items (Some item) = New item ∷ []
