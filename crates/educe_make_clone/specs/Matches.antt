-- Blocks that match on the value of `self`.
use Rattle.std.specs.Prelude.{◌≡◌, List, [], ◌∷◌, codes}
use Rattle.educe_syntax.specs.Ident.{Ident}
use Rattle.educe_body_forms.specs.declared.form.Arm.{Arm}
use Rattle.educe_body_forms.specs.declared.form.Form.{Form, MatchValue}
use Rattle.educe_meaning.specs.Arms.{IsName}

-- A match on the value of `self` with these arms.
pub record IsMatchOf (arms : List Arm) (block : List Form) : Type 0 where
  pub value : Ident
  pub value_is : IsName (codes "self") value
  pub block_is : block ≡ MatchValue value arms ∷ []
