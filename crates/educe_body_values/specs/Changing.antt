-- Whether forms are there for what they do to `self`: an assignment, or a discard, stands in them at any depth.
use Rattle.std.specs.Prelude.{Bool, true, false, ◌||◌, List, Option, Some, None}
use Rattle.std.specs.List.{list_any}
use Rattle.educe_body_forms.specs.declared.form.Form.{Form, Call', Not', IfReturn', Return', SomeOf', MatchOrdering', MatchValue', IfLet', Block', HashPart', Construct', Discard, AssignField', AssignThrough', BuilderEntry', MethodArgument', Row_of-Form, end_of-Form, more_of-Form, Row_of-Arm, end_of-Arm, more_of-Arm, Row_of-Init, end_of-Init, more_of-Init, Held-Form-MatchOrdering-2, None', Some'}
use Rattle.educe_body_forms.specs.declared.form.Arm.{Arm}
use Rattle.educe_body_forms.specs.declared.form.Init.{Init}

abbrev mutual
  -- An assignment to a field of `self` or through a name, or a discard, stands in the form at any depth.
  pub assigns : Form → Bool
  assigns (Call' path shape arguments) = row_assigns arguments
  assigns (Not' shape inner) = row_assigns inner
  assigns (SomeOf' shape inner) = row_assigns inner
  assigns (IfReturn' shape test) = row_assigns test
  assigns (Return' shape inner) = row_assigns inner
  assigns (MatchOrdering' shape matched partial held above below) = row_assigns matched || held_assigns held
  assigns (MatchValue' name shape arms) = arms_assign arms
  assigns (IfLet' pattern name shape row held) = row_assigns row || held_assigns held
  assigns (Block' shape forms) = row_assigns forms
  assigns (HashPart' shape inner) = row_assigns inner
  assigns (Construct' name written shape inits) = inits_assign inits
  assigns (Discard name) = true
  assigns (AssignField' key path shape inner handed) = true
  assigns (AssignThrough' name path shape inner handed) = true
  assigns (BuilderEntry' builder key shape inner by_reference) = row_assigns inner
  assigns (MethodArgument' own shape inner ty path) = row_assigns inner
  assigns form = false

  -- In one of the forms.
  pub row_assigns : {m : _} → Row_of-Form m → Bool
  row_assigns end_of-Form = false
  row_assigns (more_of-Form x rest) = assigns x || row_assigns rest

  -- In a block that may be missing.
  pub held_assigns : Held-Form-MatchOrdering-2 → Bool
  held_assigns None' = false
  held_assigns (Some' shape row) = row_assigns row

  -- In the block of one of the arms.
  pub arms_assign : {m : _} → Row_of-Arm m → Bool
  arms_assign end_of-Arm = false
  arms_assign (more_of-Arm pattern braced comma shape row rest) = row_assigns row || arms_assign rest

  -- In one of the initializers.
  pub inits_assign : {m : _} → Row_of-Init m → Bool
  inits_assign end_of-Init = false
  inits_assign (more_of-Init key x rest) = assigns x || inits_assign rest

-- In one of the forms of a list.
abbrev pub any_assigns : List Form → Bool
any_assigns forms = list_any assigns forms

-- In a list of forms, where there is one.
abbrev pub others_assign : Option (List Form) → Bool
others_assign None = false
others_assign (Some forms) = any_assigns forms

-- In the block of one of the arms of a list.
abbrev pub arms_assigning : List Arm → Bool
arms_assigning arms = list_any (λ arm. any_assigns arm.block) arms

-- In one of the initializers of a list.
abbrev pub inits_assigning : List Init → Bool
inits_assigning inits = list_any (λ init. assigns init.value) inits
