-- What forms are printed as, spans aside: one equation for each form.
use Rattle.std.specs.Prelude.{Bool, true, false, List, Option, Some, None, codes}
use Rattle.std.specs.declared.cmp.Ordering.{Ordering}
use Rattle.std.specs.declared.cmp.Ordering.TheVariants.{Less, Equal, Greater}
use Rattle.std.proofs.Common.{refl}
use Rattle.educe_tokens.specs.declared.word.Word.{Word}
use Rattle.educe_tokens.specs.declared.written.Written.{Written}
use Rattle.educe_tokens.specs.Lexes.{Lexeme}
use Rattle.educe_tree.specs.declared.data.FieldForm.{FieldForm}
use Rattle.educe_tree.specs.declared.data.FieldForm.TheVariants.{Named, Unnamed, Unit}
use Rattle.educe_tree.specs.declared.expr.Expr.{Expr}
use Rattle.educe_tree.specs.declared.ident.Ident.{Ident}
use Rattle.educe_discriminants.specs.declared.discriminant_type.DiscriminantType.{DiscriminantType}
use Rattle.educe_body_forms.specs.declared.form.Known.{Known}
use Rattle.educe_body_forms.specs.declared.form.Known.TheVariants.{Truth, Order, PartialOrder}
use Rattle.educe_body_forms.specs.declared.form.Form.{Form, Local, Reference, BracedCopy, Key, Call', Not', IfReturn', Return', SomeOf', MatchOrdering', MatchValue', IfLet', KeyFunction, Block', HashPart', Construct', Pasted, WholeCopy, Unreachable, Discard, AssignField', AssignThrough', WriteText, HelperType, Builder, BuilderEntry', MethodArgument', Finish, Row_of-Form, end_of-Form, more_of-Form, Row_of-Arm, end_of-Arm, more_of-Arm, Row_of-Init, end_of-Init, more_of-Init, Held-Form-MatchOrdering-2, None', Some'}
use Rattle.educe_body_forms.specs.declared.form.Form as form
use Rattle.educe_body_forms.specs.declared.form.Arm.{Arm}
use Rattle.educe_body_forms.specs.declared.form.Init.{Init}
use Rattle.educe_body_forms.specs.declared.key_function.Constant.{Constant}
use Rattle.educe_body_forms.specs.declared.key_function.Distance.{Distance}
use Rattle.educe_body_forms.specs.declared.key_function.KeyArm.{KeyArm}
use Rattle.educe_body_forms.specs.declared.pattern.Pattern.{Pattern}
use Rattle.educe_body_forms.specs.declared.pattern.PatternField.{PatternField}
use Rattle.educe_body_forms.specs.declared.position.Position.{Position}
use Rattle.educe_body_forms.specs.Printouts.{Printout, nothing, says, name, word, written, primitive, steps, place, ◌beside◌, each, in_round, in_curly}
use Rattle.educe_body_forms.specs.ShownPrintouts.{literal_printout, write_str_printout, helper_printout, builder_printout, entry_printout, method_argument, finish_printout}

-- ---- forms

-- The printout of the path of an order.
abbrev pub order_printout : Ordering → Printout
order_printout Less = says (codes ":: core :: cmp :: Ordering :: Less") refl
order_printout Equal = says (codes ":: core :: cmp :: Ordering :: Equal") refl
order_printout Greater = says (codes ":: core :: cmp :: Ordering :: Greater") refl

-- A printout in `Some`.
abbrev pub in_some : Printout → Printout
in_some inside = says (codes ":: core :: option :: Option :: Some") refl beside in_round inside

-- The answer of a match: with true that of `PartialOrd`, whose orders stand in `Some`.
abbrev pub answer_printout : Bool → Ordering → Printout
answer_printout false o = order_printout o
answer_printout true o = in_some (order_printout o)

-- `pattern => return order ,`.
abbrev pub returning_arm : Bool → Ordering → Ordering → Printout
returning_arm partial pattern o = answer_printout partial pattern beside says (codes "=> return") refl beside answer_printout partial o beside says (codes ",") refl

-- The arm for no order, which `PartialOrd` has.
abbrev pub none_arm : Bool → Printout
none_arm false = nothing
none_arm true = says (codes ":: core :: option :: Option :: None => return :: core :: option :: Option :: None ,") refl

-- The arms of a step: Equal goes on, the others return.
abbrev pub step_arms : Bool → Ordering → Ordering → Printout
step_arms partial greater less =
    answer_printout partial Equal beside says (codes "=> ( ) ,") refl
    beside returning_arm partial Greater greater beside returning_arm partial Less less beside none_arm partial

-- An order that an arm gives: `partial_cmp` gives it in `Some`, in a block.
abbrev pub given_printout : Bool → Ordering → Printout
given_printout false o = order_printout o
given_printout true o = in_curly (in_some (order_printout o))

-- `pattern => order ,`.
abbrev pub giving_arm : Bool → Ordering → Ordering → Printout
giving_arm partial pattern o = order_printout pattern beside says (codes "=>") refl beside given_printout partial o beside says (codes ",") refl

-- `Equal => block ,`.
abbrev pub equal_arm : Printout → Printout
equal_arm block = order_printout Equal beside says (codes "=>") refl beside block beside says (codes ",") refl

-- The arms for the other orders.
abbrev pub other_arms : Bool → Ordering → Ordering → Printout
other_arms partial greater less = giving_arm partial Greater greater beside giving_arm partial Less less

-- The arms of a match on an order, with this block for Equal.
abbrev pub block_arms : Bool → Printout → Ordering → Ordering → Printout
block_arms partial block greater less = equal_arm block beside other_arms partial greater less

-- The printout of an answer that a body names itself.
abbrev pub known_printout : Known → Printout
known_printout (Truth true) = says (codes "true") refl
known_printout (Truth false) = says (codes "false") refl
known_printout (Order o) = order_printout o
known_printout (PartialOrder None) = says (codes ":: core :: option :: Option :: None") refl
known_printout (PartialOrder (Some o)) = in_some (order_printout o)

-- ---- patterns

-- The name that a field is bound to, or `_`.
abbrev pub binding_printout : Option Ident → Printout
binding_printout None = says (codes "_") refl
binding_printout (Some ident) = name ident

-- `key :`, where the field has a name.
abbrev pub key_printout : Option Word → Printout
key_printout None = nothing
key_printout (Some key) = word key beside says (codes ":") refl

-- `key : value ,`, or where the field has no name `value ,`.
abbrev pub keyed : Option Word → Printout → Printout
keyed key value = key_printout key beside value beside says (codes ",") refl

-- `key : name ,`, or where the field has no name `name ,`.
abbrev pub field_printout : PatternField → Printout
field_printout field = keyed field.key (binding_printout field.name)

-- The fields of a pattern, or `..`.
abbrev pub fields_printout : Bool → List PatternField → Printout
fields_printout true fields = says (codes "..") refl
fields_printout false fields = each field_printout fields

-- What stands in the brackets of a variant, with them; a unit variant has none.
abbrev pub in_form : FieldForm → Printout → Printout
in_form Named inside = in_curly inside
in_form Unnamed inside = in_round inside
in_form Unit inside = nothing

-- `Self :: V { a : name , b : _ , }`, `Self :: V ( name , _ , )`, `Self :: V`, and with `..` in place of the fields.
abbrev pub pattern_printout : Pattern → Printout
pattern_printout pattern =
    says (codes "Self ::") refl beside name pattern.variant beside in_form pattern.form (fields_printout pattern.rest pattern.fields)

-- ---- key functions

-- `let base : D`.
abbrev pub typed_base : Distance → Printout
typed_base distance = says (codes "let") refl beside name distance.base beside says (codes ":") refl beside primitive distance.ty

-- `let base : D = e ;`.
abbrev pub base_printout : Expr → Distance → Printout
base_printout value distance = typed_base distance beside says (codes "=") refl beside written value.written beside says (codes ";") refl

-- `3usize as D`.
abbrev pub typed_steps : Distance → Printout
typed_steps distance = steps distance beside says (codes "as") refl beside primitive distance.ty

-- `base . wrapping_add ( 3usize as D )`.
abbrev pub sum_printout : Distance → Printout
sum_printout distance = name distance.base beside says (codes ". wrapping_add") refl beside in_round (typed_steps distance)

-- What stands in a constant's block: the expression, or its value's declaration and the sum with the distance.
abbrev pub constant_inside : Expr → Option Distance → Printout
constant_inside value None = written value.written
constant_inside value (Some distance) = base_printout value distance beside sum_printout distance

-- `const { e }`, or with a distance `const { let base : D = e ; base . wrapping_add ( 3usize as D ) }`.
abbrev pub constant_printout : Constant → Printout
constant_printout constant = says (codes "const") refl beside in_curly (constant_inside constant.value constant.distance)

-- `pattern => const { .. } ,`.
abbrev pub key_arm_printout : KeyArm → Printout
key_arm_printout arm = pattern_printout arm.pattern beside says (codes "=>") refl beside constant_printout arm.constant beside says (codes ",") refl

-- `match this { arms }`.
abbrev pub match_printout : Ident → List KeyArm → Printout
match_printout this arms = says (codes "match") refl beside name this beside in_curly (each key_arm_printout arms)

-- `| this : & Self | -> D`.
abbrev pub signature_printout : Ident → DiscriminantType → Printout
signature_printout this ty = says (codes "|") refl beside name this beside says (codes ": & Self | ->") refl beside primitive ty

-- `| this : & Self | -> D { match this { arms } }`.
abbrev pub closure_printout : Ident → DiscriminantType → List KeyArm → Printout
closure_printout this ty arms = signature_printout this ty beside in_curly (match_printout this arms)

-- `let function = | this : & Self | -> D { match this { arms } } ;`.
abbrev pub key_function_printout : Ident → Ident → DiscriminantType → List KeyArm → Printout
key_function_printout function this ty arms =
    says (codes "let") refl beside name function beside says (codes "=") refl beside closure_printout this ty arms beside says (codes ";") refl

-- `if let pattern = name`.
abbrev pub if_let_head : Pattern → Ident → Printout
if_let_head pattern value = says (codes "if let") refl beside pattern_printout pattern beside says (codes "=") refl beside name value

-- `if let pattern = name`, and this block.
abbrev pub if_let_printout : Pattern → Ident → Printout → Printout
if_let_printout pattern value block = if_let_head pattern value beside block

-- `else`, and this block.
abbrev pub else_printout : Printout → Printout
else_printout block = says (codes "else") refl beside block

-- `base . field`.
abbrev pub place_printout : Ident → Word → Printout
place_printout base field = name base beside says (codes ".") refl beside word field

-- `& 3usize`.
abbrev pub position_printout : Position → Printout
position_printout position = says (codes "&") refl beside place position

-- `Self`, or `Self :: V`.
abbrev pub self_printout : Option Ident → Printout
self_printout None = says (codes "Self") refl
self_printout (Some variant) = says (codes "Self ::") refl beside name variant

-- A value that is built, of this form with these fields.
abbrev pub construct_printout : Option Ident → FieldForm → Printout → Printout
construct_printout variant form inside = self_printout variant beside in_form form inside

-- `let _ = name ;`.
abbrev pub discard_printout : Ident → Printout
discard_printout ident = says (codes "let _ =") refl beside name ident beside says (codes ";") refl

-- `= path ( value ) ;`.
abbrev pub result_printout : Written → Printout → Printout
result_printout path value = says (codes "=") refl beside written path beside in_round value beside says (codes ";") refl

-- `( place , value )`.
abbrev pub place_and_value : Printout → Printout → Printout
place_and_value place value = in_round (place beside says (codes ",") refl beside value)

-- `path ( place , value ) ;`.
abbrev pub handed_printout : Printout → Written → Printout → Printout
handed_printout place path value = written path beside place_and_value place value beside says (codes ";") refl

-- `self . key`.
abbrev pub own_field_printout : Word → Printout
own_field_printout key = says (codes "self .") refl beside word key

-- `& mut self . key`.
abbrev pub lent_field_printout : Word → Printout
lent_field_printout key = says (codes "& mut") refl beside own_field_printout key

-- An assignment to a field of `self`: `self . key = path ( x ) ;`, or with true, where the call is handed the field, `path ( &
-- mut self . key , x ) ;`.
abbrev pub field_assignment : Bool → Word → Written → Printout → Printout
field_assignment false key path value = own_field_printout key beside result_printout path value
field_assignment true key path value = handed_printout (lent_field_printout key) path value

-- An assignment through a name: `* name = path ( x ) ;`, or with true, where the call is handed the name, `path ( name , x ) ;`.
abbrev pub through_assignment : Bool → Ident → Written → Printout → Printout
through_assignment false target path value = says (codes "*") refl beside name target beside result_printout path value
through_assignment true target path value = handed_printout (name target) path value

-- ---- arms

-- The block of an arm: with true in curly brackets.
abbrev pub in_braces : Bool → Printout → Printout
in_braces false inside = inside
in_braces true inside = in_curly inside

-- What stands behind the block of an arm: with true a comma, and else nothing.
abbrev pub comma_where : Bool → Printout
comma_where false = nothing
comma_where true = says (codes ",") refl

-- ---- forms that hold forms

abbrev mutual
  -- A form as it is printed: one equation for each form.
  pub form_printout : Form → Printout
  form_printout (Local ident) = name ident
  form_printout (form.Known known) = known_printout known
  form_printout (Reference base field) = says (codes "&") refl beside place_printout base field
  form_printout (BracedCopy base field) = says (codes "&") refl beside in_curly (place_printout base field)
  form_printout (Key function value) = says (codes "&") refl beside name function beside in_round (name value)
  form_printout (Call' path shape args) = written path.written beside in_round (arguments args)
  form_printout (Not' shape inner) = says (codes "!") refl beside boxed inner
  form_printout (SomeOf' shape inner) = in_some (boxed inner)
  form_printout (MatchOrdering' shape matched partial held greater less) = says (codes "match") refl beside boxed matched beside in_curly (order_arms partial held greater less)
  form_printout (MatchValue' value shape arms) = says (codes "match") refl beside name value beside in_curly (arms_in_a_row arms)
  form_printout (IfLet' pattern value shape forms held) = if_let_printout pattern value (in_curly (in_a_row forms)) beside else_part held
  form_printout (KeyFunction function this ty arms) = key_function_printout function this ty arms
  form_printout (IfReturn' shape test) = says (codes "if") refl beside boxed test beside says (codes "{ return false ; }") refl
  form_printout (Return' shape inner) = says (codes "return") refl beside boxed inner beside says (codes ";") refl
  form_printout (Block' shape forms) = in_curly (in_a_row forms)
  form_printout (HashPart' shape inner) = boxed inner beside says (codes ";") refl
  form_printout (form.Position position) = position_printout position
  form_printout (Construct' variant form shape inits) = construct_printout variant form (inits_in_a_row inits)
  form_printout (Pasted tokens) = written tokens
  form_printout WholeCopy = says (codes "* self") refl
  form_printout Unreachable = says (codes ":: core :: unreachable ! ( )") refl
  form_printout (Discard ident) = discard_printout ident
  form_printout (AssignField' key path shape inner handed) = field_assignment handed key path.written (boxed inner)
  form_printout (AssignThrough' target path shape inner handed) = through_assignment handed target path.written (boxed inner)
  form_printout (WriteText formatter text) = write_str_printout formatter (literal_printout text)
  form_printout (HelperType helper formatter) = helper_printout helper formatter
  form_printout (Builder builder formatter opening) = builder_printout builder formatter opening
  form_printout (BuilderEntry' builder key shape inner by_reference) = entry_printout builder key by_reference (boxed inner)
  form_printout (MethodArgument' names shape inner ty path) = method_argument names (boxed inner) ty path.written
  form_printout (Finish builder) = finish_printout builder

  -- The printout of the one form that a box holds.
  pub boxed : {m : _} → Row_of-Form m → Printout
  boxed end_of-Form = nothing
  boxed (more_of-Form x rest) = form_printout x

  -- The printout of forms behind one another.
  pub in_a_row : {m : _} → Row_of-Form m → Printout
  in_a_row end_of-Form = nothing
  in_a_row (more_of-Form x rest) = form_printout x beside in_a_row rest

  -- The arms of a match on an order: with a block for Equal, or those of a step.
  pub order_arms : Bool → Held-Form-MatchOrdering-2 → Ordering → Ordering → Printout
  order_arms partial None' greater less = step_arms partial greater less
  order_arms partial (Some' shape forms) greater less = block_arms partial (in_curly (in_a_row forms)) greater less

  -- `else { forms }`, if there are any.
  pub else_part : Held-Form-MatchOrdering-2 → Printout
  else_part None' = nothing
  else_part (Some' shape forms) = else_printout (in_curly (in_a_row forms))

  -- For each arm `pattern => forms`, with or without braces around the forms and a comma behind them.
  pub arms_in_a_row : {m : _} → Row_of-Arm m → Printout
  arms_in_a_row end_of-Arm = nothing
  arms_in_a_row (more_of-Arm pattern braced comma shape forms rest) =
      pattern_printout pattern beside says (codes "=>") refl beside in_braces braced (in_a_row forms) beside comma_where comma beside arms_in_a_row rest

  -- `key : value ,` for each field.
  pub inits_in_a_row : {m : _} → Row_of-Init m → Printout
  inits_in_a_row end_of-Init = nothing
  inits_in_a_row (more_of-Init key value rest) = keyed key (form_printout value) beside inits_in_a_row rest

  -- The printout of forms with commas between.
  pub arguments : {m : _} → Row_of-Form m → Printout
  arguments end_of-Form = nothing
  arguments (more_of-Form x rest) = form_printout x beside behind_comma rest

  -- The printout of forms with a comma before each.
  pub behind_comma : {m : _} → Row_of-Form m → Printout
  behind_comma end_of-Form = nothing
  behind_comma (more_of-Form x rest) = says (codes ",") refl beside form_printout x beside behind_comma rest

-- The arms of a match on an order in curly brackets: those of a step, or with a block for Equal.
abbrev pub arms_with : Bool → Option (List Form) → Ordering → Ordering → Printout
arms_with partial None greater less = in_curly (step_arms partial greater less)
arms_with partial (Some block) greater less = in_curly (block_arms partial (in_curly (each form_printout block)) greater less)

-- `else { forms }`, if there are any.
abbrev pub else_with : Option (List Form) → Printout
else_with None = nothing
else_with (Some forms) = else_printout (in_curly (each form_printout forms))

-- The printout of one arm of a match on a value, with or without braces around its forms and a comma behind them.
abbrev pub arm_printout : Arm → Printout
arm_printout arm =
    pattern_printout arm.pattern beside says (codes "=>") refl beside in_braces arm.braced (each form_printout arm.block) beside comma_where arm.comma

-- `match name { arms }`.
abbrev pub match_value_printout : Ident → List Arm → Printout
match_value_printout value arms = says (codes "match") refl beside name value beside in_curly (each arm_printout arms)

-- The printout of one field of a value that is built.
abbrev pub init_printout : Init → Printout
init_printout init = keyed init.key (form_printout init.value)

-- The tokens of one form.
abbrev pub form_lexemes : Form → List Lexeme
form_lexemes form = (form_printout form).tokens
