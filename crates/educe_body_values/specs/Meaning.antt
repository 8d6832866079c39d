-- What a body evaluates to, over an environment from names to values: a value, a return, or nothing.
use Rattle.std.specs.Prelude.{ℕ, zero, suc, ℤ, ◌+◌, ◌-◌, ◌^◌, pos, length, take, map, slice_get, Bool, true, false, not, List, [], ◌∷◌, ◌++◌, Option, Some, None, is_none, if◌then◌else◌, codes}
use Rattle.std.specs.List.{filter}
use Rattle.std.specs.Option.{option_copied, option_map, option_and_then}
use Rattle.std.specs.Ordering.{int_cmp}
use Rattle.std.specs.Str.{bytes_eq}
use Rattle.std.specs.declared.cmp.Ordering.{Ordering}
use Rattle.std.specs.declared.cmp.Ordering.TheVariants.{Less, Equal, Greater}
use Rattle.educe_tree.specs.declared.data.Field.{Field}
use Rattle.educe_tree.specs.declared.derive.DeriveInput.{DeriveInput}
use Rattle.educe_tree.specs.declared.expr.ExprPath.{ExprPath}
use Rattle.educe_tree.specs.declared.ident.Ident.{Ident}
use Rattle.educe_tokens.specs.declared.word.Word.{Word}
use Rattle.educe_tokens.specs.declared.written.Written.{Written}
use Rattle.educe_body_values.specs.declared.value.FieldValue.{FieldValue}
use Rattle.educe_body_values.specs.declared.value.Value.{Value}
use Rattle.educe_body_values.specs.declared.callee.Callee.{Callee}
use Rattle.educe_body_values.specs.declared.callee.Callee.TheVariants.{Cmp, Hash}
use Rattle.educe_body_values.specs.declared.answers.Answer.{Answer}
use Rattle.educe_body_values.specs.declared.answers.Answer.TheVariants.{Truth as AnswerTruth, Order as AnswerOrder, PartialOrder as AnswerPartialOrder, Number as AnswerNumber, Part as AnswerPart, Made as AnswerMade}
use Rattle.educe_body_values.specs.declared.answers.Answers.{Answers}
use Rattle.educe_body_forms.specs.declared.form.Known.{Known}
use Rattle.educe_body_forms.specs.declared.form.Known.TheVariants.{Truth as KnownTruth, Order as KnownOrder, PartialOrder as KnownPartialOrder}
use Rattle.educe_body_forms.specs.declared.form.Form.{Form, Local, Reference, BracedCopy, Key, Call', Not', IfReturn', Return', SomeOf', MatchOrdering', MatchValue', IfLet', KeyFunction, Block', HashPart', Construct', Pasted, WholeCopy, Unreachable, Discard, AssignField', AssignThrough', WriteText, HelperType, Builder, BuilderEntry', MethodArgument', Finish, Row_of-Form, end_of-Form, more_of-Form, Row_of-Arm, end_of-Arm, more_of-Arm, Row_of-Init, end_of-Init, more_of-Init, Held-Form-MatchOrdering-2, None', Some'}
use Rattle.educe_body_forms.specs.declared.form.Form as form
use Rattle.educe_body_forms.specs.declared.form.Arm.{Arm}
use Rattle.educe_body_forms.specs.declared.form.Init.{Init}
use Rattle.educe_body_forms.specs.declared.key_function.KeyArm.{KeyArm}
use Rattle.educe_body_forms.specs.declared.shown.ArgumentNames.{ArgumentNames}
use Rattle.educe_body_forms.specs.declared.shown.EntryKey.{EntryKey}
use Rattle.educe_body_forms.specs.declared.shown.EntryKey.TheVariants.{Unnamed, Named, Mapped}
use Rattle.educe_body_forms.specs.declared.shown.Opening.{Opening}
use Rattle.educe_body_forms.specs.declared.shown.Opening.TheVariants.{Struct as OpenStruct, Tuple as OpenTuple, Map as OpenMap}
use Rattle.educe_body_forms.specs.declared.pattern.Pattern.{Pattern}
use Rattle.educe_body_forms.specs.declared.body.Body.{Body}
use Rattle.educe_body_values.specs.declared.outcome.Outcome.{Outcome}
use Rattle.educe_body_values.specs.declared.outcome.Outcome.TheVariants.{Truth as OutcomeTruth, Order as OutcomeOrder, PartialOrder as OutcomePartialOrder, Parts as OutcomeParts, Made as OutcomeMade, Whole as OutcomeWhole, Shape as OutcomeShape, Stuck as OutcomeStuck}
use Rattle.educe_body_values.specs.declared.environment.Scope.{Scope}
use Rattle.educe_body_values.specs.declared.shape.DebugShape.{DebugShape}
use Rattle.educe_body_values.specs.declared.shape.Entry.{Entry}
use Rattle.educe_body_values.specs.declared.shape.ShapeForm.{ShapeForm}
use Rattle.educe_body_values.specs.declared.shape.ShapeForm.TheVariants as shape
use Rattle.educe_body_values.specs.declared.stage.Stage.{Stage}
use Rattle.educe_body_values.specs.declared.environment.Referent.{Referent}
use Rattle.educe_body_values.specs.declared.environment.Referent.TheVariants.{This, Other, OwnField, Bound, Keys, BuilderName, Helper, Argument, Inert}
use Rattle.educe_body_values.specs.declared.environment.Own.{Own}
use Rattle.educe_body_values.specs.declared.environment.Own.TheVariants as own
use Rattle.educe_body_values.specs.declared.environment.Binding.{Binding}
use Rattle.educe_body_values.specs.declared.environment.ArgumentMade.{ArgumentMade}
use Rattle.educe_body_values.specs.declared.environment.Env.{Env}
use Rattle.educe_body_values.specs.declared.flow.Thing.{Thing}
use Rattle.educe_body_values.specs.declared.flow.Thing.TheVariants.{Nothing, Truth, Order, PartialOrder, Part, Number, Position, Hashed, Made, Built, Argument as ArgumentThing, Shown, Inert as InertThing}
use Rattle.educe_body_values.specs.declared.flow.Flow.{Flow}
use Rattle.educe_body_values.specs.declared.flow.Flow.TheVariants.{Gives, Returns, Stuck}
use Rattle.educe_body_values.specs.Answering.{answer_of}
use Rattle.educe_body_values.specs.Callees.{text_of_path}
use Rattle.educe_body_values.specs.Cases.{case_named}
use Rattle.educe_body_values.specs.Changing.{any_assigns}
use Rattle.educe_body_values.specs.Constants.{key_number}
use Rattle.educe_body_forms.specs.Keys.{keys_of}
use Rattle.educe_body_values.specs.Matching.{has_key, fits, bindings_of}
use Rattle.educe_body_values.specs.Scoping.{callee_in, names_bound}
use Rattle.educe_body_values.specs.Types.{pasted_callee}

-- What forms are evaluated over: the definition, the value of `self` as the body begins and that of the parameter, the table, and in an
-- initializer its field.
pub record Scene : Type 0 where
  pub definition : DeriveInput
  pub this : Option Value
  pub other : Option Value
  pub answers : Answers
  pub field : Option Field

-- The values that a scope refers to, and the table; no initializer is evaluated.
abbrev pub scene : Scope → Answers → Scene
scene scope answers = record {
  definition = scope.ast.now;
  this = option_copied scope.this;
  other = option_copied scope.other;
  answers = answers;
  field = None;
}

-- The values that a stage refers to, and the table; the stage may be in an initializer.
abbrev pub scene_at : Stage → Scene
scene_at stage = record (scene stage.scope.now stage.answers.now) { field = option_copied stage.field }

-- The values and the table where the initializer of this field is evaluated.
abbrev pub for_field : Scene → Field → Scene
for_field scene field = record scene { field = Some field }

-- ---- names

-- What an inner binding gives, or else an outer one.
abbrev pub innermost : Option Referent → Option Referent → Option Referent
innermost outer None = outer
innermost outer (Some inner) = Some inner

-- What a name stands for: the innermost binding, which is the last, counts.
abbrev pub look_up : List Binding → List ℕ → Option Referent
look_up [] name = None
look_up (b ∷ bs) name = innermost (if bytes_eq b.name name then Some b.referent else None) (look_up bs name)

-- ---- `self`

-- The value of `self`, as long as its fields are known.
abbrev pub own_value : Option Own → Option Value
own_value None = None
own_value (Some (own.Value value)) = Some value
own_value (Some (own.Whole x)) = None

-- The value of `self` as a body begins.
abbrev pub first_own : Option Value → Option Own
first_own value = option_map own.Value value

-- The value with another field at a place, where it has one there.
abbrev pub set_at : ℕ → FieldValue → List FieldValue → Option (List FieldValue)
set_at place x [] = None
set_at zero x (y ∷ ys) = Some (x ∷ ys)
set_at (suc place) x (y ∷ ys) = option_map (λ more. y ∷ more) (set_at place x ys)

-- `self` with another field at a place, where it has one there.
abbrev pub with_field : ℕ → FieldValue → Option Value → Option Own
with_field place x None = None
with_field place x (Some value) = option_map (λ xs. own.Value (record value { fields = xs })) (set_at place x value.fields)

-- ---- fields

-- The value at the place of the first field of that key.
abbrev pub part_of : List (List ℕ) → List FieldValue → List ℕ → Option FieldValue
part_of [] xs key = None
part_of (k ∷ keys) [] key = None
part_of (k ∷ keys) (x ∷ xs) key = if bytes_eq k key then Some x else part_of keys xs key

-- The value of a field of a value, where there is one.
abbrev pub field_of : Scene → Option Value → List ℕ → Option FieldValue
field_of scene None key = None
field_of scene (Some value) key = part_of (keys_of scene.definition) value.fields key

-- The whole value that a name stands for, as a match and an `if let` take it.
abbrev pub value_named : Scene → Env → Option Referent → Option Value
value_named scene env (Some This) = own_value env.own
value_named scene env (Some Other) = scene.other
value_named scene env found = None

-- The field with this key of the value that the base stands for (Rust Reference, Field access expressions; Tuple indexing
-- expressions).
abbrev pub reference_value : Scene → Env → Option Referent → List ℕ → Option FieldValue
reference_value scene env base key = field_of scene (value_named scene env base) key

-- A whole value, as a table is shown it: its type place is the last number, its number the variant.
abbrev pub whole_value : Option Value → Option FieldValue
whole_value None = None
whole_value (Some value) = Some (record { ty = 2 ^ 32 - 1; number = pos value.variant })

-- The field at a place of the value of `self`.
abbrev pub own_field : ℕ → Option Value → Option FieldValue
own_field place None = None
own_field place (Some value) = slice_get value.fields place

-- The value that a name stands for, as a table is shown it.
abbrev pub local_value : Scene → Env → Option Referent → Option FieldValue
local_value scene env (Some This) = whole_value (own_value env.own)
local_value scene env (Some Other) = whole_value scene.other
local_value scene env (Some (OwnField place)) = own_field place (own_value env.own)
local_value scene env (Some (Bound x)) = Some x
local_value scene env found = None

-- What the fields of `self` stand for where a pattern binds them: their places, the first of which is this.
abbrev pub own_fields : ℕ → List FieldValue → List Referent
own_fields place [] = []
own_fields place (x ∷ xs) = OwnField place ∷ own_fields (place + 1) xs

-- What a field at a place stands for where a pattern binds it of the value of a name.
abbrev pub referent_at : Option Referent → ℕ → FieldValue → Referent
referent_at (Some This) place x = OwnField place
referent_at found place x = Bound x

-- What the fields of the value of a name stand for where a pattern binds them; the first field has this place.
abbrev pub fields_from : Option Referent → ℕ → List FieldValue → List Referent
fields_from found place [] = []
fields_from found place (x ∷ xs) = referent_at found place x ∷ fields_from found (place + 1) xs

-- What the fields of the value of a name stand for where a pattern binds them: those of `self`, which may change, their places, and
-- those of the parameter themselves.
abbrev pub fields_named : Option Referent → Value → List Referent
fields_named (Some This) value = own_fields 0 value.fields
fields_named found value = map Bound value.fields

-- ---- keys

-- The number of the value, of those for the value of `self` and for that of the parameter.
abbrev pub number_for : Option ℤ → Option ℤ → Option Referent → Option ℤ
number_for this other (Some This) = this
number_for this other (Some Other) = other
number_for this other found = None

-- The number that a key function gives for a value, each by what its name stands for.
abbrev pub key_of : Option Referent → Option Referent → Option ℤ
key_of (Some (Keys this other)) value = number_for this other value
key_of found value = None

-- ---- flows

-- The value of a field, and Stuck without one.
abbrev pub part_flow : Env → Option FieldValue → Flow
part_flow env None = Stuck
part_flow env (Some x) = Gives env (Part x)

-- What a name gives: a value, as a table is shown it, an argument, or what does not count.
abbrev pub local_flow : Scene → Env → Option Referent → Flow
local_flow scene env (Some Inert) = Gives env InertThing
local_flow scene env (Some (Argument place)) = Gives env (ArgumentThing place)
local_flow scene env found = part_flow env (local_value scene env found)

-- The value of the field of this key of the value that the base stands for, which is read in place or from a copy.
abbrev pub read_flow : Scene → Env → List ℕ → List ℕ → Flow
read_flow scene env base key = part_flow env (reference_value scene env (look_up env.names base) key)

-- A number, and Stuck without one.
abbrev pub number_flow : Env → Option ℤ → Flow
number_flow env None = Stuck
number_flow env (Some n) = Gives env (Number n)

-- An answer that a body names itself, as what a form gives.
abbrev pub known_thing : Known → Thing
known_thing (KnownTruth b) = Truth b
known_thing (KnownOrder o) = Order o
known_thing (KnownPartialOrder p) = PartialOrder p

-- The next step continues with what was given; a return or Stuck ends it.
abbrev pub go_on : Flow → (Env → Thing → Flow) → Flow
go_on (Gives env thing) next = next env thing
go_on (Returns env thing) next = Returns env thing
go_on Stuck next = Stuck

-- The names of a block end with it: as many are left as there were before it (Rust Reference, Scopes); what was fed to a hasher
-- stays.
abbrev pub leave : List Binding → Flow → Flow
leave names (Gives env thing) = Gives (record env { names = take (length names) env.names }) thing
leave names (Returns env thing) = Returns (record env { names = take (length names) env.names }) thing
leave names Stuck = Stuck

-- The names in scope, and further ones.
abbrev pub enter : Env → List Binding → Env
enter env more = record env { names = env.names ++ more }

-- What follows where these further names are in scope, which end with it; Stuck if there is no such list.
abbrev pub within : Env → Option (List Binding) → (Env → Flow) → Flow
within env None next = Stuck
within env (Some more) next = leave env.names (next (enter env more))

-- What follows for a value, and Stuck without one.
abbrev pub with_value : Option Value → (Value → Flow) → Flow
with_value None next = Stuck
with_value (Some value) next = next value

-- What follows for the value of a name, and for what its fields stand for; Stuck without one.
abbrev pub with_named : Scene → Env → Option Referent → (Value → List Referent → Flow) → Flow
with_named scene env found next = with_value (value_named scene env found) (λ value. next value (fields_named found value))

-- What a pattern binds of the value of a name, where there is one.
abbrev pub bound_named : Scene → Env → Pattern → Option Referent → Option (List Binding)
bound_named scene env pattern found = option_and_then (λ value. bindings_of scene.definition pattern value (fields_named found value)) (value_named scene env found)

-- A block, if there is one.
abbrev pub or_nothing : Env → Option (Env → Flow) → Flow
or_nothing env None = Gives env Nothing
or_nothing env (Some block) = block env

-- ---- calls

-- The value of an answer of the table, and Stuck without one.
abbrev pub answer_flow : Env → Option Answer → Flow
answer_flow env None = Stuck
answer_flow env (Some (AnswerTruth b)) = Gives env (Truth b)
answer_flow env (Some (AnswerOrder o)) = Gives env (Order o)
answer_flow env (Some (AnswerPartialOrder p)) = Gives env (PartialOrder p)
answer_flow env (Some (AnswerNumber n)) = Gives env (Number n)
answer_flow env (Some (AnswerPart n)) = Gives env (Hashed n)
answer_flow env (Some (AnswerMade x)) = Gives env (Made x)

-- It continues with a field value; anything else is Stuck.
abbrev pub if_part : (FieldValue → Flow) → Thing → Flow
if_part next (Part x) = next x
if_part next thing = Stuck

-- It continues with a number; anything else is Stuck.
abbrev pub if_number : (ℤ → Flow) → Thing → Flow
if_number next (Number n) = next n
if_number next thing = Stuck

-- The order of two numbers, which only `Ord::cmp` compares.
abbrev pub numbers_flow : Env → Callee → ℤ → ℤ → Flow
numbers_flow env Cmp m n = Gives env (Order (int_cmp m n))
numbers_flow env callee m n = Stuck

-- The place of a variant is fed to a hasher as it is, by `Hash::hash` alone.
abbrev pub position_flow : Env → Callee → ℕ → Flow
position_flow env Hash place = Gives env (Hashed (pos place))
position_flow env callee place = Stuck

-- The answer of a call of one argument: a field value, or the place of a variant.
abbrev pub one_answer : Env → Answers → Callee → Thing → Flow
one_answer env table callee (Part x) = answer_flow env (answer_of table callee (Some x) None)
one_answer env table callee (Position place) = position_flow env callee place
one_answer env table callee thing = Stuck

-- The answer of a call of two arguments: two field values, or two numbers.
abbrev pub two_answer : Env → Answers → Callee → Thing → Thing → Flow
two_answer env table callee (Part x) y = if_part (λ y. answer_flow env (answer_of table callee (Some x) (Some y))) y
two_answer env table callee (Number m) y = if_number (λ n. numbers_flow env callee m n) y
two_answer env table callee thing y = Stuck

-- The answer of a call of at most two arguments.
abbrev pub call_answer : Env → Answers → Callee → List Thing → Flow
call_answer env table callee [] = answer_flow env (answer_of table callee None None)
call_answer env table callee (x ∷ []) = one_answer env table callee x
call_answer env table callee (x ∷ y ∷ []) = two_answer env table callee x y
call_answer env table callee (x ∷ y ∷ z ∷ more) = Stuck

-- The argument counts: all do but what has no value of its own.
abbrev pub counts : Thing → Bool
counts InertThing = false
counts thing = true

-- The arguments of a call that count.
abbrev pub counted : List Thing → List Thing
counted arguments = filter counts arguments

-- The answer of a call by the arguments that count, where something is called.
abbrev pub call_named : Answers → Option Callee → Env → List Thing → Flow
call_named table None env arguments = Stuck
call_named table (Some callee) env arguments = call_answer env table callee (counted arguments)

-- The answer of the table for a call by its path, where these names are in scope (Rust Reference, Call expressions).
abbrev pub call_value : Scene → List Binding → ExprPath → Env → List Thing → Flow
call_value scene names path = call_named scene.answers (callee_in names path)

-- What tokens give that are pasted as they were written: the answer of their call without arguments.
abbrev pub pasted_flow : Scene → Env → Written → Flow
pasted_flow scene env written = call_named scene.answers (pasted_callee scene.definition scene.field env.names written) env []

-- ---- what goes on behind a value

-- What follows the test of `if x { return false; }`: if it is true, `false` is returned, otherwise the block continues (Rust
-- Reference, If expressions).
abbrev pub unless_true : Env → Thing → Flow
unless_true env (Truth true) = Returns env (Truth false)
unless_true env (Truth false) = Gives env Nothing
unless_true env thing = Stuck

-- The opposite of a truth value, and Stuck of anything else (Rust Reference, Negation operators).
abbrev pub opposite : Env → Thing → Flow
opposite env (Truth b) = Gives env (Truth (not b))
opposite env thing = Stuck

-- `Some` of an order, and Stuck of anything else.
abbrev pub some_of : Env → Thing → Flow
some_of env (Order o) = Gives env (PartialOrder (Some o))
some_of env thing = Stuck

-- What a call feeds to a hasher is added to what was fed.
abbrev pub hash_part : Env → Thing → Flow
hash_part env (Hashed n) = Gives (record env { parts = env.parts ++ n ∷ [] }) Nothing
hash_part env thing = Stuck

-- The value that a call made.
abbrev pub made_value : Thing → Option FieldValue
made_value (Made x) = Some x
made_value thing = None

-- Goes on with a value that was made, where one was.
abbrev pub with_made : Option FieldValue → (FieldValue → Flow) → Flow
with_made None next = Stuck
with_made (Some x) next = next x

-- Goes on with the value that a form made, where it made one.
abbrev pub if_made : (Env → FieldValue → Flow) → Env → Thing → Flow
if_made next env thing = with_made (made_value thing) (next env)

-- The arm of an order: Equal goes on, Greater returns the one order and Less the other.
abbrev pub order_arm : Env → Ordering → Ordering → Ordering → Flow
order_arm env above below Equal = Gives env Nothing
order_arm env above below Greater = Returns env (Order above)
order_arm env above below Less = Returns env (Order below)

-- The arm of an order in `Some`: Equal goes on, Greater and Less return their orders in `Some`, and none is returned as none.
abbrev pub partial_arm : Env → Ordering → Ordering → Option Ordering → Flow
partial_arm env above below None = Returns env (PartialOrder None)
partial_arm env above below (Some Equal) = Gives env Nothing
partial_arm env above below (Some Greater) = Returns env (PartialOrder (Some above))
partial_arm env above below (Some Less) = Returns env (PartialOrder (Some below))

-- The arm of a step: Equal continues, any other arm returns its order; with true what is matched is a partial order, and `None`
-- returns too.
abbrev pub arm_of : Bool → Ordering → Ordering → Env → Thing → Flow
arm_of false above below env (Order o) = order_arm env above below o
arm_of true above below env (PartialOrder p) = partial_arm env above below p
arm_of partial above below env thing = Stuck

-- An order as a function gives it: with true that is `partial_cmp`.
abbrev pub order_thing : Bool → Ordering → Thing
order_thing false o = Order o
order_thing true o = PartialOrder (Some o)

-- The arm of a match with a block for Equal: that block, and otherwise the order, which is given and not returned.
abbrev pub block_arm : Bool → Ordering → Ordering → (Env → Flow) → Env → Thing → Flow
block_arm partial above below equal env (Order Equal) = equal env
block_arm partial above below equal env (Order Greater) = Gives env (order_thing partial above)
block_arm partial above below equal env (Order Less) = Gives env (order_thing partial below)
block_arm partial above below equal env thing = Stuck

-- The arm that a match on an order takes: that of a step, or with a block for Equal (Rust Reference, Match expressions).
abbrev pub order_match : Bool → Ordering → Ordering → Option (Env → Flow) → Env → Thing → Flow
order_match partial above below None = arm_of partial above below
order_match partial above below (Some equal) = block_arm partial above below equal

-- ---- key functions

-- The number that the arms of a key function give for a value, where the names are those of the environment.
abbrev pub key_for : Scene → Env → Ident → List KeyArm → Option Value → Option ℤ
key_for scene env this arms value = key_number scene.definition scene.answers env.names this arms value

-- The names in scope, and a key function, with its numbers for the value of `self` and for that of the parameter.
abbrev pub with_keys : Scene → Env → Ident → Ident → List KeyArm → Env
with_keys scene env name this arms =
    enter env (record { name = name.text; referent = Keys (key_for scene env this arms (own_value env.own)) (key_for scene env this arms scene.other) } ∷ [])

-- ---- `self` as it changes

-- The value of `self`.
abbrev pub whole_thing : Own → Thing
whole_thing (own.Value value) = Built value
whole_thing (own.Whole x) = Made x

-- `* self`: the value of `self`, or what a call made of a whole one; Stuck without one.
abbrev pub own_flow : Env → Option Own → Flow
own_flow env None = Stuck
own_flow env (Some self) = Gives env (whole_thing self)

-- `let _ = name ;` gives nothing, and is Stuck where the name stands for nothing.
abbrev pub discarded : Env → Option Referent → Flow
discarded env None = Stuck
discarded env (Some found) = Gives env Nothing

-- The place of the first field of this key.
abbrev pub place_named : List (List ℕ) → List ℕ → Option ℕ
place_named [] key = None
place_named (k ∷ keys) key = if bytes_eq k key then Some 0 else option_map (λ place. place + 1) (place_named keys key)

-- The field of `self` of this key, as what a name stands for; it is one of a struct.
abbrev pub field_named : Scene → List ℕ → Option Referent
field_named scene key = option_map OwnField (place_named (keys_of scene.definition) key)

-- `self` where this is assigned to what a name stands for: to `self`, of which the fields are no longer known, or to a field of it.
abbrev pub assigned : Option Referent → FieldValue → Option Own → Option Own
assigned (Some This) x self = Some (own.Whole x)
assigned (Some (OwnField place)) x self = with_field place x (own_value self)
assigned found x self = None

-- `self` is this from now on; Stuck if there is no such place.
abbrev pub with_own : Env → Option Own → Flow
with_own env None = Stuck
with_own env (Some self) = Gives (record env { own = Some self }) Nothing

-- What stands before the value in the call by which it is assigned: with true what is to change.
abbrev pub with_target : Bool → Option FieldValue → (List Thing → Flow) → Flow
with_target false target next = next []
with_target true None next = Stuck
with_target true (Some x) next = next (Part x ∷ [])

-- The value is assigned to what a name stands for.
abbrev pub stored : Option Referent → Env → FieldValue → Flow
stored target env x = with_own env (assigned target x env.own)

-- What a call makes of a value is assigned to what a name stands for; with true the call is handed that before the value (Rust
-- Reference, Assignment expressions).
abbrev pub assign : Scene → ExprPath → Bool → Option Referent → Env → Thing → Flow
assign scene path handed target env thing =
    with_target handed (local_value scene env target) (λ front. go_on (call_value scene env.names path env (front ++ thing ∷ [])) (if_made (stored target)))

-- ---- what is shown

-- The name of an entry, empty without one.
abbrev pub key_text : EntryKey → List ℕ
key_text Unnamed = []
key_text (Named key) = key.text
key_text (Mapped helper key) = key.text

-- The name stands for the type of the keys of a map.
abbrev pub is_helper : Option Referent → Bool
is_helper (Some Helper) = true
is_helper found = false

-- An entry with this key is one of what is shown so: with a name in a struct, without one in a tuple, and with a name of the helper
-- type in a map.
abbrev pub fits_form : List Binding → ShapeForm → EntryKey → Bool
fits_form names shape.Struct (Named key) = true
fits_form names shape.Tuple Unnamed = true
fits_form names shape.Map (Mapped helper key) = is_helper (look_up names helper.text)
fits_form names form key = false

-- What is shown so under a name, without entries.
abbrev pub bare_shape : ShapeForm → List ℕ → DebugShape
bare_shape form name = record { form = form; name = name; entries = [] }

-- What is shown as a builder is begun.
abbrev pub opened : Opening → DebugShape
opened (OpenStruct shown) = bare_shape shape.Struct shown.text
opened (OpenTuple shown) = bare_shape shape.Tuple shown.text
opened OpenMap = bare_shape shape.Map []

-- Something may be shown through what a name stands for: that is the parameter, which is the formatter, and nothing is shown so far.
abbrev pub may_show : Env → Option Referent → Bool
may_show env (Some Other) = is_none env.shown
may_show env found = false

-- This is shown from now on, where it may be.
abbrev pub shows : Env → Option Referent → DebugShape → (Env → Flow) → Flow
shows env found first next = if may_show env found then next (record env { shown = Some first }) else Stuck

-- `f.write_str("N")`: the text is shown (documentation of `std`, `fmt::Formatter`).
abbrev pub text_flow : Env → Option Referent → List ℕ → Flow
text_flow env found text = shows env found (bare_shape shape.Word text) (λ after. Gives after Shown)

-- A name, and what it stands for, from now on.
abbrev pub declared : Env → List ℕ → Referent → Flow
declared env name referent = Gives (enter env (record { name = name; referent = referent } ∷ [])) Nothing

-- `let mut builder = f.debug_struct("N");` and the like: what is shown begins, and the name stands for the builder.
abbrev pub builder_flow : Env → Option Referent → List ℕ → Opening → Flow
builder_flow env found builder opening = shows env found (opened opening) (λ after. declared after builder BuilderName)

-- The entry of an argument, with its method.
abbrev pub entry_with : List ℕ → ArgumentMade → Entry
entry_with key argument = record { key = key; method = Some argument.method; value = argument.value }

-- The entry of a value: of a field, or of an argument.
abbrev pub entry_of : List ℕ → List ArgumentMade → Thing → Option Entry
entry_of key arguments (Part x) = Some (record { key = key; method = None; value = x })
entry_of key arguments (ArgumentThing place) = option_map (entry_with key) (slice_get arguments place)
entry_of key arguments thing = None

-- The entry is added, where there is one.
abbrev pub added : Env → DebugShape → Option Entry → Flow
added env shown None = Stuck
added env shown (Some entry) = Gives (record env { shown = Some (record shown { entries = shown.entries ++ entry ∷ [] }) }) Nothing

-- An entry is added to what is shown, where its key is one of the form of that, and its value is that of a field or an argument;
-- otherwise Stuck.
abbrev pub entered : EntryKey → Env → Option DebugShape → Thing → Flow
entered key env None thing = Stuck
entered key env (Some shown) thing = if fits_form env.names shown.form key then added env shown (entry_of (key_text key) env.arguments thing) else Stuck

-- `builder.field("key", x);` and the like: the entry is added where the name is that of the builder, and otherwise Stuck.
abbrev pub entry_flow : Option Referent → EntryKey → Env → Thing → Flow
entry_flow (Some BuilderName) key env thing = entered key env env.shown thing
entry_flow found key env thing = Stuck

-- A name that stands for nothing that is evaluated.
abbrev pub inert : Ident → Binding
inert name = record { name = name.text; referent = Inert }

-- The names in scope around the type of an argument: with that of the type that wraps it.
abbrev pub around_type : List Binding → ArgumentNames → List Binding
around_type names own = names ++ inert own.wrapper ∷ []

-- The names in scope around the method of an argument: with those of the parameters of the closure too.
abbrev pub around_method : List Binding → ArgumentNames → List Binding
around_method names own = names ++ inert own.wrapper ∷ inert own.own_value ∷ inert own.own_formatter ∷ []

-- An argument is made of a field, where the method calls something there.
abbrev pub argument_made : Env → List ℕ → ExprPath → FieldValue → Option Callee → Flow
argument_made env name path x None = Stuck
argument_made env name path x (Some callee) =
    declared (record env { arguments = env.arguments ++ record { method = text_of_path path; value = x } ∷ [] }) name (Argument (length env.arguments))

-- An argument is made of a field of this type and the method, where neither text has a name in scope.
abbrev pub argument_flow : ArgumentNames → Written → ExprPath → Env → Thing → Flow
argument_flow own ty path env thing =
    if_part (λ x.
    if names_bound (around_type env.names own) ty.tokens then Stuck else argument_made env own.argument.text path x (callee_in (around_method env.names own) path)) thing

-- What is shown, where the name is that of the builder.
abbrev pub finished : Env → Option Referent → Flow
finished env (Some BuilderName) = Gives env Shown
finished env found = Stuck

-- ---- values that are built

-- It continues with the case that is built, the position of its variant and its fields; Stuck without one.
abbrev pub with_case : Option (ℕ × List Field) → (ℕ → List Field → Flow) → Flow
with_case None next = Stuck
with_case (Some case) next = next case.0 case.1

-- The value of this variant and these fields.
abbrev pub built : ℕ → Env → List FieldValue → Flow
built variant env values = Gives env (Built (record { variant = variant; fields = values }))

-- ---- forms

abbrev mutual
  -- The value of one form; the names in scope go in, and those that are left come out.
  pub form_value : Scene → Env → Form → Flow
  form_value scene env (Local name) = local_flow scene env (look_up env.names name.text)
  form_value scene env (form.Known known) = Gives env (known_thing known)
  form_value scene env (Reference base field) = read_flow scene env base.text field.text
  form_value scene env (BracedCopy base field) = read_flow scene env base.text field.text
  form_value scene env (Key function value) = number_flow env (key_of (look_up env.names function.text) (look_up env.names value.text))
  form_value scene env (Call' path shape arguments) = args_value scene env arguments (call_value scene env.names path)
  form_value scene env (Not' shape inner) = go_on (inner_value scene env inner) opposite
  form_value scene env (SomeOf' shape inner) = go_on (inner_value scene env inner) some_of
  form_value scene env (IfReturn' shape test) = go_on (inner_value scene env test) unless_true
  form_value scene env (Return' shape inner) = go_on (inner_value scene env inner) Returns
  form_value scene env (MatchOrdering' shape matched partial held above below) = go_on (inner_value scene env matched) (order_match partial above below (held_value scene held))
  form_value scene env (MatchValue' name shape arms) = with_named scene env (look_up env.names name.text) (arms_value scene env arms)
  form_value scene env (IfLet' pattern name shape row held) =
      with_named scene env (look_up env.names name.text) (λ value referents.
      if fits scene.definition pattern value then within env (bindings_of scene.definition pattern value referents) (λ inner. row_value scene inner row Nothing)
      else or_nothing env (held_value scene held))
  form_value scene env (KeyFunction name this ty arms) = Gives (with_keys scene env name this arms) Nothing
  form_value scene env (Block' shape forms) = leave env.names (row_value scene env forms Nothing)
  form_value scene env (HashPart' shape inner) = go_on (inner_value scene env inner) hash_part
  form_value scene env (form.Position position) = Gives env (Position position.place)
  -- How the fields are written means nothing more than which keys they have.
  form_value scene env (Construct' name written shape inits) =
      with_case (case_named scene.definition name) (λ variant fields. inits_value scene env inits fields (built variant))
  form_value scene env (Pasted written) = pasted_flow scene env written
  form_value scene env WholeCopy = own_flow env env.own
  form_value scene env Unreachable = Stuck
  form_value scene env (Discard name) = discarded env (look_up env.names name.text)
  form_value scene env (AssignField' key path shape inner handed) = go_on (inner_value scene env inner) (assign scene path handed (field_named scene key.text))
  form_value scene env (AssignThrough' name path shape inner handed) =
      go_on (inner_value scene env inner) (assign scene path handed (look_up env.names name.text))
  form_value scene env (WriteText formatter text) = text_flow env (look_up env.names formatter.text) text.text
  -- The formatter in a helper type is that of its own function.
  form_value scene env (HelperType helper formatter) = declared env helper.text Helper
  form_value scene env (Builder builder formatter opening) = builder_flow env (look_up env.names formatter.text) builder.text opening
  -- A reference to a value shows what the value shows.
  form_value scene env (BuilderEntry' builder key shape inner by_reference) = go_on (inner_value scene env inner) (entry_flow (look_up env.names builder.text) key)
  form_value scene env (MethodArgument' own shape inner ty path) = go_on (inner_value scene env inner) (argument_flow own ty path)
  form_value scene env (Finish builder) = finished env (look_up env.names builder.text)

  -- The value of the one form that a box holds.
  pub inner_value : Scene → Env → {m : _} → Row_of-Form m → Flow
  inner_value scene env end_of-Form = Stuck
  inner_value scene env (more_of-Form x rest) = form_value scene env x

  -- The values of the arguments of a call, one after the other, with which the call goes on.
  pub args_value : Scene → Env → {m : _} → Row_of-Form m → (Env → List Thing → Flow) → Flow
  args_value scene env end_of-Form next = next env []
  args_value scene env (more_of-Form x rest) next = go_on (form_value scene env x) (λ env thing. args_value scene env rest (λ env things. next env (thing ∷ things)))

  -- The forms of a block, in order.
  pub row_value : Scene → Env → {m : _} → Row_of-Form m → Thing → Flow
  row_value scene env end_of-Form last = Gives env last
  row_value scene env (more_of-Form x rest) last = go_on (form_value scene env x) (λ env. row_value scene env rest)

  -- A block that may be missing.
  pub held_value : Scene → Held-Form-MatchOrdering-2 → Option (Env → Flow)
  held_value scene None' = None
  held_value scene (Some' shape row) = Some (λ env. leave env.names (row_value scene env row Nothing))

  -- The first arm whose pattern fits, with what the pattern binds of a value whose fields stand for these.
  pub arms_value : Scene → Env → {m : _} → Row_of-Arm m → Value → List Referent → Flow
  arms_value scene env end_of-Arm value referents = Stuck
  arms_value scene env (more_of-Arm pattern braced comma shape row rest) value referents =
      if fits scene.definition pattern value
      then within env (bindings_of scene.definition pattern value referents) (λ inner. row_value scene inner row Nothing)
      else arms_value scene env rest value referents

  -- The values of initializers, one for each field in written order, each with the key of its field and evaluated for it, with
  -- which it continues; Stuck where the keys or the numbers differ, or a call makes no value (Rust Reference, Struct
  -- expressions).
  pub inits_value : Scene → Env → {m : _} → Row_of-Init m → List Field → (Env → List FieldValue → Flow) → Flow
  inits_value scene env end_of-Init [] next = next env []
  inits_value scene env end_of-Init (f ∷ fs) next = Stuck
  inits_value scene env (more_of-Init key x rest) [] next = Stuck
  inits_value scene env (more_of-Init key x rest) (f ∷ fs) next =
      if has_key key f.ident
      then go_on (form_value (for_field scene f) env x) (if_made (λ env value. inits_value scene env rest fs (λ env values. next env (value ∷ values))))
      else Stuck

-- The values of a list of arguments one after the other, each in the environment that the one before left, with which the call
-- continues.
abbrev pub args_list : Scene → Env → List Form → (Env → List Thing → Flow) → Flow
args_list scene env [] next = next env []
args_list scene env (x ∷ rest) next = go_on (form_value scene env x) (λ env thing. args_list scene env rest (λ env things. next env (thing ∷ things)))

-- The values of a list of initializers, one for each field, with which it goes on.
abbrev pub inits_list : Scene → Env → List Init → List Field → (Env → List FieldValue → Flow) → Flow
inits_list scene env [] [] next = next env []
inits_list scene env [] (f ∷ fs) next = Stuck
inits_list scene env (init ∷ rest) [] next = Stuck
inits_list scene env (init ∷ rest) (f ∷ fs) next =
    if has_key init.key f.ident
    then go_on (form_value (for_field scene f) env init.value) (if_made (λ env value. inits_list scene env rest fs (λ env values. next env (value ∷ values))))
    else Stuck

-- The value that a list of initializers builds.
abbrev pub built_value : Scene → Env → List Init → ℕ → List Field → Flow
built_value scene env inits variant fields = inits_list scene env inits fields (built variant)

-- The forms of a list in order, each in the environment that the one before left: the first return ends them, otherwise the last
-- gives the value (Rust Reference, Block expressions).
abbrev pub list_value : Scene → Env → Thing → List Form → Flow
list_value scene env last [] = Gives env last
list_value scene env last (x ∷ rest) = go_on (form_value scene env x) (λ env thing. list_value scene env thing rest)

-- A block of these forms, if there are any.
abbrev pub held_list : Scene → Option (List Form) → Option (Env → Flow)
held_list scene None = None
held_list scene (Some forms) = Some (λ env. leave env.names (list_value scene env Nothing forms))

-- The forms of an arm, with what its pattern binds of a value whose fields stand for these.
abbrev pub taken : Scene → Env → Pattern → List Form → Value → List Referent → Flow
taken scene env pattern forms value referents = within env (bindings_of scene.definition pattern value referents) (λ inner. list_value scene inner Nothing forms)

-- The forms behind a pattern if it fits the value, and otherwise the others, if there are any (Rust Reference, If let
-- expressions).
abbrev pub if_let_value : Scene → Env → Pattern → List Form → Option (List Form) → Value → List Referent → Flow
if_let_value scene env pattern forms others value referents =
    if fits scene.definition pattern value then taken scene env pattern forms value referents else or_nothing env (held_list scene others)

-- The first arm of a list whose pattern fits the value, and Stuck without one (Rust Reference, Match expressions).
abbrev pub arms_list : Scene → Env → List Arm → Value → List Referent → Flow
arms_list scene env [] value referents = Stuck
arms_list scene env (arm ∷ arms) value referents =
    if fits scene.definition arm.pattern value then taken scene env arm.pattern arm.block value referents else arms_list scene env arms value referents

-- ---- bodies

-- What `self` is when a body ends: a value, or what a call made of a whole one; Stuck without a `self`.
abbrev pub own_outcome : Option Own → Outcome
own_outcome None = OutcomeStuck
own_outcome (Some (own.Value value)) = OutcomeMade value
own_outcome (Some (own.Whole x)) = OutcomeWhole x

-- What is shown when a body ends; Stuck if nothing is.
abbrev pub shown_outcome : Option DebugShape → Outcome
shown_outcome None = OutcomeStuck
shown_outcome (Some shown) = OutcomeShape shown

-- The outcome of a thing: a truth value, an order, a partial order, a value that is built, a whole value that a call made, or
-- what a body shows that ends in handing it to a formatter; otherwise Stuck.
abbrev pub outcome_of_thing : Env → Thing → Outcome
outcome_of_thing env (Truth b) = OutcomeTruth b
outcome_of_thing env (Order o) = OutcomeOrder o
outcome_of_thing env (PartialOrder p) = OutcomePartialOrder p
outcome_of_thing env (Built value) = OutcomeMade value
outcome_of_thing env (Made x) = OutcomeWhole x
outcome_of_thing env Shown = shown_outcome env.shown
outcome_of_thing env thing = OutcomeStuck

-- The outcome of a body that gives or returns something.
abbrev pub outcome_of : Flow → Outcome
outcome_of (Gives env thing) = outcome_of_thing env thing
outcome_of (Returns env thing) = outcome_of_thing env thing
outcome_of Stuck = OutcomeStuck

-- What `self` becomes, whatever is given or returned, and Stuck of Stuck.
abbrev pub own_of : Flow → Outcome
own_of (Gives env thing) = own_outcome env.own
own_of (Returns env thing) = own_outcome env.own
own_of Stuck = OutcomeStuck

-- What was fed to a hasher, whatever is given or returned.
abbrev pub parts_of : Flow → Outcome
parts_of (Gives env thing) = OutcomeParts env.parts
parts_of (Returns env thing) = OutcomeParts env.parts
parts_of Stuck = OutcomeStuck

-- What a body comes to that has no hasher: with true, where it assigns, what `self` becomes, and else its result.
abbrev pub changed_or_given : Bool → Flow → Outcome
changed_or_given true flow = own_of flow
changed_or_given false flow = outcome_of flow

-- What a body of these parameters and forms comes to: with two parameters, a hasher and its type, what was fed; with fewer, where
-- an assignment or a discard stands in it, what `self` becomes; otherwise what it gives or returns.
abbrev pub ended : List Word → List Form → Flow → Outcome
ended [] block flow = changed_or_given (any_assigns block) flow
ended (param ∷ []) block flow = changed_or_given (any_assigns block) flow
ended (state ∷ hasher ∷ []) block flow = parts_of flow
ended params block flow = outcome_of flow

-- What the parameters of a body stand for: a single one for the other value; of several, none has a value of its own.
abbrev pub param_referent : List Word → Referent
param_referent (param ∷ []) = Other
param_referent params = Inert

-- The bindings of these names, each of which stands for the same.
abbrev pub all_bound : Referent → List Word → List Binding
all_bound referent names = map (λ (name : Word). record { name = name.text; referent = referent }) names

-- `self`, and the parameters.
abbrev pub first_bindings : List Word → List Binding
first_bindings params = record { name = codes "self"; referent = This } ∷ all_bound (param_referent params) params

-- The names that are in scope as a body begins, and the value of `self`; nothing was fed, nothing is shown, and no argument was made.
abbrev pub start : List Word → Option Value → Env
start params this = record { names = first_bindings params; parts = []; own = first_own this; shown = None; arguments = [] }

-- The value of a body.
abbrev pub value : Body → Scene → Outcome
value body scene = ended body.params body.block (list_value scene (start body.params scene.this) Nothing body.block)
