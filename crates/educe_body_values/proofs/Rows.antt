-- The values of forms that hold forms, as equations on the lists and the boxed forms that they were made of.
use denote.Hole.Carrier.{hidden}
use mathlib.Core.Former.{Count}
use Rattle.std.proofs.Common.{◌≡◌, ℕ, ◌+◌, ◌<◌, ◌≤◌, Bool, true, false, List, [], ◌∷◌, ◌++◌, Option, Some, None, length, drop, get_or, length-drop, refl, sym, ap, ◌∙◌, append_assoc, append-nil, arith}
use Rattle.std.specs.Prelude.{if◌then◌else◌}
use Rattle.std.specs.Option.{option_map, option_and_then}
use Rattle.std.proofs.lemmas.List.{drop_more, drop_all}
use Rattle.std.proofs.lemmas.List.Elements.{filter-append}
use Rattle.std.proofs.lemmas.Option.{none-some, same_Some}
use Rattle.std.specs.declared.cmp.Ordering.{Ordering}
use Rattle.educe_tokens.specs.declared.word.Word.{Word}
use Rattle.educe_tokens.specs.declared.written.Written.{Written}
use Rattle.educe_tree.specs.declared.data.Field.{Field}
use Rattle.educe_tree.specs.declared.data.FieldForm.{FieldForm}
use Rattle.educe_tree.specs.declared.data.Variant.{Variant}
use Rattle.educe_tree.specs.declared.expr.ExprPath.{ExprPath}
use Rattle.educe_tree.specs.declared.ident.Ident.{Ident}
use Rattle.educe_body_forms.specs.declared.form.Form.{Form, Call, Call', Not, IfReturn, Return, SomeOf, MatchOrdering, MatchValue, MatchValue', IfLet, Block, Block', HashPart, Construct, Construct', AssignField, AssignThrough, BuilderEntry, MethodArgument, Row_of-Form, end_of-Form, more_of-Form, Row_of-Arm, end_of-Arm, more_of-Arm, Row_of-Init, end_of-Init, more_of-Init, back-Form-MatchOrdering-2, items-the_row-Form, items_hidden-the_row-Form-0, items_shown-the_row-Form-0, items-the_row-Arm, items_hidden-the_row-Arm-2, items-the_row-Init, items_hidden-the_row-Init-3}
use Rattle.educe_body_forms.specs.declared.form.Arm.{Arm}
use Rattle.educe_body_forms.specs.declared.form.Init.{Init}
use Rattle.educe_body_forms.specs.declared.form.Form.TheBlock.{hidden-the_row-Form-1}
use Rattle.educe_body_forms.specs.declared.pattern.Pattern.{Pattern}
use Rattle.educe_body_forms.specs.declared.shown.ArgumentNames.{ArgumentNames}
use Rattle.educe_body_forms.specs.declared.shown.EntryKey.{EntryKey}
use Rattle.educe_body_values.specs.declared.value.FieldValue.{FieldValue}
use Rattle.educe_body_values.specs.declared.value.Value.{Value}
use Rattle.educe_body_values.specs.declared.answers.Answers.{Answers}
use Rattle.educe_body_values.specs.declared.callee.Callee.{Callee}
use Rattle.educe_body_values.specs.declared.environment.Env.{Env}
use Rattle.educe_body_values.specs.declared.environment.Referent.{Referent}
use Rattle.educe_body_values.specs.declared.flow.Thing.{Thing}
use Rattle.educe_body_values.specs.declared.flow.Thing.TheVariants.{Nothing}
use Rattle.educe_body_values.specs.declared.flow.Flow.{Flow}
use Rattle.educe_body_values.specs.declared.flow.Flow.TheVariants.{Gives, Returns, Stuck}
use Rattle.educe_body_values.specs.Cases.{case_named}
use Rattle.educe_body_values.specs.Matching.{has_key, fits, variant_of, bound_of, bindings_of}
use Rattle.educe_body_values.specs.Meaning.{Scene, form_value, row_value, args_value, args_list, list_value, held_value, held_list, arms_value, arms_list, if_let_value, value_named, fields_named, bound_named, look_up, with_value, with_named, within, field_named, assign, or_nothing, call_value, go_on, leave, opposite, some_of, unless_true, hash_part, entry_flow, argument_flow, order_match, block_arm, taken, inits_value, inits_list, built, built_value, with_case, if_made, made_value, with_made, for_field, counts, counted, call_named, call_answer}

-- flows that go on alike have one end
pub go_on-alike : (flow : Flow) (next other : Env → Thing → Flow) → ((env : Env) (thing : Thing) → next env thing ≡ other env thing) → go_on flow next ≡ go_on flow other
go_on-alike (Gives env thing) next other same = same env thing
go_on-alike (Returns env thing) next other same = refl
go_on-alike Stuck next other same = refl

-- the forms that a call or a block holds
abbrev pub row_of : Form → (n : Count) × Row_of-Form n
row_of (Call' path shape row) = (_, row)
row_of (Block' shape row) = (_, row)
row_of _ = (_, end_of-Form)

-- the arms that a match holds
abbrev pub arms_of : Form → (n : Count) × Row_of-Arm n
arms_of (MatchValue' name shape row) = (_, row)
arms_of _ = (_, end_of-Arm)

-- the initializers that a value is built of
abbrev pub inits_of : Form → (n : Count) × Row_of-Init n
inits_of (Construct' name written shape row) = (_, row)
inits_of _ = (_, end_of-Init)

-- an argument that is left out where it does not count is not counted
counted-once : (thing : Thing) (b : Bool) → counts thing ≡ b → counted (counted (thing ∷ [])) ≡ counted (thing ∷ [])
counted-once thing true test = ap (λ (b : Bool). counted (if b then thing ∷ [] else [])) test ∙ ap (λ (b : Bool). if b then thing ∷ [] else []) test ∙ sym (ap (λ (b : Bool). if b then thing ∷ [] else []) test)
counted-once thing false test = ap (λ (b : Bool). counted (if b then thing ∷ [] else [])) test ∙ sym (ap (λ (b : Bool). if b then thing ∷ [] else []) test)

-- all arguments that are gathered count
pub counted-gathers : (before things : List Thing) (thing : Thing) → counted before ≡ before → things ≡ before ++ counted (thing ∷ []) → counted things ≡ things
counted-gathers before things thing all is =
    ap counted is ∙ filter-append counts before (counted (thing ∷ [])) ∙ (λ i. all i ++ counted-once thing (counts thing) refl i) ∙ sym is

-- the arguments that count do not change where one more is gathered
counted-gathered : (before things : List Thing) (thing : Thing) (more : List Thing) → things ≡ before ++ counted (thing ∷ []) → counted (things ++ more) ≡ counted (before ++ thing ∷ more)
counted-gathered before things thing more is =
    filter-append counts things more
    ∙ ap (λ (front : List Thing). front ++ counted more) (ap counted is ∙ filter-append counts before (counted (thing ∷ [])) ∙ ap (λ (back : List Thing). counted before ++ back) (counted-once thing (counts thing) refl) ∙ sym (filter-append counts before (thing ∷ [])))
    ∙ sym (filter-append counts (before ++ thing ∷ []) more) ∙ ap counted (append_assoc before (thing ∷ []) more)

-- a call gives one answer by the arguments that count
call_named-alike : (table : Answers) (callee : Option Callee) (env : Env) (things others : List Thing) → counted things ≡ counted others → call_named table callee env things ≡ call_named table callee env others
call_named-alike table None env things others same = refl
call_named-alike table (Some callee) env things others same = ap (call_answer env table callee) same

-- the first of these initializers, for the first of these fields
inits_list-first : (scene : Scene) (env : Env) (init : Init) (rest : List Init) (field : Field) (fields : List Field) (next : Env → List FieldValue → Flow) (b : Bool) → has_key init.key field.ident ≡ b
    → inits_list scene env (init ∷ rest) (field ∷ fields) next
    ≡ (if b then go_on (form_value (for_field scene field) env init.value) (if_made (λ env value. inits_list scene env rest fields (λ env values. next env (value ∷ values)))) else Stuck)
inits_list-first scene env init rest field fields next b test =
    ap (λ (b : Bool). if b then go_on (form_value (for_field scene field) env init.value) (if_made (λ env value. inits_list scene env rest fields (λ env values. next env (value ∷ values)))) else Stuck) test

-- a call by one more argument behind those that are gathered, which count
pub call_named-gathered : (table : Answers) (callee : Option Callee) (env : Env) (before things : List Thing) (thing : Thing) → things ≡ before ++ counted (thing ∷ [])
    → call_named table callee env things ≡ call_named table callee env (before ++ thing ∷ [])
call_named-gathered table callee env before things thing is =
    call_named-alike table callee env things (before ++ thing ∷ []) (ap counted (sym (append-nil things)) ∙ counted-gathered before things thing [] is)

module _ (scene : Scene) where
  -- the arguments of a call, one after the other
  args_value-items : (env : Env) (n : _) (row : Row_of-Form n) (next : Env → List Thing → Flow) → args_value scene env row next ≡ args_list scene env (items-the_row-Form n row) next
  args_value-items env n end_of-Form next = refl
  args_value-items env n (more_of-Form x rest) next =
      go_on-alike (form_value scene env x) (λ after thing. args_value scene after rest (λ end things. next end (thing ∷ things)))
      (λ after thing. args_list scene after (items-the_row-Form _ rest) (λ end things. next end (thing ∷ things))) (λ after thing. args_value-items after _ rest (λ end things. next end (thing ∷ things)))

  -- the forms of a row in order
  row_value-items : (env : Env) (n : _) (row : Row_of-Form n) (last : Thing) → row_value scene env row last ≡ list_value scene env last (items-the_row-Form n row)
  row_value-items env n end_of-Form last = refl
  row_value-items env n (more_of-Form x rest) last =
      go_on-alike (form_value scene env x) (λ after. row_value scene after rest)
      (λ after thing. list_value scene after thing (items-the_row-Form _ rest)) (λ after thing. row_value-items after _ rest thing)

  -- a call, by the values of its arguments
  pub form_value-Call : (env : Env) (path : ExprPath) (arguments : List Form) → form_value scene env (Call path arguments) ≡ args_list scene env arguments (call_value scene env.names path)
  form_value-Call env path arguments =
      let row = row_of (Call path arguments) in
      args_value-items env row.0 row.1 (call_value scene env.names path) ∙ ap (λ (forms : List Form). args_list scene env forms (call_value scene env.names path)) (items_hidden-the_row-Form-0 arguments)

  -- a call of two arguments that leave the names as they are
  pub form_value-two : (env : Env) (path : ExprPath) (x y : Form) (a b : Thing) → form_value scene env x ≡ Gives env a → form_value scene env y ≡ Gives env b
      → form_value scene env (Call path (x ∷ y ∷ [])) ≡ call_value scene env.names path env (a ∷ b ∷ [])
  form_value-two env path x y a b first second =
      let next = call_value scene env.names path in
      form_value-Call env path (x ∷ y ∷ [])
      ∙ ap (λ (flow : Flow). go_on flow (λ env thing. args_list scene env (y ∷ []) (λ env things. next env (thing ∷ things)))) first
      ∙ ap (λ (flow : Flow). go_on flow (λ env thing. next env (a ∷ thing ∷ []))) second

  -- the opposite, by the value of what it holds
  pub form_value-Not : (env : Env) (held : Form) → form_value scene env (Not held) ≡ go_on (form_value scene env held) opposite
  unfolding hidden-the_row-Form-1 hidden
  form_value-Not env held = refl

  -- what stands in `Some`
  pub form_value-SomeOf : (env : Env) (held : Form) → form_value scene env (SomeOf held) ≡ go_on (form_value scene env held) some_of
  unfolding hidden-the_row-Form-1 hidden
  form_value-SomeOf env held = refl

  -- a test
  pub form_value-IfReturn : (env : Env) (held : Form) → form_value scene env (IfReturn held) ≡ go_on (form_value scene env held) unless_true
  unfolding hidden-the_row-Form-1 hidden
  form_value-IfReturn env held = refl

  -- a return
  pub form_value-Return : (env : Env) (held : Form) → form_value scene env (Return held) ≡ go_on (form_value scene env held) Returns
  unfolding hidden-the_row-Form-1 hidden
  form_value-Return env held = refl

  -- what is fed to a hasher
  pub form_value-HashPart : (env : Env) (held : Form) → form_value scene env (HashPart held) ≡ go_on (form_value scene env held) hash_part
  unfolding hidden-the_row-Form-1 hidden
  form_value-HashPart env held = refl

  -- an assignment to a field of `self`, by the value that is assigned
  pub form_value-AssignField : (env : Env) (key : Word) (path : ExprPath) (held : Form) (handed : Bool)
      → form_value scene env (AssignField key path held handed) ≡ go_on (form_value scene env held) (assign scene path handed (field_named scene key.text))
  unfolding hidden-the_row-Form-1 hidden
  form_value-AssignField env key path held handed = refl

  -- an assignment to what a name stands for, by the value that is assigned
  pub form_value-AssignThrough : (env : Env) (name : Ident) (path : ExprPath) (held : Form) (handed : Bool)
      → form_value scene env (AssignThrough name path held handed) ≡ go_on (form_value scene env held) (assign scene path handed (look_up env.names name.text))
  unfolding hidden-the_row-Form-1 hidden
  form_value-AssignThrough env name path held handed = refl

  -- an entry of what is shown, by the value that it shows
  pub form_value-BuilderEntry : (env : Env) (builder : Ident) (key : EntryKey) (held : Form) (by_reference : Bool)
      → form_value scene env (BuilderEntry builder key held by_reference) ≡ go_on (form_value scene env held) (entry_flow (look_up env.names builder.text) key)
  unfolding hidden-the_row-Form-1 hidden
  form_value-BuilderEntry env builder key held by_reference = refl

  -- the argument of a method, by the field that it is made of
  pub form_value-MethodArgument : (env : Env) (own : ArgumentNames) (held : Form) (type : Written) (path : ExprPath)
      → form_value scene env (MethodArgument own held type path) ≡ go_on (form_value scene env held) (argument_flow own type path)
  unfolding hidden-the_row-Form-1 hidden
  form_value-MethodArgument env own held type path = refl

  -- the forms of a block in order
  block_value-items : (env : Env) (forms : List Form) → row_value scene env (row_of (Block forms)).1 Nothing ≡ list_value scene env Nothing forms
  block_value-items env forms =
      let row = row_of (Block forms) in
      row_value-items env row.0 row.1 Nothing ∙ ap (list_value scene env Nothing) (items_hidden-the_row-Form-0 forms)

  -- a block that may be missing
  held_value-items : (held : Option (List Form)) → held_value scene (back-Form-MatchOrdering-2 held) ≡ held_list scene held
  held_value-items None = refl
  held_value-items (Some forms) = ap Some (λ i env. leave env.names (block_value-items env forms i))

  -- a match on an order, by the value of what is matched
  pub form_value-MatchOrdering : (env : Env) (matched : Form) (partial : Bool) (held : Option (List Form)) (greater less : Ordering)
      → form_value scene env (MatchOrdering matched partial held greater less) ≡ go_on (form_value scene env matched) (order_match partial greater less (held_list scene held))
  unfolding hidden-the_row-Form-1 hidden
  form_value-MatchOrdering env matched partial held above below = ap (λ block. go_on (form_value scene env matched) (order_match partial above below block)) (held_value-items held)

  -- the arms of a match in order
  arms_value-items : (env : Env) (n : _) (row : Row_of-Arm n) (value : Value) (referents : List Referent)
      → arms_value scene env row value referents ≡ arms_list scene env (items-the_row-Arm n row) value referents
  arms_value-items env n end_of-Arm value referents = refl
  arms_value-items env n (more_of-Arm pattern braced comma shape row rest) value referents =
      let forms = λ (inner : Env). row_value-items inner _ row Nothing ∙ ap (list_value scene inner Nothing) (sym (items_shown-the_row-Form-0 shape row)) in
      let others = arms_value-items env _ rest value referents in
      λ i. if fits scene.definition pattern value then within env (bindings_of scene.definition pattern value referents) (λ inner. forms inner i) else others i

  -- a match on a value, by the first arm whose pattern fits
  pub form_value-MatchValue : (env : Env) (name : Ident) (arms : List Arm)
      → form_value scene env (MatchValue name arms) ≡ with_named scene env (look_up env.names name.text) (arms_list scene env arms)
  form_value-MatchValue env name arms =
      let row = arms_of (MatchValue name arms) in
      λ i. with_named scene env (look_up env.names name.text) (λ value referents.
      (arms_value-items env row.0 row.1 value referents ∙ ap (λ (arms : List Arm). arms_list scene env arms value referents) (items_hidden-the_row-Arm-2 arms)) i)

  -- an `if let`, by the forms behind its pattern or the others
  pub form_value-IfLet : (env : Env) (pattern : Pattern) (name : Ident) (forms : List Form) (others : Option (List Form))
      → form_value scene env (IfLet pattern name forms others) ≡ with_named scene env (look_up env.names name.text) (if_let_value scene env pattern forms others)
  form_value-IfLet env pattern name forms others =
      λ i. with_named scene env (look_up env.names name.text) (λ value referents.
      if fits scene.definition pattern value then within env (bindings_of scene.definition pattern value referents) (λ inner. block_value-items inner forms i)
      else or_nothing env (held_value-items others i))

  -- a block, by the values of its forms in order
  pub form_value-Block : (env : Env) (forms : List Form) → form_value scene env (Block forms) ≡ leave env.names (list_value scene env Nothing forms)
  form_value-Block env forms = ap (leave env.names) (block_value-items env forms)

  -- the initializers of a value that is built, in order
  inits_value-items : (env : Env) (n : _) (row : Row_of-Init n) (fields : List Field) (next : Env → List FieldValue → Flow)
      → inits_value scene env row fields next ≡ inits_list scene env (items-the_row-Init n row) fields next
  inits_value-items env n end_of-Init [] next = refl
  inits_value-items env n end_of-Init (f ∷ fs) next = refl
  inits_value-items env n (more_of-Init key x rest) [] next = refl
  inits_value-items env n (more_of-Init key x rest) (f ∷ fs) next =
      λ i. if has_key key f.ident
      then go_on (form_value (for_field scene f) env x) (if_made (λ after value. inits_value-items after _ rest fs (λ end values. next end (value ∷ values)) i))
      else Stuck

  -- a value that is built, by the values of its initializers
  pub form_value-Construct : (env : Env) (name : Option Ident) (written : FieldForm) (inits : List Init)
      → form_value scene env (Construct name written inits) ≡ with_case (case_named scene.definition name) (built_value scene env inits)
  form_value-Construct env name written inits =
      let row = inits_of (Construct name written inits) in
      λ i. with_case (case_named scene.definition name) (λ variant fields.
      (inits_value-items env row.0 row.1 fields (built variant) ∙ ap (λ (inits : List Init). inits_list scene env inits fields (built variant)) (items_hidden-the_row-Init-3 inits)) i)

  -- what is bound of the value of a name, by its variant
  pub bound_named-known : (env : Env) (found : Option Referent) (pattern : Pattern) (value : Value) (variant : Option Variant)
      → value_named scene env found ≡ Some value → variant_of scene.definition value ≡ variant → bound_named scene env pattern found ≡ bound_of variant pattern (fields_named found value)
  bound_named-known env found pattern value variant is of =
      ap (option_and_then (λ value. bindings_of scene.definition pattern value (fields_named found value))) is
      ∙ ap (λ (variant : Option Variant). bound_of variant pattern (fields_named found value)) of

  if_let_fits : (env : Env) (pattern : Pattern) (forms : List Form) (others : Option (List Form)) (referents : Value → List Referent) (named : Option Value) (b : Bool)
      → option_map (fits scene.definition pattern) named ≡ Some b
      → with_value named (λ value. if_let_value scene env pattern forms others value (referents value))
      ≡ (if b then with_value named (λ value. taken scene env pattern forms value (referents value)) else or_nothing env (held_list scene others))
  if_let_fits env pattern forms others referents None b test = absurd (none-some b test)
  if_let_fits env pattern forms others referents (Some value) b test =
      ap (λ (b : Bool). if b then taken scene env pattern forms value (referents value) else or_nothing env (held_list scene others)) (same_Some _ b test)

  -- an `if let`, by whether the pattern fits the value that its name stands for
  pub if_let_known : (env : Env) (form : Form) (pattern : Pattern) (name : Ident) (forms : List Form) (others : Option (List Form)) (found : Option Referent) (b : Bool)
      → form ≡ IfLet pattern name forms others → found ≡ look_up env.names name.text → option_map (fits scene.definition pattern) (value_named scene env found) ≡ Some b
      → form_value scene env form ≡ (if b then with_named scene env found (taken scene env pattern forms) else or_nothing env (held_list scene others))
  if_let_known env form pattern name forms others found b is of test =
      ap (form_value scene env) is ∙ form_value-IfLet env pattern name forms others
      ∙ ap (λ (found : Option Referent). with_named scene env found (if_let_value scene env pattern forms others)) (sym of)
      ∙ if_let_fits env pattern forms others (fields_named found) (value_named scene env found) b test

  -- a match on an order with a block, by how what is matched ends
  pub match_held : (env : Env) (form matched : Form) (partial : Bool) (held : Option (List Form)) (block : List Form) (greater less : Ordering) (flow : Flow)
      → form ≡ MatchOrdering matched partial held greater less → held ≡ Some block → flow ≡ form_value scene env matched
      → form_value scene env form ≡ go_on flow (block_arm partial greater less (λ env. leave env.names (list_value scene env Nothing block)))
  match_held env form matched partial held block greater less flow is some gives =
      ap (form_value scene env) is ∙ form_value-MatchOrdering env matched partial held greater less
      ∙ (λ i. go_on (sym gives i) (order_match partial greater less (held_list scene (some i))))

  -- the next argument, by how it ends, and then the others
  pub args_list-step : (env : Env) (forms : List Form) (i : ℕ) (x : Form) (flow end : Flow) (next : Env → List Thing → Flow) → i < length forms → x ≡ get_or forms i x → flow ≡ form_value scene env x → flow ≡ end
      → args_list scene env (drop i forms) next ≡ go_on end (λ env thing. args_list scene env (drop (i + 1) forms) (λ env things. next env (thing ∷ things)))
  args_list-step env forms i x flow end next inside is gives ends =
      ap (λ forms. args_list scene env forms next) (drop_more forms i x inside ∙ ap (λ x. x ∷ drop (i + 1) forms) (sym is))
      ∙ ap (λ flow. go_on flow (λ env thing. args_list scene env (drop (i + 1) forms) (λ env things. next env (thing ∷ things)))) (sym gives ∙ ends)

  -- the value of a call by one more argument behind those that are gathered, which count
  pub args_list-gathered : (env : Env) (table : Answers) (callee : Option Callee) (before things : List Thing) (thing : Thing) (rest : List Form) → things ≡ before ++ counted (thing ∷ [])
      → args_list scene env rest (λ env more. call_named table callee env (things ++ more)) ≡ args_list scene env rest (λ env more. call_named table callee env (before ++ thing ∷ more))
  args_list-gathered env table callee before things thing rest is =
      λ i. args_list scene env rest (λ env more. call_named-alike table callee env (things ++ more) (before ++ thing ∷ more) (counted-gathered before things thing more is) i)

  -- no argument is left
  pub args_list-all : (env : Env) (forms : List Form) (i : ℕ) (things : List Thing) (next : Env → List Thing → Flow) → length forms ≤ i
      → next env things ≡ args_list scene env (drop i forms) (λ env more. next env (things ++ more))
  args_list-all env forms i things next all =
      ap (next env) (sym (append-nil things)) ∙ ap (λ forms. args_list scene env forms (λ env more. next env (things ++ more))) (sym (drop_all i forms all))

  -- the next initializer, where a value is made of it, and then the others
  pub inits_list-step : (env after : Env) (inits : List Init) (fields : List Field) (i : ℕ) (init : Init) (field : Field) (flow : Flow) (thing : Thing) (value : FieldValue) (next : Env → List FieldValue → Flow)
      → i < length inits → i < length fields → init ≡ get_or inits i init → field ≡ get_or fields i field → has_key init.key field.ident ≡ true
      → flow ≡ form_value (for_field scene field) env init.value → flow ≡ Gives after thing → made_value thing ≡ Some value
      → inits_list scene env (drop i inits) (drop i fields) next ≡ inits_list scene after (drop (i + 1) inits) (drop (i + 1) fields) (λ env values. next env (value ∷ values))
  inits_list-step env after inits fields i init field flow thing value next inside within is of test gives ends made =
      let others = λ (env : Env) (value : FieldValue). inits_list scene env (drop (i + 1) inits) (drop (i + 1) fields) (λ env values. next env (value ∷ values)) in
      (λ k. inits_list scene env ((drop_more inits i init inside ∙ ap (λ x. x ∷ drop (i + 1) inits) (sym is)) k) ((drop_more fields i field within ∙ ap (λ f. f ∷ drop (i + 1) fields) (sym of)) k) next)
      ∙ inits_list-first scene env init (drop (i + 1) inits) field (drop (i + 1) fields) next true test
      ∙ ap (λ flow. go_on flow (if_made others)) (sym gives ∙ ends)
      ∙ ap (λ made. with_made made (others after)) made

  inits_list-none : (env : Env) (fields : List Field) (next : Env → List FieldValue → Flow) → 0 < length fields → inits_list scene env [] fields next ≡ Stuck
  inits_list-none env [] next some = absurd (omega arith)
  inits_list-none env (f ∷ fs) next some = refl

  -- a field without an initializer
  pub inits_list-fewer : (env : Env) (inits : List Init) (fields : List Field) (i : ℕ) (next : Env → List FieldValue → Flow) → length inits ≤ i → i < length fields
      → inits_list scene env (drop i inits) (drop i fields) next ≡ Stuck
  inits_list-fewer env inits fields i next all within =
      ap (λ inits. inits_list scene env inits (drop i fields) next) (drop_all i inits all)
      ∙ inits_list-none env (drop i fields) next (let left = length-drop i fields in omega arith)

  -- the value of one more initializer behind those that are gathered
  pub inits_list-gathered : (env : Env) (before values : List FieldValue) (value : FieldValue) (inits : List Init) (fields : List Field) (next : Env → List FieldValue → Flow) → values ≡ before ++ value ∷ []
      → inits_list scene env inits fields (λ env more. next env (values ++ more)) ≡ inits_list scene env inits fields (λ env more. next env (before ++ value ∷ more))
  inits_list-gathered env before values value inits fields next is =
      λ k. inits_list scene env inits fields (λ env more. next env ((ap (λ (values : List FieldValue). values ++ more) is ∙ append_assoc before (value ∷ []) more) k))

  -- no initializer is left, and no field
  pub inits_list-all : (env : Env) (inits : List Init) (fields : List Field) (i : ℕ) (values : List FieldValue) (next : Env → List FieldValue → Flow) → length inits ≤ i → length fields ≤ i
      → next env values ≡ inits_list scene env (drop i inits) (drop i fields) (λ env more. next env (values ++ more))
  inits_list-all env inits fields i values next all none =
      ap (next env) (sym (append-nil values))
      ∙ (λ k. inits_list scene env (sym (drop_all i inits all) k) (sym (drop_all i fields none) k) (λ env more. next env (values ++ more)))
