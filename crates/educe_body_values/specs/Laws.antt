-- What holds of bodies with no call: of the keys of fields, of what paths call, and of the values of forms that hold forms.
use Rattle.std.specs.Prelude.{◌≡◌, ◌≤◌, ◌^◌, ℕ, Bool, false, List, [], ◌∷◌, map, Option, Some, length}
use Rattle.std.specs.List.{AllByRecursion}
use Rattle.std.specs.declared.cmp.Ordering.{Ordering}
use Rattle.educe_tokens.specs.declared.token.Token.{Token}
use Rattle.educe_tokens.specs.declared.word.Word.{Word}
use Rattle.educe_tokens.specs.declared.written.Written.{Written}
use Rattle.educe_tokens.specs.WrittenLexemes.{written_lexemes}
use Rattle.educe_tree.specs.declared.data.Field.{Field}
use Rattle.educe_tree.specs.declared.data.FieldForm.{FieldForm}
use Rattle.educe_tree.specs.declared.derive.DeriveInput.{DeriveInput}
use Rattle.educe_tree.specs.declared.expr.Expr.{Expr}
use Rattle.educe_tree.specs.declared.expr.ExprPath.{ExprPath}
use Rattle.educe_tree.specs.declared.ident.Ident.{Ident}
use Rattle.educe_tree.specs.Names.{unraw}
use Rattle.educe_grammar.specs.Naming.{field_names, AreApart, AreNamesApart}
use Rattle.educe_body_forms.specs.declared.form.Form.{Form, Call, Not, IfReturn, Return, SomeOf, MatchOrdering, MatchValue, IfLet, Block, HashPart, Construct, AssignField, AssignThrough, WriteText, HelperType, Builder, BuilderEntry, MethodArgument, Finish}
use Rattle.educe_body_forms.specs.declared.form.Arm.{Arm}
use Rattle.educe_body_forms.specs.declared.form.Init.{Init}
use Rattle.educe_body_forms.specs.declared.literal_text.LiteralText.{LiteralText}
use Rattle.educe_body_forms.specs.declared.pattern.Pattern.{Pattern}
use Rattle.educe_body_forms.specs.declared.shown.ArgumentNames.{ArgumentNames}
use Rattle.educe_body_forms.specs.declared.shown.EntryKey.{EntryKey}
use Rattle.educe_body_forms.specs.declared.shown.Opening.{Opening}
use Rattle.educe_body_values.specs.declared.answers.Answers.{Answers}
use Rattle.educe_body_values.specs.declared.value.FieldValue.{FieldValue}
use Rattle.educe_body_values.specs.declared.callee.BuiltIn.{BuiltIn}
use Rattle.educe_body_values.specs.declared.environment.Binding.{Binding}
use Rattle.educe_body_values.specs.declared.environment.Env.{Env}
use Rattle.educe_body_values.specs.declared.environment.Referent.TheVariants.{Helper}
use Rattle.educe_body_values.specs.declared.flow.Thing.{Thing}
use Rattle.educe_body_values.specs.declared.flow.Thing.TheVariants.{Nothing}
use Rattle.educe_body_values.specs.declared.flow.Flow.TheVariants.{Gives, Returns}
use Rattle.educe_body_values.specs.BuiltIn.{path_lexemes, IsBuiltIn}
use Rattle.educe_body_values.specs.Callees.{built_in, as_callee, callee_of}
use Rattle.educe_body_values.specs.Cases.{case_named}
use Rattle.educe_body_values.specs.Constants.{number_of, number_in}
use Rattle.educe_body_forms.specs.Keys.{AreDifferent, fields_of, keys_from, keys_of}
use Rattle.educe_body_values.specs.Scoping.{names_bound, callee_in, IsApart, AreOwnNames}
use Rattle.educe_body_values.specs.Meaning.{Scene, form_value, list_value, args_list, held_list, arms_list, if_let_value, part_of, call_value, with_named, field_named, look_up, go_on, leave, opposite, some_of, unless_true, hash_part, order_match, with_case, built_value, assign, text_flow, declared, builder_flow, entry_flow, argument_flow, finished}

-- By this look-up the keys give the values, one for each.
abbrev pub KeysGive : (List ℕ → Option FieldValue) → List (List ℕ) → List FieldValue → Type 0
KeysGive look [] [] = Unit {0}
KeysGive look [] (x ∷ values) = ⊥
KeysGive look (k ∷ keys) [] = ⊥
KeysGive look (k ∷ keys) (x ∷ values) = (look k ≡ Some x) × KeysGive look keys values

-- What holds of the keys of fields.
pub record KeyLaws : Type 0 where
  -- Where the names of fields are apart, a leading `r#` aside, their keys differ without `r#`.
  pub apart : (fields : List Field) → AreApart (field_names fields) → length fields ≤ 2 ^ 64 → AreDifferent (map unraw (keys_from 0 fields))
  -- Where the names of a definition are apart, the keys of the fields of a struct differ.
  pub differ : (definition : DeriveInput) → AreNamesApart definition → length (fields_of definition) ≤ 2 ^ 64 → AreDifferent (keys_of definition)
  -- Keys that differ select the values at their places.
  pub select : (keys : List (List ℕ)) (values : List FieldValue) → AreDifferent keys → length keys ≡ length values → KeysGive (part_of keys values) keys values

-- What paths call where names are in scope.
pub record ScopeLaws : Type 0 where
  -- Where no name in scope is a word of the input, `self` aside, and each identifier of the path is one, the path calls what it names.
  pub own : (input : List Token) (names : List Binding) (path : ExprPath) → AllByRecursion (IsApart input) names → AreOwnNames input path.written.tokens
      → callee_in names path ≡ Some (callee_of path)
  -- A path that names a function that is built in calls it, whatever names are in scope.
  pub called : (names : List Binding) (path : ExprPath) (which : BuiltIn) → built_in path ≡ Some which → callee_in names path ≡ Some (as_callee which)
  -- A path that is printed as generated code writes a built-in function calls that function, whatever names are in scope.
  pub printed : (names : List Binding) (path : ExprPath) (which : BuiltIn) → written_lexemes path.written ≡ path_lexemes which → callee_in names path ≡ Some (as_callee which)
  -- The path that is made for a built-in function calls it, whatever names are in scope.
  pub made : (names : List Binding) (path : ExprPath) (which : BuiltIn) → IsBuiltIn which path → callee_in names path ≡ Some (as_callee which)
  -- An expression whose identifiers are words of the input has the number that it has where no name is in scope.
  pub number : (input : List Token) (table : Answers) (names : List Binding) (value : Expr) → AllByRecursion (IsApart input) names → AreOwnNames input value.written.tokens
      → number_in table names value ≡ number_of table value
  -- Tokens whose identifiers are words of the input have no name in scope.
  pub free : (input : List Token) (names : List Binding) (tokens : List Token) → AllByRecursion (IsApart input) names → AreOwnNames input tokens → names_bound names tokens ≡ false

-- What holds of forms that hold forms.
pub record FormLaws : Type 0 where
  -- The value of a call, by the values of its arguments, each where the one before left the names.
  pub call : (scene : Scene) (env : Env) (path : ExprPath) (arguments : List Form) → form_value scene env (Call path arguments) ≡ args_list scene env arguments (call_value scene env.names path)
  -- The value of a call of two arguments that leave the names as they are.
  pub call_two : (scene : Scene) (env : Env) (path : ExprPath) (x y : Form) (a b : Thing) → form_value scene env x ≡ Gives env a → form_value scene env y ≡ Gives env b
      → form_value scene env (Call path (x ∷ y ∷ [])) ≡ call_value scene env.names path env (a ∷ b ∷ [])
  -- The value of a negation, by the value of what it negates.
  pub negation : (scene : Scene) (env : Env) (held : Form) → form_value scene env (Not held) ≡ go_on (form_value scene env held) opposite
  -- The value of an order in `Some`, by the value of the order.
  pub in_some : (scene : Scene) (env : Env) (held : Form) → form_value scene env (SomeOf held) ≡ go_on (form_value scene env held) some_of
  -- The value of a test, by the value of its condition.
  pub test : (scene : Scene) (env : Env) (held : Form) → form_value scene env (IfReturn held) ≡ go_on (form_value scene env held) unless_true
  -- The value of a return, by the value that is returned.
  pub returned : (scene : Scene) (env : Env) (held : Form) → form_value scene env (Return held) ≡ go_on (form_value scene env held) Returns
  -- The value of a match on an order, by the value of what is matched.
  pub matches : (scene : Scene) (env : Env) (matched : Form) (partial : Bool) (held : Option (List Form)) (greater less : Ordering)
      → form_value scene env (MatchOrdering matched partial held greater less) ≡ go_on (form_value scene env matched) (order_match partial greater less (held_list scene held))
  -- The value of a match on a value, by the arm that is taken.
  pub match_value : (scene : Scene) (env : Env) (name : Ident) (arms : List Arm)
      → form_value scene env (MatchValue name arms) ≡ with_named scene env (look_up env.names name.text) (arms_list scene env arms)
  -- The value of an `if let`, by the forms behind its pattern or the others.
  pub if_let : (scene : Scene) (env : Env) (pattern : Pattern) (name : Ident) (forms : List Form) (others : Option (List Form))
      → form_value scene env (IfLet pattern name forms others) ≡ with_named scene env (look_up env.names name.text) (if_let_value scene env pattern forms others)
  -- The value of a block, by the values of its forms in order.
  pub block : (scene : Scene) (env : Env) (forms : List Form) → form_value scene env (Block forms) ≡ leave env.names (list_value scene env Nothing forms)
  -- The value of a part that is fed to a hasher, by the value of the form that feeds it.
  pub hashed : (scene : Scene) (env : Env) (held : Form) → form_value scene env (HashPart held) ≡ go_on (form_value scene env held) hash_part
  -- The value of what is built, by the values of its initializers in order, however its fields are written.
  pub construct : (scene : Scene) (env : Env) (name : Option Ident) (written : FieldForm) (inits : List Init)
      → form_value scene env (Construct name written inits) ≡ with_case (case_named scene.definition name) (built_value scene env inits)
  -- The value of an assignment to a field of `self`, by the value that is assigned.
  pub assign_field : (scene : Scene) (env : Env) (key : Word) (path : ExprPath) (held : Form) (handed : Bool)
      → form_value scene env (AssignField key path held handed) ≡ go_on (form_value scene env held) (assign scene path handed (field_named scene key.text))
  -- The value of an assignment to what a name stands for, by the value that is assigned.
  pub assign_through : (scene : Scene) (env : Env) (name : Ident) (path : ExprPath) (held : Form) (handed : Bool)
      → form_value scene env (AssignThrough name path held handed) ≡ go_on (form_value scene env held) (assign scene path handed (look_up env.names name.text))
  -- The value of a text that is written.
  pub write_text : (scene : Scene) (env : Env) (formatter : Ident) (text : LiteralText) → form_value scene env (WriteText formatter text) ≡ text_flow env (look_up env.names formatter.text) text.text
  -- The value of the declaration of a helper type.
  pub helper_type : (scene : Scene) (env : Env) (helper formatter : Ident) → form_value scene env (HelperType helper formatter) ≡ declared env helper.text Helper
  -- The value of a builder that is begun.
  pub builder : (scene : Scene) (env : Env) (builder formatter : Ident) (opening : Opening)
      → form_value scene env (Builder builder formatter opening) ≡ builder_flow env (look_up env.names formatter.text) builder.text opening
  -- The value of an entry, by the value that it shows, be it a reference to this or not.
  pub entry : (scene : Scene) (env : Env) (builder : Ident) (key : EntryKey) (held : Form) (by_reference : Bool)
      → form_value scene env (BuilderEntry builder key held by_reference) ≡ go_on (form_value scene env held) (entry_flow (look_up env.names builder.text) key)
  -- The value of the argument of a method, by the field that it is made of.
  pub argument : (scene : Scene) (env : Env) (own : ArgumentNames) (held : Form) (type : Written) (path : ExprPath)
      → form_value scene env (MethodArgument own held type path) ≡ go_on (form_value scene env held) (argument_flow own type path)
  -- The value of the end of a builder.
  pub finish : (scene : Scene) (env : Env) (builder : Ident) → form_value scene env (Finish builder) ≡ finished env (look_up env.names builder.text)
