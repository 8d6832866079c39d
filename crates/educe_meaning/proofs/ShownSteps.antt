-- What the entries of a case add to what `fmt` shows.
use Rattle.std.proofs.Common.{◌≡◌, ◌≢◌, Bool, true, false, inl, inr, ℕ, List, [], ◌∷◌, ◌++◌, length, Option, Some, map, refl, sym, ap, ◌∙◌}
use Rattle.std.specs.Prelude.{if◌then◌else◌, slice_get}
use Rattle.std.specs.List.{AllByRecursion}
use Rattle.std.specs.Option.{option_map}
use Rattle.std.proofs.lemmas.List.{append_assoc, append-nil}
use Rattle.educe_tokens.specs.declared.token.Token.{Token}
use Rattle.educe_syntax.specs.DeriveInput.{DeriveInput}
use Rattle.educe_syntax.specs.ExprPath.{ExprPath}
use Rattle.educe_syntax.specs.Field.{Field}
use Rattle.educe_body_forms.specs.declared.form.Form.{Form, Local}
use Rattle.educe_body_forms.specs.declared.shown.ArgumentNames.{ArgumentNames}
use Rattle.educe_body_forms.specs.declared.shown.EntryKey.{EntryKey}
use Rattle.educe_body_values.specs.Callees.{text_of_path}
use Rattle.educe_body_values.specs.Meaning.{Scene, look_up, local_flow, go_on, form_value, list_value, is_helper, fits_form, entry_of, added, entry_flow, inert, around_type, around_method, argument_made, argument_flow}
use Rattle.educe_body_values.specs.Meaning as meaning
use Rattle.educe_body_values.specs.Scoping.{callee_in, IsApart, AreOwnNames}
use Rattle.educe_body_values.specs.declared.environment.ArgumentMade.{ArgumentMade}
use Rattle.educe_body_values.specs.declared.environment.Binding.{Binding}
use Rattle.educe_body_values.specs.declared.environment.Env.{Env}
use Rattle.educe_body_values.specs.declared.environment.Own.{Own}
use Rattle.educe_body_values.specs.declared.environment.Referent.{Referent}
use Rattle.educe_body_values.specs.declared.environment.Referent.TheVariants.{BuilderName, Helper, Argument}
use Rattle.educe_body_values.specs.declared.flow.Flow.{Flow}
use Rattle.educe_body_values.specs.declared.flow.Flow.TheVariants.{Gives, Stuck}
use Rattle.educe_body_values.specs.declared.flow.Thing.{Thing}
use Rattle.educe_body_values.specs.declared.flow.Thing.TheVariants.{Nothing, Part, Argument as ArgumentThing}
use Rattle.educe_body_values.specs.declared.shape.DebugShape.{DebugShape}
use Rattle.educe_body_values.specs.declared.shape.Entry.{Entry}
use Rattle.educe_body_values.specs.declared.shape.ShapeForm.{ShapeForm}
use Rattle.educe_body_values.specs.declared.shape.ShapeForm.TheVariants as form
use Rattle.educe_body_values.specs.declared.value.FieldValue.{FieldValue}
use Rattle.educe_meaning.specs.BodyLaws.{lawful_forms, lawful_scopes}
use Rattle.educe_settings.specs.Settings.{Kept, How, plainly, by_method, by_order}
use Rattle.educe_meaning.specs.Showing.{method_text, entry_with, form_by, form_of, shown_key}
use Rattle.educe_settings.specs.Shown.{ShownCase}
use Rattle.educe_meaning.specs.ShownBodies.{DebugNames, chosen_fmt_names, IsEntryKey, IsEntry, AreArgumentNames, IsArgument, is_lent, AreByMethod, AreFormsBy, AreEntries}
use Rattle.educe_meaning.specs.Steps.{Reading, IsRead}
use Rattle.educe_settings.proofs.Elements.{In, each_joined}
use Rattle.educe_meaning.proofs.Pairing.{Look, value_in}
use Rattle.educe_meaning.proofs.Stepping.{HasOwnPath}
use Rattle.educe_meaning.proofs.Variables.{before_last, at_last}

-- ---- names that grow

-- these names in scope, what `self` is, what is shown, and the arguments that were made
abbrev pub showing : List Binding → Option Own → DebugShape → List ArgumentMade → Env
showing names self shown arguments = record { names = names; parts = []; own = self; shown = Some shown; arguments = arguments }

-- the names in scope where arguments of this name were made behind others: none is a word of the input, and any other name stands for
-- what it did before
pub record Stands (input : List Token) (argument : List ℕ) (before names : List Binding) : Type 0 where
  pub apart : AllByRecursion (IsApart input) names
  pub found : (name : List ℕ) → argument ≢ name → look_up names name ≡ look_up before name

-- where no argument was made, the names in scope are those before
pub stands_first : (input : List Token) (argument : List ℕ) (before : List Binding) → AllByRecursion (IsApart input) before → Stands input argument before before
stands_first input argument before each = record { apart = each; found = λ name differs. refl }

-- and behind one more
stands_more : (input : List Token) (argument : List ℕ) (before names : List Binding) (b : Binding) → b.name ≡ argument → IsApart input b → Stands input argument before names
    → Stands input argument before (names ++ b ∷ [])
stands_more input argument before names b is own stands = record {
  apart = each_joined (IsApart input) names (b ∷ []) stands.apart (own, tt);
  found = λ name differs. before_last names b name (λ same. differs (sym is ∙ same)) ∙ stands.found name differs;
}

-- the last of several
last_of : {X : Type 0} (xs : List X) (x : X) → slice_get (xs ++ x ∷ []) (length xs) ≡ Some x
last_of [] x = refl
last_of (y ∷ xs) x = last_of xs x

-- ---- keys

-- in a map, the name of the type of its keys stands for that
abbrev pub IsHelped : DebugNames → ShapeForm → List Binding → Type 0
IsHelped names form.Word bs = Unit {0}
IsHelped names form.Struct bs = Unit {0}
IsHelped names form.Tuple bs = Unit {0}
IsHelped names form.Map bs = look_up bs names.helper ≡ Some Helper

-- the key of an entry fits the form of what is shown
fitting : (names : DebugNames) (form : ShapeForm) (bs : List Binding) (text : List ℕ) (key : EntryKey) → IsHelped names form bs → IsEntryKey names form text key → fits_form bs form key ≡ true
fitting names form.Word bs text key helped is = absurd is
fitting names form.Struct bs text key helped is = ap (fits_form bs form.Struct) is.2
fitting names form.Tuple bs text key helped is = ap (fits_form bs form.Tuple) is
fitting names form.Map bs text key helped is = ap (fits_form bs form.Map) is.4 ∙ ap is_helper (ap (look_up bs) is.2.is ∙ helped)

-- its text is the name of the field, where names of fields are shown
key_is : (names : DebugNames) (unit named : Bool) (name : List ℕ) (d : DeriveInput) (k : Kept) (key : EntryKey) → IsEntryKey names (form_by unit named name) (shown_key named d k) key
    → meaning.key_text key ≡ shown_key named d k
key_is names true named name d k key is = absurd is
key_is names false false name d k key is = ap meaning.key_text is
key_is names false true [] d k key is = ap meaning.key_text is.4 ∙ is.3.is
key_is names false true (c ∷ name) d k key is = ap meaning.key_text is.2 ∙ is.1.is

-- ---- what entries rest on

-- the names in scope behind the builder: none is a word of the input; the name of the builder stands for it, and in a map that of the
-- type of its keys for that; and neither is the name of an argument, which may hide it
pub record IsBegun (input : List Token) (names : DebugNames) (form : ShapeForm) (before : List Binding) : Type 0 where
  pub apart : AllByRecursion (IsApart input) before
  pub own : (b : Binding) → In b.name (chosen_fmt_names names) → IsApart input b
  pub builder_found : look_up before names.builder ≡ Some BuilderName
  pub builder_differs : names.argument ≢ names.builder
  pub helped : IsHelped names form before
  pub helper_differs : names.argument ≢ names.helper

-- the type of the field and the path of its method have names of the input alone
pub record HasOwnTexts (input : List Token) (k : Kept) : Type 0 where
  pub type_own : AreOwnNames input k.field.ty.written.tokens
  pub method_own : HasOwnPath input k.how

module _ (scene : Scene) (input : List Token) (names : DebugNames) (self : Option Own) (before : List Binding) where
  -- arguments were made behind the names before
  abbrev pub Grown : List Binding → Type 0
  Grown bs = Stands input names.argument before bs

  -- what reads a field so gives its value, wherever an entry stands
  abbrev pub ReadsField : Reading → Look → Kept → Type 0
  ReadsField reading look k = (bs : List Binding) (shown : DebugShape) (arguments : List ArgumentMade) (x : Form) → Grown bs → IsRead reading k x
      → form_value scene (showing bs self shown arguments) x ≡ Gives (showing bs self shown arguments) (Part (value_in look k))

  -- ---- one entry

  module _ (own_form : ShapeForm) (begun : IsBegun input names own_form before) where
    -- the type of the keys stands for itself behind arguments
    still_helped : (form : ShapeForm) (bs : List Binding) → IsHelped names form before → Grown bs → IsHelped names form bs
    still_helped form.Word bs helped grown = tt
    still_helped form.Struct bs helped grown = tt
    still_helped form.Tuple bs helped grown = tt
    still_helped form.Map bs helped grown = grown.found names.helper begun.helper_differs ∙ helped

    module _ (bs : List Binding) (grown : Grown bs) (shown : DebugShape) (same : shown.form ≡ own_form) (arguments : List ArgumentMade) where
      abbrev env : Env
      env = showing bs self shown arguments

      -- what is shown, and this entry
      abbrev with_entry : Entry → DebugShape
      with_entry e = record shown { entries = shown.entries ++ e ∷ [] }

      -- an entry is added of what a form gives
      entry_value : (text : List ℕ) (by_reference : Bool) (held x : Form) (thing : Thing) (e : Entry) (is : IsEntry names own_form text by_reference held x) → meaning.key_text is.key ≡ text
          → form_value scene env held ≡ Gives env thing → entry_of text arguments thing ≡ Some e → form_value scene env x ≡ Gives (showing bs self (with_entry e) arguments) Nothing
      entry_value text by_reference held x thing e is key gives made =
          let fits = ap (λ (f : ShapeForm). fits_form bs f is.key) same ∙ fitting names own_form bs text is.key (still_helped own_form bs begun.helped grown) is.key_is in
          ap (form_value scene env) is.is ∙ lawful_forms.entry scene env is.builder is.key held by_reference
          ∙ ap (λ (flow : Flow). go_on flow (entry_flow (look_up bs is.builder.text) is.key)) gives
          ∙ ap (λ (o : Option Referent). entry_flow o is.key env thing) (ap (look_up bs) is.builder_is.is ∙ grown.found names.builder begun.builder_differs ∙ begun.builder_found)
          ∙ ap (λ (b : Bool). if b then added env shown (entry_of (meaning.key_text is.key) arguments thing) else Stuck) fits
          ∙ ap (λ (t : List ℕ). added env shown (entry_of t arguments thing)) key ∙ ap (added env shown) made

      -- the names in an argument hide no word of the input
      inner_apart : (own : ArgumentNames) → AreArgumentNames names own → AllByRecursion (IsApart input) (inert own.wrapper ∷ inert own.own_value ∷ inert own.own_formatter ∷ [])
      inner_apart own are = (
        begun.own (inert own.wrapper) (inr (inr (inr (inl (sym are.wrapper_is.is))))),
        (
          begun.own (inert own.own_value) (inr (inr (inr (inr (inr (inr (inr (inl (sym are.own_value_is.is))))))))),
          (begun.own (inert own.own_formatter) (inr (inr (inr (inr (inr (inr (inr (inr (inl (sym are.own_formatter_is.is)))))))))), tt),
        ),
      )

      -- the binding of an argument, and what is made
      abbrev bound_argument : List ℕ → Binding
      bound_argument name = record { name = name; referent = Argument (length arguments) }

      abbrev made_of : ExprPath → FieldValue → ArgumentMade
      made_of path x = record { method = text_of_path path; value = x }

      -- one more argument is made of a field
      argument_value : (field : Field) (path : ExprPath) (held x : Form) (v : FieldValue) (is : IsArgument names field path held x) → form_value scene env held ≡ Gives env (Part v)
          → AreOwnNames input field.ty.written.tokens → AreOwnNames input path.written.tokens
          → form_value scene env x ≡ Gives (showing (bs ++ bound_argument is.own.argument.text ∷ []) self shown (arguments ++ made_of path v ∷ [])) Nothing
      argument_value field path held x v is gives type_own method_own =
          let inner = inner_apart is.own is.own_are in
          let name = is.own.argument.text in
          ap (form_value scene env) is.is ∙ lawful_forms.argument scene env is.own held field.ty.written path
          ∙ ap (λ (flow : Flow). go_on flow (argument_flow is.own field.ty.written path)) gives
          ∙ ap (λ (b : Bool). if b then Stuck else argument_made env name path v (callee_in (around_method bs is.own) path))
          (lawful_scopes.free input (around_type bs is.own) field.ty.written.tokens (each_joined (IsApart input) bs (inert is.own.wrapper ∷ []) grown.apart (inner.0, tt)) type_own)
          ∙ ap (argument_made env name path v)
          (lawful_scopes.own input (around_method bs is.own) path (each_joined (IsApart input) bs (inert is.own.wrapper ∷ inert is.own.own_value ∷ inert is.own.own_formatter ∷ []) grown.apart inner) method_own)

    -- ---- several entries

    -- forms end with these names and arguments, and with these entries more
    pub record Ends (bs : List Binding) (shown : DebugShape) (arguments : List ArgumentMade) (forms rest : List Form) (more : List Entry) : Type 0 where
      pub names_after : List Binding
      pub arguments_after : List ArgumentMade
      pub grown : Grown names_after
      pub is : list_value scene (showing bs self shown arguments) Nothing (forms ++ rest)
          ≡ list_value scene (showing names_after self (record shown { entries = shown.entries ++ more }) arguments_after) Nothing rest

    -- what comes after forms, where others come first
    ends_joined : (bs : List Binding) (shown : DebugShape) (arguments : List ArgumentMade) (own more forms rest : List Form) (e : Entry) (es : List Entry) → forms ≡ own ++ more
        → (first : Ends bs shown arguments own (more ++ rest) (e ∷ []))
        → Ends first.names_after (record shown { entries = shown.entries ++ e ∷ [] }) first.arguments_after more rest es → Ends bs shown arguments forms rest (e ∷ es)
    ends_joined bs shown arguments own more forms rest e es split first second = record {
      names_after = second.names_after;
      arguments_after = second.arguments_after;
      grown = second.grown;
      is = ap (λ (forms : List Form). list_value scene (showing bs self shown arguments) Nothing (forms ++ rest)) split
          ∙ ap (list_value scene (showing bs self shown arguments) Nothing) (append_assoc own more rest) ∙ first.is ∙ second.is
          ∙ ap (λ (all : List Entry). list_value scene (showing second.names_after self (record shown { entries = all }) second.arguments_after) Nothing rest)
          (append_assoc shown.entries (e ∷ []) es);
    }

    module _ (reading : Reading) (look : Look) where
      -- the entry of a field that is treated so
      abbrev entry_by : List ℕ → How → Kept → Entry
      entry_by text how k = record { key = text; method = method_text how; value = value_in look k }

      module _ (k : Kept) (text : List ℕ) (keyed : (key : EntryKey) → IsEntryKey names own_form text key → meaning.key_text key ≡ text) (reads : ReadsField reading look k)
          (bs : List Binding) (grown : Grown bs) (shown : DebugShape) (same : shown.form ≡ own_form) (arguments : List ArgumentMade) (rest : List Form) where
        -- by a method an argument is made, and its entry is added
        method_end : (path : ExprPath) (forms : List Form) → AreByMethod names own_form text reading k path forms → AreOwnNames input k.field.ty.written.tokens → AreOwnNames input path.written.tokens
            → Ends bs shown arguments forms rest (entry_by text (by_method path) k ∷ [])
        method_end path forms are type_own method_own =
            let v = value_in look k in
            let name = are.argument_is.own.argument.text in
            let named : name ≡ names.argument = are.argument_is.own_are.argument_is.is in
            let b : Binding = record { name = name; referent = Argument (length arguments) } in
            let bs_after = bs ++ b ∷ [] in
            let made : ArgumentMade = record { method = text_of_path path; value = v } in
            let made_after = arguments ++ made ∷ [] in
            let grown_after = stands_more input names.argument before bs b named (begun.own b (inr (inr (inl (sym named))))) grown in
            let env_after = showing bs_after self shown made_after in
            let first = argument_value bs grown shown same arguments k.field path are.read are.argument v are.argument_is (reads bs shown arguments are.read grown are.read_is) type_own method_own in
            let second : form_value scene env_after (Local are.local) ≡ Gives env_after (ArgumentThing (length arguments)) =
            ap (local_flow scene env_after) (ap (look_up bs_after) (are.local_is.is ∙ sym named) ∙ at_last bs b) in
            let found : entry_of text made_after (ArgumentThing (length arguments)) ≡ Some (entry_by text (by_method path) k) =
            ap (option_map (meaning.entry_with text)) (last_of arguments made) in
            record {
              names_after = bs_after;
              arguments_after = made_after;
              grown = grown_after;
              is = ap (λ (forms : List Form). list_value scene (showing bs self shown arguments) Nothing (forms ++ rest)) are.are
                  ∙ ap (λ (flow : Flow). go_on flow (λ env thing. list_value scene env thing (are.entry ∷ rest))) first
                  ∙ ap (λ (flow : Flow). go_on flow (λ env thing. list_value scene env thing rest))
                  (entry_value bs_after grown_after shown same made_after text true (Local are.local) are.entry (ArgumentThing (length arguments)) (entry_by text (by_method path) k) are.entry_is
                  (keyed are.entry_is.key are.entry_is.key_is) second found);
            }

        -- the forms on a field add its entry
        forms_end : (how : How) (forms : List Form) → AreFormsBy names own_form text reading k how forms → AreOwnNames input k.field.ty.written.tokens → HasOwnPath input how
            → Ends bs shown arguments forms rest (entry_by text how k ∷ [])
        forms_end plainly forms are type_own method_own = record {
          names_after = bs;
          arguments_after = arguments;
          grown = grown;
          is = ap (λ (forms : List Form). list_value scene (showing bs self shown arguments) Nothing (forms ++ rest)) are.are
              ∙ ap (λ (flow : Flow). go_on flow (λ env thing. list_value scene env thing rest))
              (entry_value bs grown shown same arguments text (is_lent reading) are.read are.entry (Part (value_in look k)) (entry_by text plainly k) are.entry_is
              (keyed are.entry_is.key are.entry_is.key_is) (reads bs shown arguments are.read grown are.read_is) refl);
        }
        forms_end (by_method path) forms are type_own method_own = method_end path forms are type_own method_own
        forms_end (by_order path) forms are type_own method_own = method_end path forms are type_own method_own

  module _ (d : DeriveInput) (case : ShownCase) (reading : Reading) (look : Look) (begun : IsBegun input names (form_of case) before) where
    -- the entry of a field
    abbrev pub entry_for : Kept → Entry
    entry_for k = entry_with case.named d k (value_in look k)

    -- the forms on several fields add the entry of each, in order
    pub entries_end : (kept : List Kept) (forms rest : List Form) (bs : List Binding) (shown : DebugShape) (arguments : List ArgumentMade) → AreEntries d names case reading kept forms
        → AllByRecursion (HasOwnTexts input) kept → AllByRecursion (ReadsField reading look) kept → Grown bs → shown.form ≡ form_of case
        → Ends (form_of case) begun bs shown arguments forms rest (map entry_for kept)
    entries_end [] forms rest bs shown arguments are own reads grown same = record {
      names_after = bs;
      arguments_after = arguments;
      grown = grown;
      is = ap (λ (forms : List Form). list_value scene (showing bs self shown arguments) Nothing (forms ++ rest)) are
          ∙ ap (λ (all : List Entry). list_value scene (showing bs self (record shown { entries = all }) arguments) Nothing rest) (sym (append-nil shown.entries));
    }
    entries_end (k ∷ kept) forms rest bs shown arguments are own reads grown same =
        let first = forms_end (form_of case) begun reading look k (shown_key case.named d k) (key_is names case.unit case.named case.name d k) reads.0 bs grown shown same arguments
        (are.1 ++ rest) k.how are.0 are.3 own.0.type_own own.0.method_own in
        ends_joined (form_of case) begun bs shown arguments are.0 are.1 forms rest (entry_for k) (map entry_for kept) are.2 first
        (entries_end kept are.1 rest first.names_after (record shown { entries = shown.entries ++ entry_for k ∷ [] }) first.arguments_after are.4 own.1 reads.1 first.grown same)
