-- The names in the scope of `fmt`: what each stands for, and that none but `self` is a word of the definition.
use Rattle.std.proofs.Common.{◌≡◌, ◌≢◌, inl, inr, ℕ, Bool, true, false, List, [], ◌∷◌, ◌++◌, Some, refl, sym, ◌∙◌}
use Rattle.std.specs.Prelude.{codes}
use Rattle.std.specs.List.{AllByRecursion}
use Rattle.std.proofs.lemmas.Bool.{false≢true}
use Rattle.educe_syntax.specs.DeriveInput.{DeriveInput}
use Rattle.educe_body.specs.Chosen.{AreApart}
use Rattle.educe_body.specs.NameLaws.{lawful_names}
use Rattle.educe_body_values.specs.Meaning.{look_up}
use Rattle.educe_body_values.specs.Scoping.{IsApart}
use Rattle.educe_body_values.specs.declared.environment.Binding.{Binding}
use Rattle.educe_body_values.specs.declared.environment.Referent.TheVariants.{This, Other, BuilderName, Helper}
use Rattle.educe_body_values.specs.declared.shape.ShapeForm.{ShapeForm}
use Rattle.educe_body_values.specs.declared.shape.ShapeForm.TheVariants as form
use Rattle.educe_meaning.specs.ShownBodies.{DebugNames, plain_fmt_names, chosen_fmt_names, AreDebugNames, is_map}
use Rattle.educe_settings.proofs.Elements.{In, each_joined}
use Rattle.educe_meaning.proofs.ShownNames.{fmt_plain, fmt_are}
use Rattle.educe_meaning.proofs.ShownSteps.{IsHelped, IsBegun}
use Rattle.educe_meaning.proofs.Structs.{names_for}
use Rattle.educe_meaning.proofs.Variables.{before_last, at_last, each_differs, name_not_self, own_apart, outer_apart}

-- the binding of the builder
abbrev pub builder_binding : DebugNames → Binding
builder_binding names = record { name = names.builder; referent = BuilderName }

-- the binding of the type of the keys of a map
abbrev pub helper_binding : DebugNames → Binding
helper_binding names = record { name = names.helper; referent = Helper }

-- with true the binding of the type of the keys of a map, which stands in front
abbrev pub helper_bindings : Bool → DebugNames → List Binding
helper_bindings false names = []
helper_bindings true names = helper_binding names ∷ []

-- the names in scope of the body, with this type or without: `self`, the formatter, and the type
abbrev pub outer : Bool → DebugNames → List Binding
outer maps names = names_for names.formatter ++ helper_bindings maps names

-- where the name of the type stands for it in a map, that type is there where it has to be
helped_by : (names : DebugNames) (form : ShapeForm) (bs : List Binding) → (is_map form ≡ true → look_up bs names.helper ≡ Some Helper) → IsHelped names form bs
helped_by names form.Word bs found = tt
helped_by names form.Struct bs found = tt
helped_by names form.Tuple bs found = tt
helped_by names form.Map bs found = found refl

module _ (d : DeriveInput) (names : DebugNames) (are : AreDebugNames d names) where
  -- the names that are chosen behind the argument, behind the builder, and behind the formatter
  abbrev behind_argument : List (List ℕ)
  behind_argument = names.wrapper ∷ names.helper ∷ names.value_type ∷ names.function_type ∷ names.value ∷ names.value_formatter ∷ []

  abbrev after_builder : List (List ℕ)
  after_builder = names.argument ∷ behind_argument

  abbrev behind_formatter : List (List ℕ)
  behind_formatter = names.builder ∷ after_builder

  -- no two of them are the same
  are_apart : AreApart (chosen_fmt_names names)
  are_apart = lawful_names.apart are.are.words plain_fmt_names (chosen_fmt_names names) (fmt_are d names are).chosen

  helper_not_formatter : names.helper ≢ names.formatter
  helper_not_formatter = (each_differs behind_formatter names.formatter are_apart.0).1.1.1.0

  helper_not_builder : names.helper ≢ names.builder
  helper_not_builder = (each_differs after_builder names.builder are_apart.1.0).1.1.0

  argument_not_builder : names.argument ≢ names.builder
  argument_not_builder = (each_differs after_builder names.builder are_apart.1.0).0

  helper_not_argument : names.helper ≢ names.argument
  helper_not_argument = (each_differs behind_argument names.argument are_apart.1.1.0).1.0

  -- none of them is `self`
  not_self : (name : List ℕ) → In name (chosen_fmt_names names) → name ≢ codes "self"
  not_self = name_not_self d plain_fmt_names (chosen_fmt_names names) (fmt_are d names are) fmt_plain

  pub argument_not_self : names.argument ≢ codes "self"
  argument_not_self = not_self names.argument (inr (inr (inl refl)))

  pub builder_not_self : names.builder ≢ codes "self"
  builder_not_self = not_self names.builder (inr (inl refl))

  -- a binding of one of them hides no word of the definition
  pub chosen_apart : (b : Binding) → In b.name (chosen_fmt_names names) → IsApart d.tokens b
  chosen_apart b found = own_apart d plain_fmt_names (chosen_fmt_names names) (fmt_are d names are) fmt_plain b (inr found)

  -- ---- the names of the body

  -- a name that is not that of the type of the keys stands for what it does without that
  without_helper : (maps : Bool) (name : List ℕ) → names.helper ≢ name → look_up (outer maps names) name ≡ look_up (names_for names.formatter) name
  without_helper false name differs = refl
  without_helper true name differs = before_last (names_for names.formatter) (helper_binding names) name differs

  -- `self` stands for the value
  pub self_found : (maps : Bool) → look_up (outer maps names) (codes "self") ≡ Some This
  self_found maps =
      without_helper maps (codes "self") (not_self names.helper (inr (inr (inr (inr (inl refl))))))
      ∙ before_last (record { name = codes "self"; referent = This } ∷ []) (record { name = names.formatter; referent = Other }) (codes "self") (not_self names.formatter (inl refl))

  -- the name of the formatter stands for the parameter
  pub formatter_found : (maps : Bool) → look_up (outer maps names) names.formatter ≡ Some Other
  formatter_found maps =
      without_helper maps names.formatter helper_not_formatter
      ∙ at_last (record { name = codes "self"; referent = This } ∷ []) (record { name = names.formatter; referent = Other })

  -- the name of the type of the keys stands for this type, where it stands in front
  pub helper_found : (maps : Bool) → maps ≡ true → look_up (outer maps names) names.helper ≡ Some Helper
  helper_found false is = absurd (false≢true is)
  helper_found true is = at_last (names_for names.formatter) (helper_binding names)

  -- none of them hides a word of the definition
  pub outer_hides_none : (maps : Bool) → AllByRecursion (IsApart d.tokens) (outer maps names)
  outer_hides_none false = outer_apart d plain_fmt_names (chosen_fmt_names names) (fmt_are d names are) fmt_plain (outer false names) (inl refl, (inr (inl refl), tt))
  outer_hides_none true =
      outer_apart d plain_fmt_names (chosen_fmt_names names) (fmt_are d names are) fmt_plain (outer true names) (inl refl, (inr (inl refl), (inr (inr (inr (inr (inr (inl refl))))), tt)))

  -- ---- behind the builder

  module _ (around : List Binding) where
    -- the names in scope behind the builder
    abbrev pub begun : List Binding
    begun = around ++ builder_binding names ∷ []

    -- any name but that of the builder stands for what it does in front
    pub behind_builder : (name : List ℕ) → names.builder ≢ name → look_up begun name ≡ look_up around name
    behind_builder name differs = before_last around (builder_binding names) name differs

    -- what the entries rest on holds
    pub is_begun : (form : ShapeForm) → AllByRecursion (IsApart d.tokens) around → (is_map form ≡ true → look_up around names.helper ≡ Some Helper) → IsBegun d.tokens names form begun
    is_begun form apart helped = record {
      apart = each_joined (IsApart d.tokens) around (builder_binding names ∷ []) apart (chosen_apart (builder_binding names) (inr (inl refl)), tt);
      own = chosen_apart;
      builder_found = at_last around (builder_binding names);
      builder_differs = argument_not_builder;
      helped = helped_by names form begun (λ is. behind_builder names.helper (λ same. helper_not_builder (sym same)) ∙ helped is);
      helper_differs = λ same. helper_not_argument (sym same);
    }
