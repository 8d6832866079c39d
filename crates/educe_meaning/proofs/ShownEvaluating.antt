-- The function of the block of `Debug` shows what `fmt` shows of a value.
use Rattle.std.proofs.Common.{◌≡◌, ◌≤◌, ◌^◌, Bool, true, false, ℕ, List, [], ◌∷◌, ◌++◌, map, length, Option, Some, refl, sym, ap, ◌∙◌, subst}
use Rattle.std.specs.Prelude.{Contains, codes}
use Rattle.std.specs.List.{AllByRecursion}
use Rattle.educe_syntax.specs.DeriveInput.{DeriveInput}
use Rattle.educe_syntax.specs.Laws.{lawful_parts}
use Rattle.educe_syntax.specs.Refusal.{IsDefinition}
use Rattle.educe_syntax.specs.Shape.{Shape}
use Rattle.educe_syntax.specs.Shape.TheVariants.{Struct, Enum}
use Rattle.educe_syntax.specs.Variant.{Variant}
use Rattle.educe_syntax.specs.Within.{FieldWithin, VariantWithin, ShapeWithin}
use Rattle.educe_bound_traits.specs.declared.traits.Trait.{Trait}
use Rattle.educe_bound_traits.specs.declared.traits.Trait.TheVariants as trait
use Rattle.educe_body_forms.specs.declared.body.Body.{Body}
use Rattle.educe_body_forms.specs.declared.form.Form.{Form}
use Rattle.educe_body_items.specs.declared.items.Function.{Function}
use Rattle.educe_body_items.specs.declared.items.Item.{Item}
use Rattle.educe_body_values.specs.Meaning.{start, list_value, outcome_of, changed_or_given, ended}
use Rattle.educe_body_values.specs.declared.answers.Answers.{Answers}
use Rattle.educe_body_values.specs.declared.environment.Referent.TheVariants.{Helper}
use Rattle.educe_body_values.specs.declared.outcome.Outcome.TheVariants.{Shape as OutcomeShape}
use Rattle.educe_body_values.specs.declared.flow.Thing.TheVariants.{Nothing}
use Rattle.educe_body_values.specs.declared.value.Value.{Value}
use Rattle.educe_meaning.specs.Blocks.{IsDebugBlock, Shows, scene_with, Evaluates, EachEvaluates}
use Rattle.educe_meaning.specs.Comparing.{HasShape}
use Rattle.educe_settings.specs.Settings.{Kept}
use Rattle.educe_meaning.specs.Showing.{shape_of}
use Rattle.educe_settings.specs.Shown.{ShownCase, entry_row, entry_settings, variant_shown, cases_for, shown_cases, shown_fields, IsCaseRead, AreCasesRead}
use Rattle.educe_meaning.specs.ShownBodies.{DebugNames, AreDebugNames, IsDebugBlockFor, uses_map, HasHelper, IsDebugBody}
use Rattle.educe_settings.proofs.Elements.{each_map, each_both, each_weaker}
use Rattle.educe_meaning.proofs.Fitting.{keys_differ, enum_of, function_means, markers_evaluate}
use Rattle.educe_meaning.proofs.OwnTexts.{own_from}
use Rattle.educe_meaning.proofs.OwnTypes.{HasOwnType, own_types}
use Rattle.educe_meaning.proofs.ShownEnums.{enum_shows}
use Rattle.educe_meaning.proofs.ShownFields.{HoldsIn, by_settings_hold, each_case_holds}
use Rattle.educe_meaning.proofs.ShownScope.{outer}
use Rattle.educe_meaning.proofs.ShownSteps.{HasOwnTexts}
use Rattle.educe_meaning.proofs.ShownStructs.{struct_shows}
use Rattle.educe_meaning.proofs.Stepping.{HasOwnPath}
use Rattle.educe_meaning.proofs.Still.{still_helper}
use Rattle.educe_meaning.proofs.Structs.{env_of, names_for}

-- ---- the texts of a definition

module _ (d : DeriveInput) where
  -- the tokens in the attributes of each field of the case are tokens of the definition
  abbrev IsWithin : ShownCase → Type 0
  IsWithin case = AllByRecursion (FieldWithin (λ t. Contains d.tokens t)) case.fields

  variants_within : (variants : List Variant) → AllByRecursion (VariantWithin (λ t. Contains d.tokens t)) variants → AllByRecursion IsWithin (map (variant_shown d) variants)
  variants_within [] within = tt
  variants_within (v ∷ vs) within = (within.0.1, variants_within vs within.1)

  cases_within : (shape : Shape) → ShapeWithin (λ t. Contains d.tokens t) shape → AllByRecursion IsWithin (cases_for d shape)
  cases_within (Struct shape) within = (within, tt)
  cases_within (Enum variants) within = variants_within variants within

  -- each field of the case that is shown has texts of the definition alone
  abbrev HasOwnFields : ShownCase → Type 0
  HasOwnFields case = AllByRecursion (HasOwnTexts d.tokens) (shown_fields d case)

  case_own : (case : ShownCase) → IsWithin case → IsCaseRead d case → HoldsIn (HasOwnType d.tokens) case → HasOwnFields case
  case_own case within read typed =
      let methods = own_from trait.Debug (entry_row case.named) d 0 case.fields within read in
      let types = by_settings_hold (HasOwnType d.tokens) 0 case.fields (map (entry_settings case.named d) case.fields) typed in
      each_weaker (λ (k : Kept). HasOwnType d.tokens k.field × HasOwnPath d.tokens k.how) (HasOwnTexts d.tokens) (λ k own. record { type_own = own.0; method_own = own.1 }) (shown_fields d case)
      (each_both (λ (k : Kept). HasOwnType d.tokens k.field) (λ (k : Kept). HasOwnPath d.tokens k.how) (shown_fields d case) types methods)

  cases_own : (cases : List ShownCase) → AllByRecursion IsWithin cases → AllByRecursion (IsCaseRead d) cases → AllByRecursion (HoldsIn (HasOwnType d.tokens)) cases → AllByRecursion HasOwnFields cases
  cases_own [] within read typed = tt
  cases_own (case ∷ cases) within read typed = (case_own case within.0 read.0 typed.0, cases_own cases within.1 read.1 typed.1)

  -- each field that is shown has texts of the definition alone, in all cases
  texts_own : IsDefinition d.tokens d → AreCasesRead d → AllByRecursion HasOwnFields (shown_cases d)
  texts_own is read =
      cases_own (shown_cases d) (cases_within d.shape (lawful_parts.definition d.tokens d is.whole)) read (each_case_holds (HasOwnType d.tokens) d (own_types d is.whole))

-- ---- the body

module _ (d : DeriveInput) (is : IsDefinition d.tokens d) (small : length d.tokens ≤ 2 ^ 64) (read : AreCasesRead d) (names : DebugNames) (are : AreDebugNames d names) where
  -- what stands behind the type of the keys shows what `fmt` shows
  forms_show : (maps : Bool) (forms : List Form) (shape : Shape) → d.shape ≡ shape → uses_map d ≡ maps → IsDebugBlockFor d names shape forms → (table : Answers) (a : Value) (other : Option Value)
      → HasShape d a → outcome_of (list_value (scene_with d a other table) (env_of a (outer maps names)) Nothing forms) ≡ OutcomeShape (shape_of d a)
  forms_show maps forms (Struct shape) same used k =
      let own = subst (λ (s : Shape). AllByRecursion (HasOwnFields d) (cases_for d s)) same (texts_own d is read) in
      struct_shows d names are maps shape forms same (keys_differ d is small shape same) own.0 used k
  forms_show maps forms (Enum variants) same used k =
      let own = subst (λ (s : Shape). AllByRecursion (HasOwnFields d) (cases_for d s)) same (texts_own d is read) in
      enum_shows d variants names are maps forms (enum_of d is small variants same) (each_map (HasOwnFields d) (variant_shown d) variants own) used k

  -- the block shows what `fmt` shows
  block_shows : (maps : Bool) (block forms : List Form) → uses_map d ≡ maps → HasHelper maps names forms block → IsDebugBlockFor d names d.shape forms → (table : Answers) (a : Value)
      (other : Option Value) → HasShape d a → outcome_of (list_value (scene_with d a other table) (env_of a (names_for names.formatter)) Nothing block) ≡ OutcomeShape (shape_of d a)
  block_shows false block forms used helper k table a other has =
      ap (λ (forms : List Form). outcome_of (list_value (scene_with d a other table) (env_of a (names_for names.formatter)) Nothing forms)) helper
      ∙ forms_show false forms d.shape refl used k table a other has
  block_shows true block forms used helper k table a other has =
      ap (λ (forms : List Form). outcome_of (list_value (scene_with d a other table) (env_of a (names_for names.formatter)) Nothing forms)) helper.4
      ∙ ap (λ (name : List ℕ). outcome_of (list_value (scene_with d a other table) (env_of a (names_for names.formatter ++ record { name = name; referent = Helper } ∷ [])) Nothing forms)) helper.2.is
      ∙ forms_show true forms d.shape refl used k table a other has

  -- and the body
  body_shows : (body : Body) → IsDebugBody d names body → Shows d body
  body_shows body k table a other has =
      (λ i. ended (k.params_are i) body.block (list_value (scene_with d a other table) (start (k.params_are i) (Some a)) Nothing body.block))
      ∙ (λ i. changed_or_given (still_helper d names (uses_map d) d.shape k.forms body.block k.forms_are k.block_is i)
      (list_value (scene_with d a other table) (env_of a (names_for (k.param_is i))) Nothing body.block))
      ∙ block_shows (uses_map d) body.block k.forms refl k.block_is k.forms_are table a other has

-- the functions of the block of `Debug` evaluate to what they mean
pub debug_evaluates : (d : DeriveInput) (items : List Item) → IsDefinition d.tokens d → length d.tokens ≤ 2 ^ 64 → AreCasesRead d → IsDebugBlock d items → AllByRecursion (EachEvaluates d) items
debug_evaluates d items is small read k =
    let EachOf : Trait → Type 0 = λ which. AllByRecursion (Evaluates which d) k.item.functions in
    let own = function_means (Evaluates trait.Debug d) (codes "fmt") _ (λ (f : Function) named right. body_shows d is small read k.names k.names_are f.body right) k.item.functions k.impl_is.functions_are in
    subst (AllByRecursion (EachEvaluates d)) (sym k.are) (subst EachOf (sym k.impl_is.which_is) own, markers_evaluate d k.markers)
