use Rattle.std.proofs.Common.{◌≡◌, ◌∙◌, true, List, None, map, ap, subst, sym}
use Rattle.std.specs.Prelude.{is_none}
use Rattle.educe_syntax.specs.Field.{Field}
use Rattle.educe_bound_traits.specs.Traits.{is_listed}
use Rattle.educe_bound_traits.specs.declared.traits.Trait.TheVariants.{Default}
use Rattle.educe_settings.specs.Defaults.{type_values, is_open, IsCase}
use Rattle.educe_settings.specs.Listed.{listed}
use Rattle.educe_settings_types.specs.Defaults.{settings_by, AreFieldsRead}
use Rattle.educe_settings_types.proofs.Choices.{none_tested, struct_uncaused, value_chosen, struct_chosen}
use Rattle.educe_settings_types.proofs.default_choice.struct_choice.Goals as goal

pub values_of-requires-clause-case : goal.values_of-requires-clause-case
values_of-requires-clause-case c =
    let ast = c.args.task.ast.now in
    let shape = c.args.shape.now in
    let written : c.is_none.result ≡ is_open ast = none_tested c.args.value c.is_none.result c.is_none.ensures ∙ c.requires.typed.bare_is in
    let case = IsCase.of_struct (type_values ast) shape c.requires.typed.own c.requires.shape in
    subst (λ (fields : List Field). IsCase ast fields c.is_none.result) (sym c.as_slice.ensures) (subst (IsCase ast shape.fields) (sym written) case)

pub returns-in-Some-clause-are : goal.returns-in-Some-clause-are
returns-in-Some-clause-are c = value_chosen c.args.task.ast.now c.in-Some.value (sym c.requires.value ∙ c.in-Some.is)

pub returns-in-Some-clause-uncaused : goal.returns-in-Some-clause-uncaused
returns-in-Some-clause-uncaused c =
    let ast = c.args.task.ast.now in
    let shape = c.args.shape.now in
    let written : c.is_none.result ≡ is_open ast = none_tested c.args.value c.is_none.result c.is_none.ensures ∙ c.requires.typed.bare_is in
    let lists : is_listed (listed ast) Default ≡ true = rw (← c.requires.typed.traits_are) c.requires.lists in
    let read : AreFieldsRead (is_open ast) ast shape.fields = subst (λ b. AreFieldsRead b ast shape.fields) written (subst (AreFieldsRead c.is_none.result ast) c.as_slice.ensures c.in_ok-settings.ensures.uncaused) in
    struct_uncaused ast lists c.requires.typed.own shape c.requires.shape read

pub returns-in-None-clause-are : goal.returns-in-None-clause-are
returns-in-None-clause-are c =
    let ast = c.args.task.ast.now in
    let shape = c.args.shape.now in
    let bare : c.is_none.result ≡ true = none_tested c.args.value c.is_none.result c.is_none.ensures ∙ ap is_none c.in-None.is in
    let none : (type_values ast).expression ≡ None = sym c.requires.value ∙ c.in-None.is in
    (struct_chosen ast shape c.requires.shape none, c.in_ok-settings.ensures.settings ∙ (λ i. map (settings_by (bare i) ast) (c.as_slice.ensures i)))

pub returns-in-None-clause-uncaused : goal.returns-in-None-clause-uncaused
returns-in-None-clause-uncaused c =
    let ast = c.args.task.ast.now in
    let shape = c.args.shape.now in
    let written : c.is_none.result ≡ is_open ast = none_tested c.args.value c.is_none.result c.is_none.ensures ∙ c.requires.typed.bare_is in
    let lists : is_listed (listed ast) Default ≡ true = rw (← c.requires.typed.traits_are) c.requires.lists in
    let read : AreFieldsRead (is_open ast) ast shape.fields = subst (λ b. AreFieldsRead b ast shape.fields) written (subst (AreFieldsRead c.is_none.result ast) c.as_slice.ensures c.in_ok-settings.ensures.uncaused) in
    struct_uncaused ast lists c.requires.typed.own shape c.requires.shape read
