use Rattle.std.proofs.Common.{◌≡◌, ◌∙◌, true, sym}
use Rattle.std.proofs.lemmas.Result.{IfOk-weaker}
use Rattle.educe_attrs.specs.Causes.{NoCause}
use Rattle.educe_attrs.specs.Phases.{OfHandler}
use Rattle.educe_bound_traits.specs.Traits.{is_listed}
use Rattle.educe_bound_traits.specs.declared.traits.Trait.TheVariants.{Default}
use Rattle.educe_settings.specs.Defaults.{by_value}
use Rattle.educe_settings.specs.Handled.{handling}
use Rattle.educe_settings.specs.Listed.{listed}
use Rattle.educe_settings_types.specs.Chosen.{IsChosen}
use Rattle.educe_settings_types.proofs.Choices.{value_chosen, enum_uncaused, choice_some}
use Rattle.educe_settings_types.proofs.default_choice.enum_choice.Goals as goal

pub returns-in-Some-clause-are : goal.returns-in-Some-clause-are
returns-in-Some-clause-are c = value_chosen c.args.task.ast.now c.in-Some.value (sym c.requires.value ∙ c.in-Some.is)

pub returns-in-Some-clause-uncaused : goal.returns-in-Some-clause-uncaused
returns-in-Some-clause-uncaused c =
    let ast = c.args.task.ast.now in
    let lists : is_listed (listed ast) Default ≡ true = rw (← c.requires.typed.traits_are) c.requires.lists in
    enum_uncaused ast lists c.requires.typed.own c.args.variants.now c.requires.shape c.in_ok-marks.ensures.uncaused c.in_ok-values.ensures.uncaused (by_value c.in-Some.value)
    (value_chosen ast c.in-Some.value (sym c.requires.value ∙ c.in-Some.is))

pub returns-clause-uncaused : goal.returns-clause-uncaused
returns-clause-uncaused c =
    let ast = c.args.task.ast.now in
    let lists : is_listed (listed ast) Default ≡ true = rw (← c.requires.typed.traits_are) c.requires.lists in
    IfOk-weaker c.variant_choice.result (IsChosen ast) (λ chosen. NoCause (OfHandler (handling ast) Default))
    (λ chosen is. let found = choice_some ast chosen is in enum_uncaused ast lists c.requires.typed.own c.args.variants.now c.requires.shape c.in_ok-marks.ensures.uncaused c.in_ok-values.ensures.uncaused found.0 found.1)
    c.variant_choice.ensures.are
