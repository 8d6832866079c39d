use Rattle.std.proofs.Common.{◌≡◌, ◌∙◌, true, List, ap, sym}
use Rattle.educe_bound_traits.specs.declared.traits.Trait.{Trait}
use Rattle.educe_bound_traits.specs.declared.traits.Trait.TheVariants.{Copy}
use Rattle.educe_bound_traits.specs.Traits.{is_listed}
use Rattle.educe_settings.specs.Listed.{listed}
use Rattle.educe_settings_types.proofs.Bitwise.{copies_by}
use Rattle.educe_settings_types.proofs.clone_copying.can_use_bitwise_copy.Goals as goal

pub returns-clause-copies : goal.returns-clause-copies
returns-clause-copies c =
    let ast = c.args.task.ast.now in
    let lists : is_listed (listed ast) Copy ≡ true = sym (ap (λ (all : List Trait). is_listed all Copy) c.requires.listed) ∙ sym c.is_listed.ensures ∙ c.if-not-is_listed.false in
    c.is_whole.ensures ∙ copies_by ast c.args.has_custom_method c.in_ok-bound.bound lists c.in_ok-bound.ensures.ok.is
