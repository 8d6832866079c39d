use Rattle.std.proofs.Common.{◌||◌, sym, ap, ◌∙◌}
use Rattle.educe_body_values.specs.Changing.{assigns, others_assign}
use Rattle.educe_body_values.proofs.Changing.{assigns-Call, assigns-Not, assigns-SomeOf, assigns-IfReturn, assigns-Return, assigns-HashPart, assigns-MatchOrdering, assigns-MatchValue, assigns-IfLet, assigns-Block, assigns-Construct, assigns-BuilderEntry, assigns-MethodArgument}
use Rattle.educe_body_eval.proofs.changing.+assigns.Goals as goal

pub assigns-returns-in-Call : goal.assigns-returns-in-Call
assigns-returns-in-Call t c =
    let arm = c.in-Call in
    c.any_assigns.ensures ∙ sym (ap assigns arm.is ∙ assigns-Call arm.field-0 arm.arguments)

pub assigns-returns-in-Not : goal.assigns-returns-in-Not
assigns-returns-in-Not t c =
    let arm = c.in-Not in
    c.assigns.ensures ∙ ap assigns c.get.ensures ∙ sym (ap assigns arm.is ∙ assigns-Not arm.inner)

pub assigns-returns-in-SomeOf : goal.assigns-returns-in-SomeOf
assigns-returns-in-SomeOf t c =
    let arm = c.in-SomeOf in
    c.assigns-in-SomeOf.ensures ∙ ap assigns c.get-in-SomeOf.ensures ∙ sym (ap assigns arm.is ∙ assigns-SomeOf arm.inner)

pub assigns-returns-in-IfReturn : goal.assigns-returns-in-IfReturn
assigns-returns-in-IfReturn t c =
    let arm = c.in-IfReturn in
    c.assigns-in-IfReturn.ensures ∙ ap assigns c.get-in-IfReturn.ensures ∙ sym (ap assigns arm.is ∙ assigns-IfReturn arm.test)

pub assigns-returns-in-Return : goal.assigns-returns-in-Return
assigns-returns-in-Return t c =
    let arm = c.in-Return in
    c.assigns-in-Return.ensures ∙ ap assigns c.get-in-Return.ensures ∙ sym (ap assigns arm.is ∙ assigns-Return arm.inner)

pub assigns-returns-in-HashPart : goal.assigns-returns-in-HashPart
assigns-returns-in-HashPart t c =
    let arm = c.in-HashPart in
    c.assigns-in-HashPart.ensures ∙ ap assigns c.get-in-HashPart.ensures ∙ sym (ap assigns arm.is ∙ assigns-HashPart arm.inner)

pub assigns-returns-then-assigns : goal.assigns-returns-then-assigns
assigns-returns-then-assigns t c =
    let arm = c.in-MatchOrdering in
    let first = sym (ap assigns c.get-in-MatchOrdering.ensures) ∙ sym c.assigns-in-MatchOrdering.ensures ∙ c.if-assigns.true in
    sym (ap assigns arm.is ∙ assigns-MatchOrdering arm.matched arm.field-1 arm.held arm.field-3 arm.field-4 ∙ ap (λ b. b || others_assign arm.held) first)

pub assigns-returns-in-None : goal.assigns-returns-in-None
assigns-returns-in-None t c =
    let arm = c.in-MatchOrdering in
    let first = sym (ap assigns c.get-in-MatchOrdering.ensures) ∙ sym c.assigns-in-MatchOrdering.ensures ∙ c.if-assigns.false in
    sym (ap assigns arm.is ∙ assigns-MatchOrdering arm.matched arm.field-1 arm.held arm.field-3 arm.field-4 ∙ (λ i. first i || others_assign (c.in-None.is i)))

pub assigns-returns-in-Some : goal.assigns-returns-in-Some
assigns-returns-in-Some t c =
    let arm = c.in-MatchOrdering in
    let first = sym (ap assigns c.get-in-MatchOrdering.ensures) ∙ sym c.assigns-in-MatchOrdering.ensures ∙ c.if-assigns.false in
    c.any_assigns-in-Some.ensures
    ∙ sym (ap assigns arm.is ∙ assigns-MatchOrdering arm.matched arm.field-1 arm.held arm.field-3 arm.field-4 ∙ (λ i. first i || others_assign (c.in-Some.is i)))

pub assigns-returns-in-MatchValue : goal.assigns-returns-in-MatchValue
assigns-returns-in-MatchValue t c =
    let arm = c.in-MatchValue in
    c.arms_assign.ensures ∙ sym (ap assigns arm.is ∙ assigns-MatchValue arm.field-0 arm.arms)

pub assigns-returns-then-any_assigns : goal.assigns-returns-then-any_assigns
assigns-returns-then-any_assigns t c =
    let arm = c.in-IfLet in
    let first = sym c.any_assigns-in-IfLet.ensures ∙ c.if-any_assigns.true in
    sym (ap assigns arm.is ∙ assigns-IfLet arm.field-0 arm.field-1 arm.forms arm.others ∙ ap (λ b. b || others_assign arm.others) first)

pub assigns-returns-in-None-others : goal.assigns-returns-in-None-others
assigns-returns-in-None-others t c =
    let arm = c.in-IfLet in
    let first = sym c.any_assigns-in-IfLet.ensures ∙ c.if-any_assigns.false in
    sym (ap assigns arm.is ∙ assigns-IfLet arm.field-0 arm.field-1 arm.forms arm.others ∙ (λ i. first i || others_assign (c.in-None-others.is i)))

pub assigns-returns-in-Some-others : goal.assigns-returns-in-Some-others
assigns-returns-in-Some-others t c =
    let arm = c.in-IfLet in
    let first = sym c.any_assigns-in-IfLet.ensures ∙ c.if-any_assigns.false in
    c.any_assigns-in-Some-others.ensures
    ∙ sym (ap assigns arm.is ∙ assigns-IfLet arm.field-0 arm.field-1 arm.forms arm.others ∙ (λ i. first i || others_assign (c.in-Some-others.is i)))

pub assigns-returns-in-Block : goal.assigns-returns-in-Block
assigns-returns-in-Block t c =
    let arm = c.in-Block in
    c.any_assigns-in-Block.ensures ∙ sym (ap assigns arm.is ∙ assigns-Block arm.forms)

pub assigns-returns-in-Construct : goal.assigns-returns-in-Construct
assigns-returns-in-Construct t c =
    let arm = c.in-Construct in
    c.inits_assign.ensures ∙ sym (ap assigns arm.is ∙ assigns-Construct arm.field-0 arm.field-1 arm.inits)

pub assigns-returns-in-BuilderEntry : goal.assigns-returns-in-BuilderEntry
assigns-returns-in-BuilderEntry t c =
    let arm = c.in-BuilderEntry in
    c.assigns-in-BuilderEntry.ensures ∙ ap assigns c.get-in-BuilderEntry.ensures ∙ sym (ap assigns arm.is ∙ assigns-BuilderEntry arm.field-0 arm.field-1 arm.inner arm.field-3)

pub assigns-returns-in-MethodArgument : goal.assigns-returns-in-MethodArgument
assigns-returns-in-MethodArgument t c =
    let arm = c.in-MethodArgument in
    c.assigns-in-MethodArgument.ensures ∙ ap assigns c.get-in-MethodArgument.ensures
    ∙ sym (ap assigns arm.is ∙ assigns-MethodArgument arm.field-0 arm.inner arm.field-2 arm.field-3)
