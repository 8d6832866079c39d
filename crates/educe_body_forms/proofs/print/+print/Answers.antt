use Rattle.std.proofs.Common.{◌≡◌, List, ◌++◌, Option, Some, None, sym, ap, ◌∙◌, codes, arith}
use Rattle.std.proofs.lemmas.Result.{on_ok_weaker}
use Rattle.educe_tokens.specs.Lexes.{Lexeme}
use Rattle.educe_tokens.specs.Quote.{quoted}
use Rattle.educe_tokens.proofs.Appending.{Appends-append, Appends-nil, Appends-same, HasPrefix-trans}
use Rattle.educe_tree.specs.declared.expr.ExprPath.{ExprPath}
use Rattle.educe_body_forms.specs.declared.form.Arm.{Arm}
use Rattle.educe_body_forms.specs.declared.form.Form.{Form, MatchOrdering, IfLet}
use Rattle.educe_body_forms.specs.declared.shown.ArgumentNames.{ArgumentNames}
use Rattle.educe_body_forms.specs.Printouts.{each, in_curly}
use Rattle.educe_body_forms.specs.ShownPrintouts.{entry_printout, method_argument}
use Rattle.educe_body_forms.specs.Tokens.{in_some, in_form, field_assignment, through_assignment, form_printout, form_lexemes, if_let_printout, init_printout, match_value_printout}
use Rattle.educe_body_forms.proofs.Printed.{form_lexemes-Call, form_lexemes-Not, form_lexemes-IfReturn, form_lexemes-Return, form_lexemes-SomeOf, form_lexemes-MatchOrdering, form_lexemes-MatchValue, form_lexemes-IfLet, form_lexemes-Block, form_lexemes-HashPart, form_lexemes-Construct, form_lexemes-AssignField, form_lexemes-AssignThrough, form_lexemes-BuilderEntry, form_lexemes-MethodArgument}
use Rattle.educe_body_forms.proofs.Separated.{separated-take}
use Rattle.educe_body_forms.proofs.print.+print.Goals as goal

pub FormToTokens::to_tokens-returns-in-SomeOf-clause-ok :
    goal.FormToTokens::to_tokens-returns-in-SomeOf-clause-ok
FormToTokens::to_tokens-returns-in-SomeOf-clause-ok t c =
    let same = ap (λ form. (in_some (form_printout form)).tokens) c.get-in-SomeOf.ensures ∙ sym (ap form_lexemes c.in-SomeOf.is ∙ form_lexemes-SomeOf _) in
    on_ok_weaker _ (λ found. Appends-same same found) c.push_some.ensures.ok

pub FormToTokens::to_tokens-returns-in-None-clause-ok :
    goal.FormToTokens::to_tokens-returns-in-None-clause-ok
FormToTokens::to_tokens-returns-in-None-clause-ok t c =
    let arm = c.in-MatchOrdering in
    let front = Appends-same (ap (λ form. quoted (codes "match") ++ form_lexemes form) c.get-in-MatchOrdering.ensures) c.in_ok-push_matched-in-MatchOrdering.ensures.ok in
    let is = arm.is ∙ ap (λ (held : Option (List Form)). MatchOrdering arm.matched arm.partial held arm.greater arm.less) c.in-None.is in
    let same = sym (ap form_lexemes is ∙ form_lexemes-MatchOrdering arm.matched arm.partial None arm.greater arm.less) in
    on_ok_weaker _ (λ back. Appends-same same (Appends-append front back)) c.push_arm_block.ensures.ok

pub FormToTokens::to_tokens-returns-in-Some-clause-ok :
    goal.FormToTokens::to_tokens-returns-in-Some-clause-ok
FormToTokens::to_tokens-returns-in-Some-clause-ok t c =
    let arm = c.in-MatchOrdering in
    let front = Appends-same (ap (λ form. quoted (codes "match") ++ form_lexemes form) c.get-in-MatchOrdering.ensures) c.in_ok-push_matched-in-MatchOrdering.ensures.ok in
    let is = arm.is ∙ ap (λ (held : Option (List Form)). MatchOrdering arm.matched arm.partial held arm.greater arm.less) c.in-Some.is in
    let same = sym (ap form_lexemes is ∙ form_lexemes-MatchOrdering arm.matched arm.partial (Some c.in-Some.block) arm.greater arm.less) in
    on_ok_weaker _ (λ back. Appends-same same (Appends-append front back)) c.push_order_arms.ensures.ok

pub FormToTokens::to_tokens-returns-in-MatchValue-clause-ok :
    goal.FormToTokens::to_tokens-returns-in-MatchValue-clause-ok
FormToTokens::to_tokens-returns-in-MatchValue-clause-ok t c =
    let arm = c.in-MatchValue in
    let arms = ap (λ (arms : List Arm). (match_value_printout arm.value arms).tokens) c.as_slice.ensures in
    let same = arms ∙ sym (ap form_lexemes arm.is ∙ form_lexemes-MatchValue arm.value arm.arms) in
    on_ok_weaker _ (λ found. Appends-same same found) c.push_match.ensures.ok

pub FormToTokens::to_tokens-returns-in-None-others-clause-ok :
    goal.FormToTokens::to_tokens-returns-in-None-others-clause-ok
FormToTokens::to_tokens-returns-in-None-others-clause-ok t c =
    let arm = c.in-IfLet in
    let is = arm.is ∙ ap (λ (others : Option (List Form)). IfLet arm.pattern arm.value arm.forms others) c.in-None-others.is in
    let same = sym (ap form_lexemes is ∙ form_lexemes-IfLet arm.pattern arm.value arm.forms None) in
    let front = (if_let_printout arm.pattern arm.value (in_curly (each form_printout arm.forms))).tokens in
    Appends-same same (Appends-append {xs = front} c.in_ok-push_if_let-in-IfLet.ensures.ok (Appends-nil _))

pub FormToTokens::to_tokens-returns-in-Some-others-clause-ok :
    goal.FormToTokens::to_tokens-returns-in-Some-others-clause-ok
FormToTokens::to_tokens-returns-in-Some-others-clause-ok t c =
    let arm = c.in-IfLet in
    let is = arm.is ∙ ap (λ (others : Option (List Form)). IfLet arm.pattern arm.value arm.forms others) c.in-Some-others.is in
    let same = sym (ap form_lexemes is ∙ form_lexemes-IfLet arm.pattern arm.value arm.forms (Some c.in-Some-others.others)) in
    let front = (if_let_printout arm.pattern arm.value (in_curly (each form_printout arm.forms))).tokens in
    on_ok_weaker _ (λ back. Appends-same same (Appends-append {xs = front} c.in_ok-push_if_let-in-IfLet.ensures.ok back)) c.push_else.ensures.ok

pub FormToTokens::to_tokens-returns-in-Block-clause-ok :
    goal.FormToTokens::to_tokens-returns-in-Block-clause-ok
FormToTokens::to_tokens-returns-in-Block-clause-ok t c =
    let same = sym (ap form_lexemes c.in-Block.is ∙ form_lexemes-Block _) in
    on_ok_weaker _ (λ found. Appends-same same found) c.push_block.ensures.ok

pub FormToTokens::to_tokens-returns-in-Construct-clause-ok :
    goal.FormToTokens::to_tokens-returns-in-Construct-clause-ok
FormToTokens::to_tokens-returns-in-Construct-clause-ok t c =
    let arm = c.in-Construct in
    let same = sym (ap form_lexemes arm.is ∙ form_lexemes-Construct arm.variant arm.form arm.inits) in
    on_ok_weaker _ (λ found. Appends-same same found) c.push_construct.ensures.ok

pub FormToTokens::to_tokens-returns-in-AssignField-clause-ok :
    goal.FormToTokens::to_tokens-returns-in-AssignField-clause-ok
FormToTokens::to_tokens-returns-in-AssignField-clause-ok t c =
    let arm = c.in-AssignField in
    let path = c.get-in-AssignField in
    let value = c.get-in-AssignField-2 in
    let held = ap (λ (path : ExprPath). (field_assignment arm.handed arm.key path.written (form_printout value.result.now)).tokens) path.ensures in
    let given = ap (λ value. (field_assignment arm.handed arm.key arm.path.written (form_printout value)).tokens) value.ensures in
    let same = held ∙ given ∙ sym (ap form_lexemes arm.is ∙ form_lexemes-AssignField arm.key arm.path arm.inner arm.handed) in
    on_ok_weaker _ (λ found. Appends-same same found) c.push_field_assignment.ensures.ok

pub FormToTokens::to_tokens-returns-in-AssignThrough-clause-ok :
    goal.FormToTokens::to_tokens-returns-in-AssignThrough-clause-ok
FormToTokens::to_tokens-returns-in-AssignThrough-clause-ok t c =
    let arm = c.in-AssignThrough in
    let path = c.get-in-AssignThrough in
    let value = c.get-in-AssignThrough-2 in
    let held = ap (λ (path : ExprPath). (through_assignment arm.handed arm.target path.written (form_printout value.result.now)).tokens) path.ensures in
    let given = ap (λ value. (through_assignment arm.handed arm.target arm.path.written (form_printout value)).tokens) value.ensures in
    let same = held ∙ given ∙ sym (ap form_lexemes arm.is ∙ form_lexemes-AssignThrough arm.target arm.path arm.inner arm.handed) in
    on_ok_weaker _ (λ found. Appends-same same found) c.push_through_assignment.ensures.ok

pub FormToTokens::to_tokens-returns-in_ok-push_entry_start-in-BuilderEntry-clause-ok :
    goal.FormToTokens::to_tokens-returns-in_ok-push_entry_start-in-BuilderEntry-clause-ok
FormToTokens::to_tokens-returns-in_ok-push_entry_start-in-BuilderEntry-clause-ok t c =
    let arm = c.in-BuilderEntry in
    let given = ap (λ value. (entry_printout arm.builder arm.key arm.by_reference (form_printout value)).tokens) c.get-in-BuilderEntry.ensures in
    let same = given ∙ sym (ap form_lexemes arm.is ∙ form_lexemes-BuilderEntry arm.builder arm.key arm.inner arm.by_reference) in
    on_ok_weaker _ (λ back. Appends-same same (Appends-append c.in_ok-push_entry_start-in-BuilderEntry.ensures.ok back)) c.push_entry.ensures.ok

pub FormToTokens::to_tokens-returns-in_ok-push_argument_start-in-MethodArgument-clause-ok :
    goal.FormToTokens::to_tokens-returns-in_ok-push_argument_start-in-MethodArgument-clause-ok
FormToTokens::to_tokens-returns-in_ok-push_argument_start-in-MethodArgument-clause-ok t c =
    let arm = c.in-MethodArgument in
    let found : ArgumentNames → Form → ExprPath → List Lexeme = λ names value path. (method_argument names (form_printout value) arm.ty path.written).tokens in
    let names = c.get-names in
    let value = c.get-in-MethodArgument in
    let path = c.get-in-MethodArgument-2 in
    let held : found names.result.now value.result.now path.result.now ≡ found arm.shared arm.inner arm.path = λ i. found (names.ensures i) (value.ensures i) (path.ensures i) in
    let same = held ∙ sym (ap form_lexemes arm.is ∙ form_lexemes-MethodArgument arm.shared arm.inner arm.ty arm.path) in
    on_ok_weaker _ (λ back. Appends-same same (Appends-append c.in_ok-push_argument_start-in-MethodArgument.ensures.ok back)) c.push_argument.ensures.ok

pub push_not-returns-clause-ok : goal.push_not-returns-clause-ok
push_not-returns-clause-ok t c =
    let same = sym (form_lexemes-Not c.args.inner.now) in
    on_ok_weaker _ (λ back. Appends-same same (Appends-append c.in_ok-quote.ensures.ok back)) c.to_tokens.ensures.ok

pub push_if_return-returns-clause-ok : goal.push_if_return-returns-clause-ok
push_if_return-returns-clause-ok t c =
    let front = Appends-append c.in_ok-quote.ensures.ok c.in_ok-to_tokens.ensures.ok in
    let same = sym (form_lexemes-IfReturn c.args.test.now) in
    on_ok_weaker _ (λ back. Appends-same same (Appends-append front back)) c.quote-2.ensures.ok

pub push_return-returns-clause-ok : goal.push_return-returns-clause-ok
push_return-returns-clause-ok t c =
    let front = Appends-append c.in_ok-quote.ensures.ok c.in_ok-to_tokens.ensures.ok in
    let same = sym (form_lexemes-Return c.args.inner.now) in
    on_ok_weaker _ (λ back. Appends-same same (Appends-append front back)) c.quote-2.ensures.ok

pub push_statement-returns-clause-ok : goal.push_statement-returns-clause-ok
push_statement-returns-clause-ok t c =
    let same = sym (form_lexemes-HashPart c.args.inner.now) in
    on_ok_weaker _ (λ back. Appends-same same (Appends-append c.in_ok-to_tokens.ensures.ok back)) c.quote.ensures.ok

pub push_entry-returns-clause-ok : goal.push_entry-returns-clause-ok
push_entry-returns-clause-ok t c =
    let inside = Appends-append c.in_ok-push_entry_front.ensures.ok c.in_ok-to_tokens.ensures.ok in
    let brackets = Appends-append (Appends-append c.in_ok-quote.ensures.ok inside) c.in_ok-quote-2.ensures.ok in
    on_ok_weaker _ (λ back. Appends-append brackets back) c.quote-3.ensures.ok

pub push_entry-returns-clause-prefix : goal.push_entry-returns-clause-prefix
push_entry-returns-clause-prefix t c =
    let front = HasPrefix-trans c.in_ok-quote.ensures.prefix c.in_ok-push_entry_front.ensures.prefix in
    HasPrefix-trans (HasPrefix-trans (HasPrefix-trans front c.in_ok-to_tokens.ensures.prefix) c.in_ok-quote-2.ensures.prefix) c.quote-3.ensures.prefix

pub push_argument-returns-clause-ok : goal.push_argument-returns-clause-ok
push_argument-returns-clause-ok t c =
    let inside = Appends-append c.in_ok-push_wrapper.ensures.ok c.in_ok-push_wrapped.ensures.ok in
    let brackets = Appends-append (Appends-append c.in_ok-quote.ensures.ok inside) c.in_ok-quote-2.ensures.ok in
    on_ok_weaker _ (λ back. Appends-append brackets back) c.quote-3.ensures.ok

pub push_argument-returns-clause-prefix : goal.push_argument-returns-clause-prefix
push_argument-returns-clause-prefix t c =
    let front = HasPrefix-trans c.in_ok-quote.ensures.prefix c.in_ok-push_wrapper.ensures.prefix in
    HasPrefix-trans (HasPrefix-trans (HasPrefix-trans front c.in_ok-push_wrapped.ensures.prefix) c.in_ok-quote-2.ensures.prefix) c.quote-3.ensures.prefix

pub push_wrapped-returns-clause-ok : goal.push_wrapped-returns-clause-ok
push_wrapped-returns-clause-ok t c =
    let inside = Appends-append (Appends-append c.in_ok-to_tokens-2.ensures.ok c.in_ok-quote-2.ensures.ok) c.in_ok-push_method_closure.ensures.ok in
    on_ok_weaker _ (λ back. Appends-append c.in_ok-to_tokens.ensures.ok (Appends-append (Appends-append c.in_ok-quote.ensures.ok inside) back)) c.quote-3.ensures.ok

pub push_wrapped-returns-clause-prefix : goal.push_wrapped-returns-clause-prefix
push_wrapped-returns-clause-prefix t c =
    let front = HasPrefix-trans (HasPrefix-trans c.in_ok-to_tokens.ensures.prefix c.in_ok-quote.ensures.prefix) c.in_ok-to_tokens-2.ensures.prefix in
    HasPrefix-trans (HasPrefix-trans (HasPrefix-trans front c.in_ok-quote-2.ensures.prefix) c.in_ok-push_method_closure.ensures.prefix) c.quote-3.ensures.prefix

pub push_matched-returns-clause-ok : goal.push_matched-returns-clause-ok
push_matched-returns-clause-ok t c = on_ok_weaker _ (λ back. Appends-append c.in_ok-quote.ensures.ok back) c.to_tokens.ensures.ok

pub push_in_round-returns-clause-ok : goal.push_in_round-returns-clause-ok
push_in_round-returns-clause-ok t c =
    on_ok_weaker _ (λ back. Appends-append (Appends-append c.in_ok-quote.ensures.ok c.in_ok-to_tokens.ensures.ok) back) c.quote-2.ensures.ok

pub push_result-returns-clause-ok : goal.push_result-returns-clause-ok
push_result-returns-clause-ok t c =
    let front = Appends-append (Appends-append c.in_ok-quote.ensures.ok c.in_ok-append_written.ensures.ok) c.in_ok-push_in_round.ensures.ok in
    on_ok_weaker _ (λ back. Appends-append front back) c.quote-2.ensures.ok

pub push_field_and_value-returns-clause-ok : goal.push_field_and_value-returns-clause-ok
push_field_and_value-returns-clause-ok t c =
    let inside = Appends-append (Appends-append c.in_ok-push_lent_field.ensures.ok c.in_ok-quote-2.ensures.ok) c.in_ok-to_tokens.ensures.ok in
    on_ok_weaker _ (λ back. Appends-append (Appends-append c.in_ok-quote.ensures.ok inside) back) c.quote-3.ensures.ok

pub push_field_and_value-returns-clause-prefix : goal.push_field_and_value-returns-clause-prefix
push_field_and_value-returns-clause-prefix t c =
    let front = HasPrefix-trans c.in_ok-quote.ensures.prefix c.in_ok-push_lent_field.ensures.prefix in
    let inside = HasPrefix-trans (HasPrefix-trans front c.in_ok-quote-2.ensures.prefix) c.in_ok-to_tokens.ensures.prefix in
    HasPrefix-trans inside c.quote-3.ensures.prefix

pub push_name_and_value-returns-clause-ok : goal.push_name_and_value-returns-clause-ok
push_name_and_value-returns-clause-ok t c =
    let inside = Appends-append (Appends-append c.in_ok-to_tokens.ensures.ok c.in_ok-quote-2.ensures.ok) c.in_ok-to_tokens-2.ensures.ok in
    on_ok_weaker _ (λ back. Appends-append (Appends-append c.in_ok-quote.ensures.ok inside) back) c.quote-3.ensures.ok

pub push_name_and_value-returns-clause-prefix : goal.push_name_and_value-returns-clause-prefix
push_name_and_value-returns-clause-prefix t c =
    let front = HasPrefix-trans c.in_ok-quote.ensures.prefix c.in_ok-to_tokens.ensures.prefix in
    let inside = HasPrefix-trans (HasPrefix-trans front c.in_ok-quote-2.ensures.prefix) c.in_ok-to_tokens-2.ensures.prefix in
    HasPrefix-trans inside c.quote-3.ensures.prefix

pub push_field_assignment-returns-in_ok-push_field_and_value-clause-ok : goal.push_field_assignment-returns-in_ok-push_field_and_value-clause-ok
push_field_assignment-returns-in_ok-push_field_and_value-clause-ok t c =
    let same = sym (ap (λ handed. (field_assignment handed c.args.key.now c.args.path.now.written (form_printout c.args.value.now)).tokens) c.if-handed.true) in
    let front = Appends-append c.in_ok-append_written.ensures.ok c.in_ok-push_field_and_value.ensures.ok in
    on_ok_weaker _ (λ back. Appends-same same (Appends-append front back)) c.quote.ensures.ok

pub push_field_assignment-returns-in_ok-push_own_field-clause-ok : goal.push_field_assignment-returns-in_ok-push_own_field-clause-ok
push_field_assignment-returns-in_ok-push_own_field-clause-ok t c =
    let same = sym (ap (λ handed. (field_assignment handed c.args.key.now c.args.path.now.written (form_printout c.args.value.now)).tokens) c.if-handed.false) in
    on_ok_weaker _ (λ back. Appends-same same (Appends-append c.in_ok-push_own_field.ensures.ok back)) c.push_result.ensures.ok

pub push_through_assignment-returns-in_ok-push_name_and_value-clause-ok : goal.push_through_assignment-returns-in_ok-push_name_and_value-clause-ok
push_through_assignment-returns-in_ok-push_name_and_value-clause-ok t c =
    let same = sym (ap (λ handed. (through_assignment handed c.args.target.now c.args.path.now.written (form_printout c.args.value.now)).tokens) c.if-handed.true) in
    let front = Appends-append c.in_ok-append_written.ensures.ok c.in_ok-push_name_and_value.ensures.ok in
    on_ok_weaker _ (λ back. Appends-same same (Appends-append front back)) c.quote.ensures.ok

pub push_through_assignment-returns-in_ok-to_tokens-clause-ok : goal.push_through_assignment-returns-in_ok-to_tokens-clause-ok
push_through_assignment-returns-in_ok-to_tokens-clause-ok t c =
    let same = sym (ap (λ handed. (through_assignment handed c.args.target.now c.args.path.now.written (form_printout c.args.value.now)).tokens) c.if-handed.false) in
    let place = Appends-append c.in_ok-quote.ensures.ok c.in_ok-to_tokens.ensures.ok in
    on_ok_weaker _ (λ back. Appends-same same (Appends-append place back)) c.push_result.ensures.ok

pub push_construct-returns-clause-ok : goal.push_construct-returns-clause-ok
push_construct-returns-clause-ok t c = on_ok_weaker _ (λ back. Appends-append c.in_ok-push_self.ensures.ok back) c.push_inits_in_form.ensures.ok

pub push_inits_in_form-returns-in_ok-push_inits-in-Named-clause-ok : goal.push_inits_in_form-returns-in_ok-push_inits-in-Named-clause-ok
push_inits_in_form-returns-in_ok-push_inits-in-Named-clause-ok t c =
    let same = sym (ap (λ form. (in_form form (each init_printout c.args.inits.now)).tokens) c.in-Named.is) in
    let front = Appends-append c.in_ok-quote-in-Named.ensures.ok c.in_ok-push_inits-in-Named.ensures.ok in
    on_ok_weaker _ (λ back. Appends-same same (Appends-append front back)) c.quote-in-Named.ensures.ok

pub push_inits_in_form-returns-in_ok-push_inits-in-Unnamed-clause-ok : goal.push_inits_in_form-returns-in_ok-push_inits-in-Unnamed-clause-ok
push_inits_in_form-returns-in_ok-push_inits-in-Unnamed-clause-ok t c =
    let same = sym (ap (λ form. (in_form form (each init_printout c.args.inits.now)).tokens) c.in-Unnamed.is) in
    let front = Appends-append c.in_ok-quote-in-Unnamed.ensures.ok c.in_ok-push_inits-in-Unnamed.ensures.ok in
    on_ok_weaker _ (λ back. Appends-same same (Appends-append front back)) c.quote-in-Unnamed-2.ensures.ok

pub push_init-returns-clause-ok : goal.push_init-returns-clause-ok
push_init-returns-clause-ok t c =
    on_ok_weaker _ (λ back. Appends-append (Appends-append c.in_ok-push_key.ensures.ok c.in_ok-to_tokens.ensures.ok) back) c.quote.ensures.ok

pub push_call-returns-clause-ok : goal.push_call-returns-clause-ok
push_call-returns-clause-ok t c =
    let front = Appends-append c.in_ok-quote.ensures.ok c.in_ok-push_arguments.ensures.ok in
    let same = sym (form_lexemes-Call c.args.path.now c.args.arguments.now) in
    on_ok_weaker _ (λ back. Appends-same same (Appends-append c.in_ok-to_tokens.ensures.ok (Appends-append front back))) c.quote-2.ensures.ok

pub push_arguments-loop-i-preserved : goal.push_arguments-loop-i-preserved
push_arguments-loop-i-preserved t c =
    let forms = c.as_slice-form-items.result.now in
    let one = Appends-same (ap form_lexemes c.form-item.is) c.in_ok-to_tokens.ensures.ok in
    let more = separated-take form_printout forms c.loop-i.i c.form-item.result (omega arith) in
    Appends-same (sym more) (Appends-append c.loop-i.invariant (Appends-append c.in_ok-push_comma.ensures.ok one))

pub push_some-returns-clause-ok : goal.push_some-returns-clause-ok
push_some-returns-clause-ok t c = on_ok_weaker _ (λ back. Appends-append c.in_ok-quote.ensures.ok back) c.push_in_round.ensures.ok

pub push_block-returns-clause-ok : goal.push_block-returns-clause-ok
push_block-returns-clause-ok t c =
    on_ok_weaker _ (λ back. Appends-append (Appends-append c.in_ok-quote.ensures.ok c.in_ok-push_forms.ensures.ok) back) c.quote-2.ensures.ok

pub push_equal_arm-returns-clause-ok : goal.push_equal_arm-returns-clause-ok
push_equal_arm-returns-clause-ok t c =
    let front = Appends-append c.in_ok-push_order.ensures.ok c.in_ok-quote.ensures.ok in
    on_ok_weaker _ (λ back. Appends-append (Appends-append front c.in_ok-push_block.ensures.ok) back) c.quote-2.ensures.ok

pub push_match-returns-clause-ok : goal.push_match-returns-clause-ok
push_match-returns-clause-ok t c =
    on_ok_weaker _ (λ back. Appends-append (Appends-append c.in_ok-quote.ensures.ok c.in_ok-to_tokens.ensures.ok) back) c.push_arms.ensures.ok

pub push_arms-returns-clause-ok : goal.push_arms-returns-clause-ok
push_arms-returns-clause-ok t c =
    on_ok_weaker _ (λ back. Appends-append (Appends-append c.in_ok-quote.ensures.ok c.in_ok-push_each_arm.ensures.ok) back) c.quote-2.ensures.ok

pub push_arm-returns-clause-ok : goal.push_arm-returns-clause-ok
push_arm-returns-clause-ok t c =
    let front = Appends-append c.in_ok-push_pattern.ensures.ok c.in_ok-quote.ensures.ok in
    on_ok_weaker _ (λ back. Appends-append (Appends-append front c.in_ok-push_in_braces.ensures.ok) back) c.push_comma_where.ensures.ok

pub push_order_arms-returns-clause-ok : goal.push_order_arms-returns-clause-ok
push_order_arms-returns-clause-ok t c =
    let arms = Appends-append c.in_ok-push_equal_arm.ensures.ok c.in_ok-push_other_arms.ensures.ok in
    on_ok_weaker _ (λ back. Appends-append (Appends-append c.in_ok-quote.ensures.ok arms) back) c.quote-2.ensures.ok

pub push_if_let-returns-clause-ok : goal.push_if_let-returns-clause-ok
push_if_let-returns-clause-ok t c =
    on_ok_weaker _ (λ back. Appends-append c.in_ok-push_if_let_head.ensures.ok back) c.push_block.ensures.ok
