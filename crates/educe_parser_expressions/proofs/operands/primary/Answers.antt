use Rattle.std.proofs.Common.{rules, ◌≡◌, ℕ, false, sym, ◌∙◌}
use Rattle.educe_tree.specs.declared.expr.ExprForm.{ExprForm}
use Rattle.educe_tree.specs.declared.expr.ExprForm.TheVariants as form
use Rattle.educe_grammar.specs.declared.parse_stream.ParseStream.{ParseStream}
use Rattle.educe_grammar.specs.declared.terminal.Terminal.TheVariants as terminal
use Rattle.educe_grammar.specs.Ahead.{one, sees, sees_any}
use Rattle.educe_grammar.specs.Combining.{at}
use Rattle.educe_grammar.specs.Expressions.{primary}
use Rattle.educe_grammar.specs.Noting.{run}
use Rattle.educe_grammar.specs.NotedReads.{read}
use Rattle.educe_grammar.specs.Rules.{Rule, either, made, token}
use Rattle.educe_grammar.specs.Terminals.{accepts}
use Rattle.educe_parser_expressions.proofs.operands.primary.Goals as goal

-- what is no literal is what the rule behind reads
no_literal : (budget : ℕ) (other : Rule ExprForm) (s : ParseStream) → sees (accepts terminal.Literal) s.cursor ≡ false → sees (accepts terminal.Truth) s.cursor ≡ false
    → read budget (either (at (one terminal.Literal)) (made (λ _. form.Literal) (token terminal.Literal)) (either (at (one terminal.Truth)) (made (λ _. form.Truth) (token terminal.Truth)) other)) s ≡ read budget other s
unfolding run sees_any
no_literal budget other s literal truth = rw (literal, truth)

pub returns : goal.returns
unfolding primary
returns g c =
    let literal : sees (accepts terminal.Literal) c.args.input.now.cursor ≡ false = sym c.eat.ensures.seen ∙ c.if-eat.false in
    let first : c.eat.new.self ≡ c.args.input.now.cursor = search rules in
    let truth : sees (accepts terminal.Truth) c.args.input.now.cursor ≡ false = rw first at (sym c.eat-2.ensures.seen ∙ c.if-eat-2.false) in
    let here : c.eat-2.new.self ≡ c.args.input.now.cursor = search rules in
    rw (no_literal c.args.budget _ c.args.input.now literal truth) (rw here at c.group_or_path.ensures)
