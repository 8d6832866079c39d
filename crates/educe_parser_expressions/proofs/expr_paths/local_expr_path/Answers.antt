use Rattle.std.proofs.Common.{rules, arith, ◌≡◌, ℕ, Bool, true, false, not, List, length, Ok, Err, ap, sym, ◌∙◌}
use Rattle.std.proofs.lemmas.Bool.{not-true}
use Rattle.std.proofs.lemmas.Grind.{common_steps}
use Rattle.educe_tree.specs.declared.path.Segment.{Segment}
use Rattle.educe_grammar.proofs.Opened.{rules as opened}
use Rattle.educe_grammar.specs.declared.parse_error.ParseError.TheVariants.{Syntax}
use Rattle.educe_grammar.specs.declared.parse_stream.ParseStream.{ParseStream}
use Rattle.educe_grammar.specs.Combining.{flag, colons, at_colons}
use Rattle.educe_grammar.specs.Expressions.{expr_segment, local_expr_path}
use Rattle.educe_grammar.specs.Noting.{run}
use Rattle.educe_grammar.specs.NotedReads.{read}
use Rattle.educe_grammar.specs.Rules.{path}
use Rattle.educe_grammar.specs.Types.{is_path, path_of}
use Rattle.educe_parser_expressions.proofs.expr_paths.local_expr_path.Goals as goal

-- a path that is `self`, `super` or `crate` alone is rejected
scope_refused : (budget : ℕ) (s t u : ParseStream) (leading : Bool) (found : List Segment) → read budget (flag at_colons colons) s ≡ Ok (leading, t) → read budget (path expr_segment) t ≡ Ok (found, u)
    → not (is_path (path_of leading found)) ≡ true → read budget local_expr_path s ≡ Err (Syntax (length u.cursor))
unfolding local_expr_path run
scope_refused budget s t u leading found first second scope =
    let none : is_path (path_of leading found) ≡ false = not-true (is_path (path_of leading found)) scope in rw (first, second, none)

pub returns-in_err-segments : goal.returns-in_err-segments
unfolding opened local_expr_path
returns-in_err-segments g c =
    let leading = c.skip_colons-leading.ensures c.args.budget in
    first_of (search rules, grind (arith, common_steps))

pub returns-then-is_scope : goal.returns-then-is_scope
returns-then-is_scope g c = λ other.
    let leading = c.skip_colons-leading.ensures c.args.budget in
    scope_refused c.args.budget c.args.input.now _ _ _ _ leading c.in_ok-segments.ensures (sym c.is_scope.ensures ∙ c.if-is_scope.true) ∙ ap Err (sym c.refuse.ensures)

pub returns : goal.returns
unfolding opened local_expr_path
returns g c =
    let leading = c.skip_colons-leading.ensures c.args.budget in
    first_of (search rules, grind (arith, common_steps))
