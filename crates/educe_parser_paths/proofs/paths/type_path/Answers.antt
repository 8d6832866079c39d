use Rattle.std.proofs.Common.{rules, arith, ap, sym, ◌∙◌, Err}
use Rattle.std.proofs.lemmas.Grind.{common_steps}
use Rattle.educe_grammar.specs.Noting.{run}
use Rattle.educe_grammar.specs.Types.{type_path}
use Rattle.educe_parser_paths.proofs.Segments.{scope_refused}
use Rattle.educe_parser_paths.proofs.paths.type_path.Goals as goal

pub returns-in_err-found : goal.returns-in_err-found
unfolding type_path run
returns-in_err-found g c =
    let leading = c.skip_colons-leading.ensures c.args.budget in
    first_of (search rules, grind (arith, common_steps))

pub returns-then-is_scope : goal.returns-then-is_scope
returns-then-is_scope g c = λ other.
    let leading = c.skip_colons-leading.ensures c.args.budget in
    scope_refused c.args.budget c.args.input.now _ _ _ _ leading c.in_ok-found.ensures (c.in_ok-path.path, c.in_ok-path.ending) c.in_ok-path.ensures (sym c.is_scope.ensures ∙ c.if-is_scope.true) ∙ ap Err (sym c.refuse.ensures)

pub returns : goal.returns
unfolding type_path run
returns g c =
    let leading = c.skip_colons-leading.ensures c.args.budget in
    first_of (search rules, grind (arith, common_steps))
