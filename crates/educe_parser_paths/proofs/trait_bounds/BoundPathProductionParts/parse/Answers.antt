use Rattle.std.proofs.Common.{rules, arith}
use Rattle.std.proofs.lemmas.Grind.{common_steps}
use Rattle.educe_grammar.specs.Noting.{run}
use Rattle.educe_grammar.specs.Types.{bound_path}
use Rattle.educe_parser_paths.proofs.trait_bounds.BoundPathProductionParts.parse.Goals as goal

pub returns-in_err-optional_for_all : goal.returns-in_err-optional_for_all
unfolding bound_path run
returns-in_err-optional_for_all g c =
    let question = c.skip_question.ensures c.args.budget in
    first_of (search rules, grind (arith, common_steps))

pub returns : goal.returns
unfolding bound_path run
returns g c =
    let question = c.skip_question.ensures c.args.budget in
    first_of (search rules, grind (arith, common_steps))
