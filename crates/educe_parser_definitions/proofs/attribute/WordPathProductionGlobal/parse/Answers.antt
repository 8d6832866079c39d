use Rattle.std.proofs.Common.{rules, arith}
use Rattle.std.proofs.lemmas.Grind.{common_steps}
use Rattle.educe_grammar.specs.Names.{simple_path}
use Rattle.educe_grammar.specs.Noting.{run}
use Rattle.educe_parser_definitions.proofs.attribute.WordPathProductionGlobal.parse.Goals as goal

pub returns-in_err-segments : goal.returns-in_err-segments
unfolding simple_path run
returns-in_err-segments c =
    let leading = c.skip_colons-leading.ensures c.args.budget in
    first_of (search rules, grind (arith, common_steps))

pub returns : goal.returns
unfolding simple_path run
returns c =
    let leading = c.skip_colons-leading.ensures c.args.budget in
    first_of (search rules, grind (arith, common_steps))
