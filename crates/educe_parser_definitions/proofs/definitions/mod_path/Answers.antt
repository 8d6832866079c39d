use Rattle.std.proofs.Common.{rules, arith}
use Rattle.std.proofs.lemmas.Grind.{common_steps}
use Rattle.educe_grammar.specs.Definitions.{mod_path}
use Rattle.educe_grammar.specs.Names.{simple_path}
use Rattle.educe_grammar.specs.Noting.{run}
use Rattle.educe_parser_definitions.proofs.definitions.mod_path.Goals as goal

pub returns : goal.returns
unfolding mod_path simple_path run
returns c =
    let leading = c.skip_colons.ensures c.args.budget in
    first_of (search rules, grind (arith, common_steps))
