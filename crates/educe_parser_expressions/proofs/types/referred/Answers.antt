use Rattle.std.proofs.Common.{rules, arith}
use Rattle.std.proofs.lemmas.Grind.{common_steps}
use Rattle.educe_grammar.proofs.Opened.{rules as opened}
use Rattle.educe_parser_expressions.proofs.types.referred.Goals as goal

pub returns : goal.returns
unfolding opened
returns g c =
    let lifetime = c.skip_lifetime.ensures c.args.budget in
    first_of (search rules, grind (arith, common_steps))
