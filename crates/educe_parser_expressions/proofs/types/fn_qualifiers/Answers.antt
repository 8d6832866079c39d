use Rattle.std.proofs.Common.{rules, arith}
use Rattle.std.proofs.lemmas.Grind.{common_steps}
use Rattle.educe_grammar.specs.Noting.{run}
use Rattle.educe_grammar.specs.Types.{fn_qualifiers}
use Rattle.educe_parser_expressions.proofs.types.fn_qualifiers.Goals as goal

pub returns : goal.returns
unfolding fn_qualifiers run
returns c =
    let is_unsafe = c.skip_unsafe.ensures c.args.budget in
    let abi = c.skip_abi.ensures c.args.budget in
    first_of (search rules, grind (arith, common_steps))
