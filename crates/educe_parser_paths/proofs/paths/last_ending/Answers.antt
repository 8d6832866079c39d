use Rattle.std.proofs.Common.{ap, sym, ◌∙◌}
use Rattle.educe_parser_paths.proofs.Segments.{ending_of, ending_of_last}
use Rattle.educe_parser_paths.proofs.paths.last_ending.Goals as goal

pub returns-in-Some : goal.returns-in-Some
returns-in-Some c = ap ending_of c.in-Some.ensures.value ∙ sym (ending_of_last c.args.found.now)

pub returns-in-None : goal.returns-in-None
returns-in-None c = ap ending_of c.in-None.ensures.value ∙ sym (ending_of_last c.args.found.now)
