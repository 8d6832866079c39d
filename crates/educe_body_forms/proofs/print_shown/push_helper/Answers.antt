use Rattle.educe_tokens.specs.Quote.{quoted}
use Rattle.educe_body_forms.proofs.print_shown.push_helper.Goals as goal

pub returns-clause-ok : goal.returns-clause-ok
unfolding quoted
returns-clause-ok c = c.push_filled.ensures.ok
