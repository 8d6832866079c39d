use Rattle.educe_grammar.proofs.Expecting.{opener_taken}
use Rattle.educe_grammar.proofs.cursor.Cursor.open.Goals as goal

pub returns-clause-outcome : goal.returns-clause-outcome
returns-clause-outcome c =
    let taken = c.in_ok-expect_open.ensures.taken in opener_taken _ c.args.budget _ c.args.self.now _ (record { token = c.in_ok-expect_open.field-0.now; passes = taken.0 }) c.enter.result taken.1 c.left-left.ensures.count c.enter.ensures.outcome
