use Rattle.std.proofs.Common.{◌≡◌, drop}
use Rattle.educe_body_values.specs.Answering.{first_row}
use Rattle.educe_body_values.proofs.answers.Answers.answer.Given as goal

abbrev pub invariant-loop-row : goal.invariant-loop-row
invariant-loop-row l =
    first_row (drop l.row-index l.row-items) l.callee l.first l.second ≡ first_row l.self.rows l.callee l.first l.second
