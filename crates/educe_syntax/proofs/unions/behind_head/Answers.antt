use Rattle.std.proofs.Common.{Ok, ap, sym, ◌∙◌}
use Rattle.std.proofs.lemmas.Result.{err_from_is_err_and}
use Rattle.educe_grammar.specs.Combining.{unit}
use Rattle.educe_grammar.specs.Parsed.{depth_limit}
use Rattle.educe_grammar.specs.Reads.{read}
use Rattle.educe_grammar.proofs.Forgetting.{forget_ok, forget_err}
use Rattle.educe_grammar.proofs.Unions.{head}
use Rattle.educe_syntax.proofs.unions.behind_head.Goals as goal

pub returns-in_err-head-clause-err : goal.returns-in_err-head-clause-err
returns-in_err-head-clause-err c =
    let passed = err_from_is_err_and c.from_residual.result c.from_residual.ensures.1 in
    rw (passed.1, passed.2) (λ refused. ap (read depth_limit (unit head)) (sym c.new-input.ensures.cursor) ∙ forget_err depth_limit (unit head) c.new-input.result c.in_err-head.field-0.0 (c.in_err-head.ensures refused))

pub returns-clause-ok : goal.returns-clause-ok
returns-clause-ok c =
    ap (read depth_limit (unit head)) (sym c.new-input.ensures.cursor)
    ∙ forget_ok depth_limit (unit head) c.new-input.result c.head.new.input tt c.in_ok-head.ensures
    ∙ ap (λ rest. Ok (tt, rest)) (sym c.rest.ensures)
