use Rattle.std.proofs.lemmas.Result.{IfOk-weaker}
use Rattle.educe_cmp.specs.Names.{names_of}
use Rattle.educe_cmp.proofs.enum_body.keyed_decision.Goals as goal

pub returns : goal.returns
returns c =
    IfOk-weaker c.decision.result _ _ (λ decision is. (c.in_ok-compares.compares, c.in_ok-compares.ensures, is))
    (c.decision.ensures c.args.ast.now (names_of c.args.names.now) c.requires)
