use Rattle.educe_core.proofs.Phased.{error_caused}
use Rattle.educe_core.proofs.HandlerCauses.{handler_words}
use Rattle.educe_core.proofs.handler.derive_input_handler.Goals as goal

pub returns-in-Err-clause-err : goal.returns-in-Err-clause-err
returns-in-Err-clause-err c = error_caused c.args.ast.now c.in-Err.stop c.error_of.result c.error_of.ensures c.in-Err.ensures.err

pub returns-in-Err-clause-words : goal.returns-in-Err-clause-words
returns-in-Err-clause-words c = handler_words c.args.ast.now c.error_of.result (returns-in-Err-clause-err c)
