use Rattle.std.proofs.lemmas.Result.{IfErr-weaker, IfOk-weaker}
use Rattle.educe_tokens.specs.Lexes.{lexemes}
use Rattle.educe_tokens.proofs.Few.{lexes_few_bytes}
use Rattle.educe_tokens.proofs.Joined.{lexes_joins}
use Rattle.educe_tokens.proofs.Places.{answer_sliced, cause_placed, cause_words}
use Rattle.educe_tokens.proofs.Uncaused.{no_cause, gives_one, gives_aside, refuses_deep}
use Rattle.educe_tokens.proofs.Unique.{lexes_aside}
use Rattle.educe_tokens.proofs.lexer.lex_within.Goals as goal

pub returns-clause-joined : goal.returns-clause-joined
returns-clause-joined c = IfOk-weaker c.checked_tokens.result _ _ (λ tokens reading. lexes_joins _ (lexemes tokens) (lexes_aside _ tokens reading.lexes)) c.checked_tokens.ensures.ok

pub returns-clause-few : goal.returns-clause-few
returns-clause-few c = IfOk-weaker c.checked_tokens.result _ _ (λ tokens reading. lexes_few_bytes c.args.source.now tokens c.utf8.source reading.lexes) c.checked_tokens.ensures.ok

pub returns-clause-slices : goal.returns-clause-slices
returns-clause-slices c = answer_sliced c.args.nesting c.args.source.now c.checked_tokens.result c.utf8.source c.checked_tokens.ensures.ok

pub returns-clause-only : goal.returns-clause-only
returns-clause-only c = gives_one c.args.nesting _ c.checked_tokens.result c.checked_tokens.ensures.ok c.checked_tokens.ensures.err

pub returns-clause-back : goal.returns-clause-back
returns-clause-back c = gives_aside c.args.nesting _ c.checked_tokens.result c.checked_tokens.ensures.ok c.checked_tokens.ensures.err

pub returns-clause-deep : goal.returns-clause-deep
returns-clause-deep c = refuses_deep c.args.nesting _ c.checked_tokens.result c.checked_tokens.ensures.ok c.checked_tokens.ensures.err

pub returns-clause-words : goal.returns-clause-words
returns-clause-words c = IfErr-weaker c.checked_tokens.result _ _ (λ e cause. cause_words _ e cause) c.checked_tokens.ensures.err

pub returns-clause-place : goal.returns-clause-place
returns-clause-place c = IfErr-weaker c.checked_tokens.result _ _ (λ e cause. cause_placed c.args.source.now e c.utf8.source cause) c.checked_tokens.ensures.err

pub returns-clause-uncaused : goal.returns-clause-uncaused
returns-clause-uncaused c = IfOk-weaker c.checked_tokens.result _ _ (λ tokens reading. no_cause _ tokens reading.lexes reading.balanced reading.shallow) c.checked_tokens.ensures.ok
