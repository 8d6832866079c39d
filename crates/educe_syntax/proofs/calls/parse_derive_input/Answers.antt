use Rattle.educe_grammar.specs.Definitions.{definition}
use Rattle.educe_grammar.specs.Parsed.{depth_limit}
use Rattle.educe_grammar.proofs.FewNames.{few}
use Rattle.educe_grammar.proofs.Placed.{definition_stands}
use Rattle.educe_grammar.proofs.ReadsAgain.{definition_again, one_reading}
use Rattle.educe_grammar.proofs.Refusals.{definition_uncaused}
use Rattle.educe_grammar.proofs.Reported.{refusal_reported}
use Rattle.educe_syntax.proofs.Reporting.{name_refused}
use Rattle.educe_syntax.proofs.calls.parse_derive_input.Goals as goal

pub returns-in-Err-clause-only : goal.returns-in-Err-clause-only
returns-in-Err-clause-only c = λ x whole apart. definition_uncaused c.args.tokens.now x (record { whole = whole; apart = apart }) c.unread.result c.unread.ensures

pub returns-in-Err-clause-reported : goal.returns-in-Err-clause-reported
returns-in-Err-clause-reported c = refusal_reported c.args.tokens.now c.unread.result c.unread.ensures

pub returns-in-None-clause-few : goal.returns-in-None-clause-few
returns-in-None-clause-few c = few c.args.tokens.now c.in-Ok.found c.in-Ok.ensures.found

pub returns-in-None-clause-placed : goal.returns-in-None-clause-placed
returns-in-None-clause-placed c = definition_stands c.args.tokens.now c.in-Ok.found c.in-Ok.ensures.found

pub returns-in-None-clause-only : goal.returns-in-None-clause-only
returns-in-None-clause-only c = λ x whole apart. one_reading definition definition_again depth_limit c.args.tokens.now c.in-Ok.found x c.in-Ok.ensures.found whole

pub returns-in-None-clause-uncaused : goal.returns-in-None-clause-uncaused
returns-in-None-clause-uncaused c = definition_uncaused c.args.tokens.now c.in-Ok.found (record { whole = c.in-Ok.ensures.found; apart = c.in-None.ensures.none })

pub returns-in-Some-clause-only : goal.returns-in-Some-clause-only
returns-in-Some-clause-only c = λ x whole apart.
    definition_uncaused c.args.tokens.now x (record { whole = whole; apart = apart }) c.in-Some.error
    (name_refused c.args.tokens.now c.in-Ok.found c.in-Some.error c.in-Ok.ensures.found c.in-Some.ensures.some)

pub returns-in-Some-clause-err : goal.returns-in-Some-clause-err
returns-in-Some-clause-err c = name_refused c.args.tokens.now c.in-Ok.found c.in-Some.error c.in-Ok.ensures.found c.in-Some.ensures.some

pub returns-in-Some-clause-reported : goal.returns-in-Some-clause-reported
returns-in-Some-clause-reported c =
    refusal_reported c.args.tokens.now c.in-Some.error (name_refused c.args.tokens.now c.in-Ok.found c.in-Some.error c.in-Ok.ensures.found c.in-Some.ensures.some)
