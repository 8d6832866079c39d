use Rattle.std.proofs.Common.{◌≡◌, ◌≢◌, ◌∙◌, [], length, sym, ap}
use Rattle.std.proofs.lemmas.Bool.{false≢true, eqb-true, eq-eqb}
use Rattle.std.proofs.lemmas.List.{nil_from_length}
use Rattle.educe_names.proofs.Runs.{part_is_run, run_is_part, run_some}
use Rattle.educe_names.proofs.words.has_run.Goals as goal

pub returns-then-is_empty : goal.returns-then-is_empty
returns-then-is_empty c =
    let none : c.args.word.now ≡ [] = nil_from_length c.args.word.now (eqb-true (length c.args.word.now) 0 (sym c.is_empty.ensures ∙ c.if-is_empty.true)) in (
      (λ h. absurd (false≢true h)),
      (λ own. absurd (run_some c.args.word.now c.args.text.now own none)),
    )

pub returns-else-is_empty : goal.returns-else-is_empty
returns-else-is_empty c =
    let some : c.args.word.now ≢ [] = λ none. false≢true (sym c.if-is_empty.false ∙ c.is_empty.ensures ∙ eq-eqb (length c.args.word.now) 0 (ap length none)) in (
      (λ h. part_is_run c.args.word.now c.args.text.now some (sym c.is_part.ensures ∙ h)),
      (λ own. c.is_part.ensures ∙ run_is_part c.args.word.now c.args.text.now own),
    )
