use Rattle.std.proofs.Common.{◌≡◌, true, false, Some, sym, ◌∙◌, subst}
use Rattle.educe_tokens_pieces.specs.Pieces.{is_piece}
use Rattle.educe_tokens_pieces.specs.Fits.{Fits}
use Rattle.educe_tokens_scan.proofs.Front.{candidate_fits}
use Rattle.educe_tokens_scan.proofs.Readings.{IsFound, piece_is, fits_none, none_found, candidate_found, found_longest}
use Rattle.educe_tokens_scan.proofs.scan.piece_at.Goals.{Then-may_precede}
use Rattle.educe_tokens_scan.proofs.scan.piece_at.Goals as goal

pub may_precede-requires : goal.may_precede-requires
may_precede-requires c =
    let found : Fits c.args.text.now (Some (c.in_ok-kind.kind, c.in_ok-kind.len)) =
    subst (Fits c.args.text.now) (sym c.candidate.ensures.value ∙ c.in_ok-kind.was) (candidate_fits c.args.text.now) in
    subst (λ s. is_piece c.in_ok-kind.kind s ≡ true) (sym c.split_at.ensures.front) found.0

-- what the scan answers is what it found
is_found : (c : Then-may_precede) → IsFound c.args.text.now (Some (c.in_ok-kind.kind, c.in_ok-kind.len))
is_found c =
    subst (IsFound c.args.text.now)
    (candidate_found _ _ _ (c.in_ok-kind.kind, c.in_ok-kind.len) true (sym c.candidate.ensures.value ∙ c.in_ok-kind.was) c.split_at.ensures.front c.split_at.ensures.back (sym c.may_precede.ensures ∙ c.if-may_precede.true))
    (piece_is c.args.text.now)

pub returns-in_err-kind-clause-none : goal.returns-in_err-kind-clause-none
returns-in_err-kind-clause-none c _ = fits_none c.args.text.now (none_found c.args.text.now (sym c.candidate.ensures.value ∙ c.in_err-kind.was))

pub returns-then-may_precede-clause-stands : goal.returns-then-may_precede-clause-stands
returns-then-may_precede-clause-stands c = (is_found c).0

pub returns-then-may_precede-clause-longest : goal.returns-then-may_precede-clause-longest
returns-then-may_precede-clause-longest c = found_longest c.args.text.now (c.in_ok-kind.kind, c.in_ok-kind.len) (is_found c)

pub returns-else-may_precede-clause-none : goal.returns-else-may_precede-clause-none
returns-else-may_precede-clause-none c _ =
    fits_none c.args.text.now
    (candidate_found _ _ _ (c.in_ok-kind.kind, c.in_ok-kind.len) false (sym c.candidate.ensures.value ∙ c.in_ok-kind.was) c.split_at.ensures.front c.split_at.ensures.back (sym c.may_precede.ensures ∙ c.if-may_precede.false))
