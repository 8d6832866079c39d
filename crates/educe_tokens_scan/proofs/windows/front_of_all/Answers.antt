use Rattle.std.proofs.Common.{◌≡◌, [], ℕ, List, length, drop, chars, sym, ap, ◌∙◌, arith, append-nil}
use Rattle.educe_tokens_pieces.specs.Pieces.{may_precede}
use Rattle.educe_tokens_scan.specs.Scan.{piece_at}
use Rattle.educe_tokens_scan.proofs.InPlace.{stands_window}
use Rattle.educe_tokens_scan.proofs.windows.front_of_all.Goals as goal

pub returns-in-Some-clause-stands : goal.returns-in-Some-clause-stands
returns-in-Some-clause-stands c =
    let all : List ℕ = chars c.args.text.now in
    let list : c.deref.result.now ≡ all = c.deref.ensures.value ∙ c.in_ok-list.ensures in
    rw c.behind_count.ensures
    (stands_window c.in-Some.kind c.in-Some.len all all [] (sym (append-nil all)) (sym (ap piece_at list) ∙ sym c.piece_at.ensures.value ∙ c.in-Some.is)
    (ap (may_precede c.in-Some.kind _) (sym (append-nil (drop c.in-Some.len all)))) (omega (arith, c.in-Some.ensures.within, ap length list)))

pub returns-clause-none : goal.returns-clause-none
returns-clause-none c _ = sym (ap piece_at (c.deref.ensures.value ∙ c.in_ok-list.ensures)) ∙ sym c.piece_at.ensures.value ∙ c.in-None.is
