use Rattle.std.proofs.Common.{◌≡◌, ◌++◌, ℕ, List, length, chars, sym, ap, ◌∙◌, arith, length-drop}
use Rattle.educe_tokens_pieces.proofs.InPlace.{chars_split}
use Rattle.educe_tokens_scan.specs.Scan.{piece_at}
use Rattle.educe_tokens_scan.proofs.InPlace.{stands_window, two_before}
use Rattle.educe_tokens_scan.proofs.windows.front_within.Goals as goal

pub returns-then-len : goal.returns-then-len
returns-then-len c =
    let m : ℕ = c.ceil_char_boundary.result in
    let window : List ℕ = chars c.split_at.result.0.now in
    let more : List ℕ = chars c.split_at.result.1.now in
    let whole : chars c.args.text.now ≡ window ++ more = rw (c.split_at.ensures.front, c.split_at.ensures.back) (chars_split c.args.text.now m c.utf8.text c.ceil_char_boundary.ensures.boundary) in
    let list : c.deref.result.now ≡ window = c.deref.ensures.value ∙ c.in_ok-list.ensures in
    rw c.behind_count.ensures
    (stands_window c.in-Some.kind c.in-Some.len (chars c.args.text.now) window more whole (sym (ap piece_at list) ∙ sym c.piece_at.ensures.value ∙ c.in-Some.is)
    (two_before c.in-Some.kind _ _ more (omega (arith, c.if-len.true, ap length list, length-drop c.in-Some.len window))) (omega (arith, c.if-len.true, ap length list)))
