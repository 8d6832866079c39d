use Rattle.std.proofs.Common.{◌≡◌, ◌∙◌, ap, ℕ, List, codes}
use Rattle.std.specs.Prelude.{is_some}
use Rattle.educe_attrs_rows.specs.Usage.{with_line, shown, shows_false, shows_true}
use Rattle.educe_attrs_rows.proofs.Lines.{line_as, ok_as}
use Rattle.educe_attrs_rows.proofs.usage.with_names.Goals as goal

pub returns : goal.returns
returns c =
    let name : List ℕ = c.args.name.now in
    let row = c.args.row.now in
    let one : List (List ℕ) = with_line c.args.lines (is_some row.name) name (codes "(name(NewName))") in
    let two : List (List ℕ) = with_line one (shows_false (shown row.name)) name (codes "(name = false)") in
    let three : List (List ℕ) = with_line two (shows_true (shown row.name)) name (codes "(name = true)") in
    let four : List (List ℕ) = with_line three (shows_false row.named_field) name (codes "(named_field = false)") in
    let off : c.shows_false.result ≡ shows_false (shown row.name) = c.shows_false.ensures ∙ ap shows_false c.shown-truth.ensures in
    let on : c.shows_true.result ≡ shows_true (shown row.name) = c.shows_true.ensures ∙ ap shows_true c.shown-truth.ensures in
    let first : c.in_ok-lines.lines ≡ one = c.in_ok-lines.ensures ∙ ap (λ b. with_line c.args.lines b name (codes "(name(NewName))")) c.is_some.ensures in
    let second : c.in_ok-lines-2.lines ≡ two = c.in_ok-lines-2.ensures ∙ line_as name (codes "(name = false)") c.in_ok-lines.lines one c.shows_false.result (shows_false (shown row.name)) first off in
    let third : c.in_ok-lines-3.lines ≡ three = c.in_ok-lines-3.ensures ∙ line_as name (codes "(name = true)") c.in_ok-lines-2.lines two c.shows_true.result (shows_true (shown row.name)) second on in
    let fourth : c.in_ok-lines-4.lines ≡ four =
    c.in_ok-lines-4.ensures ∙ line_as name (codes "(named_field = false)") c.in_ok-lines-3.lines three c.shows_false-2.result (shows_false row.named_field) third c.shows_false-2.ensures in
    ok_as c.with_line-5.result (with_line c.in_ok-lines-4.lines c.shows_true-2.result name (codes "(named_field = true)")) (with_line four (shows_true row.named_field) name (codes "(named_field = true)"))
    c.with_line-5.ensures
    (line_as name (codes "(named_field = true)") c.in_ok-lines-4.lines four c.shows_true-2.result (shows_true row.named_field) fourth c.shows_true-2.ensures)
