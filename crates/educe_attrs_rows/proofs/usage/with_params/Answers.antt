use Rattle.std.proofs.Common.{◌≡◌, ◌∙◌, refl, ℕ, List, codes}
use Rattle.educe_attrs_rows.specs.Usage.{with_line, takes_truth}
use Rattle.educe_attrs_rows.proofs.Lines.{line_as, ok_as}
use Rattle.educe_attrs_rows.proofs.usage.with_params.Goals as goal

pub returns : goal.returns
returns c =
    let name : List ℕ = c.args.name.now in
    let row = c.args.row.now in
    let one : List (List ℕ) = with_line c.args.lines row.new name (codes "(new)") in
    let two : List (List ℕ) = with_line one row.expression name (codes "(expression = expr)") in
    let three : List (List ℕ) = with_line two (takes_truth row.equals) name (codes " = false") in
    let four : List (List ℕ) = with_line three row.ignore name (codes "(ignore)") in
    let five : List (List ℕ) = with_line four row.method name (codes "(method(path_to_method))") in
    let six : List (List ℕ) = with_line five row.rank name (codes "(rank = integer)") in
    let seven : List (List ℕ) = with_line six row.reverse name (codes "(reverse)") in
    let first : c.in_ok-lines.lines ≡ one = c.in_ok-lines.ensures in
    let second : c.in_ok-lines-2.lines ≡ two =
    c.in_ok-lines-2.ensures ∙ line_as name (codes "(expression = expr)") c.in_ok-lines.lines one row.expression row.expression first refl in
    let third : c.in_ok-lines-3.lines ≡ three =
    c.in_ok-lines-3.ensures ∙ line_as name (codes " = false") c.in_ok-lines-2.lines two c.takes_truth-truth.result (takes_truth row.equals) second c.takes_truth-truth.ensures in
    let fourth : c.in_ok-lines-4.lines ≡ four =
    c.in_ok-lines-4.ensures ∙ line_as name (codes "(ignore)") c.in_ok-lines-3.lines three row.ignore row.ignore third refl in
    let fifth : c.in_ok-lines-5.lines ≡ five =
    c.in_ok-lines-5.ensures ∙ line_as name (codes "(method(path_to_method))") c.in_ok-lines-4.lines four row.method row.method fourth refl in
    let sixth : c.in_ok-lines-6.lines ≡ six =
    c.in_ok-lines-6.ensures ∙ line_as name (codes "(rank = integer)") c.in_ok-lines-5.lines five row.rank row.rank fifth refl in
    let seventh : c.in_ok-lines-7.lines ≡ seven =
    c.in_ok-lines-7.ensures ∙ line_as name (codes "(reverse)") c.in_ok-lines-6.lines six row.reverse row.reverse sixth refl in
    ok_as c.with_line-8.result (with_line c.in_ok-lines-7.lines row.bound name (codes "(bound(where_predicates))")) (with_line seven row.bound name (codes "(bound(where_predicates))")) c.with_line-8.ensures
    (line_as name (codes "(bound(where_predicates))") c.in_ok-lines-7.lines seven row.bound row.bound seventh refl)
