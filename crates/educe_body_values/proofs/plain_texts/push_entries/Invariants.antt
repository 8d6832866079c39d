use Rattle.std.proofs.Common.{◌≡◌, ◌++◌, chars, drop, true}
use Rattle.std.specs.String.{string_bytes}
use Rattle.educe_body_values.specs.PlainTexts.{joined}
use Rattle.educe_body_values.proofs.plain_texts.push_entries.Given as goal

abbrev pub invariant-loop-i : goal.invariant-loop-i
invariant-loop-i l =
    chars (string_bytes l.out) ++ joined l.form l.first (drop l.i l.entries) (drop l.i l.texts)
    ≡ chars (string_bytes l.fn.out) ++ joined l.form true l.entries l.texts
