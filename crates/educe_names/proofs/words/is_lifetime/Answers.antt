use Rattle.std.proofs.Common.{arith}
use Rattle.std.proofs.lemmas.Str.Pattern.{strip_prefix_char}
use Rattle.educe_names.proofs.Having.{behind_mark}
use Rattle.educe_names.proofs.words.is_lifetime.Goals as goal

pub returns-in-Some : goal.returns-in-Some
returns-in-Some c =
    let mark = rw c.in-Some.is at (strip_prefix_char 39 c.as_str.result.now c.strip_prefix.result c.strip_prefix.ensures.cases (omega arith)) in
    behind_mark c.as_str.result.now c.in-Some.name.now c.args.word.now c.args.text.now c.eq.result c.as_str.utf8 c.as_str.ensures.chars c.as_str.ensures.bytes mark c.utf8.word c.eq.ensures
