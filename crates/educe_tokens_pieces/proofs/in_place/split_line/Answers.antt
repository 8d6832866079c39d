use Rattle.std.proofs.Common.{◌++◌, take, chars, sym, ap, ◌∙◌, append-nil}
use Rattle.std.proofs.lemmas.Str.{IsUtf8-take, chars-nil}
use Rattle.educe_tokens_pieces.specs.Chars.{begins, is_in_line}
use Rattle.educe_tokens_pieces.proofs.InPlace.{chars_split, line_in, feed_behind}
use Rattle.educe_tokens_pieces.proofs.in_place.split_line.Goals as goal

pub returns-in-Some-clause-line : goal.returns-in-Some-clause-line
returns-in-Some-clause-line c =
    let found = c.in-Some.ensures.cases in
    rw c.split_at.ensures.front (line_in (take c.in-Some.end c.args.text.now) (IsUtf8-take c.args.text.now c.in-Some.end c.utf8.text found.3) found.1.0)

pub returns-in-Some-clause-parts : goal.returns-in-Some-clause-parts
returns-in-Some-clause-parts c = rw (c.split_at.ensures.front, c.split_at.ensures.back) (chars_split c.args.text.now c.in-Some.end c.utf8.text c.in-Some.ensures.cases.3)

pub returns-in-Some-clause-ends : goal.returns-in-Some-clause-ends
returns-in-Some-clause-ends c =
    let found = c.in-Some.ensures.cases in
    rw c.split_at.ensures.back (feed_behind c.args.text.now c.in-Some.end found.0 c.utf8.text found.3 found.1.1)

pub returns-in-None-clause-line : goal.returns-in-None-clause-line
returns-in-None-clause-line c = line_in c.args.text.now c.utf8.text c.in-None.ensures.cases

pub returns-in-None-clause-parts : goal.returns-in-None-clause-parts
returns-in-None-clause-parts c = sym (ap (λ cs. chars c.args.text.now ++ cs) chars-nil ∙ append-nil _)

pub returns-in-None-clause-ends : goal.returns-in-None-clause-ends
returns-in-None-clause-ends c = ap (begins is_in_line) chars-nil
