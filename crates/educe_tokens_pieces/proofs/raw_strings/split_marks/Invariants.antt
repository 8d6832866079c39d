use Rattle.std.proofs.Common.{◌≡◌, ◌+◌, ◌≤◌, ◌++◌, chars, length}
use denote.Text.{Utf8}
use denote.Shadow.{shadow}
use Rattle.educe_tokens_pieces.proofs.RawStrings.{marks_of}
use Rattle.educe_tokens_pieces.proofs.raw_strings.split_marks.Given as goal

abbrev pub invariant-loop-more : goal.invariant-loop-more
invariant-loop-more l = record {
  utf8 : shadow (Utf8 l.rest);
  parts : chars l.text ≡ marks_of l.count ++ chars l.rest;
  room : l.count + length l.rest ≤ length l.text;
}

abbrev pub decreases-loop-more : goal.decreases-loop-more
decreases-loop-more l = length l.rest
