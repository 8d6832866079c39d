use Rattle.std.proofs.Common.{◌≤◌, chars, length}
use denote.Text.{Utf8}
use denote.Shadow.{shadow}
use Rattle.educe_tokens_pieces.specs.Fronts.{HasFront}
use Rattle.educe_tokens_scan.specs.InPlace.{is_digits}
use Rattle.educe_tokens_scan.proofs.decimals.split_digits.Given as goal

abbrev pub invariant-loop-c : goal.invariant-loop-c
invariant-loop-c l = record {
  utf8 : shadow (Utf8 l.rest);
  digits : HasFront (is_digits l.count) (chars l.text) (chars l.rest);
  few : l.count ≤ 38;
}

abbrev pub decreases-loop-c : goal.decreases-loop-c
decreases-loop-c l = length l.rest
