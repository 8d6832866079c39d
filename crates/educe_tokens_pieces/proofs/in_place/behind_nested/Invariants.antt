use Rattle.std.proofs.Common.{◌≡◌, ◌+◌, ◌≤◌, None, chars, length}
use denote.Text.{Utf8}
use denote.Shadow.{shadow}
use Rattle.educe_tokens_pieces.specs.Comments.{closes_comment}
use Rattle.educe_tokens_pieces.specs.CommentScan.{closing_len}
use Rattle.educe_tokens_pieces.proofs.InPlace.{Goes}
use Rattle.educe_tokens_pieces.proofs.in_place.behind_nested.Given as goal

abbrev pub invariant-loop-behind : goal.invariant-loop-behind
invariant-loop-behind l = record {
  utf8 : shadow (Utf8 l.rest);
  goes : Goes (closes_comment 0) (closes_comment l.inner) (chars l.text) (chars l.rest);
  none : closing_len l.inner (chars l.rest) ≡ None → closing_len 0 (chars l.text) ≡ None;
  depth : l.inner + length l.rest ≤ length l.text;
}

abbrev pub decreases-loop-behind : goal.decreases-loop-behind
decreases-loop-behind l = length l.rest
