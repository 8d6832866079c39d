use Rattle.std.proofs.Common.{◌≡◌, ◌≤◌, ◌-◌, length, drop}
use Rattle.educe_tokens_pieces.specs.Machine.{plus}
use Rattle.educe_tokens_pieces.specs.CommentScan.{closing_len}
use Rattle.educe_tokens_pieces.proofs.comments.closing_len.Given as goal

abbrev pub invariant-loop-i : goal.invariant-loop-i
invariant-loop-i l = record {
  ahead : closing_len 0 l.text ≡ plus l.i (closing_len l.inner (drop l.i l.text));
  depth : l.inner ≤ l.i;
  in_range : l.i ≤ length l.text;
}

abbrev pub decreases-loop-i : goal.decreases-loop-i
decreases-loop-i l = length l.text - l.i
