use Rattle.std.proofs.Common.{◌≡◌, drop, true}
use Rattle.educe_tokens_pieces.specs.declared.quotes.Within.TheVariants.{Open}
use Rattle.educe_tokens_pieces.specs.Machine.{plus, end_at}
use Rattle.educe_tokens_pieces.specs.Reachable.{is_reachable}
use Rattle.educe_tokens_pieces.proofs.quotes.quote_end.Given as goal

abbrev pub invariant-loop-i : goal.invariant-loop-i
invariant-loop-i l = record {
  found : end_at (Open l.fn.quote) l.text ≡ plus l.i (end_at l.within (drop l.i l.text));
  reachable : is_reachable l.within ≡ true;
}
