use Rattle.std.proofs.Common.{◌≡◌, true, chars, length}
use denote.Text.{Utf8}
use denote.Shadow.{shadow}
use Rattle.educe_tokens_pieces.specs.Machine.{ends}
use Rattle.educe_tokens_pieces.specs.Reachable.{is_reachable}
use Rattle.educe_tokens_pieces.specs.declared.quotes.Within.TheVariants.{Open}
use Rattle.educe_tokens_pieces.proofs.InPlace.{Goes}
use Rattle.educe_tokens_pieces.proofs.in_place.behind_quoted.Given as goal

abbrev pub invariant-loop-c : goal.invariant-loop-c
invariant-loop-c l = record {
  utf8 : shadow (Utf8 l.rest);
  goes : Goes (ends (Open l.fn.quote)) (ends l.within) (chars l.text) (chars l.rest);
  reachable : is_reachable l.within ≡ true;
}

abbrev pub decreases-loop-c : goal.decreases-loop-c
decreases-loop-c l = length l.rest
