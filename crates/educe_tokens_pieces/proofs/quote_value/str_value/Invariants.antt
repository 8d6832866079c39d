use Rattle.std.proofs.Common.{◌≡◌, ◌++◌, length, drop, true, chars}
use Rattle.std.specs.String.{string_bytes}
use Rattle.educe_tokens_pieces.specs.declared.quotes.Quote.TheVariants.{Str}
use Rattle.educe_tokens_pieces.specs.declared.quotes.Within.TheVariants.{Open}
use Rattle.educe_tokens_pieces.specs.Machine.{given}
use Rattle.educe_tokens_pieces.specs.Reachable.{is_reachable}
use Rattle.educe_tokens_pieces.proofs.quote_value.str_value.Given as goal

abbrev pub invariant-loop-c : goal.invariant-loop-c
invariant-loop-c l = record {
  front : given (Open Str) (drop 1 (chars l.literal)) ≡ chars (string_bytes l.value) ++ given l.within (drop (length l.yielded) (drop 1 (chars l.literal)));
  reachable : is_reachable l.within ≡ true;
}
