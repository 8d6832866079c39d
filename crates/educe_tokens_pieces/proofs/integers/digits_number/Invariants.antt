use Rattle.std.proofs.Common.{◌≡◌, ◌<◌, ◌^◌, take}
use Rattle.educe_tokens_pieces.specs.Numbers.{digits_number}
use Rattle.educe_tokens_pieces.proofs.integers.digits_number.Given as goal

abbrev pub invariant-loop-c : goal.invariant-loop-c
invariant-loop-c l = record { front : l.value ≡ digits_number l.base (take l.c-index l.digits); in_range : l.value < 2 ^ 128 }
