use Rattle.std.proofs.Common.{◌≡◌, ◌<◌, ◌^◌, chars}
use Rattle.educe_tokens_pieces.specs.Integers.{base_of}
use Rattle.educe_tokens_pieces.specs.Numbers.{digits_number}
use Rattle.educe_tokens_pieces.proofs.integers.int_value.Given as goal

abbrev pub invariant-loop-c : goal.invariant-loop-c
invariant-loop-c l = record { front : l.value ≡ digits_number (base_of (chars l.text)) l.yielded; in_range : l.value < 2 ^ 128 }
