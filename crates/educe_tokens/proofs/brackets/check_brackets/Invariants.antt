use Rattle.std.proofs.Common.{◌≡◌, ◌≤◌, Some, [], take, reverse, vec_len}
use Rattle.educe_tokens.specs.Lexes.{lexemes}
use Rattle.educe_tokens.specs.Brackets.{kinds, NestsWithin}
use Rattle.educe_tokens.specs.Causes.{open_behind}
use Rattle.educe_tokens.proofs.brackets.check_brackets.Given as goal

abbrev pub invariant-loop-token : goal.invariant-loop-token
invariant-loop-token l = record {
  within : vec_len l.outer ≤ l.nesting;
  opened : open_behind [] (kinds (lexemes (take l.token-index l.token-items))) ≡ Some (reverse l.outer.items);
  shallow : NestsWithin l.nesting (lexemes (take l.token-index l.token-items));
}
