use Rattle.std.proofs.Common.{◌-◌, ◌≤◌, chars, length}
use denote.Text.{Utf8}
use denote.Shadow.{shadow}
use Rattle.educe_tokens.proofs.Lexed.{Before}
use Rattle.educe_tokens.proofs.lexer.token_pieces.Given as goal

abbrev pub invariant-loop-rest : goal.invariant-loop-rest
invariant-loop-rest l = record {
  utf8 : shadow (Utf8 l.rest);
  before : Before (chars l.source) (chars l.rest) l.tokens (length l.source - length l.rest);
  within : length l.rest ≤ length l.source;
}

abbrev pub decreases-loop-rest : goal.decreases-loop-rest
decreases-loop-rest l = length l.rest
