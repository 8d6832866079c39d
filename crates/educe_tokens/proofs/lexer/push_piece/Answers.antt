use Rattle.std.proofs.Common.{sym, subst}
use Rattle.educe_tokens.specs.Slices.{cut_out}
use Rattle.educe_tokens.specs.Steps.{IsCauseOfPiece}
use Rattle.educe_tokens.proofs.lexer.push_piece.Goals as goal

pub returns-else-is_ok-clause-err : goal.returns-else-is_ok-clause-err
returns-else-is_ok-clause-err c = subst (IsCauseOfPiece (cut_out c.args.source.now c.args.span) c.args.span c.args.kind) (sym c.alloc.ensures) (IsCauseOfPiece.memory c.args.kind)
