use Rattle.std.proofs.Common.{sym, subst}
use Rattle.educe_tokens_pieces.specs.declared.kind.PieceKind.TheVariants.{Uncarried}
use Rattle.educe_tokens.specs.Slices.{cut_out}
use Rattle.educe_tokens.specs.Steps.{IsCauseOfPiece}
use Rattle.educe_tokens.proofs.Lexed.{cited_cause}
use Rattle.educe_tokens.proofs.lexer.not_carried.Goals as goal

pub returns-in-Ok : goal.returns-in-Ok
returns-in-Ok c = cited_cause _ c.args.span c.args.kind _ c.citing.result c.in-Ok.ensures c.citing.ensures

pub returns-in-Err : goal.returns-in-Err
returns-in-Err c = subst (IsCauseOfPiece (cut_out c.args.source.now c.args.span) c.args.span (Uncarried c.args.kind)) (sym c.alloc.ensures) (IsCauseOfPiece.memory _)
