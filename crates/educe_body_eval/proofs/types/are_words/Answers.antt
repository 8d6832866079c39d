use Rattle.std.proofs.Common.{arith}
use Rattle.educe_body_values.proofs.Tables.{ascii_at}
use Rattle.educe_body_eval.proofs.types.are_words.Goals as goal

pub spells-requires : goal.spells-requires
spells-requires c = ascii_at c.args.words.now c.loop-i.i _ c.requires (omega arith)
