use Rattle.educe_tokens.proofs.Ascii.{spells_test}
use Rattle.educe_tokens.proofs.spelling.Spelling.spells.Goals as goal

pub returns : goal.returns
returns c = spells_test c.is.result c.args.self.now c.args.text.now c.requires c.is.ensures
