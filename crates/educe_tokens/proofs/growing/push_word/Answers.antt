use Rattle.educe_tokens.proofs.Words.{word_spells}
use Rattle.educe_tokens.proofs.growing.push_word.Goals as goal

pub push_spelled-requires : goal.push_spelled-requires
push_spelled-requires c = rw (c.kind.ensures, c.in_ok-duplicate.ensures) (word_spells c.args.word.now.text c.args.word.now.spelled)
