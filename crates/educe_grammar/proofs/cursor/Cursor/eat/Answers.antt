use Rattle.educe_grammar.proofs.Expecting.{eats_seen}
use Rattle.educe_grammar.proofs.cursor.Cursor.eat.Goals as goal

pub returns-then-seen-clause-taken : goal.returns-then-seen-clause-taken
returns-then-seen-clause-taken c = eats_seen _ c.args.self.now c.skip.new.self c.sees-seen.result c.sees-seen.ensures c.if-seen.true c.skip.ensures
