use Rattle.std.proofs.Common.{sym, ◌∙◌}
use Rattle.educe_grammar.proofs.Expecting.{expect_seen}
use Rattle.educe_grammar.proofs.cursor.Cursor.take_if.Goals as goal

pub returns-in-len1-up-clause-taken : goal.returns-in-len1-up-clause-taken
returns-in-len1-up-clause-taken c = λ test seen.
    expect_seen test c.self.inside.rest.now c.args.self.now _ _ c.self.view_is c.in-len1-up.len_at_least c.first-item.is c.skip.ensures (sym seen ∙ c.if-seen.true)
