use Rattle.std.proofs.Common.{ℕ, List, map, ap, ◌∙◌}
use Rattle.educe_tokens_interner.specs.Keys.{tokens_key}
use Rattle.educe_tokens_interner.specs.Places.{place_from}
use Rattle.educe_tokens_interner.proofs.Places.{find_some, find_none}
use Rattle.educe_tokens_interner.proofs.interner.Interner.find_keyed.Goals as goal

pub returns-clause-some : goal.returns-clause-some
returns-clause-some c =
    let lists = c.args.self.now in
    find_some lists c.args.list.now c.place.result (c.place.ensures ∙ ap (place_from 0 (map tokens_key lists)) c.key.ensures)

pub returns-clause-none : goal.returns-clause-none
returns-clause-none c =
    let lists = c.args.self.now in
    find_none lists c.args.list.now c.place.result (c.place.ensures ∙ ap (place_from 0 (map tokens_key lists)) c.key.ensures)
