use Rattle.std.proofs.Common.{rules}
use borrow.Author.Tests.{tests}
use Rattle.std.proofs.lemmas.Iterator.{YieldsList-from_slice, items_from_collect}
use Rattle.std.proofs.lemmas.Iterator.Consumers.{YieldsList-from_filter_map}
use Rattle.educe_grammar.specs.Naming.{field_named}
use Rattle.educe_syntax.proofs.duplicate_names.field_names.Goals as goal

pub returns : goal.returns
returns c =
    items_from_collect _ c.collect.ensures.ran (YieldsList-from_filter_map _ field_named (YieldsList-from_slice c.args.fields.now (cc)) c.filter_map.ensures.closure (λ x r q k. search (rules, tests)))
