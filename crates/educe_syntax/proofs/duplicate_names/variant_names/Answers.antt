use Rattle.std.proofs.Common.{rules}
use Rattle.std.proofs.lemmas.Iterator.{YieldsList-from_slice, YieldsList-from_map, items_from_collect}
use Rattle.educe_tree.specs.declared.data.Variant.{Variant}
use Rattle.educe_grammar.specs.Naming.{ident_named}
use Rattle.educe_syntax.proofs.duplicate_names.variant_names.Goals as goal

pub returns : goal.returns
returns c =
    items_from_collect _ c.collect.ensures.ran (YieldsList-from_map _ (λ (v : Variant). ident_named v.ident) (YieldsList-from_slice c.args.variants.now (cc)) c.map.ensures.closure (λ x r q k. search rules))
