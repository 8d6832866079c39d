use Rattle.std.proofs.Common.{◌++◌, List, map, take}
use Rattle.educe_tree.specs.declared.data.Variant.{Variant}
use Rattle.educe_grammar.specs.Naming.{Named, field_names, IsEarliest}
use Rattle.educe_syntax.proofs.duplicate_names.earliest_of_fields.Given as goal

abbrev pub invariant-loop-variant : goal.invariant-loop-variant
invariant-loop-variant l = (lists : List (List Named)) → IsEarliest l.fn.known lists
    → IsEarliest l.found (lists ++ map (λ (v : Variant). field_names v.fields.fields) (take l.variant-index l.variants))
