use Rattle.std.proofs.Common.{◌≡◌, [], chars, take}
use Rattle.std.specs.String.{string_bytes}
use Rattle.std.specs.List.{AllByRecursion}
use Rattle.educe_body_items.specs.Items.{spelling}
use Rattle.educe_body_items.proofs.Spelled.{ItemLexes}
use Rattle.educe_body_items.proofs.speller.spell.Given as goal

abbrev pub invariant-loop-item : goal.invariant-loop-item
invariant-loop-item l = record {
  spelled : chars (string_bytes l.out) ≡ spelling (take l.item-index l.item-items);
  emptied : l.tokens ≡ [];
  each : AllByRecursion ItemLexes (take l.item-index l.item-items);
}
