use Rattle.std.proofs.Common.{take}
use Rattle.std.specs.List.{filter_map}
use Rattle.educe_bound_classes.specs.Classes.{plain_of}
use Rattle.educe_bound_classes.specs.Asked.{AddsAll}
use Rattle.educe_bound_classes.proofs.needs.+needs.Given as goal

abbrev pub invariant-append_all-loop-arg : goal.invariant-append_all-loop-arg
invariant-append_all-loop-arg l =
    AddsAll l.asker.exceptions.now l.asker.params.now l.asker.name.now (filter_map plain_of (take l.arg-index l.arg-items)) l.initial.asked.items l.asked.items
