use Rattle.std.proofs.Common.{List, subst, sym}
use Rattle.std.specs.Borrow.{Bor}
use Rattle.std.specs.List.{AllByRecursion}
use Rattle.educe_syntax.specs.Readings.{IsReadType}
use Rattle.educe_syntax.specs.Ty.{Ty}
use Rattle.educe_settings.specs.EveryType.{behind}
use Rattle.educe_handlers.proofs.header.copy_predicates.Goals as goal

pub returns-then-copied-clause-read : goal.returns-then-copied-clause-read
returns-then-copied-clause-read c = λ names types.
    c.packed_copy_predicates.ensures.read names (subst (λ (items : List (Bor Ty)). AllByRecursion IsReadType (behind items)) (sym c.deref.ensures.value) types)
