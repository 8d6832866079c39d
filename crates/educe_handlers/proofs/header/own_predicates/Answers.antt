use Rattle.std.proofs.Common.{List, subst, sym}
use Rattle.std.specs.Borrow.{Bor}
use Rattle.std.specs.List.{AllByRecursion}
use Rattle.educe_syntax.specs.Readings.{IsReadType}
use Rattle.educe_syntax.specs.Ty.{Ty}
use Rattle.educe_settings.specs.EveryType.{behind}
use Rattle.educe_handlers.proofs.header.own_predicates.Goals as goal

pub returns-clause-read : goal.returns-clause-read
returns-clause-read c = λ bound names types.
    c.into_where_predicates_by_generic_parameters_check_types.ensures.read bound names
    (subst (λ (items : List (Bor Ty)). AllByRecursion IsReadType (behind items)) (sym c.deref.ensures.value) types)
