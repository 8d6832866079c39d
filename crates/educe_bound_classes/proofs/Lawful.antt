-- The laws of the automatic mode, as terms.
use Rattle.educe_bound_classes.specs.Needs.{AlwaysSuffice, AreAlwaysMinimal, AreAlwaysDistinct}
use Rattle.educe_bound_classes.proofs.Bounds.{extends_distinct}
use Rattle.educe_bound_classes.proofs.ByText.{own_suffices, own_minimal}

-- the own predicates of the automatic mode suffice
pub always_suffice : AlwaysSuffice
always_suffice ex params self bound types own is = own_suffices ex params self bound types own is

-- none of them can be dropped
pub always_minimal : AreAlwaysMinimal
always_minimal ex params self bound types own read is = own_minimal ex params self bound types own read is

-- no two of them are equal
pub always_distinct : AreAlwaysDistinct
always_distinct ex params self bound types own is = extends_distinct tt is.2
