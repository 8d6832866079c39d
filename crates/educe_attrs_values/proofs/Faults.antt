-- The faults of kinds of errors.
use Rattle.std.proofs.Common.{◌≡◌, ℕ, List, Bool, refl}
use Rattle.std.specs.Prelude.{◌≢◌}
use Rattle.educe_tokens.specs.declared.error.Kind.{Kind}
use Rattle.educe_tokens.specs.declared.error.Kind.TheVariants.{Alloc, TooDeep, NotCarried}
use Rattle.educe_tokens.specs.declared.span.Span.{Span}
use Rattle.educe_attrs_values.specs.declared.fault.Fault.TheVariants as fault
use Rattle.educe_attrs_values.specs.Readings.{fault_by}

-- an error of another kind says that the tokens are no value
pub other_wrong : (quoted : Bool) (place : Span) (words : List (List ℕ)) (k : Kind) → k ≢ Alloc → k ≢ TooDeep → k ≢ NotCarried → fault_by quoted place words k ≡ fault.Wrong
other_wrong quoted place words Alloc memory deep carried = absurd (memory refl)
other_wrong quoted place words TooDeep memory deep carried = absurd (deep refl)
other_wrong quoted place words NotCarried memory deep carried = absurd (carried refl)
other_wrong quoted place words _ memory deep carried = refl
