-- Causes of rejection, as predicates on errors.
use Rattle.educe_tokens.specs.declared.error.EduceError.{EduceError}
use Rattle.educe_attrs_values.specs.declared.stop.Stop.{Stop}
use Rattle.educe_attrs_values.specs.declared.stop.Stop.TheVariants.{Memory, Refused}

-- A cause: the errors with which something is rejected.
abbrev pub Cause : Type 1
Cause = EduceError → Type 0

-- There is no cause of rejection.
pub record NoCause (P : Cause) : Type 0 where
  pub none_stands : (e : EduceError) → P e → ⊥

-- The stop is a rejection with the cause; out of memory has none.
abbrev pub OfStop : Cause → Stop → Type 0
OfStop P Memory = Unit {0}
OfStop P (Refused e) = P e
