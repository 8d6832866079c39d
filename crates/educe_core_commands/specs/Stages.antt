-- The order of rejections: causes by stages, of which the first with a cause is the one that is reported.
use Rattle.std.specs.Prelude.{◌≡◌, ◌≢◌, ◌⊎◌, ℕ, List, [], ◌∷◌}
use Rattle.educe_tokens.specs.declared.error.EduceError.{EduceError}
use Rattle.educe_tokens.specs.declared.error.Kind.TheVariants.{Alloc}
use Rattle.educe_tokens.specs.Span.{shifted}

-- Why something is rejected.
abbrev pub Cause : Type 1
Cause = EduceError → Type 0

-- No error has this cause, out of memory aside.
abbrev pub IsFree : Cause → Type 0
IsFree Stage = (e : EduceError) → e.kind ≢ Alloc → Stage e → ⊥

-- No stage has a cause.
abbrev pub AreFree : List Cause → Type 0
AreFree [] = Unit {0}
AreFree (Stage ∷ stages) = IsFree Stage × AreFree stages

-- A cause of the first stage that has any.
abbrev pub IsFirst : List Cause → Cause
IsFirst [] e = ⊥
IsFirst (Stage ∷ stages) e = Stage e ⊎ (IsFree Stage × IsFirst stages e)

-- A cause in a part of the input, in front of which there are so many bytes.
abbrev pub Within : ℕ → Cause → Cause
Within by Inner e = (inner : EduceError) × (Inner inner × (e ≡ record inner { span = shifted by inner.span }))
