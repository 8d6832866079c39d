-- Stops whose causes are passed on.
use Rattle.std.proofs.Common.{◌≡◌, Result}
use Rattle.std.specs.Prelude.{IfErr}
use Rattle.std.specs.Result.{IsErrAnd}
use Rattle.std.proofs.lemmas.Result.{err_from_is_err_and, IfErr-weaker}
use Rattle.educe_tokens.specs.declared.error.EduceError.{EduceError}
use Rattle.educe_attrs.specs.Causes.{Cause, OfStop}
use Rattle.educe_attrs.specs.Stop.{Stop}
use Rattle.educe_attrs.specs.Stop.TheVariants.{Memory, Refused}

-- where each cause is one of another kind, a stop for one is a stop for that
pub stop_weaker : (P Q : Cause) → ((e : EduceError) → P e → Q e) → (s : Stop) → OfStop P s → OfStop Q s
stop_weaker P Q weaker Memory stopped = tt
stop_weaker P Q weaker (Refused e) stopped = weaker e stopped

-- what the exit of a `?` returns
pub stop_passed : {T : Type 0} (P Q : Cause) → ((e : EduceError) → P e → Q e) → (r : Result T Stop) (s : Stop) → IsErrAnd r (λ y. y ≡ s) → OfStop P s → IfErr r (λ y. OfStop Q y)
stop_passed P Q weaker r s exits stopped = let passed = err_from_is_err_and r exits in rw (passed.1, passed.2) (stop_weaker P Q weaker s stopped)

-- what a last call returns
pub stop_returned : {T : Type 0} (P Q : Cause) → ((e : EduceError) → P e → Q e) → (r : Result T Stop) → IfErr r (λ s. OfStop P s) → IfErr r (λ s. OfStop Q s)
stop_returned P Q weaker r stopped = IfErr-weaker r (λ s. OfStop P s) (λ s. OfStop Q s) (stop_weaker P Q weaker) stopped
