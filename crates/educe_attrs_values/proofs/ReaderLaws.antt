-- What the readers of metas answer.
use Rattle.std.proofs.Common.{◌≡◌, refl, sym, subst, Some, Result, Ok, Err, IfOk, IfErr}
use Rattle.educe_tokens.specs.declared.error.EduceError.{EduceError}
use Rattle.educe_syntax.specs.Meta.{Meta}
use Rattle.educe_syntax.specs.MetaPath.{MetaPath}
use Rattle.educe_attrs_values.specs.declared.kind.ValueKind.{ValueKind}
use Rattle.educe_attrs_values.specs.declared.stop.Stop.{Stop}
use Rattle.educe_attrs_values.specs.declared.stop.Stop.TheVariants.{Memory, Refused}
use Rattle.educe_attrs_values.specs.Causes.{IsReaderCause, HasNoReaderCause}
use Rattle.educe_attrs_values.specs.Chains.{Gives, map_err}
use Rattle.educe_attrs_values.specs.Kinds.{ValueOf}
use Rattle.educe_attrs_values.specs.Readings.{value_of}
use Rattle.educe_attrs_values.specs.Refusals.{error_of}
use Rattle.educe_attrs_values.specs.Values.{Holds}
use Rattle.educe_attrs_values.specs.Words.{path_of}
use Rattle.educe_attrs_values.proofs.ValueLaws.{value_holds, value_cause, cause_excludes}

-- What a reader owes of its answer.
pub record Answers (k : ValueKind) (meta : Meta) (r : Result (ValueOf k) EduceError) : Type 0 where
  pub said : IfOk r (λ v. Holds k meta v)
  pub cause : IfErr r (λ e. IsReaderCause k meta e)
  pub uncaused : IfOk r (λ _. HasNoReaderCause k meta)

module _ (k : ValueKind) (path : MetaPath) (meta : Meta) (is : path_of meta ≡ Some path) where
  no_cause : (v : ValueOf k) → Holds k meta v → HasNoReaderCause k meta
  no_cause v holds _ (IsReaderCause.value own e own_is cause) = absurd (cause_excludes k own meta e cause v holds)
  no_cause v holds _ IsReaderCause.memory = refl

  told : (r : Result (ValueOf k) Stop) → Gives Memory (value_of k path meta) r → Answers k meta (map_err error_of r)
  told (Ok v) h = let holds = value_holds k path meta v h in record { said = holds; cause = tt; uncaused = no_cause v holds }
  told (Err Memory) h = record { said = tt; cause = IsReaderCause.memory; uncaused = tt }
  told (Err (Refused e)) h = record { said = tt; cause = IsReaderCause.value path e is (value_cause k path meta e (h (λ same. cc))); uncaused = tt }

  -- what was read is what the meta says, and no cause stands; or there is a cause
  pub answers : (r : Result (ValueOf k) Stop) → Gives Memory (value_of k path meta) r → (result : Result (ValueOf k) EduceError) → result ≡ map_err error_of r → Answers k meta result
  answers r h result e = subst (Answers k meta) (sym e) (told r h)
