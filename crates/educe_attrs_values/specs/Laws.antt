-- The laws of values: for each kind, every meta gives exactly one value or has a cause of rejection.
use Rattle.std.specs.Prelude.{◌≡◌, Ok, Err}
use Rattle.educe_tokens.specs.declared.error.EduceError.{EduceError}
use Rattle.educe_syntax.specs.Meta.{Meta}
use Rattle.educe_syntax.specs.MetaPath.{MetaPath}
use Rattle.educe_attrs_values.specs.declared.kind.ValueKind.{ValueKind}
use Rattle.educe_attrs_values.specs.declared.stop.Stop.TheVariants.{Memory, Refused}
use Rattle.educe_attrs_values.specs.Causes.{IsValueCause}
use Rattle.educe_attrs_values.specs.Kinds.{ValueOf}
use Rattle.educe_attrs_values.specs.Readings.{value_of}
use Rattle.educe_attrs_values.specs.Values.{Holds}

-- Laws of a kind, for each path and each meta.
pub record ValueLaws (k : ValueKind) : Type 0 where
  -- A value that is read is what the parameter says.
  pub holds : (path : MetaPath) (meta : Meta) (v : ValueOf k) → value_of k path meta ≡ Ok v → Holds k meta v
  -- What the parameter says is read.
  pub back : (path : MetaPath) (meta : Meta) (v : ValueOf k) → Holds k meta v → value_of k path meta ≡ Ok v
  -- Every rejection has a cause.
  pub cause : (path : MetaPath) (meta : Meta) (e : EduceError) → value_of k path meta ≡ Err (Refused e) → IsValueCause k path meta e
  -- A parameter with a cause of rejection says nothing.
  pub excludes : (path : MetaPath) (meta : Meta) (e : EduceError) → IsValueCause k path meta e → (v : ValueOf k) → Holds k meta v → ⊥
  -- The specified result is never out of memory, which only a call may report.
  pub told : (path : MetaPath) (meta : Meta) → value_of k path meta ≡ Err Memory → ⊥
