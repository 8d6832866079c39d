-- How the stages of rejections fit together.
use Rattle.std.specs.Prelude.{List, ◌∷◌, ◌++◌, ℕ}
use Rattle.educe_tokens.specs.declared.error.EduceError.{EduceError}
use Rattle.educe_core_commands.specs.Stages.{Cause, IsFree, IsFirst, AreFree, Within}

-- Laws of stages.
pub record StageLaws : Type 1 where
  -- Where no stage has a cause, there is no first one.
  pub none_first : (stages : List Cause) → AreFree stages → IsFree (IsFirst stages)
  -- Where there is no first cause, no stage has one.
  pub none_each : (stages : List Cause) → IsFree (IsFirst stages) → AreFree stages
  -- A cause behind stages without one is the first.
  pub first_behind : (front : List Cause) (Stage : Cause) (stages : List Cause) (e : EduceError) → AreFree front → Stage e
      → IsFirst (front ++ (Stage ∷ stages)) e
  -- A part without a cause has none in the input.
  pub none_within : (by : ℕ) (Inner : Cause) → IsFree Inner → IsFree (Within by Inner)
