-- What is planned for the calls of a device over memory.
use Rattle.std.specs.Prelude.{◌≡◌, ℕ, ◌+◌, ◌-◌, ◌^◌, ◌==◌, if◌then◌else◌, min, List, Bool, length, nat_lt}
use Rattle.std.specs.List.{list_any}
use Rattle.educe_core_devices.specs.declared.plan.Plan.{Plan}

-- Before the first call: a call moves at most so many bytes, and the calls of these numbers fail.
pub record IsNew (step : ℕ) (failing : List ℕ) (plan : Plan) : Type 0 where
  pub step_is : plan.step ≡ step
  pub failing_are : plan.failing.items ≡ failing
  pub no_calls : plan.calls ≡ 0
  pub no_faults : plan.faults ≡ 0

-- Some call may fail: the list of those that do is not empty.
abbrev pub may_fail : Plan → Bool
may_fail plan = nat_lt 0 (length plan.failing.items)

-- The next call fails.
abbrev pub fails_next : Plan → Bool
fails_next plan = list_any (λ n. n == plan.calls) plan.failing.items

-- One call more was counted, and a fault where it was planned, each up to the last value of a `u64`; what is planned stays.
pub record IsCounted (before after : Plan) : Type 0 where
  pub step_stays : after.step ≡ before.step
  pub failing_stay : after.failing ≡ before.failing
  pub calls_are : after.calls ≡ min (before.calls + 1) (2 ^ 64 - 1)
  pub faults_are : after.faults ≡ (if fails_next before then min (before.faults + 1) (2 ^ 64 - 1) else before.faults)
