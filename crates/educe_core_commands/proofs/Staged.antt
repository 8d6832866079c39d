-- The laws of stages.
use Rattle.std.proofs.Common.{ℕ, List, [], ◌∷◌, ◌++◌, inl, inr, ap, ◌∙◌}
use Rattle.educe_tokens.specs.declared.error.EduceError.{EduceError}
use Rattle.educe_core_commands.specs.Stages.{Cause, IsFree, IsFirst, AreFree, Within}

-- where no stage has a cause, there is none
pub none_first : (stages : List Cause) → AreFree stages → IsFree (IsFirst stages)
none_first [] free e kind first = first
none_first (Stage ∷ stages) free e kind (inl here) = free.0 e kind here
none_first (Stage ∷ stages) free e kind (inr later) = none_first stages free.1 e kind later.1

-- and where there is none, none of them has one
pub none_each : (stages : List Cause) → IsFree (IsFirst stages) → AreFree stages
none_each [] free = tt
none_each (Stage ∷ stages) free =
    let here : IsFree Stage = λ e kind stands. free e kind (inl stands) in
    (here, none_each stages (λ e kind later. free e kind (inr (here, later))))

-- behind stages without a cause a cause of the next one is the first
pub first_behind : (front : List Cause) (Stage : Cause) (stages : List Cause) (e : EduceError) → AreFree front → Stage e → IsFirst (front ++ (Stage ∷ stages)) e
first_behind [] Stage stages e free stands = inl stands
first_behind (First ∷ front) Stage stages e free stands = inr (free.0, first_behind front Stage stages e free.1 stands)

-- a part without a cause has none within the input
pub none_within : (by : ℕ) (Inner : Cause) → IsFree Inner → IsFree (Within by Inner)
none_within by Inner free e kind within = free within.0 (λ is. kind (ap (λ (x : EduceError). x.kind) within.1.1 ∙ is)) within.1.0
