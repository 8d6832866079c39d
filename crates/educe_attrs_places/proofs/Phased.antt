-- How the causes of the handlers go together.
use Rattle.std.proofs.Common.{List, inl, inr}
use Rattle.std.specs.Prelude.{Contains}
use Rattle.educe_tokens.specs.declared.error.EduceError.{EduceError}
use Rattle.educe_bound_traits.specs.declared.traits.Trait.{Trait}
use Rattle.educe_attrs_places.specs.Causes.{NoCause}
use Rattle.educe_attrs_places.specs.Phases.{Handling, OfHandler, OfLast}

-- where no handler of a listed trait has a cause, and there is one, the last phase has none
pub all_handled : (h : Handling) (listed : List Trait) (some : Trait) → Contains listed some → ((which : Trait) → Contains listed which → NoCause (OfHandler h which)) → NoCause (OfLast h listed)
all_handled h listed some among each = record {
  none_stands = λ e cause. elim cause [
    | inl list ↦ (each some among).none_stands e (inl list)
    | inr own ↦ (each own.0 own.1).none_stands e (inr own.2)
  ];
}

-- a cause of a listed trait's handler is one of the last phase
pub one_refused : (h : Handling) (listed : List Trait) (which : Trait) → Contains listed which → (e : EduceError) → OfHandler h which e → OfLast h listed e
one_refused h listed which among e (inl list) = inl list
one_refused h listed which among e (inr own) = inr (which, among, own)
