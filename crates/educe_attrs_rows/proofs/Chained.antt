-- Results one behind the other.
use Rattle.std.proofs.Common.{◌≡◌, refl, ap, Result, Ok, Err}
use Rattle.educe_tokens.specs.declared.error.EduceError.{EduceError}
use Rattle.educe_attrs_values.specs.declared.stop.Stop.{Stop}
use Rattle.educe_attrs_values.specs.declared.stop.Stop.TheVariants.{Refused}
use Rattle.educe_attrs_values.specs.Chains.{and_then, map_ok}
pub use Rattle.educe_attrs_values.proofs.ByRule.{ok_one, err_one}

pub chained : {A B E : Type 0} (f : A → Result B E) (r : Result A E) (y : B) → and_then f r ≡ Ok y → (x : A) × (r ≡ Ok x) × (f x ≡ Ok y)
chained f (Ok x) y h = (x, refl, h)
chained f (Err e) y h = absurd (cc)

pub mapped : {A B E : Type 0} (f : A → B) (r : Result A E) (y : B) → map_ok f r ≡ Ok y → (x : A) × (r ≡ Ok x) × (f x ≡ y)
mapped f (Ok x) y h = (x, refl, ok_one h)
mapped f (Err e) y h = absurd (cc)

pub mapped_err : {A B E : Type 0} (f : A → B) (r : Result A E) (e : E) → map_ok f r ≡ Err e → r ≡ Err e
mapped_err f (Ok x) e h = absurd (cc)
mapped_err f (Err d) e h = ap Err (err_one h)

pub twice_mapped : {A B C E : Type 0} (f : A → B) (g : B → C) (r : Result A E) → map_ok (λ x. g (f x)) r ≡ map_ok g (map_ok f r)
twice_mapped f g (Ok x) = refl
twice_mapped f g (Err e) = refl

pub mapped_same : {A E : Type 0} (r : Result A E) → map_ok (λ (x : A). x) r ≡ r
mapped_same (Ok x) = refl
mapped_same (Err e) = refl

-- one rejection
pub refused_one : {A : Type 0} {d e : EduceError} → ◌≡◌ {A = Result A Stop} (Err (Refused d)) (Err (Refused e)) → d ≡ e
refused_one {d = d} {e = e} h = let same : Refused d ≡ Refused e = err_one h in cc
