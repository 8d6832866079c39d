-- What is made of each field that takes part, one after the other.
use Rattle.std.proofs.Common.{◌≡◌, ℕ, ◌+◌, ◌<◌, ◌≤◌, List, [], ◌∷◌, ◌++◌, map, take, length, get_or, subst}
use Rattle.std.specs.List.{AllZip}
use Rattle.std.proofs.lemmas.List.{take_all}
use Rattle.educe_settings.specs.declared.ranked.Ranked.{Ranked}
use Rattle.educe_settings.specs.Ranked.{kept_of}
use Rattle.educe_settings.proofs.Lists.{zip_more, zip_mapped}
use Rattle.educe_settings.specs.Settings.{Kept}

module _ {Y : Type 0} (IsOf : Kept → Y → Type 0) (fields : List Ranked) (i : ℕ) where
  -- of one field more
  pub kept_more : (r : Ranked) (old new : List Y) (y : Y) → i < length fields → r ≡ get_or fields i r → AllZip (λ r y. IsOf (kept_of r) y) (take i fields) old
      → new ≡ old ++ y ∷ [] → IsOf (kept_of r) y → AllZip (λ r y. IsOf (kept_of r) y) (take (i + 1) fields) new
  kept_more r old new y less item before pushed is = zip_more (λ r y. IsOf (kept_of r) y) fields i r r old new y less item before pushed is

  -- of all of them
  pub kept_all : (made : List Y) → length fields ≤ i → AllZip (λ r y. IsOf (kept_of r) y) (take i fields) made → AllZip IsOf (map kept_of fields) made
  kept_all made all zip = zip_mapped IsOf kept_of fields made (subst (λ (front : List Ranked). AllZip (λ r y. IsOf (kept_of r) y) front made) (take_all i fields all) zip)
