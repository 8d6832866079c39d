-- Ranks that rise along a list, and along its image.
use Rattle.std.proofs.Common.{◌<ℤ◌, ℤ, List, [], ◌∷◌, map}
use Rattle.educe_settings.specs.Ranks.{Rises}
use Rattle.educe_settings.proofs.Elements.{each_map, each_mapped}

-- where the ranks of images rise, the ranks rise along the image
pub Rises-mapped : {X Y : Type 0} (rank : Y → ℤ) (f : X → Y) (xs : List X) → Rises (λ x. rank (f x)) xs → Rises rank (map f xs)
Rises-mapped rank f [] rises = tt
Rises-mapped rank f (x ∷ xs) rises = (each_mapped (λ y. rank (f x) <ℤ rank y) f xs rises.0, Rises-mapped rank f xs rises.1)

-- where the ranks rise along the image, the ranks of images rise
pub Rises-map : {X Y : Type 0} (rank : Y → ℤ) (f : X → Y) (xs : List X) → Rises rank (map f xs) → Rises (λ x. rank (f x)) xs
Rises-map rank f [] rises = tt
Rises-map rank f (x ∷ xs) rises = (each_map (λ y. rank (f x) <ℤ rank y) f xs rises.0, Rises-map rank f xs rises.1)
