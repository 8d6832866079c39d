-- Lists that grow at their end.
use Rattle.std.specs.Prelude.{◌≡◌, List, ◌++◌}

-- The new list begins with the old one; items may be of any type.
pub record HasPrefix {X : Type 0} (old new : List X) : Type 0 where
  pub more : List X
  pub joined : new ≡ old ++ more
