-- What the attributes of a definition say of the traits that it lists.
use Rattle.std.specs.Prelude.{◌≡◌, true}
use Rattle.educe_syntax.specs.DeriveInput.{DeriveInput}
use Rattle.educe_bound_traits.specs.declared.traits.Trait.{Trait}
use Rattle.educe_bound_traits.specs.declared.traits.Trait.TheVariants as trait
use Rattle.educe_bound_traits.specs.Traits.{is_listed}
use Rattle.educe_settings.specs.Defaults.{AreDefaultsSaid}
use Rattle.educe_settings.specs.Listed.{listed}
use Rattle.educe_settings.specs.Settings.{AreSaid}
use Rattle.educe_settings.specs.Shown.{AreShownSaid}

-- The settings of a trait are what the attributes say of it: `AreDefaultsSaid` of `Default`, `AreShownSaid` of `Debug`, and
-- `AreSaid` of any other.
abbrev pub AreSaidOf : Trait → DeriveInput → Type 0
AreSaidOf trait.Clone definition = AreSaid trait.Clone definition
AreSaidOf trait.Copy definition = AreSaid trait.Copy definition
AreSaidOf trait.PartialEq definition = AreSaid trait.PartialEq definition
AreSaidOf trait.Eq definition = AreSaid trait.Eq definition
AreSaidOf trait.PartialOrd definition = AreSaid trait.PartialOrd definition
AreSaidOf trait.Ord definition = AreSaid trait.Ord definition
AreSaidOf trait.Hash definition = AreSaid trait.Hash definition
AreSaidOf trait.Debug definition = AreShownSaid definition
AreSaidOf trait.Default definition = AreDefaultsSaid definition

-- The settings of each listed trait are what the attributes say of it.
abbrev pub AreAllSaid : DeriveInput → Type 0
AreAllSaid definition = (which : Trait) → is_listed (listed definition) which ≡ true → AreSaidOf which definition
