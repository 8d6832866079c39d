-- The laws of traits as terms, which proofs cite with no call.
use Rattle.educe_meaning.specs.Laws.{TraitLaws}
use Rattle.educe_meaning.proofs.Traits as traits

-- What holds of every trait.
pub lawful_traits : TraitLaws
lawful_traits = traits.lawful_traits
