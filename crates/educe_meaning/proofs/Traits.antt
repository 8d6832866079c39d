-- What holds of every trait.
use Rattle.educe_bound_classes.proofs.Lawful.{always_suffice, always_minimal}
use Rattle.educe_meaning.specs.Laws.{TraitLaws}
use Rattle.educe_meaning.proofs.Bounding.{bounded_by}
use Rattle.educe_meaning.proofs.Inheriting.{trait_inherits}
use Rattle.educe_meaning.proofs.ReadHeaders.{parts_read}
use Rattle.educe_settings.proofs.Refused.{only_said, trait_said}

-- the laws of traits hold
pub lawful_traits : TraitLaws
lawful_traits = record {
  said = λ which d lists uncaused. trait_said d which lists uncaused;
  only = λ which d fieldwise uncaused settings. only_said which fieldwise d uncaused settings;
  inherits = trait_inherits;
  bounded = λ d items is are. bounded_by always_suffice always_minimal d (parts_read d is) items are;
}
