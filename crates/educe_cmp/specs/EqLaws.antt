-- The laws of `Eq` as terms, which proofs cite with no call.
use Rattle.educe_meaning.specs.EqLaws.{EqLaws}
use Rattle.educe_meaning.proofs.Checked as checked

-- What holds of the block of `Eq`.
pub lawful_checks : EqLaws
lawful_checks = checked.lawful_checks
