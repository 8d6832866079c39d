-- The laws of `Default` as terms, which proofs cite with no call.
use Rattle.educe_meaning.specs.DefaultLaws.{DefaultLaws}
use Rattle.educe_meaning.proofs.DefaultEvaluating as evaluating

-- The functions of the block of `Default` evaluate to what they mean.
pub lawful_defaults : DefaultLaws
lawful_defaults = evaluating.lawful_defaults
