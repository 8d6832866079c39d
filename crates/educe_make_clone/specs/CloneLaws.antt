-- The laws of `Clone` and `Copy` as terms, which proofs cite with no call.
use Rattle.educe_meaning.specs.CloneLaws.{CloneLaws}
use Rattle.educe_meaning.proofs.CloneEvaluating as evaluating

-- The functions of the block of `Clone` evaluate to what they mean.
pub lawful_clones : CloneLaws
lawful_clones = evaluating.lawful_clones
