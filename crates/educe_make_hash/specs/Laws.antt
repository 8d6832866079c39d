-- The laws of what is derived as terms, which proofs cite with no call.
use Rattle.educe_meaning.specs.HashLaws.{HashLaws}
use Rattle.educe_meaning.proofs.HashEvaluating as evaluating

-- The function of the block of `Hash` evaluates to what `Hash` means.
pub lawful_hashes : HashLaws
lawful_hashes = evaluating.lawful_hashes
