-- The laws of comparisons as terms, which proofs cite with no call.
use Rattle.educe_meaning.specs.Laws.{ComparisonLaws}
use Rattle.educe_meaning.proofs.Evaluating as evaluating

-- The functions of a comparison's block evaluate to what the comparison means.
pub lawful_comparisons : ComparisonLaws
lawful_comparisons = evaluating.lawful_comparisons
