-- The law of coherence as a term, which proofs cite with no call.
use Rattle.educe_meaning_coherence.specs.Coherence.{CoherenceLaws}
use Rattle.educe_meaning_coherence.proofs.Fitting as fitting

-- The derived functions are coherent, where they evaluate to what their traits mean.
pub lawful_coherence : CoherenceLaws
lawful_coherence = fitting.lawful_coherence
