use Rattle.educe_meaning_coherence.proofs.Fitting.{lawful_coherence}
use Rattle.educe_meaning_coherence.proofs.laws.coherence_laws.Goals as goal

pub returns : goal.returns
returns c = lawful_coherence
