use Rattle.std.proofs.Common.{append_assoc, arith}
use Rattle.std.proofs.lemmas.Grind.{common_steps}
use Rattle.educe_core.proofs.SampleText.{variants_none, variants_next}
use Rattle.educe_core.proofs.sample.sample_text.Goals as goal

pub loop-place-init : goal.loop-place-init
loop-place-init c = rw variants_none (grind (arith, common_steps))

pub loop-place-preserved : goal.loop-place-preserved
loop-place-preserved c = rw variants_next (grind (arith, common_steps, append_assoc))
