use Rattle.educe_core.proofs.Alone.{alone}
use Rattle.educe_core.proofs.Causes.{uncaused_if_valid}
use Rattle.educe_core.proofs.Decided as decided
use Rattle.educe_core.proofs.laws.expansion_laws.Goals as goal

pub returns : goal.returns
returns c = record {
  defined_or_refused = decided.defined_or_refused;
  unread_refused = decided.unread_refused;
  valid_if_uncaused = decided.valid_if_uncaused;
  uncaused_if_valid = uncaused_if_valid;
  alone_if_undefined = alone;
}
