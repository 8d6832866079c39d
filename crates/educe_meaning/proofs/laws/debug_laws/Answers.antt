use Rattle.educe_meaning.proofs.ShownEvaluating.{debug_evaluates}
use Rattle.educe_meaning.proofs.ShownNames.{fmt_scope, fmt_arm_scope, marker_scope}
use Rattle.educe_meaning.proofs.laws.debug_laws.Goals as goal

pub returns : goal.returns
returns c = record {
  scope = fmt_scope;
  arm_scope = λ d names case are. fmt_arm_scope d names are case;
  marker_scope = marker_scope;
  evaluates = debug_evaluates;
}
