use Rattle.std.proofs.Common.{take, ◌∙◌, ap, arith, rules}
use Rattle.std.proofs.lemmas.Grind.{common_steps}
use Rattle.educe_core_devices.specs.Devices.{behind}
use Rattle.educe_core_devices.proofs.Bytes.{rest_of_rest, behind_front}
use Rattle.educe_core_devices.proofs.writing.write_all.Goals as goal

pub loop-rest-preserved : goal.loop-rest-preserved
loop-rest-preserved g c = record {
  within = grind (arith, common_steps);
  rest = rest_of_rest c.args.bytes.now c.loop-rest.rest.now _ c.in_ok-count.count (grind (arith, common_steps)) (grind arith) c.loop-rest.invariant.within c.loop-rest.invariant.rest;
  held = c.in_ok-count.ensures.appended ∙ ap (λ told. behind told (take c.in_ok-count.count c.loop-rest.rest.now)) c.loop-rest.invariant.held ∙ behind_front (g.K.Sink.held c.args.sink.now) c.args.bytes.now c.loop-rest.rest.now _ c.in_ok-count.count (grind (arith, common_steps)) (grind arith) c.loop-rest.invariant.within c.loop-rest.invariant.rest;
  kept = search rules;
  never = search rules;
}
