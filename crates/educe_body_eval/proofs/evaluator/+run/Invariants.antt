use Rattle.std.proofs.Common.{◌≡◌, ◌++◌, drop}
use Rattle.educe_body_values.specs.Scoping.{callee_in}
use Rattle.educe_body_values.specs.Meaning.{scene_at, list_value, args_list, arms_list, fields_named, inits_list, built, counted, call_named, call_value}
use Rattle.educe_body_values.specs.declared.flow.Thing.TheVariants.{Nothing}
use Rattle.educe_body_eval.proofs.evaluator.+run.Given as goal

abbrev pub invariant-run_block-loop-form : goal.invariant-run_block-loop-form
invariant-run_block-loop-form l =
    list_value (scene_at l.stage) l.env l.last (drop l.form-index l.form-items)
    ≡ list_value (scene_at l.stage) l.fn.env Nothing l.forms

abbrev pub invariant-run_call-loop-argument : goal.invariant-run_call-loop-argument
invariant-run_call-loop-argument l = record {
  rest : args_list (scene_at l.stage) l.env (drop l.argument-index l.argument-items) (λ env more. call_named l.stage.answers.now (callee_in l.fn.env.names l.path) env (l.things ++ more))
      ≡ args_list (scene_at l.stage) l.fn.env l.arguments (call_value (scene_at l.stage) l.fn.env.names l.path);
  same : l.callee ≡ callee_in l.fn.env.names l.path;
  all : counted l.things ≡ l.things;
}

abbrev pub invariant-run_arms-loop-arm : goal.invariant-run_arms-loop-arm
invariant-run_arms-loop-arm l =
    arms_list (scene_at l.stage) l.env (drop l.arm-index l.arms) l.value (fields_named l.found l.value) ≡ arms_list (scene_at l.stage) l.env l.arms l.value (fields_named l.found l.value)

abbrev pub invariant-run_inits-loop-i : goal.invariant-run_inits-loop-i
invariant-run_inits-loop-i l =
    inits_list (scene_at l.stage) l.env (drop l.i l.inits) (drop l.i l.fields) (λ env more. built l.variant env (l.values ++ more))
    ≡ inits_list (scene_at l.stage) l.fn.env l.inits l.fields (built l.variant)
