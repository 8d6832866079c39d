use Rattle.std.proofs.Common.{List, ◌++◌, None, ap, ◌∙◌}
use Rattle.educe_tokens.specs.declared.word.Word.{Word}
use Rattle.educe_body_values.specs.Meaning.{all_bound, param_referent}
use Rattle.educe_body_values.proofs.Steps.{first_bindings-made}
use Rattle.educe_body_eval.proofs.environments.started.Goals as goal

pub returns : goal.returns
returns c =
    let referent = c.param_referent.ensures ∙ ap param_referent c.as_slice-params.ensures in
    let added = c.in_ok-names.ensures ∙ ap (λ (params : List Word). c.push.new.self ++ all_bound c.param_referent.result params) c.as_slice-params.ensures in
    let is = first_bindings-made c.new-names.result c.push.new.self c.in_ok-names.names _ c.args.params.now c.param_referent.result c.new-names.ensures c.in_ok-from_str.ensures c.in_ok-push.ensures referent added in
    λ i. record { names = is i; parts = c.new-parts.ensures i; own = c.in_ok-own.ensures i; shown = None; arguments = c.new-arguments.ensures i }
