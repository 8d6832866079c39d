use Rattle.std.proofs.Common.{◌≡◌, ℕ, List, take, subst, ◌∙◌, arith}
use Rattle.std.proofs.lemmas.Grind.{common_steps}
use Rattle.educe_tree.specs.declared.generics.GenericParam.{GenericParam}
use Rattle.educe_bound_classes.specs.Params.{is_type_named, is_type_param}
use Rattle.educe_bound_classes.specs.Texts.{IsSetOf}
use Rattle.educe_bound_classes.proofs.Collecting.{set_more}
use Rattle.educe_bound_classes.proofs.params.type_names.Goals as goal

pub loop-param-preserved : goal.loop-param-preserved
loop-param-preserved c =
    set_more (λ (text : List ℕ) (p : GenericParam). is_type_named text p) c.as_slice-param-items.result.now c.loop-param.param-index c.param-item.result c.loop-param.names c.add_type_name.new.names c.loop-param-test.true c.param-item.is
    c.loop-param.invariant c.in_ok-add_type_name.ensures.ok

pub returns : goal.returns
returns c =
    let items = c.as_slice-param-items.result.now in
    let whole : take c.loop-param.param-index items ≡ items = grind (arith, common_steps) in
    subst (λ (ps : List GenericParam). IsSetOf (is_type_param ps) c.loop-param.names) (whole ∙ c.as_slice-param-items.ensures) c.loop-param.invariant
