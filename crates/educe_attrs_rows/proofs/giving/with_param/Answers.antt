use Rattle.std.proofs.Common.{sym, subst}
use Rattle.educe_attrs_values.specs.declared.stop.Stop.TheVariants.{Memory}
use Rattle.educe_attrs_values.specs.Chains.{Gives, map_ok}
use Rattle.educe_attrs_rows.specs.declared.param.Param.{Param}
use Rattle.educe_attrs_rows.specs.Settings.{with_param}
use Rattle.educe_attrs_rows.proofs.giving.with_param.Goals as goal

pub returns-in-Name : goal.returns-in-Name
returns-in-Name c =
    subst (λ (p : Param). Gives Memory (with_param c.args.row.now p c.args.path.now c.args.meta.now c.args.values.now)
    (map_ok (λ (_ : Unit {0}). c.with_name.new.values) c.with_name.result))
    (sym c.in-Name.is) c.with_name.ensures

pub returns-in-NamedField : goal.returns-in-NamedField
returns-in-NamedField c =
    subst (λ (p : Param). Gives Memory (with_param c.args.row.now p c.args.path.now c.args.meta.now c.args.values.now)
    (map_ok (λ (_ : Unit {0}). c.with_named_field.new.values) c.with_named_field.result))
    (sym c.in-NamedField.is) c.with_named_field.ensures

pub returns-in-New : goal.returns-in-New
returns-in-New c =
    subst (λ (p : Param). Gives Memory (with_param c.args.row.now p c.args.path.now c.args.meta.now c.args.values.now)
    (map_ok (λ (_ : Unit {0}). c.with_new.new.values) c.with_new.result))
    (sym c.in-New.is) c.with_new.ensures

pub returns-in-Expression : goal.returns-in-Expression
returns-in-Expression c =
    subst (λ (p : Param). Gives Memory (with_param c.args.row.now p c.args.path.now c.args.meta.now c.args.values.now)
    (map_ok (λ (_ : Unit {0}). c.with_expression.new.values) c.with_expression.result))
    (sym c.in-Expression.is) c.with_expression.ensures

pub returns-in-Ignore : goal.returns-in-Ignore
returns-in-Ignore c =
    subst (λ (p : Param). Gives Memory (with_param c.args.row.now p c.args.path.now c.args.meta.now c.args.values.now)
    (map_ok (λ (_ : Unit {0}). c.with_ignore.new.values) c.with_ignore.result))
    (sym c.in-Ignore.is) c.with_ignore.ensures

pub returns-in-Method : goal.returns-in-Method
returns-in-Method c =
    subst (λ (p : Param). Gives Memory (with_param c.args.row.now p c.args.path.now c.args.meta.now c.args.values.now)
    (map_ok (λ (_ : Unit {0}). c.with_method.new.values) c.with_method.result))
    (sym c.in-Method.is) c.with_method.ensures

pub returns-in-Rank : goal.returns-in-Rank
returns-in-Rank c =
    subst (λ (p : Param). Gives Memory (with_param c.args.row.now p c.args.path.now c.args.meta.now c.args.values.now)
    (map_ok (λ (_ : Unit {0}). c.with_rank.new.values) c.with_rank.result))
    (sym c.in-Rank.is) c.with_rank.ensures

pub returns-in-Reverse : goal.returns-in-Reverse
returns-in-Reverse c =
    subst (λ (p : Param). Gives Memory (with_param c.args.row.now p c.args.path.now c.args.meta.now c.args.values.now)
    (map_ok (λ (_ : Unit {0}). c.with_reverse.new.values) c.with_reverse.result))
    (sym c.in-Reverse.is) c.with_reverse.ensures

pub returns-in-Bound : goal.returns-in-Bound
returns-in-Bound c =
    subst (λ (p : Param). Gives Memory (with_param c.args.row.now p c.args.path.now c.args.meta.now c.args.values.now)
    (map_ok (λ (_ : Unit {0}). c.with_bound.new.values) c.with_bound.result))
    (sym c.in-Bound.is) c.with_bound.ensures
