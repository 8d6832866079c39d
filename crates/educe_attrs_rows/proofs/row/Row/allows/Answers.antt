use Rattle.std.proofs.Common.{ap, sym, ◌∙◌}
use Rattle.educe_attrs_rows.specs.declared.param.Param.{Param}
use Rattle.educe_attrs_rows.specs.Rows.{allows}
use Rattle.educe_attrs_rows.proofs.row.Row.allows.Goals as goal

pub returns-in-Name : goal.returns-in-Name
returns-in-Name c = c.is_some.ensures ∙ ap (λ (p : Param). allows c.args.self.now p) (sym c.in-Name.is)

pub returns-in-NamedField : goal.returns-in-NamedField
returns-in-NamedField c = c.is_some-in-NamedField.ensures ∙ ap (λ (p : Param). allows c.args.self.now p) (sym c.in-NamedField.is)

pub returns-in-New : goal.returns-in-New
returns-in-New c = ap (λ (p : Param). allows c.args.self.now p) (sym c.in-New.is)

pub returns-in-Expression : goal.returns-in-Expression
returns-in-Expression c = ap (λ (p : Param). allows c.args.self.now p) (sym c.in-Expression.is)

pub returns-in-Ignore : goal.returns-in-Ignore
returns-in-Ignore c = ap (λ (p : Param). allows c.args.self.now p) (sym c.in-Ignore.is)

pub returns-in-Method : goal.returns-in-Method
returns-in-Method c = ap (λ (p : Param). allows c.args.self.now p) (sym c.in-Method.is)

pub returns-in-Rank : goal.returns-in-Rank
returns-in-Rank c = ap (λ (p : Param). allows c.args.self.now p) (sym c.in-Rank.is)

pub returns-in-Reverse : goal.returns-in-Reverse
returns-in-Reverse c = ap (λ (p : Param). allows c.args.self.now p) (sym c.in-Reverse.is)

pub returns-in-Bound : goal.returns-in-Bound
returns-in-Bound c = ap (λ (p : Param). allows c.args.self.now p) (sym c.in-Bound.is)
