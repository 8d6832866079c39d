use Rattle.std.proofs.Common.{ap, sym, ◌∙◌}
use Rattle.educe_attrs_rows.specs.declared.param.Param.{Param}
use Rattle.educe_attrs_rows.specs.Settings.{has}
use Rattle.educe_attrs_rows.proofs.values.Values.has.Goals as goal

pub returns-in-Name : goal.returns-in-Name
returns-in-Name c = c.is_some.ensures ∙ ap (λ (p : Param). has p c.args.self.now) (sym c.in-Name.is)

pub returns-in-NamedField : goal.returns-in-NamedField
returns-in-NamedField c = c.is_some-in-NamedField.ensures ∙ ap (λ (p : Param). has p c.args.self.now) (sym c.in-NamedField.is)

pub returns-in-New : goal.returns-in-New
returns-in-New c = c.is_some-in-New.ensures ∙ ap (λ (p : Param). has p c.args.self.now) (sym c.in-New.is)

pub returns-in-Expression : goal.returns-in-Expression
returns-in-Expression c = c.is_some-in-Expression.ensures ∙ ap (λ (p : Param). has p c.args.self.now) (sym c.in-Expression.is)

pub returns-in-Ignore : goal.returns-in-Ignore
returns-in-Ignore c = c.is_some-in-Ignore.ensures ∙ ap (λ (p : Param). has p c.args.self.now) (sym c.in-Ignore.is)

pub returns-in-Method : goal.returns-in-Method
returns-in-Method c = c.is_some-in-Method.ensures ∙ ap (λ (p : Param). has p c.args.self.now) (sym c.in-Method.is)

pub returns-in-Rank : goal.returns-in-Rank
returns-in-Rank c = c.is_some-in-Rank.ensures ∙ ap (λ (p : Param). has p c.args.self.now) (sym c.in-Rank.is)

pub returns-in-Reverse : goal.returns-in-Reverse
returns-in-Reverse c = c.is_some-in-Reverse.ensures ∙ ap (λ (p : Param). has p c.args.self.now) (sym c.in-Reverse.is)

pub returns-in-Bound : goal.returns-in-Bound
returns-in-Bound c = c.is_some-in-Bound.ensures ∙ ap (λ (p : Param). has p c.args.self.now) (sym c.in-Bound.is)
