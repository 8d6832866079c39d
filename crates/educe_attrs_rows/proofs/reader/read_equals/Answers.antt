use Rattle.std.proofs.Common.{sym, subst}
use Rattle.educe_attrs_values.specs.declared.stop.Stop.TheVariants.{Memory}
use Rattle.educe_attrs_values.specs.Chains.{Gives}
use Rattle.educe_attrs_rows.specs.declared.row.Equals.{Equals}
use Rattle.educe_attrs_rows.specs.Program.{equals_as}
use Rattle.educe_attrs_rows.specs.Settings.{behind}
use Rattle.educe_attrs_rows.proofs.reader.read_equals.Goals as goal

pub returns-in-Truth : goal.returns-in-Truth
returns-in-Truth c =
    subst (λ (e : Equals). Gives Memory (equals_as c.args.row.now c.args.name.now c.args.meta.now (behind e)) c.read_kept.result) (sym c.in-Truth.is) c.read_kept.ensures

pub returns-in-Ident : goal.returns-in-Ident
returns-in-Ident c =
    subst (λ (e : Equals). Gives Memory (equals_as c.args.row.now c.args.name.now c.args.meta.now (behind e)) c.read_shown.result) (sym c.in-Ident.is) c.read_shown.ensures

pub returns-in-Name : goal.returns-in-Name
returns-in-Name c =
    subst (λ (e : Equals). Gives Memory (equals_as c.args.row.now c.args.name.now c.args.meta.now (behind e)) c.read_shown_or_kept.result) (sym c.in-Name.is) c.read_shown_or_kept.ensures

pub returns-in-Expr : goal.returns-in-Expr
returns-in-Expr c =
    subst (λ (e : Equals). Gives Memory (equals_as c.args.row.now c.args.name.now c.args.meta.now (behind e)) c.read_default.result) (sym c.in-Expr.is) c.read_default.ensures
