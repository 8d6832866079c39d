use Rattle.std.proofs.Common.{◌≡◌, subst, sym}
use Rattle.std.specs.Prelude.{IfOk}
use Rattle.educe_body_forms.specs.declared.comparison.Comparison.{Comparison}
use Rattle.educe_meaning.specs.Blocks.{IsFunction, function_name}
use Rattle.educe_cmp.proofs.handling.functions.Goals as goal

pub returns-in-PartialEq : goal.returns-in-PartialEq
returns-in-PartialEq c =
    subst (λ (which : Comparison). IfOk c.function.result (IsFunction (function_name which) (λ own. own ≡ c.args.body))) (sym c.in-PartialEq.is) c.function.ensures

pub returns-in-PartialOrd : goal.returns-in-PartialOrd
returns-in-PartialOrd c =
    subst (λ (which : Comparison). IfOk c.function-in-PartialOrd.result (IsFunction (function_name which) (λ own. own ≡ c.args.body))) (sym c.in-PartialOrd.is) c.function-in-PartialOrd.ensures

pub returns-in-Ord : goal.returns-in-Ord
returns-in-Ord c =
    subst (λ (which : Comparison). IfOk c.function-in-Ord.result (IsFunction (function_name which) (λ own. own ≡ c.args.body))) (sym c.in-Ord.is) c.function-in-Ord.ensures
