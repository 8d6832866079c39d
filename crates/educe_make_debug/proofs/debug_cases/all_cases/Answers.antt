use Rattle.std.proofs.Common.{List, subst}
use Rattle.std.proofs.lemmas.Result.{IfOk-weaker}
use Rattle.educe_syntax.specs.Variant.{Variant}
use Rattle.educe_make_debug.specs.Cases.{AreCases, AreVariantCases}
use Rattle.educe_settings_types.specs.Read.{AreVariantsRead, AreRead}
use Rattle.educe_make_debug.proofs.Cases.{enum_cases, enum_read}
use Rattle.educe_make_debug.proofs.debug_cases.all_cases.Goals as goal

pub returns-in-Enum-clause-are : goal.returns-in-Enum-clause-are
returns-in-Enum-clause-are c =
    let ast = c.args.task.ast.now in
    IfOk-weaker c.variant_cases.result _ (AreCases ast)
    (λ cases are. enum_cases ast c.in-Enum.variants c.in-Enum.is cases (subst (λ (variants : List Variant). AreVariantCases ast variants cases) c.as_slice.ensures are)) c.variant_cases.ensures.are

pub returns-in-Enum-clause-read : goal.returns-in-Enum-clause-read
returns-in-Enum-clause-read c =
    let ast = c.args.task.ast.now in
    IfOk-weaker c.variant_cases.result _ (λ _. AreRead ast) (λ _ read. enum_read ast c.in-Enum.variants c.in-Enum.is (subst (AreVariantsRead ast) c.as_slice.ensures read)) c.variant_cases.ensures.read
