-- The path that is called on a field.
use Rattle.std.proofs.Common.{◌≡◌, subst, sym}
use Rattle.educe_syntax.specs.ExprPath.{ExprPath}
use Rattle.educe_body_values.specs.BuiltIn.{IsBuiltIn}
use Rattle.educe_body_values.specs.declared.callee.BuiltIn.{BuiltIn}
use Rattle.educe_settings.specs.Ranked.{called_by}
use Rattle.educe_settings.specs.Settings.{How, plainly, by_method, by_order}
use Rattle.educe_meaning.specs.Steps.{IsCalled}

-- the path that is called on a field that is treated in this way, where this one is that of the trait's function
pub called_is : (function : BuiltIn) (how : How) (plain path : ExprPath) → IsBuiltIn function plain → path ≡ called_by plain how → IsCalled function how path
called_is function plainly plain path built is = subst (IsBuiltIn function) (sym is) built
called_is function (by_method own) plain path built is = is
called_is function (by_order own) plain path built is = is
