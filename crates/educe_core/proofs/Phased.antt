-- Rejections of the phases have causes.
use Rattle.std.proofs.Common.{◌≡◌, sym, subst}
use Rattle.educe_tokens.specs.declared.error.EduceError.{EduceError}
use Rattle.educe_tokens.specs.declared.error.Kind.TheVariants.{Alloc}
use Rattle.educe_tokens.specs.Refusals.{placeless}
use Rattle.educe_syntax.specs.DeriveInput.{DeriveInput}
use Rattle.educe_attrs.specs.Causes.{OfStop}
use Rattle.educe_attrs.specs.Stop.{Stop}
use Rattle.educe_attrs.specs.Stop.TheVariants.{Memory, Refused}
use Rattle.educe_core.specs.Headline.{IsHandlerCause}

-- the rejection of a stop, or the error for out of memory
abbrev error_of : Stop → EduceError
error_of Memory = placeless Alloc
error_of (Refused e) = e

-- the error of a stop for a cause of the handler has one
pub error_caused : (d : DeriveInput) (s : Stop) (e : EduceError) → e ≡ error_of s → OfStop (IsHandlerCause d) s → IsHandlerCause d e
error_caused d Memory e is stopped = subst (IsHandlerCause d) (sym is) IsHandlerCause.memory
error_caused d (Refused other) e is stopped = subst (IsHandlerCause d) (sym is) stopped
