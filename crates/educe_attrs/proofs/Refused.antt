-- Out of memory is a cause of every rejection; and what stops reading is one.
use Rattle.std.proofs.Common.{◌≡◌, subst, sym}
use Rattle.educe_tokens.specs.declared.error.EduceError.{EduceError}
use Rattle.educe_tokens.specs.declared.error.Kind.TheVariants.{Alloc}
use Rattle.educe_tokens.specs.Refusals.{placeless}
use Rattle.educe_syntax.specs.Meta.{Meta}
use Rattle.educe_attrs_values.specs.declared.stop.Stop.{Stop}
use Rattle.educe_attrs_values.specs.declared.stop.Stop.TheVariants.{Memory, Refused}
use Rattle.educe_attrs_values.specs.Refusals.{error_of}
use Rattle.educe_attrs_rows.specs.declared.row.Row.{Row}
use Rattle.educe_attrs_rows.specs.Causes.{IsCause}
use Rattle.educe_attrs_rows.specs.Causes as meta_cause
use Rattle.educe_attrs_places.specs.Causes.{Cause, OfStop}
use Rattle.educe_attrs.specs.Building.{OfError, caused, memory}

-- a meta may be rejected for out of memory
pub memory_of_meta : (row : Row) (meta : Meta) (e : EduceError) → e ≡ placeless Alloc → IsCause row meta e
memory_of_meta row meta e is = let P : EduceError → Type 0 = λ e. IsCause row meta e in subst P (sym is) meta_cause.memory

-- the attributes of a place may be rejected for out of memory
pub memory_of_place : (P : Cause) (e : EduceError) → e ≡ placeless Alloc → OfError P e
memory_of_place P e is = let Q : EduceError → Type 0 = λ e. OfError P e in subst Q (sym is) memory

-- what stops reading
of_stop : (P : Cause) (stop : Stop) → OfStop P stop → OfError P (error_of stop)
of_stop P Memory h = memory
of_stop P (Refused e) h = caused h

pub stopped : (P : Cause) (stop : Stop) (e : EduceError) → e ≡ error_of stop → OfStop P stop → OfError P e
stopped P stop e is h = let Q : EduceError → Type 0 = λ e. OfError P e in subst Q (sym is) (of_stop P stop h)
