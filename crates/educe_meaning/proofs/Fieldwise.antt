-- Which traits are read field by field.
use Rattle.std.proofs.Common.{refl}
use Rattle.std.specs.Prelude.{IsTrue}
use Rattle.educe_body_forms.specs.declared.comparison.Comparison.{Comparison}
use Rattle.educe_body_forms.specs.declared.comparison.Comparison.TheVariants.{PartialEq, PartialOrd, Ord}
use Rattle.educe_meaning.specs.Comparisons.{trait_of}
use Rattle.educe_settings.specs.Rows.{is_fieldwise}

-- a comparison is read field by field
pub comparison_fieldwise : (which : Comparison) → IsTrue (is_fieldwise (trait_of which))
comparison_fieldwise PartialEq = refl
comparison_fieldwise PartialOrd = refl
comparison_fieldwise Ord = refl
