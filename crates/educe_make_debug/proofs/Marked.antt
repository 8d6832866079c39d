-- The markers of fields that are shown.
use Rattle.std.proofs.Common.{inl, inr, sym, subst}
use Rattle.std.specs.List.{AllByRecursion}
use Rattle.educe_syntax.specs.DeriveInput.{DeriveInput}
use Rattle.educe_syntax.specs.Few.{shape_fields}
use Rattle.educe_syntax.specs.Field.{Field}
use Rattle.educe_syntax.specs.Refusal.{IsDefinition}
use Rattle.educe_syntax.specs.Shape.{Shape}
use Rattle.educe_syntax.specs.Shape.TheVariants.{Struct, Enum}
use Rattle.educe_bound_traits.specs.declared.traits.Trait.TheVariants.{Debug}
use Rattle.educe_attrs.specs.Causes.{NoCause}
use Rattle.educe_attrs.specs.Places.{OfField}
use Rattle.educe_settings.specs.Cases.{fields_in}
use Rattle.educe_settings.specs.Listed.{listed}
use Rattle.educe_settings.specs.Shown.{entry_row, ShownCase, variant_shown, cases_for, shown_cases, all_shown, IsCaseRead}
use Rattle.educe_settings.proofs.Elements.{In, In-all, In-image}
use Rattle.educe_settings_types.specs.Read.{AreRead}
use Rattle.educe_make_markers.specs.Marking.{MayMark}
use Rattle.educe_make_markers.proofs.KeptFields.{in_flat}
use Rattle.educe_make_markers.proofs.Visiting.{own_field, markers_visit}

module _ (d : DeriveInput) where
  -- a field of a case is one of the definition
  case_own : (shape : Shape) (case : ShownCase) (f : Field) → In case (cases_for d shape) → In f case.fields → In f (shape_fields shape)
  case_own (Struct shape) case f (inl here) inner = subst (λ (c : ShownCase). In f c.fields) (sym here) inner
  case_own (Struct shape) case f (inr later) inner = absurd later
  case_own (Enum variants) case f found inner =
      let (v, outer, same) = In-image (variant_shown d) variants case found in
      in_flat fields_in variants v f outer (subst (λ (c : ShownCase). In f c.fields) (sym same) inner)

  -- what stands in the markers is read
  pub shown_visit : IsDefinition d.tokens d → AreRead d → AllByRecursion MayMark (all_shown d)
  shown_visit is read =
      markers_visit Debug d (λ (c : ShownCase). entry_row c.named) (λ (c : ShownCase). c.fields) (shown_cases d)
      (λ case outer f inner. (
        own_field d is f (case_own d.shape case f outer inner),
        In-all (λ (f : Field). NoCause (OfField Debug (entry_row case.named) (listed d) f.attrs)) case.fields f (In-all (IsCaseRead d) (shown_cases d) case read.cases outer) inner,
      ))
