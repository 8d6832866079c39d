-- What stands in the markers of fields is read, so that `Self` may be replaced in it.
use Rattle.std.proofs.Common.{◌≡◌, ◌∙◌, Bool, true, false, List, Option, Some, None, inl, inr, refl, ap, sym, subst}
use Rattle.std.specs.List.{AllByRecursion, flat_map}
use Rattle.educe_syntax.specs.DeriveInput.{DeriveInput}
use Rattle.educe_syntax.specs.ExprPath.{ExprPath}
use Rattle.educe_syntax.specs.Few.{shape_fields, all_fields}
use Rattle.educe_syntax.specs.Field.{Field}
use Rattle.educe_syntax.specs.Laws.{lawful_definitions}
use Rattle.educe_syntax.specs.Readings.{IsReadType, IsReadPath, IsReadField}
use Rattle.educe_syntax.specs.Refusal.{IsDefinition}
use Rattle.educe_syntax.specs.Shape.{Shape}
use Rattle.educe_syntax.specs.Shape.TheVariants.{Struct, Enum}
use Rattle.educe_attrs.specs.Causes.{NoCause}
use Rattle.educe_attrs.specs.FieldSettings.{FieldSettings}
use Rattle.educe_attrs.specs.Fields.{settings_at}
use Rattle.educe_attrs.specs.Laws.{lawful_settings}
use Rattle.educe_attrs.specs.Places.{OfField}
use Rattle.educe_attrs.specs.Row.{Row}
use Rattle.educe_bound_traits.specs.declared.traits.Trait.{Trait}
use Rattle.educe_settings.specs.Cases.{fields_in, shape_cases}
use Rattle.educe_settings.specs.Listed.{listed}
use Rattle.educe_meaning.specs.Markers.{marked_by}
use Rattle.educe_settings.specs.Settings.{Kept, how_with}
use Rattle.educe_settings.proofs.Elements.{In, In-all, In-image, each_in, each_weaker}
use Rattle.educe_make_markers.specs.Marking.{IsReadMarked, MayMark}
use Rattle.educe_make_markers.proofs.KeptFields.{in_flat, IsMadeOf, kept_in, from_cases}
use Rattle.educe_make_markers.proofs.OwnMethods.{method_own}

-- ---- fields that are read

-- a field of a case is one of all
pub in_case : (shape : Shape) (fields : List Field) (f : Field) → In fields (shape_cases shape) → In f fields → In f (shape_fields shape)
in_case (Struct shape) fields f (inl here) inner = subst (In f) (sym here) inner
in_case (Struct shape) fields f (inr later) inner = absurd later
in_case (Enum variants) fields f found inner =
    let (v, outer, is) = In-image fields_in variants fields found in
    in_flat fields_in variants v f outer (subst (In f) (sym is) inner)

-- the type of each field of a definition is the reading of its tokens
pub own_field : (d : DeriveInput) → IsDefinition d.tokens d → (f : Field) → In f (all_fields d) → IsReadField f
own_field d is f found = In-all IsReadField (all_fields d) f (lawful_definitions.parts d.tokens d is.whole).fields found

-- ---- markers

module _ (which : Trait) (row : Row) (d : DeriveInput) (f : Field) (own : IsReadField f) (none : NoCause (OfField which row (listed d) f.attrs)) where
  -- what is said of the field
  abbrev said : FieldSettings
  said = settings_at which row (listed d) f

  -- the type of the field and its method are read
  both : (path : ExprPath) → said.values.method ≡ Some path → IsReadType f.ty × IsReadPath path
  both path method =
      (own, method_own which row (listed d) f.attrs said path (lawful_settings.field_said which row (listed d) f.attrs none) method)

  -- what stands in the marker is read, if there is a marker
  with_method : (ordering : Bool) (method : Option ExprPath) → said.values.method ≡ method → IsReadMarked (marked_by (how_with ordering method) f.ty)
  with_method ordering None is = tt
  with_method false (Some path) is = both path is
  with_method true (Some path) is = both path is

  made_visit : (fields : List Field) (k : Kept) (made : IsMadeOf (settings_at which row (listed d)) fields k) → made.field ≡ f → MayMark k
  made_visit fields k made is =
      let field_is : k.field ≡ f = made.field_is ∙ is in
      let how_is : k.how ≡ how_with said.method_returns_ordering said.values.method =
      made.how_is ∙ ap (λ (own : Field). how_with (settings_at which row (listed d) own).method_returns_ordering (settings_at which row (listed d) own).values.method) is in
      let both_are : marked_by k.how k.field.ty ≡ marked_by (how_with said.method_returns_ordering said.values.method) f.ty = λ i. marked_by (how_is i) (field_is i).ty in
      subst IsReadMarked (sym both_are) (with_method said.method_returns_ordering said.values.method refl)

module _ (which : Trait) (d : DeriveInput) {X : Type 0} (row_of : X → Row) (fields_of : X → List Field) (cases : List X) where
  -- the fields of these cases that take part
  abbrev pub kept_of_cases : List Kept
  kept_of_cases = flat_map (kept_in (λ x. settings_at which (row_of x) (listed d)) fields_of) cases

  -- what stands in their markers is read
  pub markers_visit : ((x : X) → In x cases → (f : Field) → In f (fields_of x) → IsReadField f × NoCause (OfField which (row_of x) (listed d) f.attrs))
      → AllByRecursion MayMark kept_of_cases
  markers_visit each =
      each_weaker (λ k. In k kept_of_cases) MayMark
      (λ k found.
      let (x, outer, made) = from_cases (λ x. settings_at which (row_of x) (listed d)) fields_of cases k found in
      let own = each x outer made.field made.found in
      made_visit which (row_of x) d made.field own.0 own.1 (fields_of x) k made refl) kept_of_cases (each_in kept_of_cases)
