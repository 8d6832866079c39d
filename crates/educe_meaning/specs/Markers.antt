-- Markers: functions that are never called and call the methods of fields, so that rustc counts these as used and checks their types.
use Rattle.std.specs.Prelude.{◌≡◌, ℕ, List, Option, Some, None}
use Rattle.std.specs.List.{AllZip, filter_map}
use Rattle.educe_tokens.specs.WrittenLexemes.{written_lexemes}
use Rattle.educe_syntax.specs.DeriveInput.{DeriveInput}
use Rattle.educe_syntax.specs.ExprPath.{ExprPath}
use Rattle.educe_syntax.specs.Generics.{Generics}
use Rattle.educe_syntax.specs.Steps.{Tokens}
use Rattle.educe_syntax.specs.Ty.{Ty}
use Rattle.educe_syntax_self.specs.Visits.{IsVisitedType, IsVisitedPath, AreVisitedGenerics}
use Rattle.educe_attrs.specs.Lints.{lints}
use Rattle.educe_bound_traits.specs.declared.traits.Trait.{Trait}
use Rattle.educe_body_items.specs.declared.items.MarkerItem.{MarkerItem}
use Rattle.educe_meaning.specs.Checks.{IsHeadFor, texts_of}
use Rattle.educe_settings.specs.Settings.{Kept, How, plainly, by_method, by_order}

-- The type of a field, and its method.
pub record Marked : Type 0 where
  pub ty : Ty
  pub method : ExprPath

-- The type of a field that is treated so, with the method, if there is one.
abbrev pub marked_by : How → Ty → Option Marked
marked_by plainly ty = None
marked_by (by_method path) ty = Some (record { ty = ty; method = path })
marked_by (by_order path) ty = Some (record { ty = ty; method = path })

-- The types and methods of those of these fields that have a method, in their order.
abbrev pub marked_fields : List Kept → List Marked
marked_fields kept = filter_map (λ (k : Kept). marked_by k.how k.field.ty) kept

-- A marker for a field: it has the lints of the type, the generics of the impl, the type of the field and its method, each with the
-- head of the definition in place of each `Self` that a path begins with, and these names.
pub record IsMarker (which : Trait) (definition : DeriveInput) (generics : Generics) (names : List (List ℕ)) (marked : Marked) (marker : MarkerItem) : Type 0 where
  pub which_is : marker.which ≡ which
  pub attributes_are : written_lexemes marker.attributes ≡ lints definition.attrs
  pub head : Tokens
  pub head_is : IsHeadFor definition head
  pub generics_are : AreVisitedGenerics head generics marker.generics
  pub ty_is : IsVisitedType head marked.ty marker.ty
  pub method_is : IsVisitedPath head marked.method marker.method
  pub names_are : texts_of marker.names ≡ names

-- One marker for each of these fields that has a method, in their order.
abbrev pub AreMarkers : Trait → DeriveInput → Generics → List (List ℕ) → List Kept → List MarkerItem → Type 0
AreMarkers which definition generics names kept markers = AllZip (IsMarker which definition generics names) (marked_fields kept) markers
