-- The markers of fields with methods.
use Rattle.std.specs.Prelude.{◌≡◌, ℕ, List, [], ◌∷◌, ◌++◌, map, Option, Some, None}
use Rattle.std.specs.List.{AllZip, filter_map}
use Rattle.educe_syntax.specs.DeriveInput.{DeriveInput}
use Rattle.educe_syntax.specs.ExprPath.{ExprPath}
use Rattle.educe_syntax.specs.Generics.{Generics}
use Rattle.educe_syntax.specs.Ident.{Ident}
use Rattle.educe_syntax.specs.Readings.{IsReadType, IsReadPath, AreReadGenerics}
use Rattle.educe_syntax.specs.Ty.{Ty}
use Rattle.educe_bound_traits.specs.declared.traits.Trait.{Trait}
use Rattle.educe_body_items.specs.declared.items.Item.{Item}
use Rattle.educe_body_items.specs.declared.items.Item.TheVariants.{Marker}
use Rattle.educe_body_items.specs.declared.items.MarkerItem.{MarkerItem}
use Rattle.educe_meaning.specs.Checks.{IsHeadFor}
use Rattle.educe_meaning.specs.Markers.{Marked, marked_by, IsMarker, AreMarkers}
use Rattle.educe_settings.specs.Settings.{Kept}
use Rattle.educe_make_markers.specs.declared.markers.MarkerNames.{MarkerNames}
use Rattle.educe_make_markers.specs.declared.markers.MethodMarker.{MethodMarker}

-- What stands in the marker of a field is the reading of its tokens.
abbrev pub IsReadMarked : Option Marked → Type 0
IsReadMarked None = Unit {0}
IsReadMarked (Some marked) = IsReadType marked.ty × IsReadPath marked.method

-- Where the field takes part and has a method, what stands in its marker is the reading of its tokens.
abbrev pub MayMark : Kept → Type 0
MayMark kept = IsReadMarked (marked_by kept.how kept.field.ty)

-- What is put in place of `Self` is the head of the definition, and the generics are readings of their tokens.
abbrev pub CanMark : MethodMarker → Type 0
CanMark marking = IsHeadFor marking.ast.now marking.replace.now.head × AreReadGenerics marking.generics.now

-- The text of a name, if there is one.
abbrev pub own_texts : Option Ident → List (List ℕ)
own_texts None = []
own_texts (Some name) = name.text ∷ []

-- The texts of the names of a marker.
abbrev pub names_of : MarkerNames → List (List ℕ)
names_of names = names.function.text ∷ names.value.text ∷ own_texts names.formatter

-- The marker is that of a field of this type with this method.
abbrev pub IsMarkerOf : MethodMarker → Ty → ExprPath → MarkerItem → Type 0
IsMarkerOf marking ty method marker =
    IsMarker marking.which marking.ast.now marking.generics.now (names_of marking.names.now) (record { ty = ty; method = method }) marker

-- Behind the items before stands this marker.
pub record AddsMarker (marking : MethodMarker) (ty : Ty) (method : ExprPath) (before after : List Item) : Type 0 where
  pub marker : MarkerItem
  pub is : after ≡ before ++ Marker marker ∷ []
  pub marker_is : IsMarkerOf marking ty method marker

-- Behind the items before stand the markers of those of these fields that have methods.
pub record AddsMarkers (marking : MethodMarker) (fields : List Kept) (before after : List Item) : Type 0 where
  pub markers : List MarkerItem
  pub is : after ≡ before ++ map Marker markers
  pub are : AllZip (λ (m : Marked) marker. IsMarkerOf marking m.ty m.method marker) (filter_map (λ (k : Kept). marked_by k.how k.field.ty) fields) markers

-- These are the markers of those of these fields that have methods, for a trait whose impl has these generics.
pub record AreAll (which : Trait) (definition : DeriveInput) (generics : Generics) (names : List (List ℕ)) (fields : List Kept) (items : List Item) : Type 0 where
  pub markers : List MarkerItem
  pub is : items ≡ map Marker markers
  pub are : AreMarkers which definition generics names fields markers
