-- Markers that are added one after the other.
use Rattle.std.proofs.Common.{◌≡◌, ◌∙◌, List, [], ◌∷◌, ◌++◌, map, Some, None, ap, sym, subst, append_assoc, append-nil}
use Rattle.std.specs.List.{AllZip, filter_map}
use Rattle.std.proofs.lemmas.List.{map-append}
use Rattle.std.proofs.lemmas.List.Elements.{filter_map-append}
use Rattle.educe_syntax.specs.ExprPath.{ExprPath}
use Rattle.educe_body_items.specs.declared.items.Item.{Item}
use Rattle.educe_body_items.specs.declared.items.Item.TheVariants.{Marker}
use Rattle.educe_meaning.specs.Markers.{Marked, marked_by}
use Rattle.educe_settings.specs.Settings.{Kept, How, plainly}
use Rattle.educe_make_markers.specs.declared.markers.MethodMarker.{MethodMarker}
use Rattle.educe_make_markers.specs.Marking.{IsMarkerOf, AddsMarker, AddsMarkers}

-- two lists side by side, and two more
zip_joined : {A B : Type 0} (R : A → B → Type 0) (xs more : List A) (ys others : List B) → AllZip R xs ys → AllZip R more others → AllZip R (xs ++ more) (ys ++ others)
zip_joined R [] more [] others front back = back
zip_joined R [] more (y ∷ ys) others front back = absurd front
zip_joined R (x ∷ xs) more [] others front back = absurd front
zip_joined R (x ∷ xs) more (y ∷ ys) others front back = (front.0, zip_joined R xs more ys others front.1 back)

module _ (marking : MethodMarker) where
  -- no marker is added for no field
  pub none_added : (items : List Item) → AddsMarkers marking [] items items
  none_added items = record { markers = []; is = sym (append-nil items); are = tt }

  -- no marker is added for a field that has no method
  pub without_method : (k : Kept) (items : List Item) → k.how ≡ plainly → AddsMarkers marking (k ∷ []) items items
  without_method k items is =
      let unmarked : marked_by k.how k.field.ty ≡ None = ap (λ (how : How). marked_by how k.field.ty) is in
      record { markers = []; is = sym (append-nil items); are = rw unmarked tt }

  -- for one that has there is its marker
  pub with_method : (k : Kept) (path : ExprPath) (before after : List Item) → marked_by k.how k.field.ty ≡ Some (record { ty = k.field.ty; method = path })
      → AddsMarker marking k.field.ty path before after → AddsMarkers marking (k ∷ []) before after
  with_method k path before after marked adds = record { markers = adds.marker ∷ []; is = adds.is; are = rw marked (adds.marker_is, tt) }

  -- for some fields, and then for others
  pub joined : (fields more : List Kept) (before middle after : List Item) → AddsMarkers marking fields before middle → AddsMarkers marking more middle after
      → AddsMarkers marking (fields ++ more) before after
  joined fields more before middle after front back = record {
    markers = front.markers ++ back.markers;
    is = back.is ∙ ap (λ own. own ++ map Marker back.markers) front.is ∙ append_assoc before (map Marker front.markers) (map Marker back.markers)
        ∙ ap (λ own. before ++ own) (sym (map-append Marker front.markers back.markers));
    are = subst (λ marked. AllZip (λ (m : Marked) marker. IsMarkerOf marking m.ty m.method marker) marked (front.markers ++ back.markers))
        (sym (filter_map-append (λ (k : Kept). marked_by k.how k.field.ty) fields more))
        (zip_joined (λ (m : Marked) marker. IsMarkerOf marking m.ty m.method marker) (filter_map (λ (k : Kept). marked_by k.how k.field.ty) fields)
        (filter_map (λ (k : Kept). marked_by k.how k.field.ty) more) front.markers back.markers front.are back.are);
  }
