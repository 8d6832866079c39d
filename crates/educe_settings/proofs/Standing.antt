-- The places of a definition whose attributes are read.
use Rattle.std.proofs.Common.{◌∙◌, List, [], ◌∷◌, ◌++◌, map, refl, ap, sym, append_assoc}
use Rattle.std.specs.List.{flat_map}
use Rattle.std.proofs.lemmas.Grind.{flat_map-append}
use Rattle.std.proofs.lemmas.List.{map-append}
use Rattle.educe_syntax.specs.DeriveInput.{DeriveInput}
use Rattle.educe_syntax.specs.Field.{Field}
use Rattle.educe_syntax.specs.Few.{variants_of, all_fields}
use Rattle.educe_syntax.specs.Variant.{Variant}
use Rattle.educe_attrs.specs.Among.{IsAmong}
use Rattle.educe_settings.specs.Cases.{variant_attributes, field_attributes}
use Rattle.educe_settings.specs.Handled.{places}

-- an element of a list stands among those of a longer one
pub among_more : {X : Type 0} (x : X) (before xs after : List X) → IsAmong x xs → IsAmong x (before ++ xs ++ after)
among_more x before xs after among = record {
  front = before ++ among.front;
  back = among.back ++ after;
  is = ap (λ (own : List _). before ++ own ++ after) among.is
      ∙ ap (λ own. own ++ after) (sym (append_assoc before among.front (x ∷ among.back)))
      ∙ append_assoc (before ++ among.front) (x ∷ among.back) after;
}

-- what is made of an element stands among what is made of all
pub among_mapped : {X Y : Type 0} (f : X → Y) (x : X) (xs : List X) → IsAmong x xs → IsAmong (f x) (map f xs)
among_mapped f x xs among = record {
  front = map f among.front;
  back = map f among.back;
  is = ap (map f) among.is ∙ map-append f among.front (x ∷ among.back);
}

-- the elements of one of several lists stand among those of all
pub among_flat : {X Y : Type 0} (f : X → List Y) (x : X) (xs : List X) (y : Y) → IsAmong x xs → IsAmong y (f x) → IsAmong y (flat_map f xs)
among_flat f x xs y outer inner = record {
  front = flat_map f outer.front ++ inner.front;
  back = inner.back ++ flat_map f outer.back;
  is = ap (flat_map f) outer.is ∙ flat_map-append f outer.front (x ∷ outer.back)
      ∙ ap (λ own. flat_map f outer.front ++ (own ++ flat_map f outer.back)) inner.is
      ∙ ap (λ own. flat_map f outer.front ++ own) (append_assoc inner.front (y ∷ inner.back) (flat_map f outer.back))
      ∙ sym (append_assoc (flat_map f outer.front) inner.front (y ∷ inner.back ++ flat_map f outer.back));
}

-- the attributes of the type are those of a place
pub type_stands : (d : DeriveInput) → IsAmong d.attrs (places d)
type_stands d = record { front = []; back = variant_attributes d ++ field_attributes d; is = refl }

-- the attributes of a variant are those of a place
pub variant_stands : (d : DeriveInput) (variant : Variant) → IsAmong variant (variants_of d) → IsAmong variant.attrs (places d)
variant_stands d variant among =
    among_more variant.attrs (d.attrs ∷ []) (variant_attributes d) (field_attributes d) (among_mapped (λ (v : Variant). v.attrs) variant (variants_of d) among)

-- the attributes of a field are those of a place
pub field_stands : (d : DeriveInput) (field : Field) → IsAmong field (all_fields d) → IsAmong field.attrs (places d)
field_stands d field among =
    let own = among_mapped (λ (f : Field). f.attrs) field (all_fields d) among in
    record {
      front = d.attrs ∷ variant_attributes d ++ own.front;
      back = own.back;
      is = ap (λ attributes. d.attrs ∷ variant_attributes d ++ attributes) own.is ∙ sym (append_assoc (d.attrs ∷ variant_attributes d) own.front (field.attrs ∷ own.back));
    }
