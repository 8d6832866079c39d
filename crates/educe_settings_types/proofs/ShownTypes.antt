-- The types of the fields that are shown, as they are seen one case after the other.
use Rattle.std.proofs.Common.{◌≡◌, ℕ, ◌+◌, ◌<◌, List, [], ◌∷◌, ◌++◌, map, take, get_or, length, sym, ◌∙◌, ap, append-nil, append_assoc, refl, subst}
use Rattle.std.specs.List.{flat_map}
use Rattle.std.proofs.lemmas.Grind.{flat_map-append}
use Rattle.std.proofs.lemmas.List.{take_more}
use Rattle.educe_syntax.specs.DeriveInput.{DeriveInput}
use Rattle.educe_syntax.specs.FieldShape.{FieldShape}
use Rattle.educe_syntax.specs.Shape.{Shape}
use Rattle.educe_syntax.specs.Shape.TheVariants.{Struct, Enum}
use Rattle.educe_syntax.specs.Variant.{Variant}
use Rattle.educe_settings.specs.declared.seen_types.SeenTypes.{SeenTypes}
use Rattle.educe_settings.specs.SeenTypes.{read_of, touched_of}
use Rattle.educe_settings.specs.Settings.{Kept}
use Rattle.educe_settings.specs.Shown.{struct_shown, variant_shown, cases_for, shown_fields, all_shown}
use Rattle.educe_settings.specs.Types.{read_types, touched_types}
use Rattle.educe_settings.proofs.Visited.{read-append, touched-append}
use Rattle.educe_settings_types.specs.Visits.{SeesEach}

-- ---- what is seen

-- no field
pub sees_nothing : (types : SeenTypes) → SeesEach [] types types
sees_nothing types = record { read_is = sym (append-nil (read_of types)); touched_is = sym (append-nil (touched_of types)) }

-- some fields, and then others
sees_joined : (front back : List Kept) (before middle after : SeenTypes) → SeesEach front before middle → SeesEach back middle after → SeesEach (front ++ back) before after
sees_joined front back before middle after first second = record {
  read_is = second.read_is ∙ ap (λ seen. seen ++ read_types back) first.read_is ∙ append_assoc (read_of before) (read_types front) (read_types back)
      ∙ ap (λ more. read_of before ++ more) (sym (read-append front back));
  touched_is = second.touched_is ∙ ap (λ seen. seen ++ touched_types back) first.touched_is ∙ append_assoc (touched_of before) (touched_types front) (touched_types back)
      ∙ ap (λ more. touched_of before ++ more) (sym (touched-append front back));
}

-- the fields of one item more
flat_next : (f : Variant → List Kept) (variants : List Variant) (i : ℕ) (v : Variant) → i < length variants → v ≡ get_or variants i v
    → flat_map f (take i variants) ++ f v ≡ flat_map f (take (i + 1) variants)
flat_next f variants i v less item =
    let front = take i variants in
    sym (ap (flat_map f) (take_more variants i v less ∙ ap (λ (own : Variant). front ++ own ∷ []) (sym item)) ∙ flat_map-append f front (v ∷ [])
    ∙ ap (λ (own : List Kept). flat_map f front ++ own) (append-nil (f v)))

-- a loop over variants that sees the types of some fields of each
pub sees_next : (f : Variant → List Kept) (variants : List Variant) (i : ℕ) (v : Variant) (before middle after : SeenTypes) → i < length variants → v ≡ get_or variants i v
    → SeesEach (flat_map f (take i variants)) before middle → SeesEach (f v) middle after → SeesEach (flat_map f (take (i + 1) variants)) before after
sees_next f variants i v before middle after less item front last =
    subst (λ own. SeesEach own before after) (flat_next f variants i v less item) (sees_joined (flat_map f (take i variants)) (f v) before middle after front last)

-- ---- the fields of all cases

module _ (d : DeriveInput) where
  -- of a struct
  pub struct_all : (shape : FieldShape) → d.shape ≡ Struct shape → shown_fields d (struct_shown d shape) ≡ all_shown d
  struct_all shape is = sym (ap (λ (own : Shape). flat_map (shown_fields d) (cases_for d own)) is ∙ append-nil (shown_fields d (struct_shown d shape)))

  flat_mapped : (variants : List Variant) → flat_map (λ v. shown_fields d (variant_shown d v)) variants ≡ flat_map (shown_fields d) (map (variant_shown d) variants)
  flat_mapped [] = refl
  flat_mapped (v ∷ vs) = ap (λ more. shown_fields d (variant_shown d v) ++ more) (flat_mapped vs)

  -- of an enum
  pub enum_all : (variants : List Variant) → d.shape ≡ Enum variants → flat_map (λ v. shown_fields d (variant_shown d v)) variants ≡ all_shown d
  enum_all variants is = flat_mapped variants ∙ sym (ap (λ (own : Shape). flat_map (shown_fields d) (cases_for d own)) is)
