-- The types of all fields of a definition, as they are seen one after the other.
use Rattle.std.proofs.Common.{◌≡◌, ℕ, ◌+◌, ◌<◌, List, [], ◌∷◌, ◌++◌, take, get_or, length, sym, ap, ◌∙◌, append_assoc, append-nil}
use Rattle.std.specs.List.{flat_map}
use Rattle.std.proofs.lemmas.List.{take_more, map-append}
use Rattle.educe_syntax.specs.Field.{Field}
use Rattle.educe_syntax.specs.Ty.{Ty}
use Rattle.educe_syntax.specs.Variant.{Variant}
use Rattle.educe_settings.specs.EveryType.{types_of}
use Rattle.educe_settings.specs.Cases.{fields_in}

-- of one field more
pub types_more : (begun before after : List Ty) (fields : List Field) (i : ℕ) (d f : Field) → i < length fields → f ≡ get_or fields i d → before ≡ begun ++ types_of (take i fields)
    → after ≡ before ++ f.ty ∷ [] → after ≡ begun ++ types_of (take (i + 1) fields)
types_more begun before after fields i d f less item so_far pushed =
    let one : types_of (take (i + 1) fields) ≡ types_of (take i fields) ++ f.ty ∷ [] =
    ap types_of (take_more fields i d less) ∙ map-append (λ (f : Field). f.ty) (take i fields) (get_or fields i d ∷ []) ∙ ap (λ (f : Field). types_of (take i fields) ++ f.ty ∷ []) (sym item) in
    pushed ∙ ap (λ front. front ++ f.ty ∷ []) so_far ∙ append_assoc begun (types_of (take i fields)) (f.ty ∷ []) ∙ ap (λ more. begun ++ more) (sym one)

-- the fields of variants and of one more
flat_more : (variants : List Variant) (v : Variant) → flat_map fields_in (variants ++ v ∷ []) ≡ flat_map fields_in variants ++ fields_in v
flat_more [] v = append-nil (fields_in v)
flat_more (own ∷ variants) v = ap (λ more. fields_in own ++ more) (flat_more variants v) ∙ sym (append_assoc (fields_in own) (flat_map fields_in variants) (fields_in v))

-- of the fields of one variant more
pub variants_more : (begun before after : List Ty) (variants : List Variant) (i : ℕ) (d v : Variant) → i < length variants → v ≡ get_or variants i d
    → before ≡ begun ++ types_of (flat_map fields_in (take i variants)) → after ≡ before ++ types_of (fields_in v) → after ≡ begun ++ types_of (flat_map fields_in (take (i + 1) variants))
variants_more begun before after variants i d v less item so_far pushed =
    let front = flat_map fields_in (take i variants) in
    let one : types_of (flat_map fields_in (take (i + 1) variants)) ≡ types_of front ++ types_of (fields_in v) =
    ap (λ (vs : List Variant). types_of (flat_map fields_in vs)) (take_more variants i d less ∙ ap (λ (x : Variant). take i variants ++ x ∷ []) (sym item)) ∙ ap types_of (flat_more (take i variants) v)
    ∙ map-append (λ (f : Field). f.ty) front (fields_in v) in
    pushed ∙ ap (λ own. own ++ types_of (fields_in v)) so_far ∙ append_assoc begun (types_of front) (types_of (fields_in v)) ∙ ap (λ more. begun ++ more) (sym one)
