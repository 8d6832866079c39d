-- What is asked of all fields of an enum is asked variant by variant.
use Rattle.std.proofs.Common.{◌≡◌, ◌∙◌, Bool, ◌&&◌, List, [], ◌∷◌, refl, ap, sym}
use Rattle.std.specs.List.{list_all, flat_map}
use Rattle.std.proofs.lemmas.List.Folds.{list_all-append}
use Rattle.educe_syntax.specs.Field.{Field}
use Rattle.educe_syntax.specs.Variant.{Variant}
use Rattle.educe_settings.specs.Cases.{fields_in}

-- the fields of variants are tested variant by variant
pub tested_variants : (p : Field → Bool) (variants : List Variant) → list_all (λ v. list_all p (fields_in v)) variants ≡ list_all p (flat_map fields_in variants)
tested_variants p [] = refl
tested_variants p (v ∷ vs) = ap (λ rest. list_all p (fields_in v) && rest) (tested_variants p vs) ∙ sym (list_all-append p (fields_in v) (flat_map fields_in vs))
