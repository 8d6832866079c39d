-- The settings of the fields of one case after the other.
use Rattle.std.proofs.Common.{◌≡◌, ◌∙◌, ℕ, ◌+◌, ◌<◌, List, [], ◌∷◌, ◌++◌, map, take, get_or, length, ap, sym}
use Rattle.std.proofs.lemmas.List.{map-append}
use Rattle.educe_syntax.specs.DeriveInput.{DeriveInput}
use Rattle.educe_syntax.specs.Variant.{Variant}
use Rattle.educe_attrs.specs.FieldSettings.{FieldSettings}
use Rattle.educe_bound_traits.specs.declared.traits.Trait.{Trait}
use Rattle.educe_settings.specs.CaseSettings.{settings_in}
use Rattle.educe_settings.proofs.Visited.{mapped_more}
use Rattle.educe_settings.specs.Cases.{fields_in}
use Rattle.educe_settings.specs.Settings.{settings_of}

-- of the fields of one variant more
pub settings_more : (which : Trait) (d : DeriveInput) (variants : List Variant) (i : ℕ) (e v : Variant) (before after : List (List FieldSettings)) (own : List FieldSettings)
    → i < length variants → v ≡ get_or variants i e → before ≡ settings_in which d (map fields_in (take i variants)) → after ≡ before ++ own ∷ []
    → own ≡ map (settings_of which d) (fields_in v) → after ≡ settings_in which d (map fields_in (take (i + 1) variants))
settings_more which d variants i e v before after own less item so_far pushed said =
    let cases = map fields_in (take i variants) in
    pushed ∙ (λ j. so_far j ++ said j ∷ []) ∙ sym (map-append (map (settings_of which d)) cases (fields_in v ∷ [])) ∙ ap (settings_in which d) (sym (mapped_more fields_in variants i e v less item))
