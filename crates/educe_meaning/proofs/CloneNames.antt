-- The names in the scope of the functions of `Clone` and of its markers: what each stands for, and that none but `self` is a word of
-- the definition.
use Rattle.std.proofs.Common.{◌≡◌, ◌≢◌, ◌≤◌, ◌^◌, ℕ, inl, inr, Bool, List, [], ◌∷◌, ◌++◌, Option, Some, None, map, length, refl, ap, ◌∙◌}
use Rattle.std.specs.Prelude.{if◌then◌else◌, codes}
use Rattle.std.specs.List.{AllByRecursion}
use Rattle.std.specs.Str.{bytes_eq}
use Rattle.std.proofs.lemmas.Bool.{or_parts}
use Rattle.educe_syntax.specs.DeriveInput.{DeriveInput}
use Rattle.educe_syntax.specs.Field.{Field}
use Rattle.educe_syntax.specs.Naming.{field_names, AreApart}
use Rattle.educe_bound_traits.specs.declared.traits.Trait.TheVariants as trait
use Rattle.educe_body_forms.specs.Keys.{AreDifferent}
use Rattle.educe_body_values.specs.Meaning.{first_bindings, innermost, look_up}
use Rattle.educe_body_values.specs.Scoping.{IsApart, own_self}
use Rattle.educe_body_values.specs.declared.environment.Binding.{Binding}
use Rattle.educe_body_values.specs.declared.environment.Referent.{Referent}
use Rattle.educe_body_values.specs.declared.environment.Referent.TheVariants.{This, Other, OwnField, Bound}
use Rattle.educe_body_values.proofs.Fields.{bytes_eq-same, bytes_eq-differ}
use Rattle.educe_meaning.specs.Arms.{AreChosenFor, AreScoped, variables}
use Rattle.educe_meaning.specs.CloneBodies.{CloneNames, plain_clone_names, chosen_clone_names, AreCloneNames}
use Rattle.educe_settings.specs.Settings.{Kept, kept_fields}
use Rattle.educe_settings.proofs.Elements.{In}
use Rattle.educe_meaning.proofs.Facts.{ArePlain}
use Rattle.educe_meaning.proofs.Pairing.{Look, value_in}
use Rattle.educe_meaning.proofs.Structs.{names_for}
use Rattle.educe_meaning.proofs.Variables.{kept_key, variable, by_place, by_value, own_binding, with_variables, each_variable, fields_different, unbound, look_up-outer, name_not_self, outer_apart, variable_not_self, with_variables_apart, chosen_found, chosen_scoped, variable_found, both_scoped, first_found}

-- the names, where nothing is in their way, have no `r#`, and none of them is `self`
names_plain : ArePlain plain_clone_names
names_plain = record { raw = (refl, (refl, (refl, tt))); others = (refl, (refl, (refl, tt))) }

-- the plain name of the source alone
abbrev plain_source : List (List ℕ)
plain_source = codes "source" ∷ []

source_plain : ArePlain plain_source
source_plain = record { raw = (refl, tt); others = (refl, tt) }

-- what `self` stands for beside another name, by whether that is the same
abbrev of_two : Bool → Option Referent
of_two same = innermost (Some This) (innermost (if same then Some Other else None) None)

module _ (d : DeriveInput) (names : CloneNames) (are : AreCloneNames d names) where
  -- it alone is chosen before the prefixes
  abbrev source : List (List ℕ)
  source = names.source ∷ []

  abbrev source_is : AreChosenFor d plain_source source
  source_is = record { words = are.are.words; words_are = are.are.words_are; chosen = (are.are.chosen.0, tt) }

  -- the function of a marker and its parameter have two names, and neither is a word of the definition
  pub marker_scope : AreScoped d (names.function ∷ names.value ∷ [])
  marker_scope =
      let all = chosen_scoped d plain_clone_names (chosen_clone_names names) are.are names_plain in
      record { apart = all.apart.1; not_self = (or_parts _ _ all.not_self).1; no_words = all.no_words.1 }

  -- `self` stands for the first value, and the source for the second
  pub self_found : look_up (names_for names.source) (codes "self") ≡ Some This
  self_found = ap of_two (bytes_eq-differ names.source (codes "self") (name_not_self d plain_source source source_is source_plain names.source (inl refl)))

  pub source_found : look_up (names_for names.source) names.source ≡ Some Other
  source_found = ap (λ (b : Bool). innermost (if bytes_eq (codes "self") names.source then Some This else None) (innermost (if b then Some Other else None) None)) (bytes_eq-same names.source)

  -- neither hides a word of the definition
  pub outer_hides_none : AllByRecursion (IsApart d.tokens) (names_for names.source)
  outer_hides_none = outer_apart d plain_source source source_is source_plain (names_for names.source) (inl refl, (inr (inl refl), tt))

  module _ (kept : List Kept) (differ : AreDifferent (map kept_key kept)) where
    -- ---- an arm of `clone`

    -- the names in its scope
    abbrev pub clone_names : List Binding
    clone_names = with_variables (first_bindings []) names.sources by_place kept

    -- none hides a word of the definition
    pub clone_hides_none : AllByRecursion (IsApart d.tokens) clone_names
    clone_hides_none = with_variables_apart d plain_source source source_is source_plain (codes "s_") names.sources are.sources_are (first_bindings []) by_place kept (own_self refl, tt)

    -- ---- an arm of `clone_from`

    -- the names in its scope
    abbrev pub own_names : List Binding
    own_names = with_variables (names_for names.source) names.own by_place kept

    -- `self` and the source stand for what they do outside
    pub own_self_found : look_up own_names (codes "self") ≡ Some This
    own_self_found =
        look_up-outer (names_for names.source) (map (own_binding names.own by_place) kept) (codes "self")
        (unbound names.own by_place kept (codes "self")
        (each_variable (λ t. t ≢ codes "self") names.own kept (variable_not_self d plain_source source source_is source_plain (codes "d_") names.own are.own_is)))
        ∙ self_found

    pub own_source_found : look_up own_names names.source ≡ Some Other
    own_source_found =
        chosen_found d plain_source source source_is source_plain (codes "d_") names.own are.own_is (names_for names.source) by_place kept names.source (inl refl) ∙ source_found

    -- none of these hides a word of the definition
    pub own_hides_none : AllByRecursion (IsApart d.tokens) own_names
    own_hides_none =
        with_variables_apart d plain_source source source_is source_plain (codes "d_") names.own are.own_is (names_for names.source) by_place kept outer_hides_none

    module _ (look : Look) where
      -- the names further in, behind the pattern for the source
      abbrev pub both_names : List Binding
      both_names = with_variables own_names names.sources (by_value look) kept

      -- a variable for `self` stands for the place of its field, and one for the source for the value of its field
      pub place_found : (k : Kept) → In k kept → look_up both_names (variable names.own k) ≡ Some (OwnField k.place)
      place_found k found =
          first_found d plain_source source source_is source_plain (codes "d_") (codes "s_") names.own names.sources are.own_is are.sources_are refl kept differ (names_for names.source) by_place (by_value look) k found

      pub value_found : (k : Kept) → In k kept → look_up both_names (variable names.sources k) ≡ Some (Bound (value_in look k))
      value_found k found = variable_found own_names names.sources (by_value look) kept differ k found

      -- none of these hides a word of the definition
      pub both_hide_none : AllByRecursion (IsApart d.tokens) both_names
      both_hide_none = with_variables_apart d plain_source source source_is source_plain (codes "s_") names.sources are.sources_are own_names (by_value look) kept own_hides_none

-- the names in the scope of an arm of `clone_from` are apart, and none but `self` is a word of the definition
pub clone_arm_scope : (d : DeriveInput) (names : CloneNames) (fields : List Field) → AreCloneNames d names → AreApart (field_names fields) → length fields ≤ 2 ^ 64
    → AreScoped d (names.source ∷ variables names.own trait.Clone d fields ++ variables names.sources trait.Clone d fields)
clone_arm_scope d names fields are distinct few =
    both_scoped d plain_source (names.source ∷ []) (source_is d names are) source_plain (codes "d_") (codes "s_") names.own names.sources are.own_is are.sources_are refl (kept_fields trait.Clone d fields)
    (fields_different trait.Clone d fields distinct few) (names.source ∷ []) (refl, tt) (inl refl, tt)
