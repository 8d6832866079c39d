-- The names in the scope of `fmt` and of the markers of `Debug`: no two are the same, and none but `self` is a word of the definition.
use Rattle.std.proofs.Common.{ℕ, ◌≡◌, ◌≢◌, ◌≤◌, ◌^◌, ◌||◌, inl, inr, false, List, [], ◌∷◌, ◌++◌, map, length, refl, sym, ap, ◌∙◌}
use Rattle.std.specs.Prelude.{codes}
use Rattle.std.specs.Str.{bytes_eq}
use Rattle.std.proofs.lemmas.Bool.{false≢true, or_parts}
use Rattle.std.proofs.lemmas.Slice.Eq.{bytes_eq-Decides}
use Rattle.educe_syntax.specs.DeriveInput.{DeriveInput}
use Rattle.educe_syntax.specs.Naming.{field_names, AreApart as AreNamesApart}
use Rattle.educe_body.specs.Chosen.{is_held, AreApart}
use Rattle.educe_body.specs.Words.{HasWord}
use Rattle.educe_body_values.proofs.Fields.{bytes_eq-differ}
use Rattle.educe_meaning.specs.Arms.{AreChosenFor, AreScoped, variables_for}
use Rattle.educe_settings.specs.Shown.{ShownCase, entry_settings, shown_fields}
use Rattle.educe_meaning.specs.ShownBodies.{DebugNames, plain_fmt_names, chosen_fmt_names, plain_marker_names, chosen_marker_names, marker_names, AreDebugNames}
use Rattle.educe_settings.proofs.Elements.{In, In-all, In-behind}
use Rattle.educe_meaning.proofs.Facts.{ArePlain}
use Rattle.educe_meaning.proofs.Variables.{chosen_no_words, chosen_scoped, different_by, name_not_self, not_held, variables_scoped}

-- the names that `fmt` declares, where nothing is in their way, have no `r#`, and none of them is `self`
pub fmt_plain : ArePlain plain_fmt_names
fmt_plain = record {
  raw = (refl, (refl, (refl, (refl, (refl, (refl, (refl, (refl, (refl, tt)))))))));
  others = (refl, (refl, (refl, (refl, (refl, (refl, (refl, (refl, (refl, tt)))))))));
}

-- the names that `fmt` and a marker declare, where nothing is in their way, have no `r#`, and none of them is `self`
all_plain : ArePlain (plain_fmt_names ++ plain_marker_names)
all_plain = record {
  raw = (refl, (refl, (refl, (refl, (refl, (refl, (refl, (refl, (refl, (refl, (refl, tt)))))))))));
  others = (refl, (refl, (refl, (refl, (refl, (refl, (refl, (refl, (refl, (refl, (refl, tt)))))))))));
}

-- texts that differ do so the other way round
told_apart : (a b : List ℕ) → bytes_eq a b ≡ false → bytes_eq b a ≡ false
told_apart a b apart = bytes_eq-differ b a (λ same. false≢true (sym apart ∙ (bytes_eq-Decides a b).1 (sym same)))

module _ (d : DeriveInput) (names : DebugNames) (are : AreDebugNames d names) where
  -- the names that `fmt` declares are chosen before the others
  abbrev pub fmt_are : AreChosenFor d plain_fmt_names (chosen_fmt_names names)
  fmt_are =
      let chosen = are.are.chosen in
      record {
        words = are.are.words;
        words_are = are.are.words_are;
        chosen = (
          chosen.0,
          (chosen.1.0, (chosen.1.1.0, (chosen.1.1.1.0, (chosen.1.1.1.1.0, (chosen.1.1.1.1.1.0, (chosen.1.1.1.1.1.1.0, (chosen.1.1.1.1.1.1.1.0, (chosen.1.1.1.1.1.1.1.1.0, tt)))))))),
        );
      }

  -- no two of them are the same, and none is a word of the definition
  pub fmt_scope : AreScoped d (chosen_fmt_names names)
  fmt_scope = chosen_scoped d plain_fmt_names (chosen_fmt_names names) fmt_are fmt_plain

  -- no two of the names that `fmt` declares and of the variables of shown fields are the same, and none is a word of the
  -- definition
  pub fmt_arm_scope : (case : ShownCase) → AreNamesApart (field_names case.fields) → length case.fields ≤ 2 ^ 64
      → AreScoped d (chosen_fmt_names names ++ variables_for names.prefix (shown_fields d case))
  fmt_arm_scope case distinct few =
      variables_scoped d plain_fmt_names (chosen_fmt_names names) fmt_are fmt_plain [] names.prefix are.prefix_is (shown_fields d case)
      (different_by case.fields (map (entry_settings case.named d) case.fields) distinct few)

  -- ---- markers

  -- all names that are chosen
  abbrev plain : List (List ℕ)
  plain = plain_fmt_names ++ plain_marker_names

  abbrev all : List (List ℕ)
  all = chosen_fmt_names names ++ chosen_marker_names names

  -- the names of a marker are among all names that are chosen
  function_in : In names.function all
  function_in = In-behind (chosen_fmt_names names) (chosen_marker_names names) names.function (inl refl)

  formatter_in : In names.marker_formatter all
  formatter_in = In-behind (chosen_fmt_names names) (chosen_marker_names names) names.marker_formatter (inr (inl refl))

  value_in : In names.value all
  value_in = inr (inr (inr (inr (inr (inr (inr (inl refl)))))))

  -- the names of a marker are apart
  marker_apart : AreApart (marker_names names)
  marker_apart =
      let apart = (chosen_scoped d plain all are.are all_plain).apart in
      let behind_value = apart.1.1.1.1.1.1.1.0 in
      let behind_function = apart.1.1.1.1.1.1.1.1.1.0 in
      let others = (or_parts (bytes_eq names.value_formatter names.value) (is_held (chosen_marker_names names) names.value) behind_value).1 in
      let parts = or_parts (bytes_eq names.function names.value) (is_held (names.marker_formatter ∷ []) names.value) others in (
        ap (λ b. b || is_held (names.marker_formatter ∷ []) names.function) (told_apart names.function names.value parts.0) ∙ behind_function,
        (parts.1, (refl, tt)),
      )

  -- the function of a marker and its parameters have three names, and none is a word of the definition
  pub marker_scope : AreScoped d (marker_names names)
  marker_scope =
      let not_self : (name : List ℕ) → In name all → name ≢ codes "self" = name_not_self d plain all are.are all_plain in
      let no_word : (name : List ℕ) → In name all → HasWord d.tokens name → ⊥ =
      λ name found. In-all (λ name. HasWord d.tokens name → ⊥) all name (chosen_no_words d plain all are.are all_plain) found in
      record {
        apart = marker_apart;
        not_self = not_held (marker_names names) (codes "self") (
          not_self names.function function_in,
          (not_self names.value value_in, (not_self names.marker_formatter formatter_in, tt)),
        );
        no_words = (no_word names.function function_in, (no_word names.value value_in, (no_word names.marker_formatter formatter_in, tt)));
      }
