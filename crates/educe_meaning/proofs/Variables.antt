-- The names in scope in an arm of an enum's function: what each stands for, and that none but `self` is a word of the definition.
use Rattle.std.proofs.Common.{◌≡◌, ◌≢◌, ◌≤◌, ◌^◌, ◌+◌, ◌||◌, ℕ, zero, suc, inl, inr, Bool, true, false, List, [], ◌∷◌, ◌++◌, Option, Some, None, map, length, refl, sym, ap, ◌∙◌, subst}
use Rattle.std.specs.Prelude.{if◌then◌else◌, codes}
use Rattle.std.specs.List.{AllByRecursion}
use Rattle.std.specs.Str.{bytes_eq}
use Rattle.std.proofs.lemmas.Bool.{false≢true, true≢false, or_parts}
use Rattle.std.proofs.lemmas.List.{append_cancel_left}
use Rattle.std.proofs.lemmas.Slice.Eq.{bytes_eq-Decides}
use Rattle.std.proofs.Math.Bool.{or-true}
use Rattle.educe_syntax.specs.DeriveInput.{DeriveInput}
use Rattle.educe_syntax.specs.Field.{Field}
use Rattle.educe_syntax.specs.Keywords.{unraw}
use Rattle.educe_syntax.specs.Naming.{field_names, AreApart as AreNamesApart}
use Rattle.educe_attrs.specs.FieldSettings.{FieldSettings}
use Rattle.educe_bound_traits.specs.declared.traits.Trait.{Trait}
use Rattle.educe_body_forms.specs.declared.comparison.Comparison.{Comparison}
use Rattle.educe_body_values.specs.declared.environment.Binding.{Binding}
use Rattle.educe_body_values.specs.declared.environment.Referent.{Referent}
use Rattle.educe_body_values.specs.declared.environment.Referent.TheVariants.{Other, OwnField, Bound}
use Rattle.educe_body.specs.Chosen.{underscored, is_held, IsPrefix, AreChosen, AreApart, are_letters_apart}
use Rattle.educe_body_forms.specs.Keys.{AreDifferent, keys_from, binding_key}
use Rattle.educe_body_values.specs.Meaning.{innermost, look_up}
use Rattle.educe_body.specs.NameLaws.{lawful_names}
use Rattle.educe_body_values.specs.Scoping.{IsApart, own_self, apart}
use Rattle.educe_body.specs.Words.{HasWord}
use Rattle.educe_body_values.proofs.Fields.{bytes_eq-same, bytes_eq-differ}
use Rattle.educe_meaning.specs.Arms.{Names, AreChosenFor, AreNames, AreScoped, plain_names, chosen_names, variables}
use Rattle.educe_meaning.specs.BodyLaws.{lawful_keys}
use Rattle.educe_meaning.specs.Comparisons.{trait_of}
use Rattle.educe_settings.specs.Settings.{Kept, keeps, settings_of, kept_with, kept_by, kept_fields}
use Rattle.educe_settings.proofs.Elements.{In, In-all, In-behind, each_in, each_weaker, each_joined}
use Rattle.educe_meaning.proofs.Facts.{IsOwnName, ArePlain, are_plain, IsOuter}
use Rattle.educe_meaning.proofs.Pairing.{Look, part_in}
use Rattle.educe_meaning.proofs.Structs.{unraw_mark, unraw_behind, behind_not_self, not_self}

-- ---- texts

-- a name that begins with a prefix that begins with `_` begins with it
marked_behind : (count : ℕ) (tail key : List ℕ) → (rest : List ℕ) × (underscored count (95 ∷ tail) ++ key ≡ 95 ∷ rest)
marked_behind zero tail key = (tail ++ key, refl)
marked_behind (suc count) tail key = (underscored count (95 ∷ tail) ++ key, refl)

-- ---- lists of texts

-- a text of a list is held
held_in : (texts : List (List ℕ)) (text : List ℕ) → In text texts → is_held texts text ≡ true
held_in [] text found = absurd found
held_in (t ∷ texts) text found =
    elim found [
      | inl here ↦ ap (λ b. b || is_held texts text) ((bytes_eq-Decides t text).1 here)
      | inr later ↦ ap (λ b. bytes_eq t text || b) (held_in texts text later) ∙ or-true (bytes_eq t text)
    ]

-- each of a list that does not hold a text differs from it
pub each_differs : (texts : List (List ℕ)) (text : List ℕ) → is_held texts text ≡ false → AllByRecursion (λ t. t ≢ text) texts
each_differs [] text free = tt
each_differs (t ∷ texts) text free =
    let both = or_parts (bytes_eq t text) (is_held texts text) free in
    ((λ same. true≢false (sym ((bytes_eq-Decides t text).1 same) ∙ both.0)), each_differs texts text both.1)

-- a text from which each of a list differs is not held
pub not_held : (texts : List (List ℕ)) (text : List ℕ) → AllByRecursion (λ t. t ≢ text) texts → is_held texts text ≡ false
not_held [] text differ = refl
not_held (t ∷ texts) text differ = ap (λ b. b || is_held texts text) (bytes_eq-differ t text differ.0) ∙ not_held texts text differ.1

-- a text that neither of two lists holds is not held by both together
not_held_joined : (xs ys : List (List ℕ)) (text : List ℕ) → is_held xs text ≡ false → is_held ys text ≡ false → is_held (xs ++ ys) text ≡ false
not_held_joined [] ys text first second = second
not_held_joined (x ∷ xs) ys text first second =
    let both = or_parts (bytes_eq x text) (is_held xs text) first in
    ap (λ b. b || is_held (xs ++ ys) text) both.0 ∙ not_held_joined xs ys text both.1 second

-- where a text differs from each, each differs from it
each_flipped : (text : List ℕ) (texts : List (List ℕ)) → AllByRecursion (λ t. text ≢ t) texts → AllByRecursion (λ t. t ≢ text) texts
each_flipped text texts differ = each_weaker (λ t. text ≢ t) (λ t. t ≢ text) (λ t differs same. differs (sym same)) texts differ

-- texts that differ are apart
apart_from_different : (texts : List (List ℕ)) → AreDifferent texts → AreApart texts
apart_from_different [] differ = tt
apart_from_different (t ∷ texts) differ = (not_held texts t (each_flipped t texts differ.0), apart_from_different texts differ.1)

-- texts that are apart, others that differ, and none of the one is one of the other
apart_joined : (xs ys : List (List ℕ)) → AreApart xs → AreDifferent ys → AllByRecursion (λ x. AllByRecursion (λ y. x ≢ y) ys) xs → AreApart (xs ++ ys)
apart_joined [] ys first second across = apart_from_different ys second
apart_joined (x ∷ xs) ys first second across =
    (not_held_joined xs ys x first.0 (not_held ys x (each_flipped x ys across.0)), apart_joined xs ys first.1 second across.1)

-- texts that differ, and others of which none is one of those
different_joined : (xs ys : List (List ℕ)) → AreDifferent xs → AreDifferent ys → AllByRecursion (λ x. AllByRecursion (λ y. x ≢ y) ys) xs → AreDifferent (xs ++ ys)
different_joined [] ys first second across = second
different_joined (x ∷ xs) ys first second across = (each_joined (λ y. x ≢ y) xs ys first.0 across.0, different_joined xs ys first.1 second across.1)

-- ---- the keys of fields that take part

-- the key by which the variable of a field is named
abbrev pub kept_key : Kept → List ℕ
kept_key k = binding_key k.place k.field

-- what holds of the fields that take part holds with one more, if that does
each_if : (P : List ℕ → Type 0) (keeps : Bool) (k : Kept) (kept : List Kept) → P (kept_key k) → AllByRecursion P (map kept_key kept) → AllByRecursion P (map kept_key (if keeps then k ∷ kept else kept))
each_if P true k kept here each = (here, each)
each_if P false k kept here each = each

-- what holds of the key of each field holds of those that take part
each_kept : (P : List ℕ → Type 0) (place : ℕ) (fs : List Field) (all : List FieldSettings) → AllByRecursion P (map unraw (keys_from place fs)) → AllByRecursion P (map kept_key (kept_by place fs all))
each_kept P place [] all each = tt
each_kept P place (f ∷ fs) [] each = tt
each_kept P place (f ∷ fs) (s ∷ all) each = each_if P (keeps s) (kept_with s place f) (kept_by (place + 1) fs all) each.0 (each_kept P (place + 1) fs all each.1)

-- keys that differ do so with one more, if that differs from them
different_if : (keeps : Bool) (k : Kept) (kept : List Kept) → AllByRecursion (λ key. kept_key k ≢ key) (map kept_key kept) → AreDifferent (map kept_key kept)
    → AreDifferent (map kept_key (if keeps then k ∷ kept else kept))
different_if true k kept here differ = (here, differ)
different_if false k kept here differ = differ

-- where the keys of all fields differ, so do those of the ones that take part
kept_different : (place : ℕ) (fs : List Field) (all : List FieldSettings) → AreDifferent (map unraw (keys_from place fs)) → AreDifferent (map kept_key (kept_by place fs all))
kept_different place [] all differ = tt
kept_different place (f ∷ fs) [] differ = tt
kept_different place (f ∷ fs) (s ∷ all) differ =
    different_if (keeps s) (kept_with s place f) (kept_by (place + 1) fs all) (each_kept (λ key. binding_key place f ≢ key) (place + 1) fs all differ.0) (kept_different (place + 1) fs all differ.1)

-- the fields of a case that take part by these settings have keys that differ
pub different_by : (fs : List Field) (all : List FieldSettings) → AreNamesApart (field_names fs) → length fs ≤ 2 ^ 64 → AreDifferent (map kept_key (kept_by 0 fs all))
different_by fs all names few = kept_different 0 fs all (lawful_keys.apart fs names few)

-- the fields of a case that take part in what a trait does have keys that differ
pub fields_different : (which : Trait) (d : DeriveInput) (fs : List Field) → AreNamesApart (field_names fs) → length fs ≤ 2 ^ 64 → AreDifferent (map kept_key (kept_fields which d fs))
fields_different which d fs names few = different_by fs (map (settings_of which d) fs) names few

-- ---- variables

-- the variable of a field
abbrev pub variable : List ℕ → Kept → List ℕ
variable prefix k = prefix ++ kept_key k

-- what the variable of the field at a place stands for
abbrev pub Refer : Type 0
Refer = ℕ → Field → Referent

-- the place among the fields of `self`
abbrev pub by_place : Refer
by_place place f = OwnField place

-- the value that is looked up
abbrev pub by_value : Look → Refer
by_value look place f = Bound (part_in (look place f))

-- the variable of a field, which stands for this
abbrev pub own_binding : List ℕ → Refer → Kept → Binding
own_binding prefix refer k = record { name = variable prefix k; referent = refer k.place k.field }

-- the names in scope, and the variables of the fields
abbrev pub with_variables : List Binding → List ℕ → Refer → List Kept → List Binding
with_variables outer prefix refer kept = outer ++ map (own_binding prefix refer) kept

-- what holds behind a prefix of each key holds of each variable
pub each_variable : (P : List ℕ → Type 0) (prefix : List ℕ) (ks : List Kept) → ((key : List ℕ) → P (prefix ++ key)) → AllByRecursion P (map (variable prefix) ks)
each_variable P prefix [] each = tt
each_variable P prefix (k ∷ ks) each = (each (kept_key k), each_variable P prefix ks each)

-- keys that differ from one do so behind a prefix
differ_behind : (prefix key : List ℕ) (ks : List Kept) → AllByRecursion (λ later. key ≢ later) (map kept_key ks) → AllByRecursion (λ later. prefix ++ key ≢ later) (map (variable prefix) ks)
differ_behind prefix key [] differ = tt
differ_behind prefix key (k ∷ ks) differ = ((λ same. differ.0 (append_cancel_left prefix key (kept_key k) same)), differ_behind prefix key ks differ.1)

-- variables behind one prefix differ where their keys do
variables_different : (prefix : List ℕ) (ks : List Kept) → AreDifferent (map kept_key ks) → AreDifferent (map (variable prefix) ks)
variables_different prefix [] differ = tt
variables_different prefix (k ∷ ks) differ = (differ_behind prefix (kept_key k) ks differ.0, variables_different prefix ks differ.1)

-- ---- what names stand for

-- a name that is not bound further in stands for what it does outside
pub look_up-outer : (outer inner : List Binding) (name : List ℕ) → look_up inner name ≡ None → look_up (outer ++ inner) name ≡ look_up outer name
look_up-outer [] inner name none = none
look_up-outer (b ∷ outer) inner name none = ap (innermost (if bytes_eq b.name name then Some b.referent else None)) (look_up-outer outer inner name none)

-- one that is stands for that
look_up-inner : (outer inner : List Binding) (name : List ℕ) (r : Referent) → look_up inner name ≡ Some r → look_up (outer ++ inner) name ≡ Some r
look_up-inner [] inner name r found = found
look_up-inner (b ∷ outer) inner name r found = ap (innermost (if bytes_eq b.name name then Some b.referent else None)) (look_up-inner outer inner name r found)

-- what a last binding gives by whether its name is the one
abbrev last_if : Binding → Bool → Option Referent
last_if b same = innermost (if same then Some b.referent else None) None

-- a name that is not that of the last binding stands for what it does without it
pub before_last : (names : List Binding) (b : Binding) (name : List ℕ) → b.name ≢ name → look_up (names ++ b ∷ []) name ≡ look_up names name
before_last names b name differs = look_up-outer names (b ∷ []) name (ap (last_if b) (bytes_eq-differ b.name name differs))

-- the name of the last binding stands for what is bound there
pub at_last : (names : List Binding) (b : Binding) → look_up (names ++ b ∷ []) b.name ≡ Some b.referent
at_last names b = look_up-inner names (b ∷ []) b.name b.referent (ap (last_if b) (bytes_eq-same b.name))

module _ (prefix : List ℕ) (refer : Refer) where
  -- what the first of several bindings gives
  abbrev here_if : Kept → Bool → Option Referent
  here_if k b = if b then Some (refer k.place k.field) else None

  -- a name from which each variable differs is not bound
  pub unbound : (ks : List Kept) (name : List ℕ) → AllByRecursion (λ t. t ≢ name) (map (variable prefix) ks) → look_up (map (own_binding prefix refer) ks) name ≡ None
  unbound [] name differ = refl
  unbound (k ∷ ks) name differ =
      ap (innermost (here_if k (bytes_eq (variable prefix k) name))) (unbound ks name differ.1) ∙ ap (here_if k) (bytes_eq-differ (variable prefix k) name differ.0)

  -- the first variable stands for what its field does
  first_bound : (k : Kept) (ks : List Kept) → AllByRecursion (λ later. variable prefix k ≢ later) (map (variable prefix) ks)
      → look_up (map (own_binding prefix refer) (k ∷ ks)) (variable prefix k) ≡ Some (refer k.place k.field)
  first_bound k ks differ =
      ap (innermost (here_if k (bytes_eq (variable prefix k) (variable prefix k)))) (unbound ks (variable prefix k) (each_flipped (variable prefix k) (map (variable prefix) ks) differ))
      ∙ ap (here_if k) (bytes_eq-same (variable prefix k))

  -- each variable stands for what its field does
  bound_at : (ks : List Kept) (k : Kept) → AreDifferent (map (variable prefix) ks) → In k ks → look_up (map (own_binding prefix refer) ks) (variable prefix k) ≡ Some (refer k.place k.field)
  bound_at [] k differ found = absurd found
  bound_at (j ∷ ks) k differ found =
      elim found [
        | inl here ↦ subst (λ (i : Kept). look_up (map (own_binding prefix refer) (j ∷ ks)) (variable prefix i) ≡ Some (refer i.place i.field)) here (first_bound j ks differ.0)
        | inr later ↦ ap (innermost (here_if j (bytes_eq (variable prefix j) (variable prefix k)))) (bound_at ks k differ.1 later)
      ]

-- ---- names that are chosen

-- what `_` in front leaves holds of chosen names if it holds of those that they are chosen for
each_chosen : (P : List ℕ → Type 0) → ((count : ℕ) (text : List ℕ) → P text → P (underscored count text)) → (words names texts : List (List ℕ)) → AreChosen words names texts
    → AllByRecursion P names → AllByRecursion P texts
each_chosen P behind words [] [] chosen each = tt
each_chosen P behind words [] (t ∷ texts) chosen each = absurd chosen
each_chosen P behind words (n ∷ names) [] chosen each = absurd chosen
each_chosen P behind words (n ∷ names) (t ∷ texts) chosen each =
    (subst P (sym chosen.0.is) (behind chosen.0.count n each.0), each_chosen P behind (words ++ t ∷ []) names texts chosen.1 each.1)

module _ (d : DeriveInput) (plain names : List (List ℕ)) (are : AreChosenFor d plain names) (fit : ArePlain plain) where
  -- what is held when a prefix is chosen
  abbrev held : List (List ℕ)
  held = are.words ++ names

  -- a chosen name is held
  chosen_held : (name : List ℕ) → In name names → is_held held name ≡ true
  chosen_held name found = held_in held name (In-behind are.words names name found)

  -- a chosen name is no word of the definition
  pub chosen_no_words : AllByRecursion (λ name. HasWord d.tokens name → ⊥) names
  chosen_no_words =
      each_weaker (λ text. is_held are.words text ≡ false) (λ name. HasWord d.tokens name → ⊥)
      (λ name free. lawful_names.no_word d.tokens are.words name (λ word has. (are.words_are word).1 has) free) names (lawful_names.chosen are.words plain names are.chosen)

  -- a chosen name has no `r#`
  chosen_raw : AllByRecursion (λ text. unraw text ≡ text) names
  chosen_raw = each_chosen (λ text. unraw text ≡ text) unraw_behind are.words plain names are.chosen fit.raw

  -- a chosen name is not `self`
  chosen_not_self : AllByRecursion (λ text. text ≢ codes "self") names
  chosen_not_self =
      each_weaker (λ text. bytes_eq text (codes "self") ≡ false) (λ text. text ≢ codes "self") not_self names
      (each_chosen (λ text. bytes_eq text (codes "self") ≡ false) behind_not_self are.words plain names are.chosen fit.others)

  pub name_not_self : (name : List ℕ) → In name names → name ≢ codes "self"
  name_not_self name found = In-all (λ text. text ≢ codes "self") names name chosen_not_self found

  -- a binding of `self` or of a chosen name hides no word of the definition
  pub own_apart : (b : Binding) → IsOwnName names b → IsApart d.tokens b
  own_apart b own =
      elim own [
        | inl self ↦ own_self self
        | inr found ↦
            let raw = In-all (λ text. unraw text ≡ text) names b.name chosen_raw found in
            let no_word = In-all (λ name. HasWord d.tokens name → ⊥) names b.name chosen_no_words found in
            apart (λ has. no_word (subst (HasWord d.tokens) raw has))
      ]

  -- no binding around a match hides a word of the definition
  pub outer_apart : (outer : List Binding) → AllByRecursion (IsOwnName names) outer → AllByRecursion (IsApart d.tokens) outer
  outer_apart outer known = each_weaker (IsOwnName names) (IsApart d.tokens) own_apart outer known

  -- ---- the variables behind a prefix

  module _ (tail prefix : List ℕ) (is : IsPrefix held (95 ∷ tail) prefix) where
    -- a variable begins with `_`
    marked : (key : List ℕ) → (rest : List ℕ) × (prefix ++ key ≡ 95 ∷ rest)
    marked key = let mark = marked_behind is.count tail key in (mark.0, ap (λ (text : List ℕ). text ++ key) is.is ∙ mark.1)

    -- a variable is not `self`
    pub variable_not_self : (key : List ℕ) → prefix ++ key ≢ codes "self"
    variable_not_self key = not_self (prefix ++ key) (ap (λ text. bytes_eq text (codes "self")) (marked key).1)

    -- a variable is no chosen name
    pub variable_not_chosen : (name : List ℕ) → In name names → (key : List ℕ) → prefix ++ key ≢ name
    variable_not_chosen name found key same = false≢true (sym (lawful_names.prefixed held (95 ∷ tail) prefix key is) ∙ ap (is_held held) same ∙ chosen_held name found)

    -- a variable is no word of the definition
    variable_no_word : (key : List ℕ) → HasWord d.tokens (prefix ++ key) → ⊥
    variable_no_word key =
        lawful_names.no_word d.tokens held (prefix ++ key) (lawful_names.held d.tokens are.words names are.words_are) (lawful_names.prefixed held (95 ∷ tail) prefix key is)

    -- no variable hides one
    variables_are_apart : (refer : Refer) (ks : List Kept) → AllByRecursion (IsApart d.tokens) (map (own_binding prefix refer) ks)
    variables_are_apart refer [] = tt
    variables_are_apart refer (k ∷ ks) =
        let mark = marked (kept_key k) in
        let raw : unraw (variable prefix k) ≡ variable prefix k = ap unraw mark.1 ∙ unraw_mark mark.0 ∙ sym mark.1 in
        (apart (λ has. variable_no_word (kept_key k) (subst (HasWord d.tokens) raw has)), variables_are_apart refer ks)

    -- with the variables, no name in scope hides one
    pub with_variables_apart : (outer : List Binding) (refer : Refer) (ks : List Kept) → AllByRecursion (IsApart d.tokens) outer → AllByRecursion (IsApart d.tokens) (with_variables outer prefix refer ks)
    with_variables_apart outer refer ks each = each_joined (IsApart d.tokens) outer (map (own_binding prefix refer) ks) each (variables_are_apart refer ks)

    -- behind the variables a chosen name stands for what it does outside
    pub chosen_found : (outer : List Binding) (refer : Refer) (ks : List Kept) (name : List ℕ) → In name names → look_up (with_variables outer prefix refer ks) name ≡ look_up outer name
    chosen_found outer refer ks name found =
        look_up-outer outer (map (own_binding prefix refer) ks) name (unbound prefix refer ks name (each_variable (λ t. t ≢ name) prefix ks (variable_not_chosen name found)))

    -- none of the variables is a chosen name
    none_chosen : (ks : List Kept) (name : List ℕ) → In name names → AllByRecursion (λ t. name ≢ t) (map (variable prefix) ks)
    none_chosen ks name found = each_variable (λ t. name ≢ t) prefix ks (λ key same. variable_not_chosen name found key (sym same))

    -- no two of the chosen names and the variables are the same, none is `self`, and none is a word of the definition
    pub variables_scoped : (ks : List Kept) → AreDifferent (map kept_key ks) → AreScoped d (names ++ map (variable prefix) ks)
    variables_scoped ks differ = record {
      apart = apart_joined names (map (variable prefix) ks) (lawful_names.apart are.words plain names are.chosen) (variables_different prefix ks differ)
          (each_weaker (λ name. In name names) (λ name. AllByRecursion (λ t. name ≢ t) (map (variable prefix) ks)) (none_chosen ks) names (each_in names));
      not_self = not_held (names ++ map (variable prefix) ks) (codes "self")
          (each_joined (λ t. t ≢ codes "self") names (map (variable prefix) ks) chosen_not_self (each_variable (λ t. t ≢ codes "self") prefix ks variable_not_self));
      no_words = each_joined (λ t. HasWord d.tokens t → ⊥) names (map (variable prefix) ks) chosen_no_words (each_variable (λ t. HasWord d.tokens t → ⊥) prefix ks variable_no_word);
    }

  -- the chosen names are apart so too
  pub chosen_scoped : AreScoped d names
  chosen_scoped = record {
    apart = lawful_names.apart are.words plain names are.chosen;
    not_self = not_held names (codes "self") chosen_not_self;
    no_words = chosen_no_words;
  }

-- what the variable of a field that takes part stands for
pub variable_found : (outer : List Binding) (prefix : List ℕ) (refer : Refer) (ks : List Kept) → AreDifferent (map kept_key ks) → (k : Kept) → In k ks
    → look_up (with_variables outer prefix refer ks) (variable prefix k) ≡ Some (refer k.place k.field)
variable_found outer prefix refer ks differ k found =
    look_up-inner outer (map (own_binding prefix refer) ks) (variable prefix k) (refer k.place k.field) (bound_at prefix refer ks k (variables_different prefix ks differ) found)

-- ---- two prefixes

module _ (d : DeriveInput) (plain names : List (List ℕ)) (are : AreChosenFor d plain names) (fit : ArePlain plain) (tail other_tail own others : List ℕ) (own_is : IsPrefix (are.words ++ names) (95 ∷ tail) own)
    (others_is : IsPrefix (are.words ++ names) (95 ∷ other_tail) others) (letters : are_letters_apart (95 ∷ tail) (95 ∷ other_tail) ≡ true) where
  -- a variable behind the one is none behind the other
  variables_differ : (key other : List ℕ) → own ++ key ≢ others ++ other
  variables_differ key other = lawful_names.prefixes (are.words ++ names) (are.words ++ names) (95 ∷ tail) (95 ∷ other_tail) own others key other own_is others_is letters

  module _ (kept : List Kept) (differ : AreDifferent (map kept_key kept)) where
    -- the variables behind both
    abbrev both : List (List ℕ)
    both = map (variable own) kept ++ map (variable others) kept

    -- what holds behind either prefix of each key holds of each of them
    each_of_both : (P : List ℕ → Type 0) → ((key : List ℕ) → P (own ++ key)) → ((key : List ℕ) → P (others ++ key)) → AllByRecursion P both
    each_of_both P first second = each_joined P (map (variable own) kept) (map (variable others) kept) (each_variable P own kept first) (each_variable P others kept second)

    both_different : AreDifferent both
    both_different =
        different_joined (map (variable own) kept) (map (variable others) kept) (variables_different own kept differ) (variables_different others kept differ)
        (each_variable (λ x. AllByRecursion (λ y. x ≢ y) (map (variable others) kept)) own kept (λ key. each_variable (λ y. own ++ key ≢ y) others kept (variables_differ key)))

    -- none of them is a chosen name
    neither_chosen : (name : List ℕ) → In name names → AllByRecursion (λ t. name ≢ t) both
    neither_chosen name found =
        each_of_both (λ t. name ≢ t) (λ key same. variable_not_chosen d plain names are fit tail own own_is name found key (sym same))
        (λ key same. variable_not_chosen d plain names are fit other_tail others others_is name found key (sym same))

    -- no two of some chosen names and of the variables are the same, none is `self`, and none is a word of the definition
    pub both_scoped : (some : List (List ℕ)) → AreApart some → AllByRecursion (λ name. In name names) some → AreScoped d (some ++ both)
    both_scoped some differing inside =
        let not_self : (name : List ℕ) → In name names → name ≢ codes "self" = name_not_self d plain names are fit in
        let no_word : (name : List ℕ) → In name names → HasWord d.tokens name → ⊥ = λ name found. In-all (λ name. HasWord d.tokens name → ⊥) names name (chosen_no_words d plain names are fit) found in
        record {
          apart = apart_joined some both differing both_different (each_weaker (λ name. In name names) (λ name. AllByRecursion (λ t. name ≢ t) both) neither_chosen some inside);
          not_self = not_held (some ++ both) (codes "self") (
              each_joined (λ t. t ≢ codes "self") some both (each_weaker (λ name. In name names) (λ t. t ≢ codes "self") not_self some inside)
              (each_of_both (λ t. t ≢ codes "self") (variable_not_self d plain names are fit tail own own_is) (variable_not_self d plain names are fit other_tail others others_is))
              );
          no_words = each_joined (λ t. HasWord d.tokens t → ⊥) some both (each_weaker (λ name. In name names) (λ t. HasWord d.tokens t → ⊥) no_word some inside)
              (each_of_both (λ t. HasWord d.tokens t → ⊥) (variable_no_word d plain names are fit tail own own_is) (variable_no_word d plain names are fit other_tail others others_is));
        }

    -- behind both a variable of the first stands for what it does
    pub first_found : (outer : List Binding) (refer_a refer_b : Refer) (k : Kept) → In k kept
        → look_up (with_variables (with_variables outer own refer_a kept) others refer_b kept) (variable own k) ≡ Some (refer_a k.place k.field)
    first_found outer refer_a refer_b k found =
        look_up-outer (with_variables outer own refer_a kept) (map (own_binding others refer_b) kept) (variable own k)
        (unbound others refer_b kept (variable own k) (each_variable (λ t. t ≢ variable own k) others kept (λ key same. variables_differ (kept_key k) key (sym same))))
        ∙ variable_found outer own refer_a kept differ k found

-- ---- the names of an enum's comparison

module _ (d : DeriveInput) (names : Names) (are : AreNames d names) where
  -- the names around a match hide no word of the definition
  pub around_apart : (outer : List Binding) → AllByRecursion (IsOwnName (chosen_names names)) outer → AllByRecursion (IsApart d.tokens) outer
  around_apart = outer_apart d plain_names (chosen_names names) are.are are_plain

  -- the second value and the key function have different names
  first_apart : AreApart (names.other ∷ names.discriminant ∷ [])
  first_apart =
      let both = or_parts (bytes_eq names.discriminant names.other) (is_held (names.this ∷ names.base ∷ []) names.other) (lawful_names.apart are.are.words plain_names (chosen_names names) are.are.chosen).0 in
      (ap (λ b. b || false) both.0, (refl, tt))

  module _ (kept : List Kept) (differ : AreDifferent (map kept_key kept)) where
    -- no two names in the scope of an arm are the same, and none but `self` is a word of the definition
    names_scoped : AreScoped d (names.other ∷ names.discriminant ∷ map (variable names.own) kept ++ map (variable names.others) kept)
    names_scoped =
        both_scoped d plain_names (chosen_names names) are.are are_plain (codes "s_") (codes "o_") names.own names.others are.own_is are.others_is refl kept differ (names.other ∷ names.discriminant ∷ []) first_apart
        (inl refl, (inr (inl refl), tt))

    -- ---- what the names in an arm stand for

    module _ (outer : List Binding) (around : IsOuter names outer) (refer_a refer_b : Refer) where
      -- the names behind the pattern for the first value, and behind that for the second
      abbrev own_names : List Binding
      own_names = with_variables outer names.own refer_a kept

      abbrev arm_names : List Binding
      arm_names = with_variables own_names names.others refer_b kept

      -- behind the variables for the first value, the name of the second stands for it
      pub other_found : look_up own_names names.other ≡ Some Other
      other_found = chosen_found d plain_names (chosen_names names) are.are are_plain (codes "s_") names.own are.own_is outer refer_a kept names.other (inl refl) ∙ around.other

      -- a variable for the first value stands for its field in that
      pub own_found : (k : Kept) → In k kept → look_up arm_names (variable names.own k) ≡ Some (refer_a k.place k.field)
      own_found k found =
          first_found d plain_names (chosen_names names) are.are are_plain (codes "s_") (codes "o_") names.own names.others are.own_is are.others_is refl kept differ outer refer_a refer_b k found

      -- one for the second value stands for that in the second
      pub others_found : (k : Kept) → In k kept → look_up arm_names (variable names.others k) ≡ Some (refer_b k.place k.field)
      others_found k found = variable_found own_names names.others refer_b kept differ k found

      -- none of these names hides a word of the definition
      pub arm_apart : AllByRecursion (IsApart d.tokens) arm_names
      arm_apart =
          with_variables_apart d plain_names (chosen_names names) are.are are_plain (codes "o_") names.others are.others_is own_names refer_b kept
          (with_variables_apart d plain_names (chosen_names names) are.are are_plain (codes "s_") names.own are.own_is outer refer_a kept
          (around_apart outer around.known))

-- the names in the scope of an arm of an enum's function are apart, and none but `self` is a word of the definition
pub arm_scope : (which : Comparison) (d : DeriveInput) (names : Names) (fields : List Field) → AreNames d names → AreNamesApart (field_names fields) → length fields ≤ 2 ^ 64
    → AreScoped d (names.other ∷ names.discriminant ∷ variables names.own (trait_of which) d fields ++ variables names.others (trait_of which) d fields)
arm_scope which d names fields are distinct few = names_scoped d names are (kept_fields (trait_of which) d fields) (fields_different (trait_of which) d fields distinct few)

-- the names in the scope of a key function are apart, and none but `self` is a word of the definition
pub key_scope : (d : DeriveInput) (names : Names) → AreNames d names → AreScoped d (chosen_names names)
key_scope d names are = chosen_scoped d plain_names (chosen_names names) are.are are_plain
