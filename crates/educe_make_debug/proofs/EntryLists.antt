-- The forms on the fields of a case that are shown, one field behind the other.
use Rattle.std.proofs.Common.{◌≡◌, ℕ, suc, ◌+◌, ◌<◌, Bool, true, false, List, [], ◌∷◌, ◌++◌, map, take, length, get_or, refl, sym, ap, ◌∙◌, subst, arith, append_assoc, append-nil}
use Rattle.std.specs.Prelude.{if◌then◌else◌}
use Rattle.std.specs.List.{AllByRecursion}
use Rattle.std.proofs.lemmas.List.{take_more, map-append}
use Rattle.educe_syntax.specs.DeriveInput.{DeriveInput}
use Rattle.educe_syntax.specs.ExprPath.{ExprPath}
use Rattle.educe_syntax.specs.Field.{Field}
use Rattle.educe_attrs.specs.FieldSettings.{FieldSettings}
use Rattle.educe_body_forms.specs.declared.form.Form.{Form}
use Rattle.educe_body_values.specs.declared.shape.ShapeForm.{ShapeForm}
use Rattle.educe_settings.specs.declared.ranked.Ranked.{Ranked}
use Rattle.educe_settings.specs.Ranked.{how_of, kept_of}
use Rattle.educe_settings.specs.Settings.{Kept, How, by_method, by_order, keeps, kept_with, kept_by}
use Rattle.educe_settings.specs.Shown.{ShownCase, entry_settings}
use Rattle.educe_meaning.specs.Showing.{form_of, key_text, shown_key}
use Rattle.educe_meaning.specs.ShownBodies.{DebugNames, AreByMethod, AreFormsBy, AreEntries}
use Rattle.educe_meaning.specs.Steps.{Reading, IsRead}
use Rattle.educe_settings.proofs.Elements.{In, In-at, In-mapped, In-all, each_weaker}
use Rattle.educe_make_debug.specs.Cases.{AreSettled, kept_in}
use Rattle.educe_make_debug.specs.Texts.{key_with}
use Rattle.educe_make_debug.specs.declared.debug_shown.Case.{Case}
use Rattle.educe_make_debug.specs.Entries.{AreArgued}

-- ---- the forms on a field with a method

module _ (names : DebugNames) (form : ShapeForm) (text : List ℕ) (reading : Reading) (kept : Kept) (held : Form) (forms : List Form) (read : IsRead reading kept held) where
  -- the forms on a field with a method are the argument and its entry
  argued_forms : (path : ExprPath) → AreArgued names form text kept.field path held forms → AreByMethod names form text reading kept path forms
  argued_forms path argued = record {
    read = held;
    read_is = read;
    argument = argued.argument;
    argument_is = argued.argument_is;
    local = argued.local;
    local_is = argued.local_is;
    entry = argued.entry;
    entry_is = argued.entry_is;
    are = argued.are;
  }

  pub method_forms : (how : How) (path : ExprPath) → how ≡ by_method path → AreArgued names form text kept.field path held forms → AreFormsBy names form text reading kept how forms
  method_forms how path how_is argued = subst (λ (own : How). AreFormsBy names form text reading kept own forms) (sym how_is) (argued_forms path argued)

  pub order_forms : (how : How) (path : ExprPath) → how ≡ by_order path → AreArgued names form text kept.field path held forms → AreFormsBy names form text reading kept how forms
  order_forms how path how_is argued = subst (λ (own : How). AreFormsBy names form text reading kept own forms) (sym how_is) (argued_forms path argued)

-- ---- the settings of fields

-- the place of a field that takes part is one of the settings
below_step : (place count : ℕ) (k : Kept) (rest : List Kept) (keeps : Bool) → k.place ≡ place → AllByRecursion (λ (k : Kept). k.place < place + 1 + count) rest
    → AllByRecursion (λ (k : Kept). k.place < place + suc count) (if keeps then k ∷ rest else rest)
below_step place count k rest true is later =
    (omega (arith, is), each_weaker (λ (l : Kept). l.place < place + 1 + count) (λ (l : Kept). l.place < place + suc count) (λ l less. omega arith) rest later)
below_step place count k rest false is later = each_weaker (λ (l : Kept). l.place < place + 1 + count) (λ (l : Kept). l.place < place + suc count) (λ l less. omega arith) rest later

places_below : (place : ℕ) (fs : List Field) (all : List FieldSettings) → AllByRecursion (λ (k : Kept). k.place < place + length all) (kept_by place fs all)
places_below place [] all = tt
places_below place (f ∷ fs) [] = tt
places_below place (f ∷ fs) (s ∷ all) = below_step place (length all) (kept_with s place f) (kept_by (place + 1) fs all) (keeps s) refl (places_below (place + 1) fs all)

module _ (f : Field → FieldSettings) where
  -- the settings at the place of the field, where the first have this place, are those of the field
  abbrev IsFor : ℕ → List FieldSettings → Kept → Type 0
  IsFor place all k = (offset : ℕ) × (k.place ≡ place + offset) × ((t : FieldSettings) → get_or all offset t ≡ f k.field)

  for_next : (place : ℕ) (s : FieldSettings) (all : List FieldSettings) (k : Kept) → IsFor (place + 1) all k → IsFor place (s ∷ all) k
  for_next place s all k is = let next : place + 1 + is.0 ≡ place + suc is.0 = omega arith in (suc is.0, is.1 ∙ next, is.2)

  for_step : (place : ℕ) (x : Field) (all : List FieldSettings) (k : Kept) (rest : List Kept) (keeps : Bool) → k.place ≡ place → k.field ≡ x → AllByRecursion (IsFor (place + 1) all) rest
      → AllByRecursion (IsFor place (f x ∷ all)) (if keeps then k ∷ rest else rest)
  for_step place x all k rest true is own later =
      let here : k.place ≡ place + 0 = omega (arith, is) in
      ((0, here, λ t. ap f (sym own)), each_weaker (IsFor (place + 1) all) (IsFor place (f x ∷ all)) (for_next place (f x) all) rest later)
  for_step place x all k rest false is own later = each_weaker (IsFor (place + 1) all) (IsFor place (f x ∷ all)) (for_next place (f x) all) rest later

  settings_for : (place : ℕ) (fs : List Field) → AllByRecursion (IsFor place (map f fs)) (kept_by place fs (map f fs))
  settings_for place [] = tt
  settings_for place (x ∷ fs) = for_step place x (map f fs) (kept_with (f x) place x) (kept_by (place + 1) fs (map f fs)) (keeps (f x)) refl refl (settings_for (place + 1) fs)

module _ (case : Case) (fields : List Ranked) (are : map kept_of fields ≡ kept_in case) (i : ℕ) (r : Ranked) (less : i < length fields) (item : r ≡ get_or fields i r) where
  in_kept : In (kept_of r) (kept_in case)
  in_kept = subst (In (kept_of r)) are (In-mapped kept_of fields r (In-at fields i r r less (sym item)))

  -- the place of a field that is shown is one of the settings
  pub place_within : r.place < length case.settings
  place_within =
      let within : r.place < 0 + length case.settings = In-all (λ (k : Kept). k.place < 0 + length case.settings) (kept_in case) (kept_of r) (places_below 0 case.fields.now case.settings) in_kept in
      omega arith

  -- the settings at the place of a field that is shown are its own
  pub settings_are : (d : DeriveInput) (own : FieldSettings) → AreSettled d case → own ≡ get_or case.settings r.place own → own ≡ entry_settings case.named d r.field.now
  settings_are d own settled found =
      let f : Field → FieldSettings = entry_settings case.named d in
      let fs : List Field = case.fields.now in
      let among : In (kept_of r) (kept_by 0 fs (map f fs)) = subst (λ (all : List FieldSettings). In (kept_of r) (kept_by 0 fs all)) settled in_kept in
      let is : IsFor f 0 (map f fs) (kept_of r) = In-all (IsFor f 0 (map f fs)) (kept_by 0 fs (map f fs)) (kept_of r) (settings_for f 0 fs) among in
      let offset : r.place ≡ is.0 = omega (arith, is.1) in
      found ∙ ap (λ (all : List FieldSettings). get_or all r.place own) settled ∙ ap (λ (n : ℕ). get_or (map f fs) n own) offset ∙ is.2 own

-- the text of a key is that by the attributes
pub key_is : (named : Bool) (d : DeriveInput) (own : FieldSettings) (k : Kept) → own ≡ entry_settings named d k.field → key_with named own k ≡ shown_key named d k
key_is false d own k is = refl
key_is true d own k is = ap (λ (s : FieldSettings). key_text s.values.name k.place k.field) is

-- ---- the forms on all fields

module _ (d : DeriveInput) (names : DebugNames) (case : ShownCase) (reading : Reading) where
  -- the forms on all fields and one field more
  entries_push : (kept : List Kept) (forms : List Form) (k : Kept) (own : List Form) → AreEntries d names case reading kept forms
      → AreFormsBy names (form_of case) (shown_key case.named d k) reading k k.how own → AreEntries d names case reading (kept ++ k ∷ []) (forms ++ own)
  entries_push [] forms k own none here = (own, [], ap (λ (front : List Form). front ++ own) none ∙ sym (append-nil own), here, refl)
  entries_push (x ∷ kept) forms k own before here =
      (before.0, before.1 ++ own, ap (λ (front : List Form). front ++ own) before.2 ∙ append_assoc before.0 before.1 own, before.3, entries_push kept before.1 k own before.4 here)

  -- a loop over fields that adds the forms on each
  pub entries_more : (fields : List Ranked) (i : ℕ) (r : Ranked) (old new own : List Form) → i < length fields → r ≡ get_or fields i r
      → AreEntries d names case reading (map kept_of (take i fields)) old → new ≡ old ++ own
      → AreFormsBy names (form_of case) (shown_key case.named d (kept_of r)) reading (kept_of r) (how_of r.how) own → AreEntries d names case reading (map kept_of (take (i + 1) fields)) new
  entries_more fields i r old new own less item before appended here =
      let kept : map kept_of (take (i + 1) fields) ≡ map kept_of (take i fields) ++ kept_of r ∷ [] =
      ap (map kept_of) (take_more fields i r less) ∙ map-append kept_of (take i fields) (get_or fields i r ∷ []) ∙ ap (λ (x : Ranked). map kept_of (take i fields) ++ kept_of x ∷ []) (sym item) in
      subst (λ (all : List Kept). AreEntries d names case reading all new) (sym kept)
      (subst (λ (forms : List Form). AreEntries d names case reading (map kept_of (take i fields) ++ kept_of r ∷ []) forms) (sym appended)
      (entries_push (map kept_of (take i fields)) old (kept_of r) own before here))
