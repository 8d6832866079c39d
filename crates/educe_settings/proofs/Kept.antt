-- The fields that take part, as fields and their settings are gone over side by side.
use Rattle.std.proofs.Common.{◌≡◌, ℕ, suc, ◌+◌, ◌<◌, ◌≤◌, ◌<ℤ◌, pos, Bool, true, false, List, [], ◌∷◌, ◌++◌, map, length, get_or, take, refl, sym, ap, ◌∙◌, arith, add-zero, append-nil}
use Rattle.std.specs.Prelude.{if◌then◌else◌}
use Rattle.std.specs.List.{AllByRecursion}
use Rattle.std.proofs.lemmas.Int.{ints}
use Rattle.std.proofs.lemmas.List.{take_more, length-take-le, map-append}
use Rattle.educe_syntax.specs.Field.{Field}
use Rattle.educe_attrs.specs.FieldSettings.{FieldSettings}
use Rattle.educe_settings.specs.declared.ranked.Ranked.{Ranked}
use Rattle.educe_settings.specs.Ranks.{Rises}
use Rattle.educe_settings.specs.Ranked.{kept_of}
use Rattle.educe_settings.specs.Settings.{Kept, keeps, kept_with, kept_by}
use Rattle.educe_settings.proofs.Elements.{each_weaker}

-- a field that takes part stands in front of those that follow it, and of more behind them
kept_step : (k : Kept) (rest more : List Kept) (keeps : Bool) → (if keeps then k ∷ (rest ++ more) else (rest ++ more)) ≡ (if keeps then k ∷ rest else rest) ++ more
kept_step k rest more true = refl
kept_step k rest more false = refl

-- at one more field in front, of a lower place, the places are no lower than that and rise
places_with : (place : ℕ) (k : Kept) (rest : List Kept) (keeps : Bool) → k.place ≡ place → AllByRecursion (λ (k : Kept). place + 1 ≤ k.place) rest → Rises (λ (k : Kept). pos k.place) rest
    → AllByRecursion (λ (k : Kept). place ≤ k.place) (if keeps then k ∷ rest else rest) × Rises (λ (k : Kept). pos k.place) (if keeps then k ∷ rest else rest)
places_with place k rest true is above rises = (
  (omega (arith, is), each_weaker (λ (l : Kept). place + 1 ≤ l.place) (λ (l : Kept). place ≤ l.place) (λ l above. omega arith) rest above),
  (each_weaker (λ (l : Kept). place + 1 ≤ l.place) (λ (l : Kept). pos k.place <ℤ pos l.place) (λ l above. omega (arith, ints, is)) rest above, rises),
)
places_with place k rest false is above rises = (each_weaker (λ (l : Kept). place + 1 ≤ l.place) (λ (l : Kept). place ≤ l.place) (λ l above. omega arith) rest above, rises)

-- the field at a place with these settings, where it takes part
abbrev kept_one : ℕ → Field → FieldSettings → List Kept
kept_one place field own = if keeps own then kept_with own place field ∷ [] else []

-- one more field behind the others
kept_by-push : (place : ℕ) (fs : List Field) (all : List FieldSettings) (x : Field) (own : FieldSettings) → length all ≡ length fs
    → kept_by place (fs ++ x ∷ []) (all ++ own ∷ []) ≡ kept_by place fs all ++ kept_one (place + length fs) x own
kept_by-push place [] [] x own same = ap (λ (n : ℕ). kept_one n x own) (sym (add-zero place))
kept_by-push place [] (s ∷ all) x own same = absurd (omega (arith, same))
kept_by-push place (f ∷ fs) [] x own same = absurd (omega (arith, same))
kept_by-push place (f ∷ fs) (s ∷ all) x own same =
    let next : place + 1 + length fs ≡ place + suc (length fs) = omega arith in
    let rest = kept_by-push (place + 1) fs all x own (omega (arith, same)) ∙ ap (λ (n : ℕ). kept_by (place + 1) fs all ++ kept_one n x own) next in
    ap (λ (kept : List Kept). if keeps s then kept_with s place f ∷ kept else kept) rest
    ∙ kept_step (kept_with s place f) (kept_by (place + 1) fs all) (kept_one (place + suc (length fs)) x own) (keeps s)

module _ (fs : List Field) (all : List FieldSettings) (same : length all ≡ length fs) (i : ℕ) (e x : Field) (t own : FieldSettings)
    (less : i < length fs) (item : x ≡ get_or fs i e) (setting : own ≡ get_or all i t) where
  -- one more field
  kept_by-more : kept_by 0 (take (i + 1) fs) (take (i + 1) all) ≡ kept_by 0 (take i fs) (take i all) ++ kept_one i x own
  kept_by-more =
      let counts : length (take i all) ≡ length (take i fs) = length-take-le i all (omega (arith, same)) ∙ sym (length-take-le i fs (omega arith)) in
      let count : 0 + length (take i fs) ≡ i = omega (arith, length-take-le i fs (omega arith)) in
      ap (λ (gone : List Field). kept_by 0 gone (take (i + 1) all)) (take_more fs i e less)
      ∙ ap (λ (gone : List FieldSettings). kept_by 0 (take i fs ++ get_or fs i e ∷ []) gone) (take_more all i t (omega (arith, same)))
      ∙ kept_by-push 0 (take i fs) (take i all) (get_or fs i e) (get_or all i t) counts
      ∙ ap (λ (n : ℕ). kept_by 0 (take i fs) (take i all) ++ kept_one n (get_or fs i e) (get_or all i t)) count
      ∙ ap (λ (f : Field). kept_by 0 (take i fs) (take i all) ++ kept_one i f (get_or all i t)) (sym item)
      ∙ ap (λ (s : FieldSettings). kept_by 0 (take i fs) (take i all) ++ kept_one i x s) (sym setting)

  -- a loop that has gathered the fields that take part, at one more that does
  pub kept_pushed : (old new : List Ranked) (r : Ranked) → map kept_of old ≡ kept_by 0 (take i fs) (take i all) → keeps own ≡ true → new ≡ old ++ r ∷ []
      → kept_of r ≡ kept_with own i x → map kept_of new ≡ kept_by 0 (take (i + 1) fs) (take (i + 1) all)
  kept_pushed old new r before kept pushed here =
      let one : kept_one i x own ≡ kept_with own i x ∷ [] = ap (λ (b : Bool). if b then kept_with own i x ∷ [] else []) kept in
      ap (map kept_of) pushed ∙ map-append kept_of old (r ∷ []) ∙ (λ j. before j ++ here j ∷ [])
      ∙ ap (λ (last : List Kept). kept_by 0 (take i fs) (take i all) ++ last) (sym one) ∙ sym kept_by-more

  -- and at one that does not
  pub kept_skipped : (old : List Ranked) → map kept_of old ≡ kept_by 0 (take i fs) (take i all) → keeps own ≡ false
      → map kept_of old ≡ kept_by 0 (take (i + 1) fs) (take (i + 1) all)
  kept_skipped old before skipped =
      let none : kept_one i x own ≡ [] = ap (λ (b : Bool). if b then kept_with own i x ∷ [] else []) skipped in
      before ∙ sym (append-nil (kept_by 0 (take i fs) (take i all))) ∙ ap (λ (last : List Kept). kept_by 0 (take i fs) (take i all) ++ last) (sym none)
      ∙ sym kept_by-more

-- the places are no lower than the first, and rise
places_by : (place : ℕ) (fs : List Field) (all : List FieldSettings)
    → AllByRecursion (λ (k : Kept). place ≤ k.place) (kept_by place fs all) × Rises (λ (k : Kept). pos k.place) (kept_by place fs all)
places_by place [] all = (tt, tt)
places_by place (f ∷ fs) [] = (tt, tt)
places_by place (f ∷ fs) (s ∷ all) =
    let later = places_by (place + 1) fs all in
    places_with place (kept_with s place f) (kept_by (place + 1) fs all) (keeps s) refl later.0 later.1

-- the places of the fields that take part rise
pub places_rise : (fs : List Field) (all : List FieldSettings) → Rises (λ (k : Kept). pos k.place) (kept_by 0 fs all)
places_rise fs all = (places_by 0 fs all).1
