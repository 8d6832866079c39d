-- What the marks of variants say of the choice, and why there is none.
use Rattle.std.proofs.Common.{◌≡◌, ◌∙◌, ℕ, zero, suc, ◌+◌, Bool, true, false, ◌&&◌, ◌||◌, List, [], ◌∷◌, ◌++◌, Some, None, map, get_or, refl, ap, sym, subst, arith}
use Rattle.std.specs.Prelude.{if◌then◌else◌, is_none, slice_get}
use Rattle.std.specs.List.{AllByRecursion}
use Rattle.std.proofs.lemmas.Bool.{true≢false, false≢true}
use Rattle.std.proofs.lemmas.Option.{same_Some}
use Rattle.educe_tokens.specs.declared.error.EduceError.{EduceError}
use Rattle.educe_tokens.specs.declared.span.Span.{Span}
use Rattle.educe_syntax.specs.DeriveInput.{DeriveInput}
use Rattle.educe_syntax.specs.Shape.TheVariants.{Enum}
use Rattle.educe_syntax.specs.Variant.{Variant}
use Rattle.educe_bound_traits.specs.declared.traits.Trait.TheVariants.{Default}
use Rattle.educe_attrs.specs.Laws.{lawful_settings}
use Rattle.educe_attrs.specs.Values.{Values}
use Rattle.educe_settings.specs.Defaults.{mark_row, type_values, is_open, mark_values, is_marked, is_one, is_written, of_variant, marked_from, only_one, chosen_variant, choice_by, choice_of, AreTypeSettings, AreMarkSettings, IsUnmarked, IsDefaultCause}
use Rattle.educe_settings.specs.Defaults as spec
use Rattle.educe_settings.specs.Listed.{listed}
use Rattle.educe_settings.proofs.Choosing.{marked_at}
use Rattle.educe_settings.proofs.Elements.{each_map}
use Rattle.educe_settings_types.specs.Defaults.{IsMarkRead, AreMarksRead, places_from, AreTwice, IsOnly, IsNone}
use Rattle.educe_settings_types.proofs.Marks.{one_mapped}

-- the settings of a variant whose attributes have no cause
pub mark_settings : (d : DeriveInput) (v : Variant) → IsMarkRead d v → AreMarkSettings d (type_values d) v (mark_values d v)
mark_settings d v read = record { read = read; said = lawful_settings.place_said Default (mark_row (is_open d)) (listed d) v.attrs read }

-- ---- the places of marks are those of the marked variants

module _ (d : DeriveInput) where
  places_mapped : (n : ℕ) (vs : List Variant) → places_from n (map (mark_values d) vs) ≡ map (λ (x : ℕ × Variant). x.0) (marked_from d n vs)
  places_mapped n [] = refl
  places_mapped n (v ∷ vs) = by_mark (places_from (n + 1) (map (mark_values d) vs)) (marked_from d (n + 1) vs) (is_marked d v) (places_mapped (n + 1) vs)
    where
      by_mark : (places : List ℕ) (found : List (ℕ × Variant)) (b : Bool) → places ≡ map (λ (x : ℕ × Variant). x.0) found
          → (if b then n ∷ places else places) ≡ map (λ (x : ℕ × Variant). x.0) (if b then (n, v) ∷ found else found)
      by_mark places found true same = ap (λ more. n ∷ more) same
      by_mark places found false same = same

  -- each that is found is marked
  found_marked : (n : ℕ) (vs : List Variant) → AllByRecursion (λ (x : ℕ × Variant). is_marked d x.1 ≡ true) (marked_from d n vs)
  found_marked n [] = tt
  found_marked n (v ∷ vs) = by_mark (is_marked d v) refl (found_marked (n + 1) vs)
    where
      by_mark : (b : Bool) → is_marked d v ≡ b → AllByRecursion (λ (x : ℕ × Variant). is_marked d x.1 ≡ true) (marked_from d (n + 1) vs)
          → AllByRecursion (λ (x : ℕ × Variant). is_marked d x.1 ≡ true) (if b then (n, v) ∷ marked_from d (n + 1) vs else marked_from d (n + 1) vs)
      by_mark true mark later = (mark, later)
      by_mark false mark later = later

-- the one that is found
record IsFound (d : DeriveInput) (vs : List Variant) (place : ℕ) : Type 0 where
  variant : Variant
  only : marked_from d 0 vs ≡ (place, variant) ∷ []
  at : slice_get vs place ≡ Some variant
  mark : is_marked d variant ≡ true

one_found : (d : DeriveInput) (vs : List Variant) (place : ℕ) → places_from 0 (map (mark_values d) vs) ≡ place ∷ [] → IsFound d vs place
one_found d vs place is =
    by_found (marked_from d 0 vs) refl (sym (places_mapped d 0 vs) ∙ is) (marked_at d vs 0 vs (λ k v at. let here : k ≡ 0 + k = omega arith in subst (λ n. slice_get vs n ≡ Some v) here at)) (found_marked d 0 vs)
  where
    by_found : (found : List (ℕ × Variant)) → marked_from d 0 vs ≡ found → map (λ (x : ℕ × Variant). x.0) found ≡ place ∷ [] → AllByRecursion (λ (x : ℕ × Variant). slice_get vs x.0 ≡ Some x.1) (marked_from d 0 vs)
        → AllByRecursion (λ (x : ℕ × Variant). is_marked d x.1 ≡ true) (marked_from d 0 vs) → IsFound d vs place
    by_found [] are is at marks = absurd (cc)
    by_found ((k, v) ∷ []) are is at marks =
        let same : k ≡ place = cc in
        let here = subst (AllByRecursion (λ (x : ℕ × Variant). slice_get vs x.0 ≡ Some x.1)) are at in
        let mark = subst (AllByRecursion (λ (x : ℕ × Variant). is_marked d x.1 ≡ true)) are marks in
        record { variant = v; only = are ∙ (λ i. (same i, v) ∷ []); at = subst (λ n. slice_get vs n ≡ Some v) same here.0; mark = mark.0 }
    by_found (x ∷ y ∷ more) are is at marks = absurd (cc)

-- ---- the choice

at_item : {A : Type 0} (xs : List A) (i : ℕ) (x y : A) → slice_get xs i ≡ Some y → x ≡ get_or xs i x → x ≡ y
at_item [] i x y at item = absurd (cc)
at_item (z ∷ xs) zero x y at item = item ∙ same_Some z y at
at_item (z ∷ xs) (suc i) x y at item = at_item xs i x y at item

-- the variant that is chosen, and that its fields are written
pub record IsChosen (d : DeriveInput) (variants : List Variant) (place : ℕ) (v : Variant) : Type 0 where
  pub choice_is : choice_of d ≡ Some (of_variant place v)
  pub written : is_written d variants v ≡ true

module _ (d : DeriveInput) (variants : List Variant) (is : d.shape ≡ Enum variants) (none : (type_values d).expression ≡ None) where
  choice_open : choice_of d ≡ chosen_variant d variants
  choice_open = λ i. choice_by d (none i) (is i)

  open_is : is_open d ≡ true
  open_is = ap is_none none

  only_chosen : (vs : List Variant) → variants ≡ vs → (place : ℕ) (v : Variant) → is_one vs ≡ true → place ≡ 0 → v ≡ get_or vs place v → IsChosen d variants place v
  only_chosen [] are place v one first item = absurd (false≢true one)
  only_chosen (w ∷ []) are place v one first item =
      let same : v ≡ w = item ∙ ap (λ n. get_or (w ∷ []) n v) first in
      record {
        choice_is = choice_open ∙ ap (chosen_variant d) are ∙ (λ i. Some (of_variant (sym first i) (sym same i)));
        written = λ i. open_is i && (is_one (are i) || is_marked d v);
      }
  only_chosen (w ∷ u ∷ vs) are place v one first item = absurd (false≢true one)

  marked_chosen : (vs : List Variant) → variants ≡ vs → (place : ℕ) (v : Variant) → is_one vs ≡ false → IsFound d vs place → v ≡ get_or vs place v → IsChosen d variants place v
  marked_chosen [] are place v many found item = absurd (let no : [] ≡ (place, found.variant) ∷ [] = found.only in cc)
  marked_chosen (w ∷ []) are place v many found item = absurd (true≢false many)
  marked_chosen (w ∷ u ∷ vs) are place v many found item =
      let same : v ≡ found.variant = at_item (w ∷ u ∷ vs) place v found.variant found.at item in
      record {
        choice_is = choice_open ∙ ap (chosen_variant d) are ∙ ap only_one found.only ∙ ap (λ x. Some (of_variant place x)) (sym same);
        written = λ i. open_is i && (is_one (are i) || (ap (is_marked d) same ∙ found.mark) i);
      }

  -- the variant at the place that the marks select is chosen
  pub place_chosen : (marks : List Values) (place : ℕ) (v : Variant) → marks ≡ map (mark_values d) variants → IsOnly marks place → v ≡ get_or variants place v → IsChosen d variants place v
  place_chosen marks place v are only item = by_only marks place are only item
    where
      by_only : (marks : List Values) (place : ℕ) → marks ≡ map (mark_values d) variants → IsOnly marks place → v ≡ get_or variants place v → IsChosen d variants place v
      by_only marks _ are (IsOnly.alone one) item = only_chosen variants refl 0 v (sym (one_mapped (mark_values d) variants) ∙ ap is_one (sym are) ∙ one) refl item
      by_only marks _ are (IsOnly.marked place many places) item =
          marked_chosen variants refl place v (sym (one_mapped (mark_values d) variants) ∙ ap is_one (sym are) ∙ many)
          (one_found d variants place (ap (places_from 0) (sym are) ∙ places)) item

-- ---- why there is none

-- the parts of an image are images
record IsSplit (A B : Type 0) (f : A → B) (xs : List A) (front back : List B) : Type 0 where
  first : List A
  second : List A
  are : xs ≡ first ++ second
  first_is : map f first ≡ front
  second_is : map f second ≡ back

map_apart : {A B : Type 0} (f : A → B) (xs : List A) (front back : List B) → map f xs ≡ front ++ back → IsSplit A B f xs front back
map_apart f xs [] back is = record { first = []; second = xs; are = refl; first_is = refl; second_is = is }
map_apart f [] (y ∷ front) back is = absurd (cc)
map_apart f (x ∷ xs) (y ∷ front) back is =
    let here : f x ≡ y = cc in
    let later : map f xs ≡ front ++ back = cc in
    let rest = map_apart f xs front back later in
    record { first = x ∷ rest.first; second = rest.second; are = ap (λ more. x ∷ more) rest.are; first_is = λ i. here i ∷ rest.first_is i; second_is = rest.second_is }

record IsHeaded (A B : Type 0) (f : A → B) (xs : List A) (y : B) : Type 0 where
  first : A
  more : List A
  are : xs ≡ first ∷ more
  is : f first ≡ y

map_headed : {A B : Type 0} (f : A → B) (xs : List A) (y : B) (ys : List B) → map f xs ≡ y ∷ ys → IsHeaded A B f xs y
map_headed f [] y ys is = absurd (cc)
map_headed f (x ∷ xs) y ys is = let here : f x ≡ y = cc in record { first = x; more = xs; are = refl; is = here }

-- two of the items, by what is made of them
record ArePair (A B : Type 0) (f : A → B) (xs : List A) (x y : B) : Type 0 where
  front : List A
  first : A
  between : List A
  later : A
  back : List A
  are : xs ≡ (front ++ first ∷ between) ++ later ∷ back
  first_is : f first ≡ x
  later_is : f later ≡ y

parts_joined : {A : Type 0} (xs before behind front rest : List A) (first : A) (between : List A) (later : A) (back : List A) → xs ≡ before ++ behind → before ≡ front ++ rest → rest ≡ first ∷ between
    → behind ≡ later ∷ back → xs ≡ (front ++ first ∷ between) ++ later ∷ back
parts_joined xs before behind front rest first between later back whole one two three = whole ∙ (λ i. one i ++ three i) ∙ (λ i. (front ++ two i) ++ later ∷ back)

pair_headed : {A B : Type 0} (f : A → B) (xs before behind front rest : List A) (x y : B) → xs ≡ before ++ behind → before ≡ front ++ rest → IsHeaded A B f rest x → IsHeaded A B f behind y → ArePair A B f xs x y
pair_headed f xs before behind front rest x y whole one first later = record {
  front = front;
  first = first.first;
  between = first.more;
  later = later.first;
  back = later.more;
  are = parts_joined xs before behind front rest first.first first.more later.first later.more whole one first.are later.are;
  first_is = first.is;
  later_is = later.is;
}

pair_within : {A B : Type 0} (f : A → B) (xs before behind : List A) (front between back : List B) (x y : B) → xs ≡ before ++ behind → IsSplit A B f before front (x ∷ between) → map f behind ≡ y ∷ back → ArePair A B f xs x y
pair_within f xs before behind front between back x y whole inner later =
    pair_headed f xs before behind inner.first inner.second x y whole inner.are (map_headed f inner.second x between inner.second_is) (map_headed f behind y back later)

pair_split : {A B : Type 0} (f : A → B) (xs : List A) (front between back : List B) (x y : B) → IsSplit A B f xs (front ++ x ∷ between) (y ∷ back) → ArePair A B f xs x y
pair_split f xs front between back x y outer =
    pair_within f xs outer.first outer.second front between back x y outer.are (map_apart f outer.first front (x ∷ between) outer.first_is) outer.second_is

pair_of : {A B : Type 0} (f : A → B) (xs : List A) (front between back : List B) (x y : B) → map f xs ≡ (front ++ x ∷ between) ++ y ∷ back → ArePair A B f xs x y
pair_of f xs front between back x y is = pair_split f xs front between back x y (map_apart f xs (front ++ x ∷ between) (y ∷ back) is)

-- where no place is found, none is a mark
none_flagged : (n : ℕ) (ms : List Values) → places_from n ms ≡ [] → AllByRecursion (λ (m : Values). m.flag ≡ false) ms
none_flagged n [] none = tt
none_flagged n (m ∷ ms) none = by_flag m.flag refl (λ later. none_flagged (n + 1) ms later) none
  where
    by_flag : (b : Bool) → m.flag ≡ b → (places_from (n + 1) ms ≡ [] → AllByRecursion (λ (m : Values). m.flag ≡ false) ms)
        → (if b then n ∷ places_from (n + 1) ms else places_from (n + 1) ms) ≡ [] → AllByRecursion (λ (m : Values). m.flag ≡ false) (m ∷ ms)
    by_flag true flag later none = absurd (cc)
    by_flag false flag later none = (flag, later none)

module _ (d : DeriveInput) (own : AreTypeSettings d (type_values d)) (variants : List Variant) (is : d.shape ≡ Enum variants) (none : (type_values d).expression ≡ None) where
  unmarked_each : (vs : List Variant) → AreMarksRead d vs → AllByRecursion (λ v. (mark_values d v).flag ≡ false) vs → AllByRecursion (IsUnmarked d (type_values d)) vs
  unmarked_each [] read flags = tt
  unmarked_each (v ∷ vs) read flags = (record { mark = mark_values d v; settings = mark_settings d v read.0; flag = flags.0 }, unmarked_each vs read.1 flags.1)

  read_apart : (xs ys : List Variant) → AreMarksRead d (xs ++ ys) → AreMarksRead d xs × AreMarksRead d ys
  read_apart [] ys read = (tt, read)
  read_apart (x ∷ xs) ys read = let rest = read_apart xs ys read.1 in ((read.0, rest.0), rest.1)

  pair_marked : (x y : Values) (place : Span) → AreMarksRead d variants → ArePair Variant Values (mark_values d) variants x y → x.flag ≡ true → y.flag ≡ true → place ≡ y.span
      → IsDefaultCause d (spec.marked_again place)
  pair_marked x y place read pair first_flag later_flag place_is =
      let parts = read_apart (pair.front ++ pair.first ∷ pair.between) (pair.later ∷ pair.back) (subst (AreMarksRead d) pair.are read) in
      let first_read : IsMarkRead d pair.first = (read_apart pair.front (pair.first ∷ pair.between) parts.0).1.0 in
      IsDefaultCause.by_marks place (record {
        own = type_values d;
        variants = variants;
        chooses = record { settings = own; no_value = none; is = is };
        front = pair.front;
        first = pair.first;
        between = pair.between;
        later = pair.later;
        back = pair.back;
        are = pair.are;
        first_place = (mark_values d pair.first).span;
        first_marked = record { mark = mark_values d pair.first; settings = mark_settings d pair.first first_read; flag = ap (λ (m : Values). m.flag) pair.first_is ∙ first_flag; place_is = refl };
        later_marked = record {
          mark = mark_values d pair.later;
          settings = mark_settings d pair.later parts.1.0;
          flag = ap (λ (m : Values). m.flag) pair.later_is ∙ later_flag;
          place_is = place_is ∙ ap (λ (m : Values). m.span) (sym pair.later_is);
        };
      })

  marked_twice : (marks : List Values) (place : Span) → marks ≡ map (mark_values d) variants → AreMarksRead d variants → AreTwice marks place → IsDefaultCause d (spec.marked_again place)
  marked_twice marks place are read twice =
      pair_marked twice.first twice.later place read (pair_of (mark_values d) variants twice.front twice.between twice.back twice.first twice.later (sym are ∙ twice.are))
      twice.first_flag twice.later_flag twice.span_is

  -- where the marks select none, `Default` is rejected
  pub none_refused : (marks : List Values) (e : EduceError) → marks ≡ map (mark_values d) variants → AreMarksRead d variants → IsNone marks (type_values d).span e → IsDefaultCause d e
  none_refused marks e are read (IsNone.twice place twice) = marked_twice marks place are read twice
  none_refused marks e are read (IsNone.never many places) =
      let flags = each_map (λ (m : Values). m.flag ≡ false) (mark_values d) variants (none_flagged 0 (map (mark_values d) variants) (ap (places_from 0) (sym are) ∙ places)) in
      IsDefaultCause.by_no_mark (type_values d).span (record {
        own = type_values d;
        variants = variants;
        chooses = record { settings = own; no_value = none; is = is };
        not_one = sym (one_mapped (mark_values d) variants) ∙ ap is_one (sym are) ∙ many;
        unmarked = unmarked_each variants read flags;
        place_is = refl;
      })
