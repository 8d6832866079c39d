-- Names that were seen, and differ, a leading `r#` aside.
use Rattle.std.proofs.Common.{append_assoc, add-one, ◌≡◌, ◌≢◌, ℕ, ◌+◌, ◌<◌, Bool, true, false, not, cond, ◌||◌, List, [], ◌∷◌, ◌++◌, length, take, drop, get_or, refl, ap, sym, ◌∙◌, inl, inr, chars, encode_utf8_all, Bor}
use Rattle.std.specs.List.{AllByRecursion, filter_map, list_any}
use Rattle.std.specs.Str.{bytes_eq}
use Rattle.std.specs.Ordering.{nat_cmp}
use Rattle.std.specs.Cmp.Lexicographic.{slice_cmp}
use Rattle.std.specs.declared.cmp.Ordering.{Ordering}
use Rattle.std.specs.BTreeMap.{is_at}
use Rattle.std.specs.BTreeSet.{BTreeSet, contains, Updates}
use Rattle.std.proofs.lemmas.Bool.{both_ways, or_cases}
use Rattle.std.proofs.lemmas.Slice.Eq.{bytes_eq-Decides}
use Rattle.std.proofs.lemmas.Map.Text.{is_eq-slice_cmp}
use Rattle.std.proofs.lemmas.List.Folds.{list_any-append}
use Rattle.std.proofs.lemmas.List.{take-append-drop}
use Rattle.std.proofs.Math.Seq.{take-suc}
use Rattle.educe_tree.specs.declared.derive.DeriveInput.{DeriveInput}
use Rattle.educe_tree.specs.declared.derive.Shape.{Shape}
use Rattle.educe_tree.specs.declared.generics.GenericParam.{GenericParam}
use Rattle.educe_grammar.specs.Naming.{Named, lifetime_named, type_named, shape_scopes, scopes, AreApart, IsRepeated}
use Rattle.educe_grammar.proofs.Repeats.{all_with_last, bare, apart_with_last, Earlier, repeated_behind}

-- ---- lists

-- the front with one more item
pub take_more : {A : Type 0} (xs : List A) (i : ℕ) (x : A) → i < length xs → x ≡ get_or xs i x → take (i + 1) xs ≡ take i xs ++ x ∷ []
take_more xs i x within is = rw add-one (take-suc xs i x within ∙ ap (λ y. take i xs ++ y ∷ []) (sym is))

-- the list round an item
pub around : {A : Type 0} (xs : List A) (i : ℕ) (x : A) → i < length xs → x ≡ get_or xs i x → xs ≡ take i xs ++ x ∷ drop (i + 1) xs
around xs i x within is =
    sym (take-append-drop (i + 1) xs) ∙ ap (λ front. front ++ drop (i + 1) xs) (take_more xs i x within is) ∙ append_assoc (take i xs) (x ∷ []) (drop (i + 1) xs)

-- ---- names

-- its bytes
abbrev pub bytes_of : Named → List ℕ
bytes_of name = encode_utf8_all (bare name)

-- the bytes are those of a text
abbrev pub IsText : Named → Type 0
IsText name = chars (bytes_of name) ≡ bare name

-- one of the names is this, a leading `r#` aside
abbrev pub has_name : List Named → List ℕ → Bool
has_name names bytes = list_any (λ name. bytes_eq (bytes_of name) bytes) names

abbrev pub text_cmp : Bor (List ℕ) → Bor (List ℕ) → Ordering
text_cmp x y = slice_cmp nat_cmp x.now y.now

-- The set holds these names, and they differ.
pub record Seen (seen : BTreeSet (Bor (List ℕ))) (names : List Named) : Type 0 where
  pub has : (text : Bor (List ℕ)) → contains text_cmp seen text ≡ has_name names text.now
  pub texts : AllByRecursion IsText names
  pub apart : AreApart names

-- names of the same bytes are the same, a leading `r#` aside
same_bytes : (m n : Named) → IsText m → IsText n → bytes_eq (bytes_of m) (bytes_of n) ≡ true → bare m ≡ bare n
same_bytes m n text_m text_n same = sym text_m ∙ ap chars ((bytes_eq-Decides (bytes_of m) (bytes_of n)).0 same) ∙ text_n

or_false : (a b : Bool) → (a || b) ≡ false → (a ≡ false) × (b ≡ false)
or_false true b h = absurd (cc)
or_false false b h = (refl, h)

-- a name that is not among those before differs from each
differs : (names : List Named) (name : Named) → has_name names (bytes_of name) ≡ false → AllByRecursion (λ other. bare other ≢ bare name) names
differs [] name none = tt
differs (n ∷ ns) name none =
    let w = or_false (bytes_eq (bytes_of n) (bytes_of name)) (has_name ns (bytes_of name)) none in (
      (λ same. both_ways (bytes_eq (bytes_of n) (bytes_of name)) w.0 ((bytes_eq-Decides (bytes_of n) (bytes_of name)).1 (ap encode_utf8_all same))),
      differs ns name w.1,
    )

cond_or : (a b : Bool) → cond a true b ≡ (b || (a || false))
cond_or true true = refl
cond_or true false = refl
cond_or false true = refl
cond_or false false = refl

-- nothing is seen at first
pub seen_none : (seen : BTreeSet (Bor (List ℕ))) → seen.keys ≡ [] → Seen seen []
seen_none seen none = record { has = λ text. ap (λ keys. list_any (is_at (text_cmp text)) keys) none; texts = tt; apart = tt }

-- one more name is seen
pub seen_more : (seen next : BTreeSet (Bor (List ℕ))) (names : List Named) (name : Named) (text : Bor (List ℕ)) → Seen seen names → IsText name → text.now ≡ bytes_of name
    → contains text_cmp seen text ≡ false → Updates text_cmp seen next text true → Seen next (names ++ name ∷ [])
seen_more seen next names name text before is_text bytes new updates =
    let none : has_name names (bytes_of name) ≡ false = ap (has_name names) (sym bytes) ∙ sym (before.has text) ∙ new in record {
      has = λ other.
          let here : is_at (text_cmp text) other ≡ bytes_eq (bytes_of name) other.now = is_eq-slice_cmp text.now other.now ∙ ap (λ (b : List ℕ). bytes_eq b other.now) bytes in
          updates.0 other ∙ ap (λ (b : Bool). cond b true (contains text_cmp seen other)) here ∙ ap (cond (bytes_eq (bytes_of name) other.now) true) (before.has other)
          ∙ cond_or (bytes_eq (bytes_of name) other.now) (has_name names other.now)
          ∙ sym (list_any-append (λ n. bytes_eq (bytes_of n) other.now) names (name ∷ []));
      texts = all_with_last IsText names name before.texts is_text;
      apart = apart_with_last names name before.apart (differs names name none);
    }

-- ---- repeated names

-- a name that was seen is that of an earlier one
earlier : (before : List Named) (name : Named) → AllByRecursion IsText before → IsText name → has_name before (bytes_of name) ≡ true → Earlier before name
earlier [] name texts text found = absurd (cc)
earlier (n ∷ ns) name texts text found =
    elim (or_cases (bytes_eq (bytes_of n) (bytes_of name)) (has_name ns (bytes_of name)) found) [
      | inl same ↦ record { front = []; first = n; between = ns; is = refl; same = same_bytes n name texts.0 text same }
      | inr more ↦ (let e = earlier ns name texts.1 text more in
          record { front = n ∷ e.front; first = e.first; between = e.between; is = ap (λ ms. n ∷ ms) e.is; same = e.same })
    ]

-- a name that was seen is repeated
pub repeated : (before after : List Named) (name : Named) → AllByRecursion IsText before → IsText name → has_name before (bytes_of name) ≡ true → AreApart before
    → IsRepeated name (before ++ name ∷ after)
repeated before after name texts text found apart = repeated_behind before after name (earlier before name texts text found) apart

-- the other value of a test
pub flipped : (a b : Bool) → not a ≡ not b → a ≡ b
flipped true true h = refl
flipped true false h = cc
flipped false true h = cc
flipped false false h = refl

-- ---- the lists of names of a definition

-- the scopes of a definition are those of its parameters, and of its shape
pub scopes_same : (definition : DeriveInput) (shape : Shape) (params : List GenericParam) (lifetimes types : List Named) → params ≡ definition.generics.params
    → lifetimes ≡ filter_map lifetime_named params → types ≡ filter_map type_named params → definition.shape ≡ shape
    → lifetimes ∷ types ∷ shape_scopes shape ≡ scopes definition
scopes_same definition shape params lifetimes types are first second is = λ i. (first ∙ ap (filter_map lifetime_named) are) i ∷ (second ∙ ap (filter_map type_named) are) i ∷ shape_scopes (sym is i)
