-- Texts that are lent, and ordered sets of them.
use Rattle.std.proofs.Common.{◌≡◌, ℕ, Bool, true, false, ◌||◌, List, [], ◌∷◌, ◌++◌, refl, ap, sym, ◌∙◌, chars, Bor}
use Rattle.std.specs.List.{AllByRecursion, list_any}
use Rattle.std.specs.Str.{bytes_eq, IsUtf8}
use Rattle.std.specs.Ordering.{nat_cmp, match_ordering, is_eq}
use Rattle.std.specs.Cmp.Lexicographic.{slice_cmp}
use Rattle.std.specs.declared.cmp.Ordering.{Ordering}
use Rattle.std.specs.declared.cmp.Ordering.TheVariants.{Less, Equal, Greater}
use Rattle.std.specs.BTreeMap.{is_at}
use Rattle.std.specs.BTreeSet.{insert_key}
use Rattle.std.proofs.lemmas.List.Folds.{list_any-append}
use Rattle.std.proofs.lemmas.Slice.Eq.{bytes_eq-Decides}
use Rattle.std.proofs.lemmas.Str.{encodes-chars}
use Rattle.std.proofs.Math.Utf8.{encodes}
use Rattle.std.proofs.lemmas.Map.Text.{is_eq-slice_cmp}
use Rattle.educe_bound_classes.specs.Classes.{is_one_of}
use Rattle.educe_bound_classes.specs.Texts.{texts_of, has_text, AddsTexts}

-- a test of the characters of texts is one of the texts
pub any_text : (test : List ℕ → Bool) (texts : List (Bor (List ℕ))) → list_any (λ t. test (chars t.now)) texts ≡ list_any test (texts_of texts)
any_text test [] = refl
any_text test (t ∷ texts) = ap (λ b. test (chars t.now) || b) (any_text test texts)

-- whether a text is one of those that are lent
pub any_name : (names : List (Bor (List ℕ))) (text : List ℕ) → list_any (λ name. bytes_eq (chars name.now) text) names ≡ is_one_of (texts_of names) text
any_name names text = any_text (λ name. bytes_eq name text) names

-- two tests that pass alike are the same
alike : (a b : Bool) → (a ≡ true → b ≡ true) → (b ≡ true → a ≡ true) → a ≡ b
alike true b into back = sym (into refl)
alike false true into back = back refl
alike false false into back = refl

-- texts of the same characters are the same
pub same_text : (xs ys : List ℕ) → IsUtf8 xs → IsUtf8 ys → chars xs ≡ chars ys → xs ≡ ys
same_text xs ys first second same = sym (encodes-chars xs first) ∙ ap encodes same ∙ encodes-chars ys second

-- texts differ where their characters do
apart_by_chars : (xs ys : List ℕ) → IsUtf8 xs → IsUtf8 ys → bytes_eq xs ys ≡ bytes_eq (chars xs) (chars ys)
apart_by_chars xs ys first second =
    alike (bytes_eq xs ys) (bytes_eq (chars xs) (chars ys)) (λ same. (bytes_eq-Decides (chars xs) (chars ys)).1 (ap chars ((bytes_eq-Decides xs ys).0 same)))
    (λ same. (bytes_eq-Decides xs ys).1 (same_text xs ys first second ((bytes_eq-Decides (chars xs) (chars ys)).0 same)))

-- a text is found by its bytes exactly where its characters are there
pub found_by_bytes : (keys : List (Bor (List ℕ))) (text : List ℕ) → AllByRecursion (λ t. IsUtf8 t.now) keys → IsUtf8 text
    → list_any (is_at (λ (k : Bor (List ℕ)). slice_cmp nat_cmp text k.now)) keys ≡ has_text (texts_of keys) (chars text)
found_by_bytes [] text all utf8 = refl
found_by_bytes (k ∷ keys) text all utf8 =
    λ i. (is_eq-slice_cmp text k.now ∙ apart_by_chars text k.now utf8 all.0) i || found_by_bytes keys text all.1 utf8 i

-- ---- a text that is added

abbrev pub text_cmp : Bor (List ℕ) → Bor (List ℕ) → Ordering
text_cmp x y = slice_cmp nat_cmp x.now y.now

abbrev AreUtf8 : List (Bor (List ℕ)) → Type 0
AreUtf8 keys = AllByRecursion (λ t. IsUtf8 t.now) keys

utf8_by : (o : Ordering) (keys : List (Bor (List ℕ))) (k text : Bor (List ℕ)) → AreUtf8 (k ∷ keys) → IsUtf8 text.now → AreUtf8 (insert_key text_cmp keys text)
    → AreUtf8 (match_ordering o (text ∷ k ∷ keys) (k ∷ keys) (k ∷ insert_key text_cmp keys text))
utf8_by Less keys k text all utf8 more = (utf8, all)
utf8_by Equal keys k text all utf8 more = all
utf8_by Greater keys k text all utf8 more = (all.0, more)

-- texts with one more
pub insert_utf8 : (keys : List (Bor (List ℕ))) (text : Bor (List ℕ)) → AreUtf8 keys → IsUtf8 text.now → AreUtf8 (insert_key text_cmp keys text)
insert_utf8 [] text all utf8 = (utf8, tt)
insert_utf8 (k ∷ keys) text all utf8 = utf8_by (text_cmp text k) keys k text all utf8 (insert_utf8 keys text all.1 utf8)

last_first : (a b : Bool) → (a || b) ≡ (b || (a || false))
last_first true true = refl
last_first true false = refl
last_first false true = refl
last_first false false = refl

there_already : (a b : Bool) → (a || b) ≡ ((a || b) || (a || false))
there_already true b = refl
there_already false true = refl
there_already false false = refl

behind : (a b c : Bool) → (a || (b || c)) ≡ ((a || b) || c)
behind true b c = refl
behind false b c = refl

added_by : (test : List ℕ → Bool) (o : Ordering) (keys : List (Bor (List ℕ))) (k text : Bor (List ℕ)) → o ≡ text_cmp text k
    → list_any test (texts_of (insert_key text_cmp keys text)) ≡ (list_any test (texts_of keys) || (test (chars text.now) || false))
    → list_any test (texts_of (match_ordering o (text ∷ k ∷ keys) (k ∷ keys) (k ∷ insert_key text_cmp keys text)))
    ≡ ((test (chars k.now) || list_any test (texts_of keys)) || (test (chars text.now) || false))
added_by test Less keys k text is more = last_first (test (chars text.now)) (test (chars k.now) || list_any test (texts_of keys))
added_by test Equal keys k text is more =
    let same : text.now ≡ k.now = (bytes_eq-Decides text.now k.now).0 (sym (is_eq-slice_cmp text.now k.now) ∙ sym (ap is_eq is)) in
    there_already (test (chars k.now)) (list_any test (texts_of keys)) ∙ ap (λ (bs : List ℕ). (test (chars k.now) || list_any test (texts_of keys)) || (test (chars bs) || false)) (sym same)
added_by test Greater keys k text is more = ap (λ b. test (chars k.now) || b) more ∙ behind (test (chars k.now)) (list_any test (texts_of keys)) (test (chars text.now) || false)

-- the texts are those of before and the new one
pub insert_adds : (test : List ℕ → Bool) (keys : List (Bor (List ℕ))) (text : Bor (List ℕ))
    → list_any test (texts_of (insert_key text_cmp keys text)) ≡ (list_any test (texts_of keys) || (test (chars text.now) || false))
insert_adds test [] text = refl
insert_adds test (k ∷ keys) text = added_by test (text_cmp text k) keys k text refl (insert_adds test keys text)

-- ---- texts of several lists

-- texts of two lists, added one after the other
pub adds_more_texts : (some more old mid new : List (List ℕ)) → AddsTexts some old mid → AddsTexts more mid new → AddsTexts (some ++ more) old new
adds_more_texts some more old mid new first second text =
    second text ∙ ap (λ b. b || has_text more text) (first text) ∙ sym (behind (has_text old text) (has_text some text) (has_text more text))
    ∙ ap (λ b. has_text old text || b) (sym (list_any-append (λ known. bytes_eq text known) some more))
