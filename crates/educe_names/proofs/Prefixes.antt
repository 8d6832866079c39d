-- What is known of names that begin with a chosen prefix.
use Rattle.std.proofs.Common.{◌≡◌, ◌≢◌, ℕ, zero, suc, ⊎_elim, Bool, true, false, not, List, [], ◌∷◌, ◌++◌, length, refl, sym, ap, ◌∙◌, Option, Some, None}
use Rattle.std.specs.Prelude.{◌==◌, nat_eq}
use Rattle.std.specs.List.{starts_with}
use Rattle.std.specs.Str.{bytes_eq}
use Rattle.std.proofs.lemmas.Bool.{eq-eqb, false≢true, or_cases, or_left, or_right}
use Rattle.std.proofs.lemmas.List.{take_at}
use Rattle.std.proofs.lemmas.Option.{none-some}
use Rattle.std.proofs.lemmas.Slice.Eq.{bytes_eq-Decides}
use Rattle.educe_names.specs.declared.fewest.Clash.TheVariants.{Front}
use Rattle.educe_names.specs.Chosen.{underscored, is_taken, is_held, IsPrefix, first_letter, are_apart, are_letters_apart}

-- ---- words

-- a text begins with its front
begins : (front rest : List ℕ) → starts_with nat_eq (front ++ rest) front ≡ true
begins front rest = ap (bytes_eq front) (take_at front rest (length front) refl) ∙ (bytes_eq-Decides front front).1 refl

-- where a name that begins with the prefix is held, a word clashes with the prefix
begun : (words : List (List ℕ)) (prefix key : List ℕ) → is_held words (prefix ++ key) ≡ true → is_taken Front words prefix ≡ true
begun [] prefix key held = absurd (false≢true held)
begun (w ∷ words) prefix key held =
    ⊎_elim
    (λ same. or_left (starts_with nat_eq w prefix) (is_taken Front words prefix)
    (ap (λ (word : List ℕ). starts_with nat_eq word prefix) ((bytes_eq-Decides w (prefix ++ key)).0 same) ∙ begins prefix key))
    (λ later. or_right (starts_with nat_eq w prefix) (is_taken Front words prefix) (begun words prefix key later))
    (or_cases (bytes_eq w (prefix ++ key)) (is_held words (prefix ++ key)) held)

-- none of the words is a name that begins with a chosen prefix
pub prefix_free : (words : List (List ℕ)) (name prefix key : List ℕ) → IsPrefix words name prefix → is_held words (prefix ++ key) ≡ false
prefix_free words name prefix key chosen = by_test (is_held words (prefix ++ key)) refl
  where
    by_test : (b : Bool) → is_held words (prefix ++ key) ≡ b → is_held words (prefix ++ key) ≡ false
    by_test true h = absurd (false≢true (sym (ap (is_taken Front words) chosen.is ∙ chosen.fewest.free) ∙ begun words prefix key h))
    by_test false h = h

-- ---- two prefixes

-- `_` in front change no first letter
letter-underscored : (count : ℕ) (name : List ℕ) → first_letter (underscored count name) ≡ first_letter name
letter-underscored zero name = refl
letter-underscored (suc count) name = letter-underscored count name

-- what stands behind a name changes no first letter
letter-append : (name rest : List ℕ) (c : ℕ) → first_letter name ≡ Some c → first_letter (name ++ rest) ≡ Some c
letter-append [] rest c h = absurd (none-some c h)
letter-append (d ∷ name) rest c h = split (d == 95) refl (letter-append name rest c)
  where
    split : (b : Bool) → (d == 95) ≡ b → (first_letter name ≡ Some c → first_letter (name ++ rest) ≡ Some c) → first_letter (d ∷ (name ++ rest)) ≡ Some c
    split true is later = rw is (later (rw is at h))
    split false is later = rw is (rw is at h)

-- names whose first letters differ are not the same
letters_differ : (a b : Option ℕ) (xs ys : List ℕ) → are_apart a b ≡ true → ((c : ℕ) → a ≡ Some c → first_letter xs ≡ Some c) → ((c : ℕ) → b ≡ Some c → first_letter ys ≡ Some c) → xs ≢ ys
letters_differ None b xs ys apart left right same = false≢true apart
letters_differ (Some c) None xs ys apart left right same = false≢true apart
letters_differ (Some c) (Some d) xs ys apart left right same =
    let letters : Some c ≡ Some d = sym (left c refl) ∙ ap first_letter same ∙ right d refl in
    let is : c ≡ d = cc in
    false≢true (sym (ap not (eq-eqb c d is)) ∙ apart)

-- the first letter of a name with a chosen prefix is that of the prefix's name
prefix_letter : (words : List (List ℕ)) (name prefix key : List ℕ) (c : ℕ) → IsPrefix words name prefix → first_letter name ≡ Some c → first_letter (prefix ++ key) ≡ Some c
prefix_letter words name prefix key c chosen letter = letter-append prefix key c (ap first_letter chosen.is ∙ letter-underscored chosen.count name ∙ letter)

-- a name with one prefix is none with another, where the first letters of the two differ
pub prefixes_apart : (words held : List (List ℕ)) (name other prefix mark key word : List ℕ) → IsPrefix words name prefix → IsPrefix held other mark → are_letters_apart name other ≡ true → prefix ++ key ≢ mark ++ word
prefixes_apart words held name other prefix mark key word one two apart =
    letters_differ (first_letter name) (first_letter other) (prefix ++ key) (mark ++ word) apart
    (λ c letter. prefix_letter words name prefix key c one letter) (λ c letter. prefix_letter held other mark word c two letter)
