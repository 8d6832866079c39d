-- The parts between characters that don't go on with a word are the runs of those that do.
use Rattle.std.proofs.Common.{◌≡◌, ◌≢◌, ℕ, Bool, true, false, not, cond, List, [], ◌∷◌, ◌++◌, refl, sym, ap, subst, ◌∙◌, ⊎_elim}
use Rattle.std.specs.List.{list_all, list_any, onto_first}
use Rattle.std.specs.Str.{bytes_eq}
use Rattle.std.proofs.lemmas.Bool.{and_parts, and_from, or_cases, or_left, or_right, cond-true, cond-false, false≢true}
use Rattle.std.proofs.lemmas.Slice.Eq.{bytes_eq-Decides}
use Rattle.unicode_ident.specs.Ident.{is_xid_continue}
use Rattle.educe_tokens.specs.Pieces.{ends_word_before}
use Rattle.educe_names.specs.Words.{BeginsWithRun, IsRunOf, front, behind, parts}

-- whether a character goes on with a word
abbrev goes_on : ℕ → Bool
goes_on c = is_xid_continue c

-- the first part of a text
abbrev first_part : List ℕ → List ℕ
first_part [] = []
first_part (c ∷ cs) = cond (goes_on c) (c ∷ first_part cs) []

-- what stands behind it
abbrev rest_of : List ℕ → List ℕ
rest_of [] = []
rest_of (c ∷ cs) = cond (goes_on c) (rest_of cs) (c ∷ cs)

-- the other parts
abbrev later_parts : List ℕ → List (List ℕ)
later_parts [] = []
later_parts (c ∷ cs) = cond (goes_on c) (later_parts cs) (first_part cs ∷ later_parts cs)

-- the parts are the first one and the others
parts_are : (text : List ℕ) → parts text ≡ first_part text ∷ later_parts text
parts_are [] = refl
parts_are (c ∷ cs) = split (goes_on c) refl (parts_are cs)
  where
    split : (b : Bool) → goes_on c ≡ b → parts cs ≡ first_part cs ∷ later_parts cs → parts (c ∷ cs) ≡ first_part (c ∷ cs) ∷ later_parts (c ∷ cs)
    split true h rest = rw h (ap (onto_first c) rest)
    split false h rest = rw h (ap (λ more. [] ∷ more) rest)

-- the text is its first part and the rest
first_is : (text : List ℕ) → text ≡ first_part text ++ rest_of text
first_is [] = refl
first_is (c ∷ cs) = split (goes_on c) refl (first_is cs)
  where
    split : (b : Bool) → goes_on c ≡ b → cs ≡ first_part cs ++ rest_of cs → c ∷ cs ≡ first_part (c ∷ cs) ++ rest_of (c ∷ cs)
    split true h rest = rw h (ap (λ more. c ∷ more) rest)
    split false h rest = rw h refl

-- all of the first part goes on with a word
first_continues : (text : List ℕ) → list_all is_xid_continue (first_part text) ≡ true
first_continues [] = refl
first_continues (c ∷ cs) = split (goes_on c) refl (first_continues cs)
  where
    split : (b : Bool) → goes_on c ≡ b → list_all is_xid_continue (first_part cs) ≡ true → list_all is_xid_continue (first_part (c ∷ cs)) ≡ true
    split true h rest = ap (list_all is_xid_continue) (cond-true (goes_on c) (c ∷ first_part cs) [] h) ∙ and_from (is_xid_continue c) (list_all is_xid_continue (first_part cs)) h rest
    split false h rest = rw h refl

-- what follows the first part doesn't continue a word
first_ends : (text : List ℕ) → ends_word_before (rest_of text) ≡ true
first_ends [] = refl
first_ends (c ∷ cs) = split (goes_on c) refl (first_ends cs)
  where
    split : (b : Bool) → goes_on c ≡ b → ends_word_before (rest_of cs) ≡ true → ends_word_before (rest_of (c ∷ cs)) ≡ true
    split true h rest = ap ends_word_before (cond-true (goes_on c) (rest_of cs) (c ∷ cs) h) ∙ rest
    split false h rest = ap ends_word_before (cond-false (goes_on c) (rest_of cs) (c ∷ cs) h) ∙ ap not h

-- the first part, if not empty, is a run at the front
first_begins : (text word : List ℕ) → first_part text ≡ word → word ≢ [] → BeginsWithRun word text
first_begins text word is some = record {
  rest = rest_of text;
  is = first_is text ∙ ap (λ w. w ++ rest_of text) is;
  some = some;
  continues = ap (list_all is_xid_continue) (sym is) ∙ first_continues text;
  ends = first_ends text;
}

-- a run at the front is the first part
begins_first : (word rest : List ℕ) → list_all is_xid_continue word ≡ true → ends_word_before rest ≡ true → first_part (word ++ rest) ≡ word
begins_first [] [] continues ends = refl
begins_first [] (c ∷ cs) continues ends = split (goes_on c) refl
  where
    split : (b : Bool) → goes_on c ≡ b → first_part (c ∷ cs) ≡ []
    split true h = absurd (false≢true (sym (ap not h) ∙ ends))
    split false h = rw h refl
begins_first (c ∷ word) rest continues ends =
    let both = and_parts (is_xid_continue c) _ continues in
    cond-true (goes_on c) _ _ both.0 ∙ ap (λ more. c ∷ more) (begins_first word rest both.1 ends)

-- the word is a run behind a character that doesn't go on with a word
record IsBehind (word text : List ℕ) : Type 0 where
  before : List ℕ
  mark : ℕ
  more : List ℕ
  is : text ≡ before ++ mark ∷ more
  ends : is_xid_continue mark ≡ false
  own : BeginsWithRun word more

-- one character more in front
behind_more : (word text : List ℕ) (c : ℕ) → IsBehind word text → IsBehind word (c ∷ text)
behind_more word text c b = record {
  before = c ∷ b.before;
  mark = b.mark;
  more = b.more;
  is = ap (λ t. c ∷ t) b.is;
  ends = b.ends;
  own = b.own;
}

-- the word is one of these
abbrev is_among : List ℕ → List (List ℕ) → Bool
is_among word texts = list_any (λ part. bytes_eq part word) texts

-- the other parts behind a character that goes on with a word
later_past : (c : ℕ) (cs : List ℕ) → goes_on c ≡ true → later_parts (c ∷ cs) ≡ later_parts cs
later_past c cs h = cond-true (goes_on c) (later_parts cs) (first_part cs ∷ later_parts cs) h

-- the other parts behind a character that doesn't continue a word
later_from : (c : ℕ) (cs : List ℕ) → goes_on c ≡ false → later_parts (c ∷ cs) ≡ first_part cs ∷ later_parts cs
later_from c cs h = cond-false (goes_on c) (later_parts cs) (first_part cs ∷ later_parts cs) h

-- a later part, if not empty, is a run behind a character that doesn't go on with a word
later_behind : (text word : List ℕ) → word ≢ [] → is_among word (later_parts text) ≡ true → IsBehind word text
later_behind [] word some found = absurd (false≢true found)
later_behind (c ∷ cs) word some found = split (goes_on c) refl (λ h. behind_more word cs c (later_behind cs word some h))
  where
    split : (b : Bool) → goes_on c ≡ b → (is_among word (later_parts cs) ≡ true → IsBehind word (c ∷ cs)) → IsBehind word (c ∷ cs)
    split true h there = there (sym (ap (is_among word) (later_past c cs h)) ∙ found)
    split false h there =
        ⊎_elim
        (λ here. record { before = []; mark = c; more = cs; is = refl; ends = h; own = first_begins cs word ((bytes_eq-Decides (first_part cs) word).0 here) some })
        there
        (or_cases (bytes_eq (first_part cs) word) (is_among word (later_parts cs)) (sym (ap (is_among word) (later_from c cs h)) ∙ found))

-- such a run is a later part
behind_later : (before more word : List ℕ) (mark : ℕ) → is_xid_continue mark ≡ false → first_part more ≡ word → is_among word (later_parts (before ++ mark ∷ more)) ≡ true
behind_later [] more word mark ends is =
    ap (is_among word) (later_from mark more ends) ∙ or_left _ _ ((bytes_eq-Decides (first_part more) word).1 is)
behind_later (c ∷ cs) more word mark ends is = split (goes_on c) refl (behind_later cs more word mark ends is)
  where
    split : (b : Bool) → goes_on c ≡ b → is_among word (later_parts (cs ++ mark ∷ more)) ≡ true → is_among word (later_parts (c ∷ (cs ++ mark ∷ more))) ≡ true
    split true h there = ap (is_among word) (later_past c (cs ++ mark ∷ more) h) ∙ there
    split false h there = ap (is_among word) (later_from c (cs ++ mark ∷ more) h) ∙ or_right _ _ there

-- the first part of a text that begins with the run
run_first : (word text : List ℕ) → BeginsWithRun word text → first_part text ≡ word
run_first word text b = ap first_part b.is ∙ begins_first word b.rest b.continues b.ends

-- a part that is not empty is a run
pub part_is_run : (word text : List ℕ) → word ≢ [] → is_among word (parts text) ≡ true → IsRunOf word text
part_is_run word text some found =
    let cases = or_cases (bytes_eq (first_part text) word) (is_among word (later_parts text)) (sym (ap (is_among word) (parts_are text)) ∙ found) in
    ⊎_elim
    (λ here. front word text (first_begins text word ((bytes_eq-Decides (first_part text) word).0 here) some))
    (λ there. let b = later_behind text word some there in subst (λ t. IsRunOf word t) (sym b.is) (behind word b.before b.more b.mark b.ends b.own))
    cases

-- a run is a part
pub run_is_part : (word text : List ℕ) → IsRunOf word text → is_among word (parts text) ≡ true
run_is_part word text (front w t own) =
    ap (is_among w) (parts_are t) ∙ or_left _ _ ((bytes_eq-Decides (first_part t) w).1 (run_first w t own))
run_is_part word text (behind w before more mark ends own) =
    ap (is_among w) (parts_are (before ++ mark ∷ more)) ∙ or_right _ _ (behind_later before more w mark ends (run_first w more own))

-- no run is empty
pub run_some : (word text : List ℕ) → IsRunOf word text → word ≢ []
run_some word text (front w t own) = own.some
run_some word text (behind w before more mark ends own) = own.some
