-- What numbers consist of, and how far it goes at the front of a text.
use Rattle.std.proofs.Common.{◌≡◌, ℕ, suc, zero, ◌+◌, ◌<◌, Bool, true, false, ◌||◌, List, [], ◌∷◌, ◌++◌, length, take, drop, refl, sym, ap, ◌∙◌, subst, ⊎_elim, arith}
use Rattle.std.specs.Prelude.{◌==◌, cond}
use Rattle.std.specs.List.{prefix_len, list_all, list_any}
use Rattle.std.specs.Str.{bytes_eq}
use Rattle.std.specs.Char.{is_ascii_alphanumeric}
use Rattle.std.proofs.lemmas.Bool.{and_parts, and_from, cond-true, cond-false, cond_both, or_cases, or_from, false_from_ne_true, false≢true}
use Rattle.std.proofs.lemmas.Bool.Decides.{nat_tests}
use Rattle.std.proofs.lemmas.List.{take-append-drop, drop-append-le}
use Rattle.std.proofs.lemmas.List.Folds.{list_all-append}
use Rattle.std.proofs.lemmas.List.Sums.{prefix_len-le-length}
use Rattle.std.proofs.lemmas.Slice.Eq.{bytes_eq-Decides}
use Rattle.unicode_ident.specs.Ident.{is_xid_start, is_xid_continue}
use Rattle.unicode_ident.proofs.IdentLemmas.{is_xid_continue-ascii, is_xid_start-is_xid_continue}
use Rattle.educe_tokens_pieces.specs.Chars.{begins, is_word_start}
use Rattle.educe_tokens_pieces.specs.Floats.{is_decimal_part}
use Rattle.educe_tokens_pieces.specs.Words.{continue_len}
use Rattle.educe_tokens_pieces.proofs.Classes.{prefix_len-append}

-- a letter, a digit or `_` of ASCII
abbrev pub is_ascii_word : ℕ → Bool
is_ascii_word c = is_ascii_alphanumeric c || (c == 95)

-- words go on with each
pub ascii_word_continues : (c : ℕ) → is_ascii_word c ≡ true → is_xid_continue c ≡ true
ascii_word_continues c h = let small : c < 128 = grind (arith, nat_tests) in is_xid_continue-ascii c small ∙ h

-- a character that continues no word is none of these ASCII characters
pub no_continue_no : (q : ℕ → Bool) → ((c : ℕ) → q c ≡ true → is_ascii_word c ≡ true) → (c : ℕ) → is_xid_continue c ≡ false → q c ≡ false
no_continue_no q among c h = false_from_ne_true (q c) (λ e. false≢true (sym h ∙ ascii_word_continues c (among c e)))

-- a character that continues no word begins none
pub no_continue_no_start : (c : ℕ) → is_xid_continue c ≡ false → is_word_start c ≡ false
no_continue_no_start c h =
    or_from (is_xid_start c) (c == 95) (false_from_ne_true _ (λ e. false≢true (sym h ∙ is_xid_start-is_xid_continue c e)))
    (no_continue_no (λ c. c == 95) (λ c e. grind (arith, nat_tests)) c h)

-- the digits of a decimal number and `_` are among them
pub part_is_word : (c : ℕ) → is_decimal_part c ≡ true → is_ascii_word c ≡ true
part_is_word c h = grind (arith, nat_tests)

-- what a list does not begin with, to a test, it does not begin with to a narrower one
pub begins_narrower : (p q : ℕ → Bool) → ((c : ℕ) → p c ≡ false → q c ≡ false) → (cs : List ℕ) → begins p cs ≡ false → begins q cs ≡ false
begins_narrower p q among [] h = refl
begins_narrower p q among (c ∷ cs) h = among c h

-- what does not go on with a word does not begin with a decimal digit or `_`
pub begins_no_part : (r : List ℕ) → begins is_xid_continue r ≡ false → begins is_decimal_part r ≡ false
begins_no_part r h = begins_narrower is_xid_continue is_decimal_part (no_continue_no is_decimal_part part_is_word) r h

-- each that passes one test passes a wider one
pub list_all_wider : (p q : ℕ → Bool) → ((c : ℕ) → p c ≡ true → q c ≡ true) → (cs : List ℕ) → list_all p cs ≡ true → list_all q cs ≡ true
list_all_wider p q among [] h = refl
list_all_wider p q among (c ∷ cs) h = let parts = and_parts (p c) _ h in and_from _ _ (among c parts.0) (list_all_wider p q among cs parts.1)

-- each of a list passes, where each of its front and of what is behind it does
pub list_all_parts : (p : ℕ → Bool) (n : ℕ) (cs : List ℕ) → list_all p (take n cs) ≡ true → list_all p (drop n cs) ≡ true → list_all p cs ≡ true
list_all_parts p n cs a b = ap (list_all p) (sym (take-append-drop n cs)) ∙ list_all-append p (take n cs) (drop n cs) ∙ and_from _ _ a b

-- letters, digits and `_` are all of the word at the front, where the rest does not go on with it
pub word_whole : (s r : List ℕ) → list_all is_ascii_word s ≡ true → begins is_xid_continue r ≡ false → continue_len (s ++ r) ≡ length s
word_whole s r h k = prefix_len-append is_xid_continue s r (list_all_wider is_ascii_word is_xid_continue ascii_word_continues s h) k

-- the passing front of a text stays so, where what doesn't pass follows the text
pub prefix_len-append_stop : (p : ℕ → Bool) (xs ys : List ℕ) → begins p ys ≡ false → prefix_len p (xs ++ ys) ≡ prefix_len p xs
prefix_len-append_stop p [] [] h = refl
prefix_len-append_stop p [] (y ∷ ys) h = rw h refl
prefix_len-append_stop p (x ∷ xs) ys h = ap (λ n. cond (p x) (1 + n) 0) (prefix_len-append_stop p xs ys h)

-- what is behind the passing prefix of a text continues with what follows the text
pub drop_prefix-append : (p : ℕ → Bool) (xs ys : List ℕ) → begins p ys ≡ false → drop (prefix_len p (xs ++ ys)) (xs ++ ys) ≡ drop (prefix_len p xs) xs ++ ys
drop_prefix-append p xs ys h =
    ap (λ n. drop n (xs ++ ys)) (prefix_len-append_stop p xs ys h) ∙ drop-append-le (prefix_len p xs) xs ys (prefix_len-le-length p xs)

-- no front of the empty text passes
take_none : (p : ℕ → Bool) (n : ℕ) → prefix_len p (take n []) ≡ 0
take_none p zero = refl
take_none p (suc n) = refl

-- no front of a text passes whose first character doesn't
take_stop : (p : ℕ → Bool) (n x : ℕ) (xs : List ℕ) → p x ≡ false → prefix_len p (take n (x ∷ xs)) ≡ 0
take_stop p zero x xs h = refl
take_stop p (suc n) x xs h = cond-false _ _ _ h

-- the passing front is that of a front which is at least as long
pub prefix_len-take : (p : ℕ → Bool) (k : ℕ) (xs : List ℕ) → prefix_len p (take (prefix_len p xs + k) xs) ≡ prefix_len p xs
prefix_len-take p k [] = take_none p (0 + k)
prefix_len-take p k (x ∷ xs) =
    let n : ℕ = prefix_len p xs in
    let one : suc (n + k) ≡ 1 + n + k = omega arith in
    let IsSame : ℕ → Type 0 = λ m. prefix_len p (take (m + k) (x ∷ xs)) ≡ m in
    cond_both (p x) (1 + n) 0 IsSame
    (λ e. ap (λ j. prefix_len p (take j (x ∷ xs))) (sym one) ∙ cond-true _ _ _ e ∙ ap (λ m. 1 + m) (prefix_len-take p k xs))
    (λ e. take_stop p (0 + k) x xs e)

-- a text of one of these types has what each of them has
pub type_is : (types : List (List ℕ)) (P : List ℕ → Bool) → list_all P types ≡ true → (t : List ℕ) → list_any (λ type. bytes_eq type t) types ≡ true → P t ≡ true
type_is [] P all t h = absurd (false≢true h)
type_is (x ∷ xs) P all t h =
    let each = and_parts (P x) _ all in
    ⊎_elim (λ e. subst (λ u. P u ≡ true) ((bytes_eq-Decides x t).0 e) each.0) (type_is xs P each.1 t) (or_cases (bytes_eq x t) _ h)

-- what begins with a test's character is not empty
pub begins_some : (test : ℕ → Bool) (cs : List ℕ) → begins test cs ≡ true → 0 < length cs
begins_some test [] h = absurd (false≢true h)
begins_some test (c ∷ cs) h = omega arith

-- a front that is not empty begins as the whole
pub begins_take : (test : ℕ → Bool) (n : ℕ) (cs : List ℕ) → 0 < n → begins test (take n cs) ≡ begins test cs
begins_take test zero cs h = absurd (omega arith)
begins_take test (suc n) [] h = refl
begins_take test (suc n) (c ∷ cs) h = refl

-- the passing front is not empty where the first passes
pub prefix_len-some : (p : ℕ → Bool) (cs : List ℕ) → begins p cs ≡ true → 0 < prefix_len p cs
prefix_len-some p [] h = absurd (false≢true h)
prefix_len-some p (c ∷ cs) h = rw h (omega arith)

-- a wider test passes the first too
pub begins_wider : (p q : ℕ → Bool) → ((c : ℕ) → p c ≡ true → q c ≡ true) → (cs : List ℕ) → begins p cs ≡ true → begins q cs ≡ true
begins_wider p q among [] h = h
begins_wider p q among (c ∷ cs) h = among c h
