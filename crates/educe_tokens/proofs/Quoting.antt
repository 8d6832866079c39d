-- What the words of a template spell.
use Rattle.std.proofs.Common.{◌≡◌, ℕ, zero, suc, ◌<◌, ◌≤◌, Bool, true, false, not, ◌&&◌, ◌||◌, IsTrue, List, [], ◌∷◌, length, get_or, drop, refl, sym, ap, ◌∙◌, subst, ⊎_elim, arith, chars}
use Rattle.std.specs.Prelude.{◌==◌, slice_range}
use Rattle.std.specs.List.{list_all}
use Rattle.std.proofs.lemmas.Bool.{or_cases, or_left, and_parts, and_from, false≢true, cond-true, cond-false}
use Rattle.std.proofs.lemmas.Bool.Decides.{nat_tests, Decides-below_and}
use Rattle.std.proofs.lemmas.Str.{chars-IsAscii}
use Rattle.std.proofs.lemmas.Str.Ascii.{IsAscii-from_all}
use Rattle.std.proofs.lemmas.List.Sums.{AllPass-from_list_all}
use Rattle.unicode_ident.specs.Ident.{is_xid_continue}
use Rattle.unicode_ident.proofs.IdentLemmas.{is_xid_start-ascii, is_xid_continue-ascii}
use Rattle.educe_tokens_pieces.specs.declared.kind.TokenKind.TheVariants.{Ident, Punct}
use Rattle.educe_tokens_pieces.specs.Chars.{is_only, is_punct, is_word_start}
use Rattle.educe_tokens_pieces.specs.Pieces.{spells}
use Rattle.educe_tokens.specs.Quote.{is_name_start, is_name_part, is_ascii_name, is_bracket, is_joint_pair, is_mark, mark_kind, is_template_word, word_lexemes}

-- each number below n passes
abbrev all_below : (ℕ → Bool) → ℕ → Bool
all_below test zero = true
all_below test (suc n) = test n && all_below test n

passes_below : (test : ℕ → Bool) (n c : ℕ) → all_below test n ≡ true → c < n → test c ≡ true
passes_below test n c pass less = (Decides-below_and test (λ k. test k ≡ true) (all_below test) (λ k. (λ e. e, λ e. e)) refl (λ _. refl) n).0 pass c less

name_part_small : (c : ℕ) → is_name_part c ≡ true → c < 128
name_part_small c h = grind (arith, nat_tests)

name_start_part : (c : ℕ) → is_name_start c ≡ true → is_name_part c ≡ true
name_start_part c h = grind (arith, nat_tests)

mark_small : (c : ℕ) → (is_bracket c || is_punct c) ≡ true → c < 128
mark_small c h = grind (arith, nat_tests)

pair_small : (c d : ℕ) → is_joint_pair c d ≡ true → (c < 128) × (d < 128)
pair_small c d h = grind (arith, nat_tests)

pair_puncts : (c d : ℕ) → is_joint_pair c d ≡ true → (is_punct c ≡ true) × (is_punct d ≡ true)
pair_puncts c d h = grind (arith, nat_tests)

pair_no_name : (c d : ℕ) → is_joint_pair c d ≡ true → is_name_start c ≡ false
pair_no_name c d h = grind (arith, nat_tests)

-- a bracket or a punct begins no name, and spells what it is
abbrev marks_well : ℕ → Bool
marks_well c = not (is_bracket c || is_punct c) || (not (is_name_start c) && spells (mark_kind c) (c ∷ []))

mark_alone : (c : ℕ) → (is_bracket c || is_punct c) ≡ true → (not (is_name_start c) ≡ true) × (spells (mark_kind c) (c ∷ []) ≡ true)
mark_alone c h =
    ⊎_elim (λ e. absurd (false≢true (sym (ap not h) ∙ e))) (λ e. and_parts _ _ e) (or_cases _ _ (passes_below marks_well 128 c refl (mark_small c h)))

-- the characters of an ASCII byte
byte_chars : (c : ℕ) → c < 128 → chars (c ∷ []) ≡ c ∷ []
byte_chars c small = chars-IsAscii (c ∷ []) (IsAscii-from_all (c ∷ []) (λ k d less. elim k as (λ k. k < 1 → get_or (c ∷ []) k d < 128) [ zero ↦ λ _. small | suc k ↦ λ h. absurd (omega arith) ] less))

name_chars : (word : List ℕ) → list_all is_name_part word ≡ true → chars word ≡ word
name_chars word h = chars-IsAscii word (IsAscii-from_all word (λ k d less. name_part_small _ (AllPass-from_list_all is_name_part word h k d less)))

name_continues : (c : ℕ) → is_name_part c ≡ true → is_xid_continue c ≡ true
name_continues c h = is_xid_continue-ascii c (name_part_small c h) ∙ h

names_continue : (cs : List ℕ) → list_all is_name_part cs ≡ true → list_all is_xid_continue cs ≡ true
names_continue [] h = refl
names_continue (c ∷ cs) h = let parts = and_parts _ _ h in and_from _ _ (name_continues c parts.0) (names_continue cs parts.1)

name_begins : (c : ℕ) → is_name_start c ≡ true → is_word_start c ≡ true
name_begins c h = ap (λ b. b || (c == 95)) (is_xid_start-ascii c (name_part_small c (name_start_part c h))) ∙ h

-- what begins as a name and goes on so is an identifier
name_spells : (c : ℕ) (cs : List ℕ) → is_name_start c ≡ true → list_all is_name_part cs ≡ true → spells Ident (c ∷ cs) ≡ true
name_spells c cs start parts = or_left _ _ (and_from _ _ (name_begins c start) (names_continue cs parts))

-- a name in ASCII is an identifier, and its bytes are its characters
pub ascii_name_is : (name : List ℕ) → is_ascii_name name ≡ true → IsTrue (spells Ident (chars name)) × (chars name ≡ name)
ascii_name_is [] h = absurd (false≢true h)
ascii_name_is (c ∷ cs) h =
    let parts = and_parts _ _ h in
    let e = name_chars (c ∷ cs) (and_from _ _ (name_start_part c parts.0) parts.1) in
    let Spells : List ℕ → Type 0 = λ x. IsTrue (spells Ident x) in
    (subst Spells (sym e) (name_spells c cs parts.0 parts.1), e)

mark_no_name : (c : ℕ) (cs : List ℕ) → is_mark (c ∷ cs) ≡ true → is_name_start c ≡ true → ⊥
mark_no_name c [] h start = false≢true (sym (ap not start) ∙ (mark_alone c h).0)
mark_no_name c (d ∷ []) h start = false≢true (sym (pair_no_name c d h) ∙ start)
mark_no_name c (d ∷ e ∷ cs) h start = false≢true h

named_parts : (c : ℕ) (cs : List ℕ) → IsTrue (is_template_word (c ∷ cs)) → is_name_start c ≡ true → list_all is_name_part cs ≡ true
named_parts c cs h start = ⊎_elim (λ e. (and_parts _ _ e).1) (λ e. absurd (mark_no_name c cs e start)) (or_cases _ _ h)

marked_part : (c : ℕ) (cs : List ℕ) → IsTrue (is_template_word (c ∷ cs)) → is_name_start c ≡ false → is_mark (c ∷ cs) ≡ true
marked_part c cs h start = ⊎_elim (λ e. absurd (false≢true (sym start ∙ (and_parts _ _ e).0))) (λ e. e) (or_cases _ _ h)

-- a word that begins as a name is one identifier
pub record IsNamed (word : List ℕ) : Type 0 where
  pub spelled : IsTrue (spells Ident (chars word))
  pub same : word_lexemes word ≡ record { kind = Ident; spelling = chars word } ∷ []

named_at : (word : List ℕ) → IsTrue (is_template_word word) → 1 ≤ length word → is_name_start (get_or word 0 0) ≡ true → IsNamed word
named_at [] h long start = absurd (omega arith)
named_at (c ∷ cs) h long start =
    let parts = named_parts c cs h start in
    let e = name_chars (c ∷ cs) (and_from _ _ (name_start_part c start) parts) in
    let Spells : List ℕ → Type 0 = λ x. IsTrue (spells Ident x) in
    record {
      spelled = subst Spells (sym e) (name_spells c cs start parts);
      same = cond-true (is_name_start c) _ _ start ∙ ap (λ x. record { kind = Ident; spelling = x } ∷ []) (sym e);
    }

-- a word of one character that begins no name is a bracket or a punct
pub record IsMarked (word : List ℕ) (first : ℕ) : Type 0 where
  pub spelled : IsTrue (spells (mark_kind first) (chars word))
  pub same : word_lexemes word ≡ record { kind = mark_kind first; spelling = chars word } ∷ []

marked_at : (word : List ℕ) → IsTrue (is_template_word word) → 1 ≤ length word → length word < 2 → is_name_start (get_or word 0 0) ≡ false → IsMarked word (get_or word 0 0)
marked_at [] h long short start = absurd (omega arith)
marked_at (c ∷ d ∷ cs) h long short start = absurd (omega arith)
marked_at (c ∷ []) h long short start =
    let mark = marked_part c [] h start in
    let e = byte_chars c (mark_small c mark) in
    let Spells : List ℕ → Type 0 = λ x. IsTrue (spells (mark_kind c) x) in
    record {
      spelled = subst Spells (sym e) (mark_alone c mark).1;
      same = cond-false (is_name_start c) _ _ start ∙ ap (λ x. record { kind = mark_kind c; spelling = x } ∷ []) (sym e);
    }

-- a word of two characters that begins no name is two puncts, the first joint
pub record IsPaired (word : List ℕ) (first second : ℕ) : Type 0 where
  pub front : IsTrue (is_punct first && is_only first (chars (slice_range word 0 1)))
  pub back : IsTrue (is_punct second && is_only second (chars (drop 1 word)))
  pub same : word_lexemes word ≡ record { kind = Punct first true; spelling = chars (slice_range word 0 1) } ∷ record { kind = Punct second false; spelling = chars (drop 1 word) } ∷ []

paired_at : (word : List ℕ) → IsTrue (is_template_word word) → 2 ≤ length word → length word < 3 → is_name_start (get_or word 0 0) ≡ false → IsPaired word (get_or word 0 0) (get_or word 1 0)
paired_at [] h long short start = absurd (omega arith)
paired_at (c ∷ []) h long short start = absurd (omega arith)
paired_at (c ∷ d ∷ x ∷ cs) h long short start = absurd (omega arith)
paired_at (c ∷ d ∷ []) h long short start =
    let mark = marked_part c (d ∷ []) h start in
    let small = pair_small c d mark in
    let puncts = pair_puncts c d mark in
    let e : chars (c ∷ []) ≡ c ∷ [] = byte_chars c small.0 in
    let f : chars (d ∷ []) ≡ d ∷ [] = byte_chars d small.1 in
    let only : (b : ℕ) → is_only b (b ∷ []) ≡ true = λ b. grind (arith, nat_tests) in
    record {
      front = and_from _ _ puncts.0 (ap (is_only c) e ∙ only c);
      back = and_from _ _ puncts.1 (ap (is_only d) f ∙ only d);
      same = cond-false (is_name_start c) _ _ start ∙ cc;
    }

-- the laws of a template's word, for its bytes as another list
module _ (bytes word : List ℕ) (e : bytes ≡ word) (h : IsTrue (is_template_word word)) where
  here : IsTrue (is_template_word bytes)
  here = let P : List ℕ → Type 0 = λ x. IsTrue (is_template_word x) in subst P (sym e) h

  pub named : 1 ≤ length bytes → is_name_start (get_or bytes 0 0) ≡ true → IsNamed word
  named long start = subst IsNamed e (named_at bytes here long start)

  pub marked : 1 ≤ length bytes → length bytes < 2 → is_name_start (get_or bytes 0 0) ≡ false → IsMarked word (get_or bytes 0 0)
  marked long short start = let P : List ℕ → Type 0 = λ x. IsMarked x (get_or bytes 0 0) in subst P e (marked_at bytes here long short start)

  pub paired : 2 ≤ length bytes → length bytes < 3 → is_name_start (get_or bytes 0 0) ≡ false → IsPaired word (get_or bytes 0 0) (get_or bytes 1 0)
  paired long short start = let P : List ℕ → Type 0 = λ x. IsPaired x (get_or bytes 0 0) (get_or bytes 1 0) in subst P e (paired_at bytes here long short start)
