-- Which texts stand in a string literal as they are, and that those of names do.
use Rattle.std.proofs.Common.{◌≡◌, ℕ, ◌<◌, Bool, true, false, not, ◌&&◌, ◌||◌, IsTrue, List, [], ◌∷◌, ◌++◌, codes, refl, sym, ap, ◌∙◌, append_assoc, subst, ⊎_elim, arith, IsUtf8, chars}
use Rattle.std.specs.Prelude.{◌==◌}
use Rattle.std.specs.Char.{is_ascii_alphanumeric}
use Rattle.std.specs.List.{list_all}
use Rattle.std.proofs.lemmas.Bool.{or_cases, or_left, and_parts, and_from, false≢true, false_from_ne_true, not_from_false, eqb-true}
use Rattle.std.proofs.lemmas.Bool.Decides.{nat_tests}
use Rattle.std.proofs.lemmas.List.Folds.{list_all-append}
use Rattle.std.proofs.lemmas.Str.{chars-append, IsUtf8-append, IsUtf8-from_ascii}
use Rattle.std.proofs.lemmas.Str.Ascii.{IsAscii-nil, IsAscii-cons}
use Rattle.unicode_ident.specs.Ident.{is_xid_continue}
use Rattle.unicode_ident.proofs.IdentLemmas.{is_xid_continue-ascii}
use Rattle.educe_tokens.specs.LiteralKind.TheVariants.{Int, Str}
use Rattle.educe_tokens.specs.TokenKind.TheVariants.{Ident, Literal}
use Rattle.educe_tokens.specs.QuoteKind.TheVariants.{Str as InStr}
use Rattle.educe_tokens.specs.Chars.{is_word_start}
use Rattle.educe_tokens.specs.Integers.{has_int_form, fits_u128}
use Rattle.educe_tokens.specs.Machine.{ends, is_str, step}
use Rattle.educe_tokens.specs.Within.TheVariants.{Open}
use Rattle.educe_tokens.specs.Pieces.{spells, is_name_or_index}
use Rattle.educe_tokens.specs.RawStrings.{is_raw_str}
use Rattle.educe_tokens_pieces.specs.Quotes.{is_plain}
use Rattle.educe_tokens_pieces.specs.Words.{is_word, is_raw_word, is_never_raw}
use Rattle.educe_tokens_pieces.proofs.Classes.{at_equal, word_continues}
use Rattle.educe_tokens_pieces.proofs.IntegerLaws.{int_words}
use Rattle.educe_tokens_pieces.proofs.NumberParts.{is_ascii_word, list_all_wider}
use Rattle.educe_tokens_pieces.proofs.Parts.{plain_step}
use Rattle.educe_tokens_pieces.proofs.Quoted.{quoted_from}
use Rattle.educe_tree.specs.TokenLaws.{ascii_chars}
use Rattle.educe_body_forms.specs.Quotes.{in_quotes}

-- the character stands for itself
abbrev stands : ℕ → Bool
stands c = is_plain InStr c

-- each character of the text stands for itself
abbrev pub Stands : List ℕ → Type 0
Stands text = list_all stands text ≡ true

-- ---- such a text between quotes is a string literal

-- behind the first quote it goes on up to the last
stands_ends : (text : List ℕ) → Stands text → ends (Open InStr) (text ++ 34 ∷ []) ≡ true
stands_ends [] h = refl
stands_ends (c ∷ cs) h =
    let parts = and_parts (stands c) (list_all stands cs) h in
    rw (plain_step InStr c parts.0, ends) (stands_ends cs parts.1)

-- a text that stands in a literal as it is, in quotes, is spelled as a string literal
stands_spelled : (text : List ℕ) → Stands text → IsTrue (spells (Literal Str) (in_quotes text))
stands_spelled text h = or_left (is_str (in_quotes text)) (is_raw_str (in_quotes text)) (quoted_from InStr 34 (text ++ 34 ∷ []) (stands_ends text h))

-- a text that stands in a literal as it is, known by an equation, is in quotes spelled as a string literal
pub spelled-same : (made text : List ℕ) → made ≡ text → Stands text → IsTrue (spells (Literal Str) (in_quotes made))
spelled-same made text is h = subst (λ text. IsTrue (spells (Literal Str) (in_quotes text))) (sym is) (stands_spelled text h)

-- ---- names and numbers are such texts

-- what is neither of the two marks stands for itself
stands-from : (c : ℕ) → (c == 34) ≡ false → (c == 92) ≡ false → stands c ≡ true
stands-from c quote escape = and_from _ _ (and_from _ _ (not_from_false _ quote) (not_from_false _ escape)) refl

-- what goes on with a word does
continue_stands : (c : ℕ) → is_xid_continue c ≡ true → stands c ≡ true
continue_stands c h =
    let P : ℕ → Type 0 = λ x. is_xid_continue x ≡ true → ⊥ in
    let apart : (d : ℕ) → d < 128 → (is_ascii_alphanumeric d || (d == 95)) ≡ false → P d = λ d s e k. absurd (false≢true (sym (is_xid_continue-ascii d s ∙ e) ∙ k)) in
    stands-from c (false_from_ne_true _ (λ e. at_equal P c 34 (apart 34 (omega arith) refl) e h)) (false_from_ne_true _ (λ e. at_equal P c 92 (apart 92 (omega arith) refl) e h))

-- a letter, a digit or `_` stands in a literal as it is
ascii_stands : (c : ℕ) → is_ascii_word c ≡ true → stands c ≡ true
ascii_stands c h = grind (arith, nat_tests)

-- the characters of a word stand in a literal as they are
word_stands : (text : List ℕ) → is_word text ≡ true → Stands text
word_stands [] h = absurd (false≢true h)
word_stands (c ∷ cs) h =
    let parts = and_parts (is_word_start c) (list_all is_xid_continue cs) h in
    and_from (stands c) (list_all stands cs) (continue_stands c (word_continues c parts.0)) (list_all_wider is_xid_continue stands continue_stands cs parts.1)

-- the characters of a raw identifier stand in a literal as they are
raw_word_stands : (text : List ℕ) → is_raw_word text ≡ true → Stands text
raw_word_stands [] h = absurd (false≢true h)
raw_word_stands (c ∷ []) h = absurd (false≢true h)
raw_word_stands (c ∷ d ∷ cs) h =
    let parts = and_parts ((c == 114) && (d == 35)) (is_word cs && not (is_never_raw cs)) h in
    let marks = and_parts (c == 114) (d == 35) parts.0 in
    let at : (x y : ℕ) → stands y ≡ true → (x == y) ≡ true → stands x ≡ true = λ x y. at_equal (λ z. stands z ≡ true) x y in
    let word = word_stands cs (and_parts (is_word cs) (not (is_never_raw cs)) parts.1).0 in
    and_from (stands c) (stands d && list_all stands cs) (at c 114 refl marks.0) (and_from (stands d) (list_all stands cs) (at d 35 refl marks.1) word)

-- the characters of an identifier stand in a literal as they are
pub ident_stands : (text : List ℕ) → IsTrue (spells Ident text) → Stands text
ident_stands text h = ⊎_elim (word_stands text) (raw_word_stands text) (or_cases (is_word text) (is_raw_word text) h)

-- the characters of an integer stand in a literal as they are
int_stands : (text : List ℕ) → IsTrue (spells (Literal Int) text) → Stands text
int_stands text h = list_all_wider is_ascii_word stands ascii_stands text (int_words text (and_parts (has_int_form text) (fits_u128 text) h).0)

-- the characters of an identifier or an integer stand in a literal as they are
pub word_or_index_stands : (text : List ℕ) → IsTrue (is_name_or_index text) → Stands text
word_or_index_stands text h = ⊎_elim (ident_stands text) (int_stands text) (or_cases (spells Ident text) (spells (Literal Int) text) h)

-- ---- two names with `::` between

-- the text of both is such a text
pub path_stands : (first last : List ℕ) → Stands first → Stands last → Stands (first ++ codes "::" ++ last)
path_stands first last f l =
    list_all-append stands (first ++ codes "::") last
    ∙ and_from (list_all stands (first ++ codes "::")) (list_all stands last) (list_all-append stands first (codes "::") ∙ and_from (list_all stands first) (list_all stands (codes "::")) f refl) l

-- ---- characters

-- one ASCII character is text
utf8_alone : (c : ℕ) → c < 128 → IsUtf8 (c ∷ [])
utf8_alone c small = IsUtf8-from_ascii (c ∷ []) (IsAscii-cons c [] small IsAscii-nil)

-- the characters of a text between quotes
pub chars_quoted : (text : List ℕ) → IsUtf8 text → chars (in_quotes text) ≡ in_quotes (chars text)
chars_quoted text u =
    let quote = utf8_alone 34 (omega arith) in
    let mark = ascii_chars (codes "\"") refl in
    chars-append (codes "\"" ++ text) (codes "\"") (IsUtf8-append (codes "\"") text quote u)
    ∙ ap (λ front. front ++ chars (codes "\"")) (chars-append (codes "\"") text quote)
    ∙ (λ i. mark i ++ chars text ++ mark i)

-- the characters of two texts with `::` between
pub chars_path : (first last : List ℕ) → IsUtf8 first → chars (first ++ (codes "::" ++ last)) ≡ chars first ++ codes "::" ++ chars last
chars_path first last f =
    let colons = IsUtf8-append (58 ∷ []) (58 ∷ []) (utf8_alone 58 (omega arith)) (utf8_alone 58 (omega arith)) in
    chars-append first (codes "::" ++ last) f
    ∙ ap (λ rest. chars first ++ rest) (chars-append (codes "::") last colons ∙ ap (λ mark. mark ++ chars last) (ascii_chars (codes "::") refl))
    ∙ sym (append_assoc (chars first) (codes "::") (chars last))
