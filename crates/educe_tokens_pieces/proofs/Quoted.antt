-- What literals between quotes begin with, and how they differ from lifetimes.
use Rattle.std.proofs.Common.{◌≡◌, ℕ, ◌<◌, true, false, ◌||◌, not, None, List, [], ◌∷◌, refl, sym, ap, ◌∙◌, arith}
use Rattle.std.specs.Prelude.{◌==◌}
use Rattle.std.specs.Char.{is_ascii_alphabetic}
use Rattle.std.proofs.lemmas.Bool.{false≢true, false_from_ne_true, and_parts, and_from, eqb-true, eq-eqb, not_from_false, cond-false}
use Rattle.educe_tokens_pieces.specs.declared.quotes.Quote.{Quote}
use Rattle.educe_tokens_pieces.specs.declared.quotes.Quote.TheVariants.{Str, ByteStr, CStr, Char, Byte}
use Rattle.educe_tokens_pieces.specs.declared.quotes.Within.TheVariants.{Open, Close}
use Rattle.educe_tokens_pieces.specs.declared.quotes.Next.TheVariants.{End, Stop}
use Rattle.educe_tokens_pieces.specs.Chars.{begins, is_word_start}
use Rattle.educe_tokens_pieces.specs.Quotes.{is_plain}
use Rattle.educe_tokens_pieces.specs.Machine.{ends, plus, end_at, is_quoted, is_prefixed, is_str, is_byte_str, is_c_str, is_char, is_byte}
use Rattle.educe_tokens_pieces.proofs.Classes.{word_start-ascii}
use Rattle.educe_tokens_pieces.proofs.Ends.{rest_end_at}
use Rattle.educe_tokens_pieces.proofs.Parts.{plain_step}

-- what begins with a quote is the quote and the rest of the literal
pub quoted_parts : (q : Quote) (mark : ℕ) (s : List ℕ) → is_quoted q mark s ≡ true → (cs : List ℕ) × (s ≡ mark ∷ cs) × (ends (Open q) cs ≡ true)
quoted_parts q mark [] h = absurd (false≢true h)
quoted_parts q mark (c ∷ cs) h = let parts = and_parts (c == mark) _ h in (cs, ap (λ x. x ∷ cs) (eqb-true c mark parts.0), parts.1)

-- what begins with a letter and a quote is both and the rest of the literal
pub prefixed_parts : (letter : ℕ) (q : Quote) (mark : ℕ) (s : List ℕ) → is_prefixed letter q mark s ≡ true → (cs : List ℕ) × (s ≡ letter ∷ mark ∷ cs) × (ends (Open q) cs ≡ true)
prefixed_parts letter q mark [] h = absurd (false≢true h)
prefixed_parts letter q mark (c ∷ cs) h =
    let parts = and_parts (c == letter) _ h in
    let rest = quoted_parts q mark cs parts.1 in
    (rest.0, (λ i. eqb-true c letter parts.0 i ∷ rest.1 i), rest.2)

-- a quote and the rest of a literal is the literal
pub quoted_from : (q : Quote) (mark : ℕ) (cs : List ℕ) → ends (Open q) cs ≡ true → is_quoted q mark (mark ∷ cs) ≡ true
quoted_from q mark cs h = and_from (mark == mark) _ (eq-eqb mark mark refl) h

-- a letter before an opening quote makes a prefixed literal
pub prefixed_from : (letter : ℕ) (q : Quote) (mark : ℕ) (cs : List ℕ) → ends (Open q) cs ≡ true → is_prefixed letter q mark (letter ∷ mark ∷ cs) ≡ true
prefixed_from letter q mark cs h = and_from (letter == letter) _ (eq-eqb letter letter refl) (quoted_from q mark cs h)

-- a string: `"`
pub str_parts : (s : List ℕ) → is_str s ≡ true → (cs : List ℕ) × (s ≡ 34 ∷ cs) × (ends (Open Str) cs ≡ true)
str_parts = quoted_parts Str 34

-- a byte string: `b"`
pub byte_str_parts : (s : List ℕ) → is_byte_str s ≡ true → (cs : List ℕ) × (s ≡ 98 ∷ 34 ∷ cs) × (ends (Open ByteStr) cs ≡ true)
byte_str_parts = prefixed_parts 98 ByteStr 34

-- a C string: `c"`
pub c_str_parts : (s : List ℕ) → is_c_str s ≡ true → (cs : List ℕ) × (s ≡ 99 ∷ 34 ∷ cs) × (ends (Open CStr) cs ≡ true)
c_str_parts = prefixed_parts 99 CStr 34

-- a character: `'`
pub char_parts : (s : List ℕ) → is_char s ≡ true → (cs : List ℕ) × (s ≡ 39 ∷ cs) × (ends (Open Char) cs ≡ true)
char_parts = quoted_parts Char 39

-- a byte: `b'`
pub byte_parts : (s : List ℕ) → is_byte s ≡ true → (cs : List ℕ) × (s ≡ 98 ∷ 39 ∷ cs) × (ends (Open Byte) cs ≡ true)
byte_parts = prefixed_parts 98 Byte 39

-- its first character is the quote
quoted_begins : (q : Quote) (mark : ℕ) (s : List ℕ) → is_quoted q mark s ≡ true → begins (λ c. c == mark) s ≡ true
quoted_begins q mark [] h = absurd (false≢true h)
quoted_begins q mark (c ∷ cs) h = (and_parts (c == mark) _ h).0

-- its first character is the letter
prefixed_begins : (letter : ℕ) (q : Quote) (mark : ℕ) (s : List ℕ) → is_prefixed letter q mark s ≡ true → begins (λ c. c == letter) s ≡ true
prefixed_begins letter q mark [] h = absurd (false≢true h)
prefixed_begins letter q mark (c ∷ cs) h = (and_parts (c == letter) _ h).0

-- a string begins with `"`
pub str_begins : (s : List ℕ) → is_str s ≡ true → begins (λ c. c == 34) s ≡ true
str_begins = quoted_begins Str 34

-- a byte string with `b`
pub byte_str_begins : (s : List ℕ) → is_byte_str s ≡ true → begins (λ c. c == 98) s ≡ true
byte_str_begins = prefixed_begins 98 ByteStr 34

-- a C string with `c`
pub c_str_begins : (s : List ℕ) → is_c_str s ≡ true → begins (λ c. c == 99) s ≡ true
c_str_begins = prefixed_begins 99 CStr 34

-- a character with `'`
pub char_begins : (s : List ℕ) → is_char s ≡ true → begins (λ c. c == 39) s ≡ true
char_begins = quoted_begins Char 39

-- a byte with `b`
pub byte_begins : (s : List ℕ) → is_byte s ≡ true → begins (λ c. c == 98) s ≡ true
byte_begins = prefixed_begins 98 Byte 39

-- an ASCII character that is neither a letter nor `_` begins no word
word_start_apart : (c d : ℕ) → is_word_start c ≡ true → d < 128 → (is_ascii_alphabetic d || (d == 95)) ≡ false → (c == d) ≡ false
word_start_apart c d h small none =
    false_from_ne_true (c == d) (λ e. false≢true (sym none ∙ sym (word_start-ascii d small) ∙ ap is_word_start (sym (eqb-true c d e)) ∙ h))

-- what begins a word stands for itself between `'`
word_start_plain : (c : ℕ) → is_word_start c ≡ true → is_plain Char c ≡ true
word_start_plain c h =
    let quote = word_start_apart c 39 h (omega arith) refl in
    let escape = word_start_apart c 92 h (omega arith) refl in
    let feed = word_start_apart c 10 h (omega arith) refl in
    let return = word_start_apart c 13 h (omega arith) refl in
    let tab = word_start_apart c 9 h (omega arith) refl in
    and_from _ _ (and_from _ _ (not_from_false _ quote) (not_from_false _ escape)) (λ i. not ((feed i || return i) || tab i))

-- no character ends where no `'` follows its part
close_none : (cs : List ℕ) → begins (λ d. d == 39) cs ≡ false → end_at (Close Char) cs ≡ None
close_none [] none = refl
close_none (d ∷ ds) none = ap (λ x. rest_end_at x ds) (cond-false (d == 39) End Stop none)

-- no character stands where a word begins and no `'` follows at once: there a lifetime may stand
pub char_none : (c : ℕ) (cs : List ℕ) → is_word_start c ≡ true → begins (λ d. d == 39) cs ≡ false → end_at (Open Char) (c ∷ cs) ≡ None
char_none c cs h none = ap (λ x. rest_end_at x cs) (plain_step Char c (word_start_plain c h)) ∙ ap (plus 1) (close_none cs none)
