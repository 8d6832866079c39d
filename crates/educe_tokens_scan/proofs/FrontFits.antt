-- What the scan finds by the first characters of a text is a piece at its front.
use Rattle.std.proofs.Common.{◌≡◌, ℕ, Bool, true, ◌&&◌, Option, Some, None, List, [], ◌∷◌, take, drop, refl, arith}
use Rattle.std.specs.Prelude.{◌==◌}
use Rattle.std.specs.List.{list_all}
use Rattle.std.specs.Char.{is_ascii}
use Rattle.std.proofs.lemmas.Bool.{and_parts, and_from, or_left, or_right, false≢true, cond_both, eq-eqb}
use Rattle.std.proofs.lemmas.List.Sums.{prefix_len-le-length}
use Rattle.unicode_ident.specs.Ident.{is_xid_continue}
use Rattle.educe_tokens_pieces.specs.declared.kind.LiteralKind.TheVariants.{Str, ByteStr, Char, Byte}
use Rattle.educe_tokens_pieces.specs.declared.kind.TokenKind.{TokenKind}
use Rattle.educe_tokens_pieces.specs.declared.kind.TokenKind.TheVariants.{Ident, Lifetime, Literal}
use Rattle.educe_tokens_pieces.specs.declared.kind.UncarriedKind.TheVariants.{CStr}
use Rattle.educe_tokens_pieces.specs.declared.kind.PieceKind.{PieceKind}
use Rattle.educe_tokens_pieces.specs.declared.kind.PieceKind.TheVariants.{Token, Uncarried}
use Rattle.educe_tokens_pieces.specs.declared.quotes.Quote.TheVariants.{Str as InStr, ByteStr as InByteStr, CStr as InCStr, Char as InChar, Byte as InByte}
use Rattle.educe_tokens_pieces.specs.declared.quotes.Within.{Within}
use Rattle.educe_tokens_pieces.specs.declared.quotes.Within.TheVariants.{Open}
use Rattle.educe_tokens_pieces.specs.Chars.{begins, is_punct, is_word_start}
use Rattle.educe_tokens_pieces.specs.Words.{is_word, word_len, raw_word_len}
use Rattle.educe_tokens_pieces.specs.RawStrings.{is_raw, raw_len}
use Rattle.educe_tokens_pieces.specs.Machine.{ends, end_at, is_str, is_byte_str, is_c_str}
use Rattle.educe_tokens_pieces.specs.Pieces.{is_piece}
use Rattle.educe_tokens_pieces.specs.Fits.{Fits, FrontPasses}
use Rattle.educe_tokens_pieces.proofs.Classes.{word_start-ascii, at_equal, list_all-prefix}
use Rattle.educe_tokens_pieces.proofs.WordLaws.{word_is, is_rawable, raw_word_is}
use Rattle.educe_tokens_pieces.proofs.Ends.{end_at_ends}
use Rattle.educe_tokens_pieces.proofs.RawStrings.{raw_is}
use Rattle.educe_tokens_scan.specs.Scan.{bracket_of, one_long, longer_by, plain_word, opens_raw, opens_prefixed_raw, opens_raw_word, if_ascii, raw_ascii_len, raw_or_word, byte_or_word, c_string_or_word, by_word, or_lifetime, by_quote, by_sign}
use Rattle.educe_tokens_scan.proofs.Fitting.{longer_fits, behind_one, behind_two}

-- a raw text of ASCII characters
abbrev pub is_raw_ascii : List ℕ → Bool
is_raw_ascii cs = is_raw cs && list_all is_ascii cs

-- a raw text that passes the test for it is of ASCII characters
if_ascii_is : (text : List ℕ) (o : Option ℕ) → FrontPasses is_raw text o → FrontPasses is_raw_ascii text (if_ascii text o)
if_ascii_is text None h = tt
if_ascii_is text (Some n) h = cond_both (list_all is_ascii (take n text)) (Some n) None (FrontPasses is_raw_ascii text) (λ e. (and_from _ _ h.0 e, h.1, h.2)) (λ _. tt)

-- the raw text that was found is of ASCII characters
raw_ascii_is : (text : List ℕ) → FrontPasses is_raw_ascii text (raw_ascii_len text)
raw_ascii_is text = if_ascii_is text (raw_len text) (raw_is text)

-- a bracket fits
bracket_fits : (c : ℕ) (cs : List ℕ) → Fits (c ∷ cs) (one_long (bracket_of c))
bracket_fits c cs =
    let P : Option TokenKind → Type 0 = λ o. Fits (c ∷ cs) (one_long o) in
    cond_both (c == 40) _ _ P (λ e. (e, omega arith, omega arith)) (λ _.
    cond_both (c == 41) _ _ P (λ e. (e, omega arith, omega arith)) (λ _.
    cond_both (c == 91) _ _ P (λ e. (e, omega arith, omega arith)) (λ _.
    cond_both (c == 93) _ _ P (λ e. (e, omega arith, omega arith)) (λ _.
    cond_both (c == 123) _ _ P (λ e. (e, omega arith, omega arith)) (λ _.
    cond_both (c == 125) _ _ P (λ e. (e, omega arith, omega arith)) (λ _. tt))))))

-- a word fits
plain_fits : (c : ℕ) (cs : List ℕ) → is_word_start c ≡ true → Fits (c ∷ cs) (plain_word cs)
plain_fits c cs w = longer_fits (Token Ident) c cs _ (prefix_len-le-length is_xid_continue cs) (or_left _ _ (and_from _ _ w (list_all-prefix is_xid_continue cs)))

-- a raw word fits
raw_word_fits : (cs : List ℕ) → opens_raw_word cs ≡ true → Fits (114 ∷ cs) (longer_by 2 (Token Ident) (raw_word_len (drop 1 cs)))
raw_word_fits [] h = absurd (false≢true h)
raw_word_fits (d ∷ cs) h =
    at_equal (λ x. Fits (114 ∷ x ∷ cs) (longer_by 2 (Token Ident) (raw_word_len cs))) d 35
    (behind_two is_rawable (Token Ident) 114 35 cs (raw_word_len cs) (raw_word_is cs) (λ s e. or_right _ _ e)) (and_parts (d == 35) _ h).0

-- what an `r` begins fits
r_fits : (cs : List ℕ) → Fits (114 ∷ cs) (raw_or_word cs)
r_fits cs =
    let P : Option (PieceKind × ℕ) → Type 0 = Fits (114 ∷ cs) in
    cond_both (opens_raw cs) _ _ P (λ _. behind_one is_raw (Token (Literal Str)) 114 cs (raw_len cs) (raw_is cs) (λ s e. or_right (is_str (114 ∷ s)) _ e)) (λ _.
    cond_both (opens_raw_word cs) _ _ P (λ e. raw_word_fits cs e) (λ _.
    plain_fits 114 cs (word_start-ascii 114 (omega arith))))

-- a literal between quotes behind a letter fits
prefixed_fits : (kind : PieceKind) (w : Within) (letter mark : ℕ) (cs : List ℕ) → ((s : List ℕ) → ends w s ≡ true → is_piece kind (letter ∷ mark ∷ s) ≡ true)
    → begins (λ c. c == mark) cs ≡ true → Fits (letter ∷ cs) (longer_by 2 kind (end_at w (drop 1 cs)))
prefixed_fits kind w letter mark [] f h = absurd (false≢true h)
prefixed_fits kind w letter mark (d ∷ cs) f h =
    at_equal (λ x. Fits (letter ∷ x ∷ cs) (longer_by 2 kind (end_at w cs))) d mark (behind_two (ends w) kind letter mark cs (end_at w cs) (end_at_ends cs w) f) h

-- a raw literal behind a letter fits
prefixed_raw_fits : (test : List ℕ → Bool) (len : List ℕ → Option ℕ) (kind : PieceKind) (letter : ℕ) (cs : List ℕ) → ((text : List ℕ) → FrontPasses test text (len text))
    → ((s : List ℕ) → test s ≡ true → is_piece kind (letter ∷ 114 ∷ s) ≡ true) → opens_prefixed_raw cs ≡ true → Fits (letter ∷ cs) (longer_by 2 kind (len (drop 1 cs)))
prefixed_raw_fits test len kind letter [] passes f h = absurd (false≢true h)
prefixed_raw_fits test len kind letter (d ∷ cs) passes f h =
    at_equal (λ x. Fits (letter ∷ x ∷ cs) (longer_by 2 kind (len cs))) d 114 (behind_two test kind letter 114 cs (len cs) (passes cs) f) (and_parts (d == 114) _ h).0

-- what a `b` begins fits
b_fits : (cs : List ℕ) → Fits (98 ∷ cs) (byte_or_word cs)
b_fits cs =
    let P : Option (PieceKind × ℕ) → Type 0 = Fits (98 ∷ cs) in
    cond_both (begins (λ c. c == 39) cs) _ _ P (λ e. prefixed_fits (Token (Literal Byte)) (Open InByte) 98 39 cs (λ s h. h) e) (λ _.
    cond_both (begins (λ c. c == 34) cs) _ _ P (λ e. prefixed_fits (Token (Literal ByteStr)) (Open InByteStr) 98 34 cs (λ s h. or_left _ _ h) e) (λ _.
    cond_both (opens_prefixed_raw cs) _ _ P (λ e. prefixed_raw_fits is_raw_ascii raw_ascii_len (Token (Literal ByteStr)) 98 cs raw_ascii_is (λ s h. or_right (is_byte_str (98 ∷ 114 ∷ s)) _ h) e) (λ _.
    plain_fits 98 cs (word_start-ascii 98 (omega arith)))))

-- what a `c` begins fits
c_fits : (cs : List ℕ) → Fits (99 ∷ cs) (c_string_or_word cs)
c_fits cs =
    let P : Option (PieceKind × ℕ) → Type 0 = Fits (99 ∷ cs) in
    cond_both (begins (λ c. c == 34) cs) _ _ P (λ e. prefixed_fits (Uncarried CStr) (Open InCStr) 99 34 cs (λ s h. or_left _ _ h) e) (λ _.
    cond_both (opens_prefixed_raw cs) _ _ P (λ e. prefixed_raw_fits is_raw raw_len (Uncarried CStr) 99 cs raw_is (λ s h. or_right (is_c_str (99 ∷ 114 ∷ s)) _ h) e) (λ _.
    plain_fits 99 cs (word_start-ascii 99 (omega arith))))

-- what the first character of a word begins fits
pub word_fits : (c : ℕ) (cs : List ℕ) → is_word_start c ≡ true → Fits (c ∷ cs) (by_word c cs)
word_fits c cs w =
    let P : Option (PieceKind × ℕ) → Type 0 = Fits (c ∷ cs) in
    cond_both (c == 114) _ _ P (at_equal (λ x. Fits (x ∷ cs) (raw_or_word cs)) c 114 (r_fits cs)) (λ _.
    cond_both (c == 98) _ _ P (at_equal (λ x. Fits (x ∷ cs) (byte_or_word cs)) c 98 (b_fits cs)) (λ _.
    cond_both (c == 99) _ _ P (at_equal (λ x. Fits (x ∷ cs) (c_string_or_word cs)) c 99 (c_fits cs)) (λ _.
    plain_fits c cs w)))

-- a character that ends, or else a lifetime, fits
or_lifetime_fits : (cs : List ℕ) (o : Option ℕ) → FrontPasses (ends (Open InChar)) cs o → Fits (39 ∷ cs) (or_lifetime cs o)
or_lifetime_fits cs None h = behind_one is_word (Token Lifetime) 39 cs (word_len cs) (word_is cs) (λ s e. e)
or_lifetime_fits cs (Some n) h = longer_fits (Token (Literal Char)) 39 cs n h.2 h.0

-- what no blank, word, digit or comment begins fits
pub sign_fits : (c : ℕ) (cs : List ℕ) → Fits (c ∷ cs) (by_sign c cs)
sign_fits c cs =
    let P : Option (PieceKind × ℕ) → Type 0 = Fits (c ∷ cs) in
    cond_both (c == 34) _ _ P (at_equal (λ x. Fits (x ∷ cs) (longer_by 1 (Token (Literal Str)) (end_at (Open InStr) cs))) c 34
    (behind_one (ends (Open InStr)) (Token (Literal Str)) 34 cs (end_at (Open InStr) cs) (end_at_ends cs (Open InStr)) (λ s e. or_left _ _ e))) (λ _.
    cond_both (c == 39) _ _ P (at_equal (λ x. Fits (x ∷ cs) (by_quote cs)) c 39 (or_lifetime_fits cs (end_at (Open InChar) cs) (end_at_ends cs (Open InChar)))) (λ _.
    cond_both (is_punct c) _ _ P (λ e. (and_from _ _ e (eq-eqb c c refl), omega arith, omega arith)) (λ _.
    bracket_fits c cs)))
