-- The scan finds each piece by the first characters of a text.
use Rattle.std.proofs.Common.{◌≡◌, ℕ, Bool, true, false, ◌||◌, ◌&&◌, not, Option, Some, None, List, [], ◌∷◌, ◌++◌, length, refl, sym, ap, ◌∙◌, ⊎_elim, arith}
use Rattle.std.specs.Prelude.{◌==◌}
use Rattle.std.specs.List.{list_all}
use Rattle.std.specs.Char.{is_ascii, is_ascii_digit}
use Rattle.std.proofs.Math.Seq.{take-append_seam}
use Rattle.std.proofs.lemmas.Bool.{eqb-true, and_parts, and_left, and_right, or_parts, or_from, or_left, or_cases, false≢true, false_from_ne_true, not-true, cond_both, cond-true, cond-false}
use Rattle.unicode_ident.specs.Ident.{is_xid_continue}
use Rattle.unicode_ident.proofs.IdentLemmas.{is_xid_continue-ascii}
use Rattle.educe_tokens_pieces.specs.declared.kind.Bracket.{Bracket}
use Rattle.educe_tokens_pieces.specs.declared.kind.Bracket.TheVariants.{Round, Square, Curly}
use Rattle.educe_tokens_pieces.specs.declared.kind.LiteralKind.TheVariants.{Str, ByteStr, Char, Byte}
use Rattle.educe_tokens_pieces.specs.declared.kind.TokenKind.TheVariants.{Ident, Lifetime, Literal, Start, Stop}
use Rattle.educe_tokens_pieces.specs.declared.kind.UncarriedKind.TheVariants.{CStr}
use Rattle.educe_tokens_pieces.specs.declared.kind.PieceKind.{PieceKind}
use Rattle.educe_tokens_pieces.specs.declared.kind.PieceKind.TheVariants.{Blank, Token, Uncarried}
use Rattle.educe_tokens_pieces.specs.declared.quotes.Quote.TheVariants.{Str as InStr, ByteStr as InByteStr, CStr as InCStr, Char as InChar, Byte as InByte}
use Rattle.educe_tokens_pieces.specs.declared.quotes.Within.TheVariants.{Open}
use Rattle.educe_tokens_pieces.specs.Chars.{begins, is_blank, is_punct, is_word_start, is_slash_or_star}
use Rattle.educe_tokens_pieces.specs.Words.{is_word, is_raw_word, is_lifetime, touches_word, touches_lifetime, word_len, raw_word_len}
use Rattle.educe_tokens_pieces.specs.RawStrings.{is_raw, is_raw_str, is_raw_byte_str, is_raw_c_str, raw_len}
use Rattle.educe_tokens_pieces.specs.Machine.{end_at, is_str, is_byte_str, is_c_str, is_char, is_byte}
use Rattle.educe_tokens_pieces.specs.Comments.{opens_comment}
use Rattle.educe_tokens_pieces.specs.CommentScan.{comment_at}
use Rattle.educe_tokens_pieces.specs.Numbers.{number_at}
use Rattle.educe_tokens_pieces.specs.Pieces.{opener, closer}
use Rattle.educe_tokens_pieces.proofs.Classes.{word_start-ascii, at_equal, word_no_blank, digit_no_blank, digit_no_word, word_continues, continue_no_mark, mark_parts, punct_no_blank, punct_no_digit, punct_no_word, punct_no_quote, prefix_len-append}
use Rattle.educe_tokens_pieces.proofs.WordLaws.{is_rawable, word_found, raw_word_found}
use Rattle.educe_tokens_pieces.proofs.Ends.{ends_found}
use Rattle.educe_tokens_pieces.proofs.Quoted.{str_parts, byte_str_parts, c_str_parts, char_parts, byte_parts, char_none}
use Rattle.educe_tokens_pieces.proofs.RawStrings.{raw_found, raw_begins, raw_str_parts, raw_byte_str_parts, raw_c_str_parts}
use Rattle.educe_tokens_pieces.proofs.Lists.{same_length}
use Rattle.educe_tokens_scan.specs.Scan.{longer_by, punct_at, plain_word, is_quote_or_hash, opens_raw, opens_prefixed_raw, opens_raw_word, if_ascii, raw_ascii_len, by_word, or_lifetime, by_quote, candidate}
use Rattle.educe_tokens_scan.proofs.Fitting.{behind_one_found, behind_two_found}

-- where a blank begins the text, it is the candidate
pub at_blank : (c : ℕ) (cs : List ℕ) → is_blank c ≡ true → candidate (c ∷ cs) ≡ Some (Blank, 1)
at_blank c cs a = rw a refl

-- where a word begins the text, the candidate is what its first character begins
at_word : (c : ℕ) (cs : List ℕ) → is_word_start c ≡ true → candidate (c ∷ cs) ≡ by_word c cs
at_word c cs b = let a = word_no_blank c b in rw (a, b) refl

-- where a digit begins the text, the candidate is the number
pub at_digit : (s r : List ℕ) → begins is_ascii_digit s ≡ true → candidate (s ++ r) ≡ number_at (s ++ r)
at_digit [] r d = absurd (false≢true d)
at_digit (c ∷ cs) r d =
    cond-false (is_blank c) _ _ (digit_no_blank c d) ∙ cond-false (is_word_start c) _ _ (digit_no_word c d) ∙ cond-true (is_ascii_digit c) _ _ d

-- where `/` and `/` or `*` begin the text, the candidate is the comment
at_slash : (d : ℕ) (cs : List ℕ) → is_slash_or_star d ≡ true → candidate (47 ∷ d ∷ cs) ≡ comment_at (47 ∷ d ∷ cs)
at_slash d cs h = let w = word_start-ascii 47 (omega arith) in rw (w, h) refl

-- where a comment opens the text, it is the candidate
pub at_comment : (s r : List ℕ) → opens_comment s ≡ true → candidate (s ++ r) ≡ comment_at (s ++ r)
at_comment [] r h = absurd (false≢true h)
at_comment (c ∷ []) r h = absurd (false≢true (sym (and_right (c == 47) false refl) ∙ h))
at_comment (c ∷ d ∷ cs) r h =
    let p = and_parts (c == 47) _ h in
    at_equal (λ x. candidate (x ∷ d ∷ (cs ++ r)) ≡ comment_at (x ∷ d ∷ (cs ++ r))) c 47 (at_slash d (cs ++ r) p.1) p.0

-- where a punct begins the text that opens no comment, it is the candidate
pub at_punct : (c : ℕ) (cs : List ℕ) → is_punct c ≡ true → not ((c == 47) && begins is_slash_or_star cs) ≡ true → candidate (c ∷ cs) ≡ punct_at c cs
at_punct c cs h m =
    let a = punct_no_blank c h in
    let b = punct_no_word c h in
    let d = punct_no_digit c h in
    let e = not-true _ m in
    let q = punct_no_quote c h in
    rw (a, b, d, e, q.0, q.1, h) refl

-- where an opening bracket begins the text, it is the candidate
pub at_opener : (b : Bracket) (cs : List ℕ) → candidate (opener b ∷ cs) ≡ Some (Token (Start b), 1)
at_opener Round cs = let b = word_start-ascii 40 (omega arith) in rw b refl
at_opener Square cs = let b = word_start-ascii 91 (omega arith) in rw b refl
at_opener Curly cs = let b = word_start-ascii 123 (omega arith) in rw b refl

-- where a closing bracket begins the text, it is the candidate
pub at_closer : (b : Bracket) (cs : List ℕ) → candidate (closer b ∷ cs) ≡ Some (Token (Stop b), 1)
at_closer Round cs = let b = word_start-ascii 41 (omega arith) in rw b refl
at_closer Square cs = let b = word_start-ascii 93 (omega arith) in rw b refl
at_closer Curly cs = let b = word_start-ascii 125 (omega arith) in rw b refl

-- what begins with neither of two classes doesn't begin with the first
begins_first : (p q : ℕ → Bool) (r : List ℕ) → begins (λ c. p c || q c) r ≡ false → begins p r ≡ false
begins_first p q [] h = refl
begins_first p q (c ∷ r) h = (or_parts (p c) (q c) h).0

-- neither a quote nor `#` stands at the front
abbrev pub NoMark : List ℕ → Type 0
NoMark text = begins (λ c. (c == 34) || (c == 39) || (c == 35)) text ≡ false

-- none stands behind a front of a word, where what follows doesn't touch it
behind_word : (cs r : List ℕ) → list_all is_xid_continue cs ≡ true → begins touches_word r ≡ false → NoMark (cs ++ r)
behind_word [] [] h m = refl
behind_word [] (d ∷ r) h m = (or_parts (is_xid_continue d) _ m).1
behind_word (d ∷ cs) r h m = continue_no_mark d (and_parts (is_xid_continue d) _ h).0

-- no raw string continues where neither a quote nor `#` stands behind the word
no_mark_no_raw : (text : List ℕ) → NoMark text → opens_raw text ≡ false
no_mark_no_raw [] h = refl
no_mark_no_raw (c ∷ cs) h = let p = or_parts (c == 34) (c == 35) (mark_parts c h).0 in or_from _ _ p.0 (and_left _ _ p.1)

-- what does not go on with a word is no `r`
no_r : (d : ℕ) → is_xid_continue d ≡ false → (d == 114) ≡ false
no_r d h = false_from_ne_true _ (λ e. false≢true (sym h ∙ at_equal (λ x. is_xid_continue x ≡ true) d 114 (is_xid_continue-ascii 114 (omega arith)) e))

-- no prefixed raw string continues behind a word that nothing touches
no_prefixed_raw : (cs r : List ℕ) → list_all is_xid_continue cs ≡ true → begins touches_word r ≡ false → opens_prefixed_raw (cs ++ r) ≡ false
no_prefixed_raw [] [] h m = refl
no_prefixed_raw [] (d ∷ r) h m = and_left _ _ (no_r d (or_parts (is_xid_continue d) _ m).0)
no_prefixed_raw (d ∷ cs) r h m = and_right (d == 114) _ (no_mark_no_raw (cs ++ r) (behind_word cs r (and_parts (is_xid_continue d) _ h).1 m))

-- the text continues a word and nothing else: no raw string, raw word or quoted literal
pub record IsApart (text : List ℕ) : Type 0 where
  pub raw : opens_raw text ≡ false
  pub prefixed : opens_prefixed_raw text ≡ false
  pub word : opens_raw_word text ≡ false
  pub double : begins (λ c. c == 34) text ≡ false
  pub single : begins (λ c. c == 39) text ≡ false

-- a text where neither a quote nor `#` follows, nor a prefixed raw string, continues a word and nothing else
no_mark_apart : (text : List ℕ) → NoMark text → opens_prefixed_raw text ≡ false → IsApart text
no_mark_apart [] h p = record { raw = refl; prefixed = p; word = refl; double = refl; single = refl }
no_mark_apart (c ∷ cs) h p =
    let marks = mark_parts c h in
    let either = or_parts (c == 34) (c == 35) marks.0 in
    record { raw = no_mark_no_raw (c ∷ cs) h; prefixed = p; word = and_left _ _ either.1; double = either.0; single = marks.1 }

-- a word is found, where nothing else goes on there
plain_found : (c : ℕ) (cs : List ℕ) → IsApart cs → by_word c cs ≡ plain_word cs
plain_found c cs h =
    let P : Option (PieceKind × ℕ) → Type 0 = λ o. o ≡ plain_word cs in
    let a = h.raw in
    let b = h.prefixed in
    let d = h.word in
    let e = h.double in
    let f = h.single in
    cond_both (c == 114) _ _ P (λ _. rw (a, d) refl) (λ _.
    cond_both (c == 98) _ _ P (λ _. rw (f, e, b) refl) (λ _.
    cond_both (c == 99) _ _ P (λ _. rw (e, b) refl) (λ _. refl)))

-- a word that may stand before the rest is the candidate of the whole
pub word_finds : (s r : List ℕ) → is_word s ≡ true → not (begins touches_word r) ≡ true → candidate (s ++ r) ≡ Some (Token Ident, length s)
word_finds [] r h m = absurd (false≢true h)
word_finds (c ∷ cs) r h m =
    let p = and_parts (is_word_start c) _ h in
    let apart = not-true _ m in
    let n = prefix_len-append is_xid_continue cs r p.1 (begins_first is_xid_continue _ r apart) in
    at_word c (cs ++ r) p.0 ∙ plain_found c (cs ++ r) (no_mark_apart (cs ++ r) (behind_word cs r p.1 apart) (no_prefixed_raw cs r p.1 apart))
    ∙ same_length (Token Ident) _ _ (omega arith)

-- behind `r#` a word goes on with a raw word, and with no raw string
word_opens : (s r : List ℕ) → is_word s ≡ true → (begins is_word_start (s ++ r) ≡ true) × (begins is_quote_or_hash (s ++ r) ≡ false)
word_opens [] r h = absurd (false≢true h)
word_opens (c ∷ cs) r h = let w = (and_parts (is_word_start c) _ h).0 in (w, (mark_parts c (continue_no_mark c (word_continues c w))).0)

-- where `r#` and a word begin the text, the candidate is the raw word
at_raw_word : (text : List ℕ) → begins is_word_start text ≡ true → begins is_quote_or_hash text ≡ false → candidate (114 ∷ 35 ∷ text) ≡ longer_by 2 (Token Ident) (raw_word_len text)
at_raw_word text a b = let w = word_start-ascii 114 (omega arith) in rw (w, b, a) refl

-- a raw word is `r#` and a word that may be raw
pub raw_word_parts : (s : List ℕ) → is_raw_word s ≡ true → (cs : List ℕ) × (s ≡ 114 ∷ 35 ∷ cs) × (is_rawable cs ≡ true)
raw_word_parts [] h = absurd (false≢true h)
raw_word_parts (c ∷ []) h = absurd (false≢true h)
raw_word_parts (c ∷ d ∷ cs) h =
    let p = and_parts ((c == 114) && (d == 35)) _ h in
    let q = and_parts (c == 114) (d == 35) p.0 in
    (cs, λ i. eqb-true c 114 q.0 i ∷ eqb-true d 35 q.1 i ∷ cs, p.1)

-- a raw word that may stand before the rest is the candidate of the whole
pub raw_word_finds : (s r : List ℕ) → is_raw_word s ≡ true → not (begins touches_word r) ≡ true → candidate (s ++ r) ≡ Some (Token Ident, length s)
raw_word_finds s r h m =
    let p = raw_word_parts s h in
    let opens = word_opens p.0 r (and_parts (is_word p.0) _ p.2).0 in
    behind_two_found (Token Ident) 114 35 s p.0 r (raw_word_len (p.0 ++ r)) p.1 (at_raw_word (p.0 ++ r) opens.0 opens.1)
    (raw_word_found p.0 r p.2 (begins_first is_xid_continue _ r (not-true _ m)))

-- where a `'` begins the text, the candidate is a character or a lifetime
at_quote : (cs : List ℕ) → candidate (39 ∷ cs) ≡ by_quote cs
at_quote cs = let w = word_start-ascii 39 (omega arith) in rw w refl

-- no `'` stands behind a front of a lifetime, where what follows doesn't touch it
behind_lifetime : (cs r : List ℕ) → list_all is_xid_continue cs ≡ true → begins touches_lifetime r ≡ false → begins (λ c. c == 39) (cs ++ r) ≡ false
behind_lifetime [] [] h m = refl
behind_lifetime [] (d ∷ r) h m = (or_parts (is_xid_continue d) _ m).1
behind_lifetime (d ∷ cs) r h m = (mark_parts d (continue_no_mark d (and_parts (is_xid_continue d) _ h).0)).1

-- no character ends where a word stands that no `'` touches
lifetime_no_char : (s r : List ℕ) → is_word s ≡ true → begins touches_lifetime r ≡ false → end_at (Open InChar) (s ++ r) ≡ None
lifetime_no_char [] r h m = absurd (false≢true h)
lifetime_no_char (c ∷ cs) r h m = let p = and_parts (is_word_start c) _ h in char_none c (cs ++ r) p.0 (behind_lifetime cs r p.1 m)

-- a lifetime that may stand before the rest is the candidate of the whole
pub lifetime_finds : (s r : List ℕ) → is_lifetime s ≡ true → not (begins touches_lifetime r) ≡ true → candidate (s ++ r) ≡ Some (Token Lifetime, length s)
lifetime_finds [] r h m = absurd (false≢true h)
lifetime_finds (c ∷ cs) r h m =
    let p = and_parts (c == 39) _ h in
    let apart = not-true _ m in
    behind_one_found (Token Lifetime) 39 (c ∷ cs) cs r (word_len (cs ++ r)) (λ i. eqb-true c 39 p.0 i ∷ cs)
    (at_quote (cs ++ r) ∙ ap (or_lifetime (cs ++ r)) (lifetime_no_char cs r p.1 apart)) (word_found cs r p.1 (begins_first is_xid_continue _ r apart))

-- a character is the candidate of the whole
pub char_finds : (s r : List ℕ) → is_char s ≡ true → candidate (s ++ r) ≡ Some (Token (Literal Char), length s)
char_finds s r h =
    let p = char_parts s h in
    let found = ends_found p.0 r (Open InChar) p.2 in
    behind_one_found (Token (Literal Char)) 39 s p.0 r (Some (length p.0)) p.1 (at_quote (p.0 ++ r) ∙ ap (or_lifetime (p.0 ++ r)) found) refl

-- where a `"` begins the text, the candidate is the string
at_str : (cs : List ℕ) → candidate (34 ∷ cs) ≡ longer_by 1 (Token (Literal Str)) (end_at (Open InStr) cs)
at_str cs = let w = word_start-ascii 34 (omega arith) in rw w refl

-- a string is the candidate of the whole
pub str_finds : (s r : List ℕ) → is_str s ≡ true → candidate (s ++ r) ≡ Some (Token (Literal Str), length s)
str_finds s r h =
    let p = str_parts s h in
    behind_one_found (Token (Literal Str)) 34 s p.0 r (end_at (Open InStr) (p.0 ++ r)) p.1 (at_str (p.0 ++ r)) (ends_found p.0 r (Open InStr) p.2)

-- where `b'` begins the text, the candidate is the byte
at_byte : (text : List ℕ) → candidate (98 ∷ 39 ∷ text) ≡ longer_by 2 (Token (Literal Byte)) (end_at (Open InByte) text)
at_byte text = let w = word_start-ascii 98 (omega arith) in rw w refl

-- a byte is the candidate of the whole
pub byte_finds : (s r : List ℕ) → is_byte s ≡ true → candidate (s ++ r) ≡ Some (Token (Literal Byte), length s)
byte_finds s r h =
    let p = byte_parts s h in
    behind_two_found (Token (Literal Byte)) 98 39 s p.0 r (end_at (Open InByte) (p.0 ++ r)) p.1 (at_byte (p.0 ++ r)) (ends_found p.0 r (Open InByte) p.2)

-- where `b"` begins the text, the candidate is the byte string
at_byte_str : (text : List ℕ) → candidate (98 ∷ 34 ∷ text) ≡ longer_by 2 (Token (Literal ByteStr)) (end_at (Open InByteStr) text)
at_byte_str text = let w = word_start-ascii 98 (omega arith) in rw w refl

-- a byte string is the candidate of the whole
pub byte_str_finds : (s r : List ℕ) → is_byte_str s ≡ true → candidate (s ++ r) ≡ Some (Token (Literal ByteStr), length s)
byte_str_finds s r h =
    let p = byte_str_parts s h in
    behind_two_found (Token (Literal ByteStr)) 98 34 s p.0 r (end_at (Open InByteStr) (p.0 ++ r)) p.1 (at_byte_str (p.0 ++ r)) (ends_found p.0 r (Open InByteStr) p.2)

-- where `c"` begins the text, the candidate is the C string
at_c_str : (text : List ℕ) → candidate (99 ∷ 34 ∷ text) ≡ longer_by 2 (Uncarried CStr) (end_at (Open InCStr) text)
at_c_str text = let w = word_start-ascii 99 (omega arith) in rw w refl

-- a C string is the candidate of the whole
pub c_str_finds : (s r : List ℕ) → is_c_str s ≡ true → candidate (s ++ r) ≡ Some (Uncarried CStr, length s)
c_str_finds s r h =
    let p = c_str_parts s h in
    behind_two_found (Uncarried CStr) 99 34 s p.0 r (end_at (Open InCStr) (p.0 ++ r)) p.1 (at_c_str (p.0 ++ r)) (ends_found p.0 r (Open InCStr) p.2)

-- what goes on as a raw string does so before any rest
opens_raw-append : (s r : List ℕ) → opens_raw s ≡ true → opens_raw (s ++ r) ≡ true
opens_raw-append [] r h = absurd (false≢true h)
opens_raw-append (c ∷ []) r h = ⊎_elim (λ e. or_left _ _ e) (λ e. absurd (false≢true (sym (and_right (c == 35) false refl) ∙ e))) (or_cases (c == 34) ((c == 35) && false) h)
opens_raw-append (c ∷ d ∷ cs) r h = h

-- a raw text goes on as a raw string does
raw_opens : (s r : List ℕ) → is_raw s ≡ true → opens_raw (s ++ r) ≡ true
raw_opens [] r h = absurd (false≢true h)
raw_opens (c ∷ cs) r h = opens_raw-append (c ∷ cs) r (raw_begins (c ∷ cs) h)

-- where `r` and a raw text begin the text, the candidate is the raw string
at_raw : (text : List ℕ) → opens_raw text ≡ true → candidate (114 ∷ text) ≡ longer_by 1 (Token (Literal Str)) (raw_len text)
at_raw text h = let w = word_start-ascii 114 (omega arith) in rw (w, h) refl

-- a raw string is the candidate of the whole
pub raw_str_finds : (s r : List ℕ) → is_raw_str s ≡ true → candidate (s ++ r) ≡ Some (Token (Literal Str), length s)
raw_str_finds s r h =
    let p = raw_str_parts s h in
    behind_one_found (Token (Literal Str)) 114 s p.0 r (raw_len (p.0 ++ r)) p.1 (at_raw (p.0 ++ r) (raw_opens p.0 r p.2)) (raw_found p.0 r p.2)

-- where `br` and a raw text begin the text, the candidate is the raw byte string
at_raw_byte : (text : List ℕ) → opens_raw text ≡ true → candidate (98 ∷ 114 ∷ text) ≡ longer_by 2 (Token (Literal ByteStr)) (raw_ascii_len text)
at_raw_byte text h = let w = word_start-ascii 98 (omega arith) in rw (w, h) refl

-- where `cr` and a raw text begin the text, the candidate is the raw C string
at_raw_c : (text : List ℕ) → opens_raw text ≡ true → candidate (99 ∷ 114 ∷ text) ≡ longer_by 2 (Uncarried CStr) (raw_len text)
at_raw_c text h = let w = word_start-ascii 99 (omega arith) in rw (w, h) refl

-- the length of a raw text of ASCII characters is found
raw_ascii_found : (s r : List ℕ) → is_raw s ≡ true → list_all is_ascii s ≡ true → raw_ascii_len (s ++ r) ≡ Some (length s)
raw_ascii_found s r h e = ap (if_ascii (s ++ r)) (raw_found s r h) ∙ rw (take-append_seam s r, e) refl

-- a raw byte string is the candidate of the whole
pub raw_byte_str_finds : (s r : List ℕ) → is_raw_byte_str s ≡ true → candidate (s ++ r) ≡ Some (Token (Literal ByteStr), length s)
raw_byte_str_finds s r h =
    let p = raw_byte_str_parts s h in
    behind_two_found (Token (Literal ByteStr)) 98 114 s p.0 r (raw_ascii_len (p.0 ++ r)) p.1 (at_raw_byte (p.0 ++ r) (raw_opens p.0 r p.2)) (raw_ascii_found p.0 r p.2 p.3)

-- a raw C string is the candidate of the whole
pub raw_c_str_finds : (s r : List ℕ) → is_raw_c_str s ≡ true → candidate (s ++ r) ≡ Some (Uncarried CStr, length s)
raw_c_str_finds s r h =
    let p = raw_c_str_parts s h in
    behind_two_found (Uncarried CStr) 99 114 s p.0 r (raw_len (p.0 ++ r)) p.1 (at_raw_c (p.0 ++ r) (raw_opens p.0 r p.2)) (raw_found p.0 r p.2)
