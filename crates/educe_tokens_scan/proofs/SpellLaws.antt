-- What the tests of pieces find to be spelled is spelled so, and what is spelled so passes them.
use Rattle.std.proofs.Common.{◌≡◌, ℕ, true, false, ◌||◌, ◌&&◌, not, ◌⊎◌, inl, inr, List, [], ◌∷◌, drop, refl, sym, ap, ◌∙◌, ⊎_elim}
use Rattle.std.specs.Prelude.{◌==◌}
use Rattle.std.specs.List.{list_all}
use Rattle.std.specs.Char.{is_ascii}
use Rattle.std.proofs.lemmas.Bool.{and_parts, and_from, or_parts, or_from, or_cases, or_left, or_right, not-true, not_from_false, false≢true, false_from_ne_true, eqb-true, eq-eqb}
use Rattle.educe_tokens_pieces.specs.declared.kind.LiteralKind.{LiteralKind}
use Rattle.educe_tokens_pieces.specs.declared.kind.LiteralKind.TheVariants.{Int, Str, ByteStr, Char, Byte}
use Rattle.educe_tokens_pieces.specs.declared.kind.TokenKind.{TokenKind}
use Rattle.educe_tokens_pieces.specs.declared.kind.TokenKind.TheVariants.{Ident, Lifetime, Literal, Punct, Start, Stop, Doc}
use Rattle.educe_tokens_pieces.specs.declared.kind.UncarriedKind.{UncarriedKind}
use Rattle.educe_tokens_pieces.specs.declared.kind.UncarriedKind.TheVariants.{Float, WideInt, CStr}
use Rattle.educe_tokens_pieces.specs.declared.kind.PieceKind.{PieceKind}
use Rattle.educe_tokens_pieces.specs.declared.kind.PieceKind.TheVariants.{Blank, Comment, Token, Uncarried}
use Rattle.educe_tokens_pieces.specs.declared.quotes.Quote.{Quote}
use Rattle.educe_tokens_pieces.specs.declared.quotes.Quote.TheVariants.{Str as InStr, ByteStr as InByteStr, CStr as InCStr, Char as InChar, Byte as InByte}
use Rattle.educe_tokens_pieces.specs.Chars.{begins, is_only, is_punct, is_slash_or_star}
use Rattle.educe_tokens_pieces.specs.Words.{is_word, is_raw_word, is_lifetime}
use Rattle.educe_tokens_pieces.specs.Quotes.{closing}
use Rattle.educe_tokens_pieces.specs.Machine.{is_quoted, is_prefixed, is_str, is_byte_str, is_c_str}
use Rattle.educe_tokens_pieces.specs.RawStrings.{is_raw_str, is_raw_byte_str, is_raw_c_str}
use Rattle.educe_tokens_pieces.specs.Comments.{is_line, is_block, opens_line_doc, opens_block_doc, opens_inner, is_line_doc, is_block_doc, is_line_comment, is_block_comment, is_doc, is_comment}
use Rattle.educe_tokens_pieces.specs.Pieces.{opener, closer, spells, spells_uncarried, is_piece}
use Rattle.educe_tokens_pieces.specs.Spells.{BeginsWith, BeginsNot, IsWord, IsRawWord, IsLifetime, IsQuoted, IsRaw, IsLineOf, IsBlockOf, DocumentsLine, DocumentsBlock, IsLineDoc, IsBlockDoc, IsLineComment, IsBlockComment, Spells, SpellsUncarried, IsPieceOf}
use Rattle.educe_tokens_pieces.proofs.Classes.{at_equal, only_is}
use Rattle.educe_tokens_pieces.proofs.Bodies.{body_ends, ends_body}
use Rattle.educe_tokens_pieces.proofs.Quoted.{quoted_parts, prefixed_parts, quoted_from, prefixed_from}
use Rattle.educe_tokens_pieces.proofs.RawStrings.{raw_str_of, raw_str_from}
use Rattle.educe_tokens_pieces.proofs.IntegerSpells.{int_spelled, int_tested, wide_int_spelled, wide_int_tested}
use Rattle.educe_tokens_pieces.proofs.FloatSpells.{float_spelled, float_tested}
use Rattle.educe_tokens_pieces.proofs.BlockLaws.{block_closes, closes_counted}
use Rattle.educe_tokens_scan.proofs.FrontFinds.{raw_word_parts}

-- what the test finds to be a word is one
word_spelled : (s : List ℕ) → is_word s ≡ true → IsWord s
word_spelled [] h = absurd (false≢true h)
word_spelled (c ∷ cs) h = let p = and_parts _ _ h in record { first = c; more = cs; is = refl; starts = p.0; continues = p.1 }

-- each word passes the test
word_tested : (s : List ℕ) → IsWord s → is_word s ≡ true
word_tested s w = ap is_word w.is ∙ and_from _ _ w.starts w.continues

-- what the test finds to be a raw word is one
raw_word_spelled : (s : List ℕ) → is_raw_word s ≡ true → IsRawWord s
raw_word_spelled s h =
    let p = raw_word_parts s h in
    let q = and_parts (is_word p.0) _ p.2 in
    record { word = p.0; is = p.1; own = word_spelled p.0 q.0; rawable = q.1 }

-- each raw word passes the test
raw_word_tested : (s : List ℕ) → IsRawWord s → is_raw_word s ≡ true
raw_word_tested s w = ap is_raw_word w.is ∙ and_from ((114 == 114) && (35 == 35)) _ refl (and_from _ _ (word_tested w.word w.own) w.rawable)

-- what the test finds to be a lifetime is one
lifetime_spelled : (s : List ℕ) → is_lifetime s ≡ true → IsLifetime s
lifetime_spelled [] h = absurd (false≢true h)
lifetime_spelled (c ∷ cs) h =
    let p = and_parts (c == 39) _ h in
    record { word = cs; is = ap (λ x. x ∷ cs) (eqb-true c 39 p.0); own = word_spelled cs p.1 }

-- each lifetime passes the test
lifetime_tested : (s : List ℕ) → IsLifetime s → is_lifetime s ≡ true
lifetime_tested s w = ap is_lifetime w.is ∙ and_from (39 == 39) _ refl (word_tested w.word w.own)

-- what the test finds to be a literal between quotes is one
quoted_spelled : (q : Quote) (s : List ℕ) → is_quoted q (closing q) s ≡ true → IsQuoted [] q s
quoted_spelled q s h =
    let p = quoted_parts q (closing q) s h in
    let b = ends_body q p.0 p.2 in
    record { body = p.0; parts = b.0; is = p.1; holds = b.1 }

-- each quoted literal passes the test
quoted_tested : (q : Quote) (s : List ℕ) → IsQuoted [] q s → is_quoted q (closing q) s ≡ true
quoted_tested q s w = ap (is_quoted q (closing q)) w.is ∙ quoted_from q (closing q) w.body (body_ends q w.body w.parts w.holds).0

-- what the test finds to be one behind a letter is one
prefixed_spelled : (letter : ℕ) (q : Quote) (s : List ℕ) → is_prefixed letter q (closing q) s ≡ true → IsQuoted (letter ∷ []) q s
prefixed_spelled letter q s h =
    let p = prefixed_parts letter q (closing q) s h in
    let b = ends_body q p.0 p.2 in
    record { body = p.0; parts = b.0; is = p.1; holds = b.1 }

-- each prefixed quoted literal passes the test
prefixed_tested : (letter : ℕ) (q : Quote) (s : List ℕ) → IsQuoted (letter ∷ []) q s → is_prefixed letter q (closing q) s ≡ true
prefixed_tested letter q s w = ap (is_prefixed letter q (closing q)) w.is ∙ prefixed_from letter q (closing q) w.body (body_ends q w.body w.parts w.holds).0

-- what the test finds to be a raw string is one
raw_spelled : (s : List ℕ) → is_raw_str s ≡ true → IsRaw [] s
raw_spelled s h = let v = raw_str_of s h in record { raw = s; value = v.0; is = refl; own = v.1 }

-- each raw string passes the test
raw_tested : (s : List ℕ) → IsRaw [] s → is_raw_str s ≡ true
raw_tested s w = ap is_raw_str w.is ∙ raw_str_from w.raw w.value w.own

-- a letter before a raw string
lettered : (letter c : ℕ) (cs : List ℕ) → (c == letter) ≡ true → is_raw_str cs ≡ true → IsRaw (letter ∷ []) (c ∷ cs)
lettered letter c cs e h = let v = raw_str_of cs h in record { raw = cs; value = v.0; is = ap (λ x. x ∷ cs) (eqb-true c letter e); own = v.1 }

-- what the test finds to be a raw byte string is one, of ASCII characters
raw_byte_spelled : (s : List ℕ) → is_raw_byte_str s ≡ true → IsRaw (98 ∷ []) s × (list_all is_ascii s ≡ true)
raw_byte_spelled [] h = absurd (false≢true h)
raw_byte_spelled (c ∷ cs) h =
    let p = and_parts (c == 98) _ h in
    let q = and_parts (is_raw_str cs) _ p.1 in
    (lettered 98 c cs p.0 q.0, and_from (is_ascii c) _ (at_equal (λ x. is_ascii x ≡ true) c 98 refl p.0) q.1)

-- each raw byte string passes the test
raw_byte_tested : (s : List ℕ) → IsRaw (98 ∷ []) s → list_all is_ascii s ≡ true → is_raw_byte_str s ≡ true
raw_byte_tested s w a =
    let ascii = and_parts (is_ascii 98) _ (ap (list_all is_ascii) (sym w.is) ∙ a) in
    ap is_raw_byte_str w.is ∙ and_from (98 == 98) _ refl (and_from _ _ (raw_str_from w.raw w.value w.own) ascii.1)

-- what the test finds to be a raw C string is one
raw_c_spelled : (s : List ℕ) → is_raw_c_str s ≡ true → IsRaw (99 ∷ []) s
raw_c_spelled [] h = absurd (false≢true h)
raw_c_spelled (c ∷ cs) h = let p = and_parts (c == 99) _ h in lettered 99 c cs p.0 p.1

-- each raw C string passes the test
raw_c_tested : (s : List ℕ) → IsRaw (99 ∷ []) s → is_raw_c_str s ≡ true
raw_c_tested s w = ap is_raw_c_str w.is ∙ and_from (99 == 99) _ refl (raw_str_from w.raw w.value w.own)

-- what the test finds to be a line is one
line_spelled : (s : List ℕ) → is_line s ≡ true → IsLineOf s (drop 2 s)
line_spelled [] h = absurd (false≢true h)
line_spelled (c ∷ []) h = absurd (false≢true h)
line_spelled (c ∷ d ∷ cs) h =
    let p = and_parts ((c == 47) && (d == 47)) _ h in
    let q = and_parts (c == 47) (d == 47) p.0 in
    record { is = λ i. eqb-true c 47 q.0 i ∷ eqb-true d 47 q.1 i ∷ cs; one = p.1 }

-- each line comment passes the test
line_tested : (s line : List ℕ) → IsLineOf s line → is_line s ≡ true
line_tested s line w = ap is_line w.is ∙ and_from ((47 == 47) && (47 == 47)) _ refl w.one

-- what the test finds to be a block is one
block_spelled : (s : List ℕ) → is_block s ≡ true → IsBlockOf s (drop 2 s)
block_spelled [] h = absurd (false≢true h)
block_spelled (c ∷ []) h = absurd (false≢true h)
block_spelled (c ∷ d ∷ cs) h =
    let p = and_parts ((c == 47) && (d == 42)) _ h in
    let q = and_parts (c == 47) (d == 42) p.0 in
    record { is = λ i. eqb-true c 47 q.0 i ∷ eqb-true d 42 q.1 i ∷ cs; closes = block_closes cs p.1 }

-- each block comment passes the test
block_tested : (s inside : List ℕ) → IsBlockOf s inside → is_block s ≡ true
block_tested s inside w = ap is_block w.is ∙ and_from ((47 == 47) && (42 == 42)) _ refl (closes_counted inside w.closes)

-- what the test finds to begin with a character begins with it
begins_is : (a : ℕ) (s : List ℕ) → begins (λ c. c == a) s ≡ true → BeginsWith (a ∷ []) s
begins_is a [] h = absurd (false≢true h)
begins_is a (c ∷ cs) h = (cs, ap (λ x. x ∷ cs) (eqb-true c a h))

-- what it finds not to, does not
begins_not : (a : ℕ) (s : List ℕ) → begins (λ c. c == a) s ≡ false → BeginsNot (a ∷ []) s
begins_not a s h = λ m. false≢true (sym h ∙ ap (begins (λ c. c == a)) m.1 ∙ eq-eqb a a refl)

-- a text that doesn't begin with the character fails the test
begins_none : (a : ℕ) (s : List ℕ) → BeginsNot (a ∷ []) s → begins (λ c. c == a) s ≡ false
begins_none a s h = false_from_ne_true _ (λ e. h (begins_is a s e))

-- what the test finds to make a line documentation does
line_documents : (s : List ℕ) → opens_line_doc s ≡ true → DocumentsLine s
line_documents [] h = absurd (false≢true h)
line_documents (c ∷ cs) h =
    let p = and_parts (c == 47) _ h in
    (begins_is 47 (c ∷ cs) p.0, λ m. false≢true (sym (not-true _ p.1) ∙ ap (λ t. begins (λ d. d == 47) (drop 1 t)) m.1))

-- a line that documents passes the test
documents_line : (s : List ℕ) → DocumentsLine s → opens_line_doc s ≡ true
documents_line s h =
    let none = begins_none 47 h.0.0 (λ m. h.1 (m.0, h.0.1 ∙ ap (λ t. 47 ∷ t) m.1)) in
    ap opens_line_doc h.0.1 ∙ and_from (47 == 47) _ refl (not_from_false _ none)

-- what the test finds to make a block documentation does
block_documents : (s : List ℕ) → opens_block_doc s ≡ true → DocumentsBlock s
block_documents [] h = absurd (false≢true h)
block_documents (c ∷ cs) h =
    let p = and_parts (c == 42) _ h in
    let none = not-true _ p.1 in (
      begins_is 42 (c ∷ cs) p.0,
      λ m. false≢true (sym none ∙ ap (λ t. begins is_slash_or_star (drop 1 t)) m.1),
      λ m. false≢true (sym none ∙ ap (λ t. begins is_slash_or_star (drop 1 t)) m.1),
    )

-- neither of two characters begins the text
begins_neither : (s : List ℕ) → BeginsNot (42 ∷ []) s → BeginsNot (47 ∷ []) s → begins is_slash_or_star s ≡ false
begins_neither [] star slash = refl
begins_neither (c ∷ cs) star slash = or_from (c == 47) (c == 42) (begins_none 47 (c ∷ cs) slash) (begins_none 42 (c ∷ cs) star)

-- a block that documents passes the test
documents_block : (s : List ℕ) → DocumentsBlock s → opens_block_doc s ≡ true
documents_block s h =
    let behind : (a : ℕ) → BeginsNot (42 ∷ a ∷ []) s → BeginsNot (a ∷ []) h.0.0 = λ a no m. no (m.0, h.0.1 ∙ ap (λ t. 42 ∷ t) m.1) in
    let none = begins_neither h.0.0 (behind 42 h.1) (behind 47 h.2) in
    ap opens_block_doc h.0.1 ∙ and_from (42 == 42) _ refl (not_from_false _ none)

-- what the test finds to be documentation is
doc_spelled : (s : List ℕ) → is_doc s ≡ true → IsLineDoc s ⊎ IsBlockDoc s
doc_spelled s h =
    ⊎_elim (λ l. let p = and_parts (is_line s) _ l in inl (drop 2 s, line_spelled s p.0, line_documents (drop 2 s) p.1))
    (λ b. let p = and_parts (is_block s) _ b in inr (drop 2 s, block_spelled s p.0, block_documents (drop 2 s) p.1))
    (or_cases (is_line_doc s) (is_block_doc s) h)

-- all documentation passes the test
doc_tested : (s : List ℕ) → IsLineDoc s ⊎ IsBlockDoc s → is_doc s ≡ true
doc_tested s h =
    ⊎_elim (λ l. or_left _ _ (and_from (is_line s) _ (line_tested s l.0 l.1) (ap (λ t. opens_line_doc (drop 2 t)) l.1.is ∙ documents_line l.0 l.2)))
    (λ b. or_right _ _ (and_from (is_block s) _ (block_tested s b.0 b.1) (ap (λ t. opens_block_doc (drop 2 t)) b.1.is ∙ documents_block b.0 b.2)))
    h

-- what the test finds to be a comment is one
comment_spelled : (s : List ℕ) → is_comment s ≡ true → IsLineComment s ⊎ IsBlockComment s
comment_spelled s h =
    ⊎_elim (λ l.
    let p = and_parts (is_line s) _ l in
    let none = or_parts (opens_line_doc (drop 2 s)) (opens_inner (drop 2 s)) (not-true _ p.1) in
    inl (drop 2 s, line_spelled s p.0, λ d. false≢true (sym none.0 ∙ documents_line (drop 2 s) d), begins_not 33 (drop 2 s) none.1))
    (λ b.
    let p = and_parts (is_block s) _ b in
    let none = or_parts (opens_block_doc (drop 2 s)) (opens_inner (drop 2 s)) (not-true _ p.1) in
    inr (drop 2 s, block_spelled s p.0, λ d. false≢true (sym none.0 ∙ documents_block (drop 2 s) d), begins_not 33 (drop 2 s) none.1))
    (or_cases (is_line_comment s) (is_block_comment s) h)

-- each comment passes the test
comment_tested : (s : List ℕ) → IsLineComment s ⊎ IsBlockComment s → is_comment s ≡ true
comment_tested s h =
    ⊎_elim (λ l.
    let none = or_from (opens_line_doc l.0) (opens_inner l.0) (false_from_ne_true _ (λ e. l.2 (line_documents l.0 e))) (begins_none 33 l.0 l.3) in
    or_left _ _ (and_from (is_line s) _ (line_tested s l.0 l.1) (ap (λ t. not (opens_line_doc (drop 2 t) || opens_inner (drop 2 t))) l.1.is ∙ not_from_false _ none)))
    (λ b.
    let none = or_from (opens_block_doc b.0) (opens_inner b.0) (false_from_ne_true _ (λ e. b.2 (block_documents b.0 e))) (begins_none 33 b.0 b.3) in
    or_right _ _ (and_from (is_block s) _ (block_tested s b.0 b.1) (ap (λ t. not (opens_block_doc (drop 2 t) || opens_inner (drop 2 t))) b.1.is ∙ not_from_false _ none)))
    h

-- what spells a literal by the test spells it
literal_sound : (kind : LiteralKind) (s : List ℕ) → spells (Literal kind) s ≡ true → Spells (Literal kind) s
literal_sound Int s h = int_spelled s h
literal_sound Str s h = ⊎_elim (λ e. inl (quoted_spelled InStr s e)) (λ e. inr (raw_spelled s e)) (or_cases (is_str s) (is_raw_str s) h)
literal_sound ByteStr s h = ⊎_elim (λ e. inl (prefixed_spelled 98 InByteStr s e)) (λ e. inr (raw_byte_spelled s e)) (or_cases (is_byte_str s) (is_raw_byte_str s) h)
literal_sound Char s h = quoted_spelled InChar s h
literal_sound Byte s h = prefixed_spelled 98 InByte s h

-- what spells it passes the test
literal_complete : (kind : LiteralKind) (s : List ℕ) → Spells (Literal kind) s → spells (Literal kind) s ≡ true
literal_complete Int s h = int_tested s h
literal_complete Str s h = ⊎_elim (λ w. or_left _ _ (quoted_tested InStr s w)) (λ w. or_right (is_str s) _ (raw_tested s w)) h
literal_complete ByteStr s h = ⊎_elim (λ w. or_left _ _ (prefixed_tested 98 InByteStr s w)) (λ w. or_right (is_byte_str s) _ (raw_byte_tested s w.0 w.1)) h
literal_complete Char s h = quoted_tested InChar s h
literal_complete Byte s h = prefixed_tested 98 InByte s h

-- what spells a token by the test spells it
pub spells_sound : (kind : TokenKind) (s : List ℕ) → spells kind s ≡ true → Spells kind s
spells_sound Ident s h = ⊎_elim (λ e. inl (word_spelled s e)) (λ e. inr (raw_word_spelled s e)) (or_cases (is_word s) (is_raw_word s) h)
spells_sound Lifetime s h = lifetime_spelled s h
spells_sound (Literal kind) s h = literal_sound kind s h
spells_sound (Punct c joint) s h = let p = and_parts (is_punct c) _ h in (p.0, only_is c s p.1)
spells_sound (Start b) s h = only_is (opener b) s h
spells_sound (Stop b) s h = only_is (closer b) s h
spells_sound Doc s h = doc_spelled s h

-- what spells it passes the test
pub spells_complete : (kind : TokenKind) (s : List ℕ) → Spells kind s → spells kind s ≡ true
spells_complete Ident s h = ⊎_elim (λ w. or_left _ _ (word_tested s w)) (λ w. or_right (is_word s) _ (raw_word_tested s w)) h
spells_complete Lifetime s h = lifetime_tested s h
spells_complete (Literal kind) s h = literal_complete kind s h
spells_complete (Punct c joint) s h = and_from (is_punct c) _ h.0 (ap (is_only c) h.1 ∙ eq-eqb c c refl)
spells_complete (Start b) s h = ap (is_only (opener b)) h ∙ eq-eqb (opener b) (opener b) refl
spells_complete (Stop b) s h = ap (is_only (closer b)) h ∙ eq-eqb (closer b) (closer b) refl
spells_complete Doc s h = doc_tested s h

-- what spells an unsupported literal by the test spells it
pub uncarried_sound : (kind : UncarriedKind) (s : List ℕ) → spells_uncarried kind s ≡ true → SpellsUncarried kind s
uncarried_sound Float s h = float_spelled s h
uncarried_sound WideInt s h = wide_int_spelled s h
uncarried_sound CStr s h = ⊎_elim (λ e. inl (prefixed_spelled 99 InCStr s e)) (λ e. inr (raw_c_spelled s e)) (or_cases (is_c_str s) (is_raw_c_str s) h)

-- each unsupported literal passes the test
pub uncarried_complete : (kind : UncarriedKind) (s : List ℕ) → SpellsUncarried kind s → spells_uncarried kind s ≡ true
uncarried_complete Float s h = float_tested s h
uncarried_complete WideInt s h = wide_int_tested s h
uncarried_complete CStr s h = ⊎_elim (λ w. or_left _ _ (prefixed_tested 99 InCStr s w)) (λ w. or_right (is_c_str s) _ (raw_c_tested s w)) h

-- what is a piece by the test is one
pub piece_sound : (kind : PieceKind) (s : List ℕ) → is_piece kind s ≡ true → IsPieceOf kind s
piece_sound Blank [] h = absurd (false≢true h)
piece_sound Blank (c ∷ []) h = (c, h, refl)
piece_sound Blank (c ∷ d ∷ cs) h = absurd (false≢true h)
piece_sound Comment s h = comment_spelled s h
piece_sound (Token kind) s h = spells_sound kind s h
piece_sound (Uncarried kind) s h = uncarried_sound kind s h

-- each piece passes the test
pub piece_complete : (kind : PieceKind) (s : List ℕ) → IsPieceOf kind s → is_piece kind s ≡ true
piece_complete Blank s h = ap (is_piece Blank) h.2 ∙ h.1
piece_complete Comment s h = comment_tested s h
piece_complete (Token kind) s h = spells_complete kind s h
piece_complete (Uncarried kind) s h = uncarried_complete kind s h
