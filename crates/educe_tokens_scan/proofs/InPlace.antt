-- Pieces that stand at the front of a text.
use Rattle.std.proofs.Common.{◌≡◌, ℕ, zero, suc, ◌+◌, ◌-◌, ◌<◌, ◌≤◌, Bool, true, false, Some, List, [], ◌∷◌, ◌++◌, length, take, drop, chars, refl, sym, ap, ◌∙◌, subst, arith, append_assoc, take-append-drop, length-append, length-drop}
use Rattle.std.proofs.lemmas.List.{length-take-le, drop_all}
use Rattle.std.specs.Prelude.{◌==◌, ◌||◌, not, encode_utf8_all}
use Rattle.std.specs.List.{list_all}
use Rattle.std.specs.Str.{IsUtf8}
use Rattle.std.proofs.Math.Utf8.{scalars}
use Rattle.std.proofs.Math.Seq.{take-append_seam, drop-append_seam}
use Rattle.std.proofs.lemmas.Bool.{and_parts, and_from, and_right, or_left, or_right, false≢true}
use Rattle.std.proofs.lemmas.Str.{encodes-chars, encodes-append, scalars-chars, chars-encodes, IsCharBoundary-at_seam}
use Rattle.educe_tokens_pieces.specs.declared.kind.LiteralKind.TheVariants.{Int, Str, ByteStr, Char, Byte}
use Rattle.educe_tokens_pieces.specs.declared.kind.TokenKind.TheVariants.{Ident, Lifetime, Literal, Punct, Start, Stop, Doc}
use Rattle.educe_tokens_pieces.specs.declared.kind.UncarriedKind.TheVariants.{Float, WideInt, CStr}
use Rattle.educe_tokens_pieces.specs.declared.kind.PieceKind.{PieceKind}
use Rattle.educe_tokens_pieces.specs.declared.kind.PieceKind.TheVariants.{Blank, Comment, Token, Uncarried}
use Rattle.educe_tokens_pieces.specs.declared.quotes.Quote.{Quote}
use Rattle.educe_tokens_pieces.specs.declared.quotes.Quote.TheVariants.{Str as InStr, ByteStr as InByteStr, CStr as InCStr, Char as InChar, Byte as InByte}
use Rattle.educe_tokens_pieces.specs.declared.quotes.Within.TheVariants.{Open}
use Rattle.educe_tokens_pieces.specs.Chars.{begins, is_in_line, is_slash_or_star}
use Rattle.educe_tokens_pieces.specs.Comments.{closes_comment, opens_inner, opens_line_doc, opens_block_doc, is_line, is_block, is_line_doc, is_line_comment}
use Rattle.educe_tokens_pieces.specs.CommentScan.{comment_kind}
use Rattle.educe_tokens_pieces.specs.Fronts.{HasFront}
use Rattle.educe_tokens_pieces.specs.Machine.{ends, is_str}
use Rattle.educe_tokens_pieces.specs.RawStrings.{is_raw}
use Rattle.educe_tokens_pieces.specs.Words.{is_word, touches_word, touches_lifetime}
use Rattle.educe_tokens_pieces.specs.Pieces.{is_piece, may_precede, ends_word_before}
use Rattle.educe_tokens_scan.specs.InPlace.{Stands, IsFront, byte_piece, opening, quoted_kind}
use Rattle.educe_tokens_scan.specs.Reading.{IsPiece, IsLongest}
use Rattle.educe_tokens_scan.specs.Scan.{piece_at}
use Rattle.educe_tokens_scan.proofs.Readings.{piece_finds, piece_is, found_is, found_longest, IsFound}

-- scalars of a front
scalars-left : (xs ys : List ℕ) → scalars (xs ++ ys) ≡ true → scalars xs ≡ true
scalars-left [] ys h = refl
scalars-left (c ∷ xs) ys h = let p = and_parts _ _ h in and_from _ _ p.0 (scalars-left xs ys p.1)

-- the piece that stands there is the one at the front
pub stands_found : (kind : PieceKind) (text rest : List ℕ) → (s : Stands kind text rest) → piece_at text ≡ Some (kind, length s.spelling)
stands_found kind text rest s = ap piece_at s.is ∙ piece_finds (record { kind = kind; spelling = s.spelling }) rest (and_from _ _ s.piece s.before)

-- the bytes of what stands there, and of the rest
pub stands_bytes : (text rest : List ℕ) (kind : PieceKind) → IsUtf8 text → IsUtf8 rest → (s : Stands kind (chars text) (chars rest)) → text ≡ encode_utf8_all s.spelling ++ rest
stands_bytes text rest kind u v s =
    sym (encodes-chars text u) ∙ ap encode_utf8_all s.is ∙ encodes-append s.spelling (chars rest) ∙ ap (λ bs. encode_utf8_all s.spelling ++ bs) (encodes-chars rest v)

-- the rest is no longer than the text
pub rest_within : (text rest : List ℕ) (kind : PieceKind) → IsUtf8 text → IsUtf8 rest → Stands kind (chars text) (chars rest) → length rest ≤ length text
rest_within text rest kind u v s = omega (arith, ap length (stands_bytes text rest kind u v s), length-append (encode_utf8_all s.spelling) rest)

-- the bytes before the rest are the piece at the start of the text
pub front_is : (text rest : List ℕ) (kind : PieceKind) → IsUtf8 text → IsUtf8 rest → Stands kind (chars text) (chars rest) → IsFront text (kind, length text - length rest)
front_is text rest kind u v s =
    let bytes = stands_bytes text rest kind u v s in
    let bs : List ℕ = encode_utf8_all s.spelling in
    let long : length bs ≡ length text - length rest = omega (arith, ap length bytes, length-append bs rest) in
    let good = scalars-left s.spelling (chars rest) (ap scalars (sym s.is) ∙ scalars-chars text u) in
    subst (λ n. IsFront text (kind, n)) long
    (record {
      count = length s.spelling;
      is = stands_found kind (chars text) (chars rest) s;
      front = ap (λ t. chars (take (length bs) t)) bytes ∙ ap chars (take-append_seam bs rest) ∙ chars-encodes s.spelling good ∙ sym (ap (take (length s.spelling)) s.is ∙ take-append_seam s.spelling (chars rest));
      back = ap (λ t. chars (drop (length bs) t)) bytes ∙ ap chars (drop-append_seam bs rest) ∙ sym (ap (drop (length s.spelling)) s.is ∙ drop-append_seam s.spelling (chars rest));
      boundary = IsCharBoundary-at_seam text bs rest bytes v;
    })

-- what two characters follow decides whether a piece may stand there
pub two_ahead : (kind : PieceKind) (s : List ℕ) (c d : ℕ) (xs ys : List ℕ) → may_precede kind s (c ∷ d ∷ xs) ≡ may_precede kind s (c ∷ d ∷ ys)
two_ahead Blank s c d xs ys = refl
two_ahead Comment s c d xs ys = refl
two_ahead (Token Ident) s c d xs ys = refl
two_ahead (Token Lifetime) s c d xs ys = refl
two_ahead (Token (Literal Int)) s c d xs ys = refl
two_ahead (Token (Literal Str)) s c d xs ys = refl
two_ahead (Token (Literal ByteStr)) s c d xs ys = refl
two_ahead (Token (Literal Char)) s c d xs ys = refl
two_ahead (Token (Literal Byte)) s c d xs ys = refl
two_ahead (Token (Punct p joint)) s c d xs ys = refl
two_ahead (Token (Start b)) s c d xs ys = refl
two_ahead (Token (Stop b)) s c d xs ys = refl
two_ahead (Token Doc) s c d xs ys = refl
two_ahead (Uncarried Float) s c d xs ys = refl
two_ahead (Uncarried WideInt) s c d xs ys = refl
two_ahead (Uncarried CStr) s c d xs ys = refl

-- whether a piece may stand before two characters is not changed by more text behind them
pub two_before : (kind : PieceKind) (s r more : List ℕ) → 2 ≤ length r → may_precede kind s r ≡ may_precede kind s (r ++ more)
two_before kind s [] more h = absurd (omega (arith, h))
two_before kind s (c ∷ []) more h = absurd (omega (arith, h))
two_before kind s (c ∷ d ∷ r) more h = two_ahead kind s c d r (r ++ more)

-- a piece of a front that reaches far enough stands in the text
pub stands_window : (kind : PieceKind) (n : ℕ) (text window more : List ℕ) → text ≡ window ++ more → piece_at window ≡ Some (kind, n) → (may_precede kind (take n window) (drop n window) ≡ may_precede kind (take n window) (drop n window ++ more)) → n ≤ length window → Stands kind text (drop n text)
stands_window kind n text window more e found same within =
    let is : IsFound window (Some (kind, n)) = subst (IsFound window) found (piece_is window) in
    let both = and_parts (is_piece kind (take n window)) _ is.0 in
    let whole : text ≡ take n window ++ (drop n window ++ more) =
    e ∙ ap (λ w. w ++ more) (sym (take-append-drop n window)) ∙ append_assoc (take n window) (drop n window) more in
    let short : length (take n window) ≡ n = length-take-le n window within in
    let rest : drop n text ≡ drop n window ++ more = ap (λ k. drop k text) (sym short) ∙ ap (drop (length (take n window))) whole ∙ drop-append_seam (take n window) (drop n window ++ more) in
    record {
      spelling = take n window;
      is = whole ∙ ap (λ r. take n window ++ r) (sym rest);
      piece = both.0;
      before = ap (may_precede kind (take n window)) rest ∙ sym same ∙ both.1;
    }

-- a line comment or documentation
pub line_stands : (text line rest : List ℕ) (doc : Bool) → list_all is_in_line line ≡ true → text ≡ line ++ rest → begins is_in_line rest ≡ false → opens_inner line ≡ false → doc ≡ opens_line_doc line → Stands (comment_kind doc) (47 ∷ 47 ∷ text) rest
line_stands text line rest true one e end inner doc = record {
  spelling = 47 ∷ 47 ∷ line;
  is = ap (λ cs. 47 ∷ 47 ∷ cs) e;
  piece = or_left _ _ (and_from _ _ one (sym doc));
  before = ap not (and_right (is_line (47 ∷ 47 ∷ line)) (begins is_in_line rest) end);
}
line_stands text line rest false one e end inner doc = record {
  spelling = 47 ∷ 47 ∷ line;
  is = ap (λ cs. 47 ∷ 47 ∷ cs) e;
  piece = or_left _ _ (and_from _ _ one (rw (sym doc, inner) refl));
  before = ap not (and_right (is_line (47 ∷ 47 ∷ line)) (begins is_in_line rest) end);
}

-- what closes has two characters in front, which decide what it documents
inner_front : (body rest : List ℕ) → closes_comment 0 body ≡ true → opens_inner (body ++ rest) ≡ opens_inner body
inner_front [] rest h = absurd (false≢true h)
inner_front (c ∷ []) rest h = absurd (false≢true h)
inner_front (c ∷ d ∷ body) rest h = refl

doc_front : (body rest : List ℕ) → closes_comment 0 body ≡ true → opens_block_doc (body ++ rest) ≡ opens_block_doc body
doc_front [] rest h = absurd (false≢true h)
doc_front (c ∷ []) rest h = absurd (false≢true h)
doc_front (c ∷ d ∷ body) rest h = refl

-- a block comment or documentation
pub block_stands : (text rest : List ℕ) (doc : Bool) → HasFront (closes_comment 0) text rest → opens_inner text ≡ false → doc ≡ opens_block_doc text → Stands (comment_kind doc) (47 ∷ 42 ∷ text) rest
block_stands text rest true f inner doc = record {
  spelling = 47 ∷ 42 ∷ f.front;
  is = ap (λ cs. 47 ∷ 42 ∷ cs) f.is;
  piece = or_right (is_line_doc (47 ∷ 42 ∷ f.front)) _ (and_from (is_block (47 ∷ 42 ∷ f.front)) _ f.passes (sym (doc ∙ ap opens_block_doc f.is ∙ doc_front f.front rest f.passes)));
  before = refl;
}
block_stands text rest false f inner doc =
    let documents = sym (doc ∙ ap opens_block_doc f.is ∙ doc_front f.front rest f.passes) in
    let within = sym (inner_front f.front rest f.passes) ∙ ap opens_inner (sym f.is) ∙ inner in
    let other : not (opens_block_doc f.front || opens_inner f.front) ≡ true = rw (documents, within) refl in
    record {
      spelling = 47 ∷ 42 ∷ f.front;
      is = ap (λ cs. 47 ∷ 42 ∷ cs) f.is;
      piece = or_right (is_line_comment (47 ∷ 42 ∷ f.front)) _ (and_from (is_block (47 ∷ 42 ∷ f.front)) _ f.passes other);
      before = refl;
    }

-- a literal between quotes
pub quoted_stands : (quote : Quote) (body rest : List ℕ) → HasFront (ends (Open quote)) body rest → ends_word_before rest ≡ true → Stands (quoted_kind quote) (opening quote ++ body) rest
quoted_stands InStr body rest f h = record {
  spelling = 34 ∷ f.front;
  is = ap (λ cs. 34 ∷ cs) f.is;
  piece = or_left _ _ f.passes;
  before = h;
}
quoted_stands InByteStr body rest f h = record {
  spelling = 98 ∷ 34 ∷ f.front;
  is = ap (λ cs. 98 ∷ 34 ∷ cs) f.is;
  piece = or_left _ _ f.passes;
  before = h;
}
quoted_stands InCStr body rest f h = record {
  spelling = 99 ∷ 34 ∷ f.front;
  is = ap (λ cs. 99 ∷ 34 ∷ cs) f.is;
  piece = or_left _ _ f.passes;
  before = h;
}
quoted_stands InChar body rest f h = record {
  spelling = 39 ∷ f.front;
  is = ap (λ cs. 39 ∷ cs) f.is;
  piece = f.passes;
  before = h;
}
quoted_stands InByte body rest f h = record {
  spelling = 98 ∷ 39 ∷ f.front;
  is = ap (λ cs. 98 ∷ 39 ∷ cs) f.is;
  piece = f.passes;
  before = h;
}

-- a lifetime
pub lifetime_stands : (word rest : List ℕ) → HasFront is_word word rest → begins touches_lifetime rest ≡ false → Stands (Token Lifetime) (39 ∷ word) rest
lifetime_stands word rest f h = record {
  spelling = 39 ∷ f.front;
  is = ap (λ cs. 39 ∷ cs) f.is;
  piece = f.passes;
  before = ap not h;
}

-- a raw string
pub raw_stands : (text raw rest : List ℕ) → text ≡ 114 ∷ raw → HasFront is_raw raw rest → ends_word_before rest ≡ true → Stands (Token (Literal Str)) text rest
raw_stands text raw rest e f h = record {
  spelling = 114 ∷ f.front;
  is = e ∙ ap (λ cs. 114 ∷ cs) f.is;
  piece = or_right (is_str (114 ∷ f.front)) _ f.passes;
  before = h;
}

-- a word
pub word_stands : (text rest : List ℕ) → HasFront is_word text rest → begins touches_word rest ≡ false → Stands (Token Ident) text rest
word_stands text rest f h = record {
  spelling = f.front;
  is = f.is;
  piece = or_left _ _ f.passes;
  before = ap not h;
}

-- a piece of one character, by the next two
pub single_stands : (kind : PieceKind) (text rest more last : List ℕ) (a b c : ℕ) → text ≡ a ∷ rest → rest ≡ b ∷ more → more ≡ c ∷ last → piece_at (a ∷ b ∷ c ∷ []) ≡ Some (kind, 1) → Stands kind text rest
single_stands kind text rest more last a b c e f g found =
    let whole : text ≡ (a ∷ b ∷ c ∷ []) ++ last = e ∙ ap (λ cs. a ∷ cs) (f ∙ ap (λ cs. b ∷ cs) g) in
    subst (Stands kind text) (ap (drop 1) e)
    (stands_window kind 1 text (a ∷ b ∷ c ∷ []) last whole found (two_before kind (a ∷ []) (b ∷ c ∷ []) last (omega arith)) (omega arith))

-- what the next characters say of documentation
pub line_doc_some : (cs more : List ℕ) → cs ≡ 47 ∷ more → opens_line_doc cs ≡ not (begins (λ d. d == 47) more)
line_doc_some cs more e = ap opens_line_doc e

pub line_doc_none : (cs : List ℕ) → begins (λ d. d == 47) cs ≡ false → opens_line_doc cs ≡ false
line_doc_none [] h = refl
line_doc_none (c ∷ cs) h = rw h refl

pub block_doc_some : (cs more : List ℕ) → cs ≡ 42 ∷ more → opens_block_doc cs ≡ not (begins is_slash_or_star more)
block_doc_some cs more e = ap opens_block_doc e

pub block_doc_none : (cs : List ℕ) → begins (λ d. d == 42) cs ≡ false → opens_block_doc cs ≡ false
block_doc_none [] h = refl
block_doc_none (c ∷ cs) h = rw h refl

-- a slash or a star
pub slash_or_star : (cs : List ℕ) → begins is_slash_or_star cs ≡ (begins (λ d. d == 47) cs || begins (λ d. d == 42) cs)
slash_or_star [] = refl
slash_or_star (c ∷ cs) = refl

-- what follows one more character
drop_one : (n : ℕ) (text more : List ℕ) (c : ℕ) → drop n text ≡ c ∷ more → drop (suc n) text ≡ more
drop_one zero text more c e = ap (drop 1) e
drop_one (suc n) [] more c e = absurd (omega (arith, ap length e))
drop_one (suc n) (x ∷ text) more c e = drop_one n text more c e

pub drop_more : (text rest more : List ℕ) (n c : ℕ) → rest ≡ drop n text → rest ≡ c ∷ more → more ≡ drop (n + 1) text
drop_more text rest more n c e f = let one : suc n ≡ n + 1 = omega arith in sym (drop_one n text more c (sym e ∙ f)) ∙ ap (λ k. drop k text) one

-- behind the end there is nothing
pub drop_end : (text rest : List ℕ) (n count : ℕ) → rest ≡ drop n text → rest ≡ [] → n < count → rest ≡ drop count text
drop_end text rest n count e none h = none ∙ sym (drop_all count text (omega (arith, ap length (sym e ∙ none), length-drop n text)))

-- what stands at the front is a piece, and the longest
pub front_stands : (text : List ℕ) (kind : PieceKind) (m : ℕ) → IsFront text (kind, m) → IsPiece (byte_piece text (kind, m)) (chars (drop m text))
front_stands text kind m f = rw (f.front, f.back) (found_is (chars text) (piece_at (chars text)) kind f.count refl f.is).0

pub front_longest : (text : List ℕ) (kind : PieceKind) (m : ℕ) → IsFront text (kind, m) → IsLongest (byte_piece text (kind, m)) (chars text)
front_longest text kind m f = rw f.front (found_longest (chars text) (kind, f.count) (found_is (chars text) (piece_at (chars text)) kind f.count refl f.is))
