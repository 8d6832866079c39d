-- The tokens so far are those of the front of the text.
use Rattle.std.proofs.Common.{◌≡◌, ◌≢◌, ℕ, ◌+◌, ◌-◌, ◌<◌, ◌≤◌, Bool, true, false, cond, IsTrue, Some, None, List, [], ◌∷◌, ◌++◌, length, take, drop, get_or, map, filter, refl, sym, ap, ◌∙◌, subst, arith, append-nil, take-append-drop, encode_utf8_all, chars, inl, inr}
use Rattle.std.proofs.lemmas.Bool.{and_parts, and_from}
use Rattle.std.specs.List.{list_all}
use Rattle.std.specs.Str.{IsUtf8}
use Rattle.std.proofs.lemmas.List.{length-take-le}
use Rattle.std.proofs.lemmas.Str.{encodes-chars, length-le-encodes, IsUtf8-take}
use Rattle.educe_tokens_pieces.specs.Pieces.{is_piece}
use Rattle.educe_tokens_scan.specs.InPlace.{IsFront}
use Rattle.educe_tokens_pieces.specs.Chars.{is_blank}
use Rattle.educe_tokens_pieces.specs.Fronts.{HasFront}
use Rattle.std.proofs.lemmas.List.{map-append}
use Rattle.std.proofs.lemmas.List.Elements.{filter-append}
use Rattle.educe_tokens.specs.declared.error.EduceError.{EduceError}
use Rattle.educe_tokens.specs.declared.error.Kind.TheVariants.{NotCarried}
use Rattle.educe_tokens.specs.declared.span.Span.{Span}
use Rattle.educe_tokens_pieces.specs.declared.kind.UncarriedKind.{UncarriedKind}
use Rattle.educe_tokens.specs.declared.token.Token.{Token}
use Rattle.educe_tokens_pieces.specs.declared.kind.PieceKind.{PieceKind}
use Rattle.educe_tokens_pieces.specs.declared.kind.PieceKind.TheVariants.{Blank, Comment, Token as TokenPiece, Uncarried}
use Rattle.educe_tokens_scan.specs.Reading.{Piece, front_piece, Reads}
use Rattle.educe_tokens_scan.specs.Scan.{piece_at}
use Rattle.educe_tokens_scan.proofs.Readings.{IsFound, found_is, reads_push, fits_none}
use Rattle.educe_tokens.specs.Causes.{empty_at, last_of, IsLexicalCauseWithin}
use Rattle.educe_tokens.specs.Lexes.{lexeme_of, lexemes, Lexes, is_token, is_carried, are_carried, piece_of, end_of, span_at, spans}
use Rattle.educe_tokens.specs.Refusals.{syntax_at, not_carried_at, Cites}
use Rattle.educe_tokens.specs.Steps.{Adds, IsCauseOfPiece}
use Rattle.educe_tokens.proofs.Tokens.{span_of}
use Rattle.educe_tokens.proofs.Bytes.{bytes-append}

-- one more piece ends so many bytes later
end_of-push : (start : ℕ) (ps : List Piece) (p : Piece) → end_of start (ps ++ p ∷ []) ≡ end_of start ps + length (encode_utf8_all p.spelling)
end_of-push start [] p = refl
end_of-push start (x ∷ ps) p = end_of-push (start + length (encode_utf8_all x.spelling)) ps p

-- an item in front, or none, before a list of two parts
cond-append : {A : Type 0} (b : Bool) (x : A) (ys zs more : List A) → ys ≡ zs ++ more → cond b (x ∷ ys) ys ≡ cond b (x ∷ zs) zs ++ more
cond-append true x ys zs more h = ap (λ l. x ∷ l) h
cond-append false x ys zs more h = h

-- the spans of one more piece
spans-push : (start : ℕ) (ps : List Piece) (p : Piece) → spans start (ps ++ p ∷ []) ≡ spans start ps ++ spans (end_of start ps) (p ∷ [])
spans-push start [] p = refl
spans-push start (x ∷ ps) p = cond-append (is_token x) _ _ _ _ (spans-push (start + length (encode_utf8_all x.spelling)) ps p)

-- one more piece that is carried
carried-push : (ps : List Piece) (p : Piece) → are_carried ps ≡ true → is_carried p ≡ true → are_carried (ps ++ p ∷ []) ≡ true
carried-push [] p all one = and_from _ _ one refl
carried-push (x ∷ ps) p all one = let parts = and_parts (is_carried x) _ all in and_from _ _ parts.0 (carried-push ps p parts.1 one)

-- the bytes of the pieces and those of the rest are those of the text
pub end_bytes : (text rest : List ℕ) (start : ℕ) (ps : List Piece) → Reads text ps rest → end_of start ps + length (encode_utf8_all rest) ≡ start + length (encode_utf8_all text)
end_bytes text rest start [] a = ap (λ t. start + length (encode_utf8_all t)) (sym a)
end_bytes text rest start (p ∷ ps) a =
    let more = end_bytes a.0 rest (start + length (encode_utf8_all p.spelling)) ps a.4 in
    let parts = ap (λ t. length (encode_utf8_all t)) a.1 ∙ bytes-append p.spelling a.0 in
    omega arith

-- the tokens are those of the text before the rest, which begins at the offset
pub record Before (text rest : List ℕ) (tokens : List Token) (start : ℕ) : Type 0 where
  pub ps : List Piece
  pub reads : Reads text ps rest
  pub carried : IsTrue (are_carried ps)
  pub pieces : filter is_token ps ≡ map piece_of (lexemes tokens)
  pub places : spans 0 ps ≡ map span_of tokens
  pub offset : start ≡ end_of 0 ps

-- before the whole text there are none
pub before_all : (text : List ℕ) → Before text text [] 0
before_all text = record { ps = []; reads = refl; carried = refl; pieces = refl; places = refl; offset = refl }

-- the offset and the bytes of the rest are the bytes of the text
pub start_bytes : (text rest : List ℕ) (tokens : List Token) (start : ℕ) → Before text rest tokens start → start + length (encode_utf8_all rest) ≡ length (encode_utf8_all text)
start_bytes text rest tokens start b = let e = end_bytes text rest 0 b.ps b.reads in omega (arith, b.offset)

-- the pieces that tokens are
abbrev pieces_of : List Token → List Piece
pieces_of tokens = map piece_of (lexemes tokens)

-- the pieces of one more token
pieces_of-push : (old : List Token) (t : Token) → pieces_of (old ++ t ∷ []) ≡ pieces_of old ++ piece_of (lexeme_of t) ∷ []
pieces_of-push [] t = refl
pieces_of-push (x ∷ old) t = ap (λ ps. piece_of (lexeme_of x) ∷ ps) (pieces_of-push old t)

-- what is added is carried
adds_carried : (kind : PieceKind) (s : List ℕ) (span : Span) (old new : List Token) → Adds kind s span old new → is_carried (record { kind = kind; spelling = s }) ≡ true
adds_carried Blank s span old new a = refl
adds_carried Comment s span old new a = refl
adds_carried (TokenPiece kind) s span old new a = refl
adds_carried (Uncarried kind) s span old new a = absurd a

-- what a piece adds to the tokens is it, if it is a token
adds_pieces : (kind : PieceKind) (s : List ℕ) (span : Span) (old new : List Token) → Adds kind s span old new → pieces_of old ++ filter is_token (record { kind = kind; spelling = s } ∷ []) ≡ pieces_of new
adds_pieces Blank s span old new a = append-nil _ ∙ sym (ap pieces_of a)
adds_pieces Comment s span old new a = append-nil _ ∙ sym (ap pieces_of a)
adds_pieces (TokenPiece kind) s span old new a =
    let same : ◌≡◌ {A = Piece} (record { kind = TokenPiece kind; spelling = s }) (piece_of (lexeme_of a.0)) = λ i. record { kind = TokenPiece (sym a.2 i); spelling = sym a.4 i } in
    ap (λ p. pieces_of old ++ p ∷ []) same ∙ sym (pieces_of-push old a.0) ∙ sym (ap pieces_of a.1)
adds_pieces (Uncarried kind) s span old new a = absurd a

-- what a piece adds to the tokens lies where it lies
adds_places : (kind : PieceKind) (s : List ℕ) (span : Span) (old new : List Token) (start : ℕ) → Adds kind s span old new → span ≡ span_at start (record { kind = kind; spelling = s })
    → map span_of old ++ spans start (record { kind = kind; spelling = s } ∷ []) ≡ map span_of new
adds_places Blank s span old new start a at = append-nil _ ∙ sym (ap (map span_of) a)
adds_places Comment s span old new start a at = append-nil _ ∙ sym (ap (map span_of) a)
adds_places (TokenPiece kind) s span old new start a at =
    ap (λ p. map span_of old ++ p ∷ []) (sym at ∙ sym a.3) ∙ sym (map-append span_of old (a.0 ∷ [])) ∙ sym (ap (map span_of) a.1)
adds_places (Uncarried kind) s span old new start a at = absurd a

-- a piece that was found at the offset, and its span
module _ (text rest : List ℕ) (old : List Token) (start : ℕ) (kind : PieceKind) (n : ℕ) (span : Span) (b : Before text rest old start) (found : IsFound rest (Some (kind, n)))
    (starts : span.start ≡ start) (ends : span.end ≡ start + length (encode_utf8_all (take n rest))) where
  abbrev p : Piece
  p = front_piece rest (kind, n)

  -- the reading goes on by it
  reads : Reads text (b.ps ++ p ∷ []) (drop n rest)
  reads = reads_push text (drop n rest) b.ps p (subst (Reads text b.ps) (sym (take-append-drop n rest)) b.reads) found.0

  -- it lies where the pieces before it end
  at : span ≡ span_at (end_of 0 b.ps) p
  at = let first = starts ∙ b.offset in let last = ends ∙ ap (λ k. k + length (encode_utf8_all (take n rest))) b.offset in λ i. record { start = first i; end = last i }

  -- the next piece, with what it adds
  pub before_push : (new : List Token) → Adds kind (take n rest) span old new → Before text (drop n rest) new span.end
  before_push new adds = record {
    ps = b.ps ++ p ∷ [];
    reads = reads;
    carried = carried-push b.ps p b.carried (adds_carried kind (take n rest) span old new adds);
    pieces = filter-append is_token b.ps (p ∷ []) ∙ ap (λ xs. xs ++ filter is_token (p ∷ [])) b.pieces ∙ adds_pieces kind (take n rest) span old new adds;
    places = spans-push 0 b.ps p ∙ ap (λ xs. xs ++ spans (end_of 0 b.ps) (p ∷ [])) b.places ∙ adds_places kind (take n rest) span old new (end_of 0 b.ps) adds at;
    offset = ends ∙ ap (λ k. k + length (encode_utf8_all (take n rest))) b.offset ∙ sym (end_of-push 0 b.ps p);
  }

  -- an unsupported literal is why, or out of memory
  uncarried : {limit : ℕ} → (k : PieceKind) (e : EduceError) → kind ≡ k → IsCauseOfPiece (take n rest) span k e → IsLexicalCauseWithin limit text e
  uncarried {limit} k e is (IsCauseOfPiece.not_carried literal) =
      subst (λ s. IsLexicalCauseWithin limit text (not_carried_at s (take n rest))) (sym at) (IsLexicalCauseWithin.not_carried b.ps p literal (drop n rest) reads b.carried is)
  uncarried {limit} k e is (IsCauseOfPiece.memory own) = IsLexicalCauseWithin.memory

  -- a piece that adds nothing is a cause of rejection of the text
  pub piece_cause : {limit : ℕ} → (e : EduceError) → IsCauseOfPiece (take n rest) span kind e → IsLexicalCauseWithin limit text e
  piece_cause e cause = uncarried kind e refl cause

-- an unsupported literal is cited, or out of memory is
pub cited_cause : (literal : List ℕ) (span : Span) (kind : UncarriedKind) (spelling : List ℕ) (e : EduceError) → spelling ≡ literal → Cites NotCarried span spelling e → IsCauseOfPiece literal span (Uncarried kind) e
cited_cause literal span kind spelling e is (inl memory) = subst (IsCauseOfPiece literal span (Uncarried kind)) (sym memory) (IsCauseOfPiece.memory (Uncarried kind))
cited_cause literal span kind spelling e is (inr cites) =
    subst (IsCauseOfPiece literal span (Uncarried kind)) (sym (cites ∙ ap (not_carried_at span) is)) (IsCauseOfPiece.not_carried kind)

-- blanks add nothing
blanks_go : (text : List ℕ) (tokens : List Token) (us rest : List ℕ) (start : ℕ) → list_all is_blank us ≡ true → Before text (us ++ rest) tokens start → (end : ℕ) × Before text rest tokens end
blanks_go text tokens [] rest start h b = (start, b)
blanks_go text tokens (c ∷ us) rest start h b =
    let p = and_parts (is_blank c) _ h in
    let span : Span = record { start = start; end = start + length (encode_utf8_all (c ∷ [])) } in
    let found : IsFound (c ∷ (us ++ rest)) (Some (Blank, 1)) = (and_from _ _ p.0 refl, omega arith, omega arith) in
    blanks_go text tokens us rest span.end p.1 (before_push text (c ∷ (us ++ rest)) tokens start Blank 1 span b found refl refl tokens refl)

-- the bytes of a text
pub bytes_of : (bs : List ℕ) → IsUtf8 bs → length (encode_utf8_all (chars bs)) ≡ length bs
bytes_of bs u = ap length (encodes-chars bs u)

-- behind blanks in a source, by the bytes that are left
pub before_rest : (source more rest : List ℕ) (tokens : List Token) (start : ℕ) → IsUtf8 source → IsUtf8 rest → Before (chars source) (chars more) tokens start → HasFront (list_all is_blank) (chars more) (chars rest)
    → Before (chars source) (chars rest) tokens (length source - length rest) × (length rest ≤ length source)
before_rest source more rest tokens start u v b f =
    let on = blanks_go (chars source) tokens f.front (chars rest) start f.passes (subst (λ t. Before (chars source) t tokens start) f.is b) in
    let all = start_bytes (chars source) (chars rest) tokens on.0 on.1 in
    let whole = bytes_of source u in
    let left = bytes_of rest v in
    (subst (Before (chars source) (chars rest) tokens) (omega (arith, all, whole, left)) on.1, omega (arith, all, whole, left))

-- what follows blanks is no longer
pub rest_no_longer : (p : ℕ → Bool) (more rest : List ℕ) → IsUtf8 more → IsUtf8 rest → HasFront (list_all p) (chars more) (chars rest) → length rest ≤ length more
rest_no_longer p more rest u v f =
    let parts = ap (λ t. length (encode_utf8_all t)) f.is ∙ bytes-append f.front (chars rest) in
    omega (arith, parts, bytes_of more u, bytes_of rest v)

-- characters have bytes
some_bytes : (cs : List ℕ) → 0 < length cs → 0 < length (encode_utf8_all cs)
some_bytes cs h = omega (arith, h, length-le-encodes cs)

-- a text that is not empty has a character
some_encoded : (cs bs : List ℕ) → encode_utf8_all cs ≡ bs → 0 < length bs → 0 < length cs
some_encoded [] bs e h = absurd (omega (arith, h, ap length e))
some_encoded (c ∷ cs) bs e h = omega arith

pub some_chars : (bs : List ℕ) → IsUtf8 bs → 0 < length bs → 0 < length (chars bs)
some_chars bs u h = some_encoded (chars bs) bs (encodes-chars bs u) h

-- a piece that was found at the front of what is left of a source, and its span
module _ (source rest : List ℕ) (old : List Token) (kind : PieceKind) (m : ℕ) (span : Span) (u : IsUtf8 rest) (b : Before (chars source) (chars rest) old (length source - length rest)) (f : IsFront rest (kind, m))
    (starts : span.start ≡ length source - length rest) (ends : span.end ≡ length source - length rest + m) where
  found : IsFound (chars rest) (Some (kind, f.count))
  found = found_is (chars rest) (piece_at (chars rest)) kind f.count refl f.is

  -- it has so many bytes
  long : length (encode_utf8_all (take f.count (chars rest))) ≡ m
  long = ap (λ cs. length (encode_utf8_all cs)) (sym f.front) ∙ bytes_of (take m rest) (IsUtf8-take rest m u f.boundary) ∙ length-take-le m rest f.boundary.0

  pub ends_there : span.end ≡ length source - length rest + length (encode_utf8_all (take f.count (chars rest)))
  ends_there = ends ∙ ap (λ k. length source - length rest + k) (sym long)

  -- it is one
  pub front_is_piece : IsTrue (is_piece kind (chars (take m rest)))
  front_is_piece = rw f.front (and_parts (is_piece kind (take f.count (chars rest))) _ found.0).0

  -- the piece is not empty
  pub front_some : 0 < m
  front_some = omega (arith, long, some_bytes (take f.count (chars rest)) (omega (arith, found.1, length-take-le f.count (chars rest) found.2)))

  -- the next piece, with what it adds
  pub before_more : (new : List Token) → Adds kind (chars (take m rest)) span old new → Before (chars source) (chars (drop m rest)) new span.end
  before_more new adds =
      subst (λ t. Before (chars source) t new span.end) (sym f.back)
      (before_push (chars source) (chars rest) old (length source - length rest) kind f.count span b found starts ends_there new (subst (λ t. Adds kind t span old new) f.front adds))

  -- or why it adds nothing
  pub front_cause : {limit : ℕ} → (e : EduceError) → IsCauseOfPiece (chars (take m rest)) span kind e → IsLexicalCauseWithin limit (chars source) e
  front_cause e cause =
      piece_cause (chars source) (chars rest) old (length source - length rest) kind f.count span b found starts ends_there e (subst (λ t. IsCauseOfPiece t span kind e) f.front cause)

-- a list of length 0 is empty
nil_from_length : (xs : List ℕ) → length xs ≡ 0 → xs ≡ []
nil_from_length [] h = refl
nil_from_length (x ∷ xs) h = absurd (omega (arith, h))

-- at the end the tokens are those of the text
pub lexes_all : (text rest : List ℕ) (tokens : List Token) (start : ℕ) → Before text rest tokens start → length rest ≡ 0 → Lexes text tokens
lexes_all text rest tokens start b none = record {
  pieces = b.ps;
  reads = subst (Reads text b.ps) (nil_from_length rest none) b.reads;
  carried = b.carried;
  tokens_are = b.pieces;
  spans_are = b.places;
}

-- the token behind a first one at the index of the last has the last span
last_at : (t last : Token) (ts : List Token) (other : Span) → last ≡ get_or (t ∷ ts) (length ts) last → last.span ≡ last_of (map span_of (t ∷ ts)) other
last_at t last [] other is = ap span_of is
last_at t last (u ∷ ts) other is = last_at u last ts t.span is

-- the token at the last index has the last span
pub last_token : (ts : List Token) (last : Token) (other : Span) → 0 < length ts → last ≡ get_or ts (length ts - 1) last → last.span ≡ last_of (map span_of ts) other
last_token [] last other some is = absurd (omega arith)
last_token (t ∷ ts) last other some is =
    let index : length (t ∷ ts) - 1 ≡ length ts = omega arith in
    last_at t last ts other (is ∙ ap (λ k. get_or (t ∷ ts) k last) index)

-- where no piece is found, and the text doesn't end, it is rejected at the last token
pub stuck_cause : {limit : ℕ} → (text rest : List ℕ) (old : List Token) (start bytes : ℕ) (e : EduceError) → Before text rest old start → 0 < length rest → piece_at rest ≡ None → length (encode_utf8_all text) ≡ bytes
    → e ≡ syntax_at (last_of (map span_of old) (empty_at bytes)) → IsLexicalCauseWithin limit text e
stuck_cause {limit} text rest old start bytes e b more none long is =
    let some : rest ≢ [] = λ empty. omega (arith, more, ap length empty) in
    let cause = IsLexicalCauseWithin.no_piece b.ps rest b.reads b.carried some (fits_none rest none) in
    subst (IsLexicalCauseWithin limit text) (sym (is ∙ (λ i. syntax_at (last_of (sym b.places i) (empty_at (sym long i)))))) cause
