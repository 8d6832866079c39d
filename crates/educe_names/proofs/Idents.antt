-- Each identifier of a text is, without `r#`, a run of the text. So if the text is the value of a token, it is a word of the tokens.
use Rattle.std.proofs.Common.{◌≡◌, ℕ, ◌⊎◌, inl, inr, ⊎_elim, Bool, true, false, ◌||◌, not, List, [], ◌∷◌, ◌++◌, map, length, refl, sym, ap, ◌∙◌, subst, arith, append_assoc}
use Rattle.std.specs.Prelude.{◌==◌}
use Rattle.std.specs.List.{All, Contains}
use Rattle.std.proofs.lemmas.Bool.{and_parts, or_parts, eqb-true, not-true, false≢true}
use Rattle.std.proofs.lemmas.Bool.Decides.{nat_tests}
use Rattle.std.proofs.lemmas.List.{length-map}
use Rattle.std.proofs.lemmas.List.Elements.{All-nil, All-cons, All-weaker, All-filter, All-contains}
use Rattle.std.proofs.Math.ListN.{get_or-map}
use Rattle.unicode_ident.specs.Ident.{is_xid_continue}
use Rattle.unicode_ident.proofs.Computing.{unicode_ident}
use Rattle.unicode_ident.proofs.IdentLemmas.{is_xid_continue-ascii}
use Rattle.educe_tokens_pieces.specs.declared.kind.PieceKind.{PieceKind}
use Rattle.educe_tokens_pieces.specs.declared.kind.PieceKind.TheVariants.{Blank, Comment, Token as TokenPiece, Uncarried}
use Rattle.educe_tokens_pieces.specs.declared.kind.UncarriedKind.TheVariants.{Float, WideInt, CStr}
use Rattle.educe_tokens_scan.specs.Reading.{Piece, Reads}
use Rattle.educe_tokens_scan.proofs.SpellLaws.{piece_sound}
use Rattle.educe_tokens.specs.Bracket.{Bracket}
use Rattle.educe_tokens.specs.Bracket.TheVariants.{Round, Square, Curly}
use Rattle.educe_tokens.specs.LiteralKind.TheVariants.{Int, Str, ByteStr, Char, Byte}
use Rattle.educe_tokens.specs.TokenKind.TheVariants.{Ident, Lifetime, Literal, Punct, Start, Stop, Doc}
use Rattle.educe_tokens.specs.declared.token.Token.{Token}
use Rattle.educe_tokens.specs.Chars.{begins, is_blank, is_punct}
use Rattle.educe_tokens.specs.Comments.{is_line, ends_line_before}
use Rattle.educe_tokens.specs.Lexes.{Lexeme, Lexes, LexesAside, is_token, lexeme_of, lexemes, piece_of}
use Rattle.educe_tokens.specs.Pieces.{opener, closer, is_piece, may_precede, ends_word_before}
use Rattle.educe_tokens.specs.Spells.{IsWord, IsLineOf, IsBlockOf, Closes, Close, Other, Block, IsPieceOf}
use Rattle.educe_tokens.specs.StringValue.{IsStringValue}
use Rattle.educe_tree.specs.Names.{unraw}
use Rattle.educe_names.specs.Words.{BeginsWithRun, IsRunOf, front, behind, run, HasWord}
use Rattle.educe_names.proofs.Having.{has_word-at}
use Rattle.educe_names.proofs.PlainNames.{all_continue, unraw_word}

-- ---- breaks: characters that don't go on with a word

-- the blanks beyond ASCII are breaks
wide_blanks : (is_xid_continue 133 ≡ false) × (is_xid_continue 8206 ≡ false) × (is_xid_continue 8207 ≡ false) × (is_xid_continue 8232 ≡ false) × (is_xid_continue 8233 ≡ false)
unfolding unicode_ident
wide_blanks = (refl, refl, refl, refl, refl)

-- each blank is a break
blank_breaks : (c : ℕ) → is_blank c ≡ true → is_xid_continue c ≡ false
blank_breaks c h = let w = wide_blanks in grind (arith, nat_tests, is_xid_continue-ascii)

-- each punct is one
punct_breaks : (c : ℕ) → is_punct c ≡ true → is_xid_continue c ≡ false
punct_breaks c h = grind (arith, nat_tests, is_xid_continue-ascii)

-- each bracket is one
bracket_breaks : (b : Bracket) → (is_xid_continue (opener b) ≡ false) × (is_xid_continue (closer b) ≡ false)
bracket_breaks Round = (is_xid_continue-ascii 40 (omega arith), is_xid_continue-ascii 41 (omega arith))
bracket_breaks Square = (is_xid_continue-ascii 91 (omega arith), is_xid_continue-ascii 93 (omega arith))
bracket_breaks Curly = (is_xid_continue-ascii 123 (omega arith), is_xid_continue-ascii 125 (omega arith))

-- ---- where pieces end

-- the last character of the text is a break
record EndsInBreak (text : List ℕ) : Type 0 where
  init : List ℕ
  last : ℕ
  is : text ≡ init ++ last ∷ []
  breaks : is_xid_continue last ≡ false

-- it stays the last one behind another text
ends_behind : (before text : List ℕ) → EndsInBreak text → EndsInBreak (before ++ text)
ends_behind before text e = record {
  init = before ++ e.init;
  last = e.last;
  is = ap (λ t. before ++ t) e.is ∙ sym (append_assoc before e.init (e.last ∷ []));
  breaks = e.breaks;
}

-- a text may be one break
one_break : (c : ℕ) (text : List ℕ) → text ≡ c ∷ [] → is_xid_continue c ≡ false → EndsInBreak text
one_break c text is breaks = record { init = []; last = c; is = is; breaks = breaks }

-- what closes a block ends in `/`
closes_ends : (inside : List ℕ) → Closes inside → EndsInBreak inside
closes_ends inside Close = ends_behind (42 ∷ []) (47 ∷ []) (one_break 47 (47 ∷ []) refl (is_xid_continue-ascii 47 (omega arith)))
closes_ends inside (Other c more opens closes h) = ends_behind (c ∷ []) more (closes_ends more h)
closes_ends inside (Block inner more h k) = ends_behind (47 ∷ 42 ∷ inner) more (closes_ends more k)

-- a block comment ends in `/`
block_ends : (text inside : List ℕ) → IsBlockOf text inside → EndsInBreak text
block_ends text inside b = subst EndsInBreak (sym b.is) (ends_behind (47 ∷ 42 ∷ []) inside (closes_ends inside b.closes))

-- behind a comment of a line no word goes on: a line feed follows, or nothing
line_ends : (text line more : List ℕ) → IsLineOf text line → ends_line_before text more ≡ true → ends_word_before more ≡ true
line_ends text line [] l may = refl
line_ends text line (c ∷ cs) l may =
    let is : is_line text ≡ true = ap is_line l.is ∙ l.one in
    ap not (ap is_xid_continue (eqb-true c 10 (grind (arith, nat_tests))) ∙ is_xid_continue-ascii 10 (omega arith))

-- none goes on behind a piece that may not touch such a character, nor perhaps others
no_touch : (also : ℕ → Bool) (more : List ℕ) → not (begins (λ c. is_xid_continue c || also c) more) ≡ true → ends_word_before more ≡ true
no_touch also [] h = refl
no_touch also (c ∷ cs) h = ap not (or_parts (is_xid_continue c) (also c) (not-true _ h)).0

-- no character behind an identifier continues it
ident_ends : (s more : List ℕ) → may_precede (TokenPiece Ident) s more ≡ true → ends_word_before more ≡ true
ident_ends s more may = no_touch (λ c. (c == 34) || (c == 39) || (c == 35)) more may

-- each piece ends in a break, or no word goes on behind it
piece_ends : (kind : PieceKind) (s more : List ℕ) → IsPieceOf kind s → may_precede kind s more ≡ true → EndsInBreak s ⊎ (ends_word_before more ≡ true)
piece_ends Blank s more h may = inl (one_break h.0 s h.2 (blank_breaks h.0 h.1))
piece_ends Comment s more h may = ⊎_elim (λ l. inr (line_ends s l.0 more l.1 may)) (λ b. inl (block_ends s b.0 b.1)) h
piece_ends (TokenPiece Ident) s more h may = inr (ident_ends s more may)
piece_ends (TokenPiece Lifetime) s more h may = inr (no_touch (λ c. c == 39) more may)
piece_ends (TokenPiece (Literal Int)) s more h may = inr (and_parts (ends_word_before more) _ may).0
piece_ends (TokenPiece (Literal Str)) s more h may = inr may
piece_ends (TokenPiece (Literal ByteStr)) s more h may = inr may
piece_ends (TokenPiece (Literal Char)) s more h may = inr may
piece_ends (TokenPiece (Literal Byte)) s more h may = inr may
piece_ends (TokenPiece (Punct c joint)) s more h may = inl (one_break c s h.1 (punct_breaks c h.0))
piece_ends (TokenPiece (Start b)) s more h may = inl (one_break (opener b) s h (bracket_breaks b).0)
piece_ends (TokenPiece (Stop b)) s more h may = inl (one_break (closer b) s h (bracket_breaks b).1)
piece_ends (TokenPiece Doc) s more h may = ⊎_elim (λ l. inr (line_ends s l.0 more l.1 may)) (λ b. inl (block_ends s b.0 b.1)) h
piece_ends (Uncarried Float) s more h may = inr (and_parts (ends_word_before more) _ may).0
piece_ends (Uncarried WideInt) s more h may = inr (and_parts (ends_word_before more) _ may).0
piece_ends (Uncarried CStr) s more h may = inr may

-- ---- runs behind a piece

-- no run begins where no word goes on
no_run : (word text : List ℕ) → BeginsWithRun word text → ends_word_before text ≡ true → ⊥
no_run [] text b ends = b.some refl
no_run (c ∷ cs) text b ends = false≢true (sym (ap not (and_parts (is_xid_continue c) _ b.continues).0) ∙ ap ends_word_before (sym b.is) ∙ ends)

-- a run of what follows a piece is one of the whole
run_behind : (kind : PieceKind) (s more word : List ℕ) → IsPieceOf kind s → may_precede kind s more ≡ true → IsRunOf word more → IsRunOf word (s ++ more)
run_behind kind s more word own may (front w t b) =
    ⊎_elim
    (λ e. subst (IsRunOf word) (sym (ap (λ x. x ++ more) e.is ∙ append_assoc e.init (e.last ∷ []) more)) (behind word e.init more e.last e.breaks b))
    (λ ends. absurd (no_run word more b ends))
    (piece_ends kind s more own may)
run_behind kind s more word own may (behind w before text c breaks b) = subst (IsRunOf word) (append_assoc s before (c ∷ text)) (behind word (s ++ before) text c breaks b)

-- ---- identifiers

-- a word behind which none goes on is a run at the front
word_begins : (word more : List ℕ) → IsWord word → ends_word_before more ≡ true → BeginsWithRun word (word ++ more)
word_begins word more w ends = record {
  rest = more;
  is = refl;
  some = λ none. let l : 0 ≡ length (w.first ∷ w.more) = ap length (sym none ∙ w.is) in absurd (omega arith);
  continues = all_continue word w;
  ends = ends;
}

-- an identifier behind which no word goes on is, without `r#`, a run of the text that it begins
ident_run : (s more : List ℕ) → IsPieceOf (TokenPiece Ident) s → ends_word_before more ≡ true → IsRunOf (unraw s) (s ++ more)
ident_run s more h ends =
    ⊎_elim
    (λ w. subst (λ x. IsRunOf x (s ++ more)) (sym (unraw_word s w)) (front s (s ++ more) (word_begins s more w ends)))
    (λ r. subst (λ x. IsRunOf (unraw x) (x ++ more)) (sym r.is)
    (behind r.word (114 ∷ []) (r.word ++ more) 35 (is_xid_continue-ascii 35 (omega arith)) (word_begins r.word more r.own ends)))
    h

-- ---- texts

-- if the piece is an identifier, it is, without `r#`, a run of the text
abbrev IsRunIfIdent : List ℕ → Piece → Type 0
IsRunIfIdent text p = p.kind ≡ TokenPiece Ident → IsRunOf (unraw p.spelling) text

-- this holds of each piece of a text
pieces_run : (text : List ℕ) (pieces : List Piece) → Reads text pieces [] → All (IsRunIfIdent text) pieces
pieces_run text [] reads = All-nil (IsRunIfIdent text)
pieces_run text (p ∷ ps) reads =
    let more = reads.0 in
    let both = and_parts (is_piece p.kind p.spelling) (may_precede p.kind p.spelling more) reads.2 in
    let own = piece_sound p.kind p.spelling both.0 in
    let whole : (word : List ℕ) → IsRunOf word (p.spelling ++ more) → IsRunOf word text = λ word r. subst (IsRunOf word) (sym reads.1) r in
    All-cons (IsRunIfIdent text) p ps
    (λ is. whole (unraw p.spelling) (ident_run p.spelling more (subst (λ k. IsPieceOf k p.spelling) is own) (ident_ends p.spelling more (subst (λ k. may_precede k p.spelling more ≡ true) is both.1))))
    (All-weaker (IsRunIfIdent more) (IsRunIfIdent text) (λ q r is. whole (unraw q.spelling) (run_behind p.kind p.spelling more (unraw q.spelling) own both.1 (r is))) ps (pieces_run more ps reads.4))

-- what a function makes of an element is an element of what it makes of the list
Contains-map : {X Y : Type 0} (f : X → Y) (xs : List X) (x : X) → Contains xs x → Contains (map f xs) (f x)
Contains-map f xs x found = (found.0, omega (arith, found.1, length-map xs f), get_or-map f xs found.0 x ∙ ap f found.2)

-- each identifier of a text that lexes is, without `r#`, a run of the text
pub idents_run : (text : List ℕ) (found : List Lexeme) (name : Lexeme) → LexesAside text found → Contains found name → name.kind ≡ Ident → IsRunOf (unraw name.spelling) text
idents_run text found name lexes here is =
    All-contains (IsRunIfIdent text) (map piece_of found) (piece_of name)
    (subst (All (IsRunIfIdent text)) lexes.tokens_are (All-filter is_token (IsRunIfIdent text) lexes.pieces (pieces_run text lexes.pieces lexes.reads)))
    (Contains-map piece_of found name here) (ap TokenPiece is)

-- each identifier in the value of a token is, without `r#`, a word of the tokens
pub value_idents : (tokens : List Token) (token : Token) (value : List ℕ) (inner : List Token) (name : Token) → Contains tokens token → IsStringValue (lexeme_of token) value
    → Lexes value inner → Contains inner name → name.kind ≡ Ident → HasWord tokens (unraw name.spelling)
value_idents tokens token value inner name there holds lexes here is =
    let aside : LexesAside value (lexemes inner) = record { pieces = lexes.pieces; reads = lexes.reads; carried = lexes.carried; tokens_are = lexes.tokens_are } in
    let own = idents_run value (lexemes inner) (lexeme_of name) aside (Contains-map lexeme_of inner name here) is in
    has_word-at tokens there.0 token (unraw name.spelling) there.1 (sym there.2) (run (unraw name.spelling) value (lexeme_of token) holds own)
