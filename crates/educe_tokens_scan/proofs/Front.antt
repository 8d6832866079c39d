-- The scan finds the one piece at the front: what it finds is a piece, and it finds each piece.
use Rattle.std.proofs.Common.{◌≡◌, ℕ, Bool, true, false, Option, Some, List, [], ◌∷◌, ◌++◌, length, refl, sym, ap, ◌∙◌, subst, ⊎_elim, arith}
use Rattle.std.specs.Bool.{beq}
use Rattle.std.specs.Char.{is_ascii_digit}
use Rattle.std.proofs.lemmas.Bool.{and_parts, or_cases, false≢true, cond_both}
use Rattle.educe_tokens_pieces.specs.declared.kind.LiteralKind.{LiteralKind}
use Rattle.educe_tokens_pieces.specs.declared.kind.LiteralKind.TheVariants.{Int, Str, ByteStr, Char, Byte}
use Rattle.educe_tokens_pieces.specs.declared.kind.TokenKind.TheVariants.{Ident, Lifetime, Literal, Punct, Start, Stop, Doc}
use Rattle.educe_tokens_pieces.specs.declared.kind.UncarriedKind.TheVariants.{Float, WideInt, CStr}
use Rattle.educe_tokens_pieces.specs.declared.kind.PieceKind.{PieceKind}
use Rattle.educe_tokens_pieces.specs.declared.kind.PieceKind.TheVariants.{Blank, Comment, Token, Uncarried}
use Rattle.educe_tokens_pieces.specs.Chars.{is_blank, is_punct, is_word_start}
use Rattle.educe_tokens_pieces.specs.Comments.{opens_comment}
use Rattle.educe_tokens_pieces.specs.Pieces.{opener, closer, is_joint, is_piece, may_precede}
use Rattle.educe_tokens_pieces.specs.Fits.{Fits}
use Rattle.educe_tokens_pieces.proofs.Classes.{only_is}
use Rattle.educe_tokens_pieces.proofs.CommentLaws.{comment_fits, comment_finds, doc_finds, comment_opens, doc_opens}
use Rattle.educe_tokens_pieces.proofs.NumberLaws.{number_fits, int_finds, wide_int_finds, float_finds, int_begins, wide_int_begins, float_begins}
use Rattle.educe_tokens_scan.specs.Scan.{candidate}
use Rattle.educe_tokens_scan.proofs.FrontFits.{word_fits, sign_fits}
pub use Rattle.educe_tokens_scan.proofs.FrontFinds.{at_punct}
use Rattle.educe_tokens_scan.proofs.FrontFinds as finds

-- the candidate fits
pub candidate_fits : (text : List ℕ) → Fits text (candidate text)
candidate_fits [] = tt
candidate_fits (c ∷ cs) =
    let P : Option (PieceKind × ℕ) → Type 0 = Fits (c ∷ cs) in
    cond_both (is_blank c) _ _ P (λ e. (e, omega arith, omega arith)) (λ _.
    cond_both (is_word_start c) _ _ P (λ e. word_fits c cs e) (λ _.
    cond_both (is_ascii_digit c) _ _ P (λ e. number_fits (c ∷ cs) e) (λ _.
    cond_both (opens_comment (c ∷ cs)) _ _ P (λ e. comment_fits (c ∷ cs) e) (λ _.
    sign_fits c cs))))

-- what is tested to be equal is equal
pub beq-true : (a b : Bool) → beq a b ≡ true → a ≡ b
beq-true true true h = refl
beq-true true false h = absurd (false≢true h)
beq-true false true h = absurd (false≢true h)
beq-true false false h = refl

-- a literal that may stand before the rest is the candidate of the whole
literal_finds : (kind : LiteralKind) (s r : List ℕ) → is_piece (Token (Literal kind)) s ≡ true → may_precede (Token (Literal kind)) s r ≡ true → candidate (s ++ r) ≡ Some (Token (Literal kind), length s)
literal_finds Int s r h m = finds.at_digit s r (int_begins s h) ∙ int_finds s r h m
literal_finds Str s r h m = ⊎_elim (finds.str_finds s r) (finds.raw_str_finds s r) (or_cases _ _ h)
literal_finds ByteStr s r h m = ⊎_elim (finds.byte_str_finds s r) (finds.raw_byte_str_finds s r) (or_cases _ _ h)
literal_finds Char s r h m = finds.char_finds s r h
literal_finds Byte s r h m = finds.byte_finds s r h

-- a piece that may stand before the rest is the candidate of the whole
pub candidate_finds : (kind : PieceKind) (s r : List ℕ) → is_piece kind s ≡ true → may_precede kind s r ≡ true → candidate (s ++ r) ≡ Some (kind, length s)
candidate_finds Blank [] r h m = absurd (false≢true h)
candidate_finds Blank (c ∷ []) r h m = finds.at_blank c r h
candidate_finds Blank (c ∷ d ∷ cs) r h m = absurd (false≢true h)
candidate_finds Comment s r h m = finds.at_comment s r (comment_opens s h) ∙ comment_finds s r h m
candidate_finds (Token Ident) s r h m = ⊎_elim (λ w. finds.word_finds s r w m) (λ w. finds.raw_word_finds s r w m) (or_cases _ _ h)
candidate_finds (Token Lifetime) s r h m = finds.lifetime_finds s r h m
candidate_finds (Token (Literal kind)) s r h m = literal_finds kind s r h m
candidate_finds (Token (Punct c joint)) s r h m =
    let p = and_parts (is_punct c) _ h in
    let q = and_parts (beq joint (is_joint r)) _ m in
    subst (λ x. candidate (x ++ r) ≡ Some (Token (Punct c joint), length x)) (sym (only_is c s p.1))
    (at_punct c r p.0 q.1 ∙ ap (λ j. Some (Token (Punct c j), 1)) (sym (beq-true joint _ q.0)))
candidate_finds (Token (Start b)) s r h m = subst (λ x. candidate (x ++ r) ≡ Some (Token (Start b), length x)) (sym (only_is (opener b) s h)) (finds.at_opener b r)
candidate_finds (Token (Stop b)) s r h m = subst (λ x. candidate (x ++ r) ≡ Some (Token (Stop b), length x)) (sym (only_is (closer b) s h)) (finds.at_closer b r)
candidate_finds (Token Doc) s r h m = finds.at_comment s r (doc_opens s h) ∙ doc_finds s r h m
candidate_finds (Uncarried Float) s r h m = finds.at_digit s r (float_begins s h) ∙ float_finds s r h m
candidate_finds (Uncarried WideInt) s r h m = finds.at_digit s r (wide_int_begins s h) ∙ wide_int_finds s r h m
candidate_finds (Uncarried CStr) s r h m = ⊎_elim (finds.c_str_finds s r) (finds.raw_c_str_finds s r) (or_cases _ _ h)
