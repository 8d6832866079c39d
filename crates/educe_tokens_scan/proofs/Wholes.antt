-- A whole text that is one piece.
use Rattle.std.proofs.Common.{◌≡◌, ℕ, Bool, true, false, Some, List, [], length, refl, sym, ap, ◌∙◌, subst, append-nil}
use Rattle.std.specs.Prelude.{◌==◌}
use Rattle.std.proofs.Math.Seq.{take-length}
use Rattle.std.proofs.lemmas.Bool.{and_right, not_from_false, false≢true, false_from_ne_true}
use Rattle.educe_tokens_pieces.specs.declared.kind.LiteralKind.TheVariants.{Int, Str, ByteStr, Char, Byte}
use Rattle.educe_tokens_pieces.specs.declared.kind.TokenKind.TheVariants.{Ident, Lifetime, Literal, Punct, Start, Stop, Doc}
use Rattle.educe_tokens_pieces.specs.declared.kind.UncarriedKind.TheVariants.{Float, WideInt, CStr}
use Rattle.educe_tokens_pieces.specs.declared.kind.PieceKind.{PieceKind}
use Rattle.educe_tokens_pieces.specs.declared.kind.PieceKind.TheVariants.{Blank, Comment, Token, Uncarried}
use Rattle.educe_tokens_pieces.specs.Pieces.{is_piece, may_precede}
use Rattle.educe_tokens_pieces.specs.Fits.{Fits}
use Rattle.educe_tokens_pieces.proofs.CommentLaws.{ends_line-nil}
use Rattle.educe_tokens_pieces.proofs.NumberRests.{int_before_end, float_before_end}
use Rattle.educe_tokens_scan.specs.Joining.{unjoined}
use Rattle.educe_tokens_scan.specs.Scan.{candidate}
use Rattle.educe_tokens_scan.proofs.Front.{candidate_fits, candidate_finds}

-- each kind may end the text, where a punct is joint with nothing
ends_text : (kind : PieceKind) (s : List ℕ) → may_precede (unjoined kind) s [] ≡ true
ends_text Blank s = refl
ends_text Comment s = ends_line-nil s
ends_text (Token Ident) s = refl
ends_text (Token Lifetime) s = refl
ends_text (Token (Literal Int)) s = int_before_end s
ends_text (Token (Literal Str)) s = refl
ends_text (Token (Literal ByteStr)) s = refl
ends_text (Token (Literal Char)) s = refl
ends_text (Token (Literal Byte)) s = refl
ends_text (Token (Punct c joint)) s = not_from_false _ (and_right (c == 47) false refl)
ends_text (Token (Start b)) s = refl
ends_text (Token (Stop b)) s = refl
ends_text (Token Doc) s = ends_line-nil s
ends_text (Uncarried Float) s = float_before_end s
ends_text (Uncarried WideInt) s = int_before_end s
ends_text (Uncarried CStr) s = refl

-- whether a punct is joint makes no difference to how it is spelled
same_spelling : (kind : PieceKind) (s : List ℕ) → is_piece (unjoined kind) s ≡ is_piece kind s
same_spelling Blank s = refl
same_spelling Comment s = refl
same_spelling (Token Ident) s = refl
same_spelling (Token Lifetime) s = refl
same_spelling (Token (Literal l)) s = refl
same_spelling (Token (Punct c joint)) s = refl
same_spelling (Token (Start b)) s = refl
same_spelling (Token (Stop b)) s = refl
same_spelling (Token Doc) s = refl
same_spelling (Uncarried kind) s = refl

-- the whole text is what the scan takes
abbrev pub IsWhole : PieceKind → List ℕ → Type 0
IsWhole kind s = candidate s ≡ Some (kind, length s)

-- what the scan takes for a piece is one
whole_is : (kind : PieceKind) (s : List ℕ) → IsWhole (unjoined kind) s → is_piece kind s ≡ true
whole_is kind s h =
    let fits : Fits s (Some (unjoined kind, length s)) = subst (Fits s) h (candidate_fits s) in
    sym (same_spelling kind s) ∙ sym (ap (is_piece (unjoined kind)) (take-length s)) ∙ fits.0

-- the scan takes each piece for one
whole_only : (kind : PieceKind) (s : List ℕ) → is_piece kind s ≡ true → IsWhole (unjoined kind) s
whole_only kind s h = ap candidate (sym (append-nil s)) ∙ candidate_finds (unjoined kind) s [] (same_spelling kind s ∙ h) (ends_text kind s)

-- a test that agrees with the scan of a whole text is the test for the piece
pub whole_value : (kind : PieceKind) (s : List ℕ) (b : Bool) → (b ≡ true → IsWhole (unjoined kind) s) → (IsWhole (unjoined kind) s → b ≡ true) → b ≡ is_piece kind s
whole_value kind s true is only = sym (whole_is kind s (is refl))
whole_value kind s false is only = sym (false_from_ne_true _ (λ e. false≢true (only (whole_only kind s e))))
