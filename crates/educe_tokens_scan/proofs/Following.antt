-- What may follow a piece: a space, the end of the text, and a line feed behind the rest. No piece is empty.
use Rattle.std.proofs.Common.{◌≡◌, ℕ, ◌<◌, true, false, ◌||◌, ◌&&◌, not, List, [], ◌∷◌, ◌++◌, length, refl, sym, ap, ◌∙◌, arith}
use Rattle.std.specs.Prelude.{◌==◌}
use Rattle.std.specs.Bool.{beq}
use Rattle.std.proofs.lemmas.Bool.{and_right, not_from_false, false≢true}
use Rattle.educe_tokens_pieces.specs.declared.kind.LiteralKind.{LiteralKind}
use Rattle.educe_tokens_pieces.specs.declared.kind.LiteralKind.TheVariants.{Int, Str, ByteStr, Char, Byte}
use Rattle.educe_tokens_pieces.specs.declared.kind.TokenKind.{TokenKind}
use Rattle.educe_tokens_pieces.specs.declared.kind.TokenKind.TheVariants.{Ident, Lifetime, Literal, Punct, Start, Stop, Doc}
use Rattle.educe_tokens_pieces.specs.declared.kind.UncarriedKind.TheVariants.{Float, WideInt, CStr}
use Rattle.educe_tokens_pieces.specs.declared.kind.PieceKind.{PieceKind}
use Rattle.educe_tokens_pieces.specs.declared.kind.PieceKind.TheVariants.{Blank, Comment, Token, Uncarried}
use Rattle.educe_tokens_pieces.specs.Chars.{is_punct, is_slash_or_star}
use Rattle.educe_tokens_pieces.specs.Words.{touches_word, touches_lifetime}
use Rattle.educe_tokens_pieces.specs.Comments.{opens_comment}
use Rattle.educe_tokens_pieces.specs.Pieces.{is_joint, spells, is_piece, may_precede}
use Rattle.educe_tokens_pieces.proofs.Lists.{begins-append}
use Rattle.educe_tokens_pieces.proofs.NumberRests.{space_no_continue, line_feed_no_continue, int_before_space, int_before_end, ends_word_before-line_feed, may_follow_int-line_feed, may_follow_float-line_feed}
use Rattle.educe_tokens_pieces.proofs.CommentLaws.{ends_line-feed_behind}
use Rattle.educe_tokens_scan.specs.Joining.{stands_apart}

-- each literal may stand before a space
literal_before_space : (kind : LiteralKind) (s r : List ℕ) → may_precede (Token (Literal kind)) s (32 ∷ r) ≡ true
literal_before_space Int s r = int_before_space s r
literal_before_space Str s r = not_from_false _ space_no_continue
literal_before_space ByteStr s r = not_from_false _ space_no_continue
literal_before_space Char s r = not_from_false _ space_no_continue
literal_before_space Byte s r = not_from_false _ space_no_continue

-- a token that stands apart may stand before a space
pub before_space : (kind : TokenKind) (s r : List ℕ) → spells kind s ≡ true → stands_apart kind ≡ true → may_precede (Token kind) s (32 ∷ r) ≡ true
before_space Ident s r e h = not_from_false _ (ap (λ b. b || ((32 == 34) || (32 == 39) || (32 == 35))) space_no_continue)
before_space Lifetime s r e h = not_from_false _ (ap (λ b. b || (32 == 39)) space_no_continue)
before_space (Literal kind) s r e h = literal_before_space kind s r
before_space (Punct c true) s r e h = absurd (false≢true h)
before_space (Punct c false) s r e h = not_from_false _ (and_right (c == 47) false refl)
before_space (Start b) s r e h = refl
before_space (Stop b) s r e h = refl
before_space Doc s r e h = absurd (false≢true h)

-- each literal may stand at the end
literal_before_end : (kind : LiteralKind) (s : List ℕ) → may_precede (Token (Literal kind)) s [] ≡ true
literal_before_end Int s = int_before_end s
literal_before_end Str s = refl
literal_before_end ByteStr s = refl
literal_before_end Char s = refl
literal_before_end Byte s = refl

-- a token that stands apart may stand at the end
pub before_end : (kind : TokenKind) (s : List ℕ) → spells kind s ≡ true → stands_apart kind ≡ true → may_precede (Token kind) s [] ≡ true
before_end Ident s e h = refl
before_end Lifetime s e h = refl
before_end (Literal kind) s e h = literal_before_end kind s
before_end (Punct c true) s e h = absurd (false≢true h)
before_end (Punct c false) s e h = not_from_false _ (and_right (c == 47) false refl)
before_end (Start b) s e h = refl
before_end (Stop b) s e h = refl
before_end Doc s e h = absurd (false≢true h)

-- a word may stand before a line feed
line_feed_no_touch : touches_word 10 ≡ false
line_feed_no_touch = ap (λ b. b || ((10 == 34) || (10 == 39) || (10 == 35))) line_feed_no_continue

-- a lifetime may stand before a line feed
line_feed_no_lifetime : touches_lifetime 10 ≡ false
line_feed_no_lifetime = ap (λ b. b || (10 == 39)) line_feed_no_continue

-- a line feed behind a list doesn't change whether it opens a comment
opens_comment-line_feed : (r b : List ℕ) → opens_comment (r ++ 10 ∷ b) ≡ opens_comment r
opens_comment-line_feed [] b = refl
opens_comment-line_feed (c ∷ r) b = ap (λ t. (c == 47) && t) (begins-append is_slash_or_star r (10 ∷ b) refl)

-- a line feed behind a list doesn't change whether a punct before it is joint
is_joint-line_feed : (r b : List ℕ) → is_joint (r ++ 10 ∷ b) ≡ is_joint r
is_joint-line_feed r b = λ i. begins-append is_punct r (10 ∷ b) refl i && not (opens_comment-line_feed r b i)

-- a line feed behind a list doesn't change whether a literal may stand before it
literal-line_feed : (kind : LiteralKind) (s r b : List ℕ) → may_precede (Token (Literal kind)) s (r ++ 10 ∷ b) ≡ may_precede (Token (Literal kind)) s r
literal-line_feed Int s r b = may_follow_int-line_feed s r b
literal-line_feed Str s r b = ends_word_before-line_feed r b
literal-line_feed ByteStr s r b = ends_word_before-line_feed r b
literal-line_feed Char s r b = ends_word_before-line_feed r b
literal-line_feed Byte s r b = ends_word_before-line_feed r b

-- a line feed behind the rest changes nothing for a piece before it
pub may_precede-line_feed : (kind : PieceKind) (s r b : List ℕ) → may_precede kind s (r ++ 10 ∷ b) ≡ may_precede kind s r
may_precede-line_feed Blank s r b = refl
may_precede-line_feed Comment s r b = ends_line-feed_behind s r b
may_precede-line_feed (Token Ident) s r b = ap not (begins-append touches_word r (10 ∷ b) line_feed_no_touch)
may_precede-line_feed (Token Lifetime) s r b = ap not (begins-append touches_lifetime r (10 ∷ b) line_feed_no_lifetime)
may_precede-line_feed (Token (Literal kind)) s r b = literal-line_feed kind s r b
may_precede-line_feed (Token (Punct c joint)) s r b = λ i. beq joint (is_joint-line_feed r b i) && not ((c == 47) && begins-append is_slash_or_star r (10 ∷ b) refl i)
may_precede-line_feed (Token (Start o)) s r b = refl
may_precede-line_feed (Token (Stop o)) s r b = refl
may_precede-line_feed (Token Doc) s r b = ends_line-feed_behind s r b
may_precede-line_feed (Uncarried Float) s r b = may_follow_float-line_feed s r b
may_precede-line_feed (Uncarried WideInt) s r b = may_follow_int-line_feed s r b
may_precede-line_feed (Uncarried CStr) s r b = ends_word_before-line_feed r b

-- no literal is empty
no_empty_literal : (kind : LiteralKind) → spells (Literal kind) [] ≡ false
no_empty_literal Int = refl
no_empty_literal Str = refl
no_empty_literal ByteStr = refl
no_empty_literal Char = refl
no_empty_literal Byte = refl

-- no piece is empty
no_empty_piece : (kind : PieceKind) → is_piece kind [] ≡ false
no_empty_piece Blank = refl
no_empty_piece Comment = refl
no_empty_piece (Token Ident) = refl
no_empty_piece (Token Lifetime) = refl
no_empty_piece (Token (Literal kind)) = no_empty_literal kind
no_empty_piece (Token (Punct c joint)) = and_right (is_punct c) false refl
no_empty_piece (Token (Start b)) = refl
no_empty_piece (Token (Stop b)) = refl
no_empty_piece (Token Doc) = refl
no_empty_piece (Uncarried Float) = refl
no_empty_piece (Uncarried WideInt) = refl
no_empty_piece (Uncarried CStr) = refl

-- each piece has a character
pub not_empty : (kind : PieceKind) (s : List ℕ) → is_piece kind s ≡ true → 0 < length s
not_empty kind [] h = absurd (false≢true (sym (no_empty_piece kind) ∙ h))
not_empty kind (c ∷ cs) h = omega arith
