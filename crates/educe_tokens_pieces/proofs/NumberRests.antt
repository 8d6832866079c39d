-- What may follow a number.
use Rattle.std.proofs.Common.{◌≡◌, ℕ, true, false, ◌||◌, ◌&&◌, not, List, [], ◌∷◌, ◌++◌, refl, ap, arith}
use Rattle.std.specs.Prelude.{◌==◌}
use Rattle.std.proofs.lemmas.Bool.{and_from, and_right, or_right, not_from_false}
use Rattle.unicode_ident.specs.Ident.{is_xid_continue}
use Rattle.unicode_ident.proofs.IdentLemmas.{is_xid_continue-ascii}
use Rattle.educe_tokens_pieces.specs.Chars.{begins, is_empty, is_word_start}
use Rattle.educe_tokens_pieces.specs.Integers.{suffix_of, makes_float}
use Rattle.educe_tokens_pieces.specs.Floats.{ends_with_dot}
use Rattle.educe_tokens_pieces.specs.Pieces.{ends_word_before, may_follow_int, may_follow_float}
use Rattle.educe_tokens_pieces.proofs.Classes.{word_start-ascii}
use Rattle.educe_tokens_pieces.proofs.Lists.{begins-append}

-- no word goes on with a space
pub space_no_continue : is_xid_continue 32 ≡ false
space_no_continue = is_xid_continue-ascii 32 (omega arith)

-- a line feed continues no word
pub line_feed_no_continue : is_xid_continue 10 ≡ false
line_feed_no_continue = is_xid_continue-ascii 10 (omega arith)

-- what goes on neither with a word nor with a float may follow an integer
int_before : (s r : List ℕ) → begins is_xid_continue r ≡ false → makes_float r ≡ false → may_follow_int s r ≡ true
int_before s r h k = and_from _ _ (not_from_false _ h) (or_right (not (is_empty (suffix_of s))) _ (not_from_false _ k))

-- what goes on neither with a word nor with a `.` may follow a float
float_before : (s r : List ℕ) → begins is_xid_continue r ≡ false → begins (λ c. c == 46) r ≡ false → may_follow_float s r ≡ true
float_before s r h k = and_from _ _ (not_from_false _ h) (not_from_false _ (and_right (ends_with_dot s) _ k))

-- a space may follow an integer
pub int_before_space : (s r : List ℕ) → may_follow_int s (32 ∷ r) ≡ true
int_before_space s r = int_before s (32 ∷ r) space_no_continue refl

-- a line feed may follow an integer
pub int_before_line_feed : (s r : List ℕ) → may_follow_int s (10 ∷ r) ≡ true
int_before_line_feed s r = int_before s (10 ∷ r) line_feed_no_continue refl

-- an integer may end the text
pub int_before_end : (s : List ℕ) → may_follow_int s [] ≡ true
int_before_end s = int_before s [] refl refl

-- a space may follow a float
pub float_before_space : (s r : List ℕ) → may_follow_float s (32 ∷ r) ≡ true
float_before_space s r = float_before s (32 ∷ r) space_no_continue refl

-- a line feed may follow a float
pub float_before_line_feed : (s r : List ℕ) → may_follow_float s (10 ∷ r) ≡ true
float_before_line_feed s r = float_before s (10 ∷ r) line_feed_no_continue refl

-- a float may end the text
pub float_before_end : (s : List ℕ) → may_follow_float s [] ≡ true
float_before_end s = float_before s [] refl refl

-- a line feed behind a list doesn't change whether a word ends before it
pub ends_word_before-line_feed : (r b : List ℕ) → ends_word_before (r ++ 10 ∷ b) ≡ ends_word_before r
ends_word_before-line_feed r b = ap not (begins-append is_xid_continue r (10 ∷ b) line_feed_no_continue)

-- a line feed behind a rest doesn't change whether digits before it are a float
makes_float-line_feed : (r b : List ℕ) → makes_float (r ++ 10 ∷ b) ≡ makes_float r
makes_float-line_feed [] b = refl
makes_float-line_feed (c ∷ r) b = ap (λ t. (c == 46) && not t) (begins-append (λ d. (d == 46) || is_word_start d) r (10 ∷ b) (word_start-ascii 10 (omega arith)))

-- a line feed behind a rest doesn't change whether it may follow an integer
pub may_follow_int-line_feed : (s r b : List ℕ) → may_follow_int s (r ++ 10 ∷ b) ≡ may_follow_int s r
may_follow_int-line_feed s r b = λ i. ends_word_before-line_feed r b i && (not (is_empty (suffix_of s)) || not (makes_float-line_feed r b i))

-- a line feed behind a rest doesn't change whether it may follow a float
pub may_follow_float-line_feed : (s r b : List ℕ) → may_follow_float s (r ++ 10 ∷ b) ≡ may_follow_float s r
may_follow_float-line_feed s r b = λ i. ends_word_before-line_feed r b i && not (ends_with_dot s && begins-append (λ c. c == 46) r (10 ∷ b) refl i)
