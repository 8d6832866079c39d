-- The number at the front of a text: what is found is one, and each is found.
use Rattle.std.proofs.Common.{◌≡◌, ℕ, ◌+◌, ◌<◌, ◌≤◌, true, not, Option, Some, None, List, ◌++◌, length, take, drop, ap, ◌∙◌, arith}
use Rattle.std.specs.Prelude.{cond}
use Rattle.std.specs.List.{prefix_len}
use Rattle.std.specs.Char.{is_ascii_digit}
use Rattle.std.proofs.Math.Seq.{take-append_seam}
use Rattle.std.proofs.lemmas.Bool.{and_parts, and_from, or_left, cond-true, cond-false, cond_both, not-true, not_from_false}
use Rattle.std.proofs.lemmas.List.{length-drop, drop-take}
use Rattle.std.proofs.lemmas.List.Sums.{prefix_len-le-length}
use Rattle.unicode_ident.specs.Ident.{is_xid_continue}
use Rattle.educe_tokens_pieces.specs.declared.kind.LiteralKind.TheVariants.{Int}
use Rattle.educe_tokens_pieces.specs.declared.kind.TokenKind.TheVariants.{Literal}
use Rattle.educe_tokens_pieces.specs.declared.kind.UncarriedKind.TheVariants.{Float, WideInt}
use Rattle.educe_tokens_pieces.specs.declared.kind.PieceKind.{PieceKind}
use Rattle.educe_tokens_pieces.specs.declared.kind.PieceKind.TheVariants.{Token, Uncarried}
use Rattle.educe_tokens_pieces.specs.Chars.{begins}
use Rattle.educe_tokens_pieces.specs.Integers.{base_of, digits_of, has_int_form, fits_u128, is_int, is_wide_int}
use Rattle.educe_tokens_pieces.specs.Floats.{is_decimal_part, behind_digits, is_float_tail, is_float}
use Rattle.educe_tokens_pieces.specs.Numbers.{tail_len, has_digit, int_kind, int_at, float_or_int, number_at}
use Rattle.educe_tokens_pieces.specs.Pieces.{is_piece, may_follow_int, may_follow_float}
use Rattle.educe_tokens_pieces.specs.Fits.{Fits}
use Rattle.educe_tokens_pieces.proofs.NumberParts.{ascii_word_continues, part_is_word, begins_no_part, begins_wider, begins_take, prefix_len-some, prefix_len-take, prefix_len-append_stop, drop_prefix-append, word_whole}
use Rattle.educe_tokens_pieces.proofs.FloatLaws.{tail_whole, tail_within}
use Rattle.educe_tokens_pieces.proofs.IntegerLaws.{int_words, int_no_tail}
use Rattle.educe_tokens_pieces.proofs.Lists.{same_length}
use Rattle.educe_tokens_pieces.specs.Words.{continue_len}

-- an integer begins with a decimal digit, of any size
pub form_begins : (s : List ℕ) → has_int_form s ≡ true → begins is_ascii_digit s ≡ true
form_begins s h = (and_parts (begins is_ascii_digit s) _ h).0

-- a supported integer does
pub int_begins : (s : List ℕ) → is_int s ≡ true → begins is_ascii_digit s ≡ true
int_begins s h = form_begins s (and_parts (has_int_form s) _ h).0

-- an unsupported integer begins with a decimal digit
pub wide_int_begins : (s : List ℕ) → is_wide_int s ≡ true → begins is_ascii_digit s ≡ true
wide_int_begins s h = form_begins s (and_parts (has_int_form s) _ h).0

-- a float begins with a decimal digit
pub float_begins : (s : List ℕ) → is_float s ≡ true → begins is_ascii_digit s ≡ true
float_begins s h = (and_parts (begins is_ascii_digit s) _ h).0

-- a decimal digit is one of the characters of a number's digits
digit_is_part : (c : ℕ) → is_ascii_digit c ≡ true → is_decimal_part c ≡ true
digit_is_part c h = or_left _ _ h

-- it goes on with a word
digit_continues : (c : ℕ) → is_ascii_digit c ≡ true → is_xid_continue c ≡ true
digit_continues c h = ascii_word_continues c (part_is_word c (digit_is_part c h))

-- a text in the form of an integer is a piece of its kind
int_is_piece : (t : List ℕ) → has_int_form t ≡ true → is_piece (int_kind t) t ≡ true
int_is_piece t h =
    let P : PieceKind → Type 0 = λ kind. is_piece kind t ≡ true in
    cond_both (fits_u128 t) (Token (Literal Int)) (Uncarried WideInt) P (λ e. and_from _ _ h e) (λ e. and_from _ _ h (not_from_false _ e))

-- the word at the front fits as an integer
word_fits : (text : List ℕ) → begins is_ascii_digit text ≡ true → Fits text (int_at text (continue_len text))
word_fits text h =
    let some = prefix_len-some is_xid_continue text (begins_wider is_ascii_digit is_xid_continue digit_continues text h) in
    cond_both (has_int_form (take (continue_len text) text)) (Some (int_kind (take (continue_len text) text), continue_len text)) None (Fits text)
    (λ e. (int_is_piece (take (continue_len text) text) e, some, prefix_len-le-length is_xid_continue text)) (λ _. tt)

-- digits at the front, and what makes them a float, are a float
tail_is_float : (text : List ℕ) (n : ℕ) → begins is_ascii_digit text ≡ true → is_float_tail (take n (behind_digits text)) ≡ true → is_float (take (prefix_len is_decimal_part text + n) text) ≡ true
tail_is_float text n h e =
    let digits : ℕ = prefix_len is_decimal_part text in
    let front : List ℕ = take (digits + n) text in
    let some = prefix_len-some is_decimal_part text (begins_wider is_ascii_digit is_decimal_part digit_is_part text h) in
    let within : 0 < digits + n = omega (arith, some) in
    let behind = ap (λ k. drop k front) (prefix_len-take is_decimal_part n text) ∙ drop-take digits n text in
    and_from _ _ (begins_take is_ascii_digit (digits + n) text within ∙ h) (ap is_float_tail behind ∙ e)

-- what is found in a text that begins with a decimal digit is a front of it that is a number
pub number_fits : (text : List ℕ) → begins is_ascii_digit text ≡ true → Fits text (number_at text)
number_fits text h =
    let n : ℕ = tail_len (behind_digits text) in
    let digits : ℕ = prefix_len is_decimal_part text in
    let some = prefix_len-some is_decimal_part text (begins_wider is_ascii_digit is_decimal_part digit_is_part text h) in
    let most = tail_within (behind_digits text) in
    let within : digits + n ≤ length text = omega (arith, most, prefix_len-le-length is_decimal_part text, length-drop digits text) in
    let more : 0 < digits + n = omega (arith, some) in
    cond_both (is_float_tail (take n (behind_digits text))) (Some (Uncarried Float, digits + n)) (int_at text (continue_len text)) (Fits text)
    (λ e. (tail_is_float text n h e, more, within)) (λ _. word_fits text h)

-- a float that may stand before the rest is found
pub float_finds : (s r : List ℕ) → is_float s ≡ true → may_follow_float s r ≡ true → number_at (s ++ r) ≡ Some (Uncarried Float, length s)
float_finds s r h m =
    let tail : List ℕ = behind_digits s in
    let is = (and_parts (begins is_ascii_digit s) _ h).1 in
    let apart = and_parts (not (begins is_xid_continue r)) _ m in
    let ended = not-true _ apart.0 in
    let behind = drop_prefix-append is_decimal_part s r (begins_no_part r ended) in
    let count = prefix_len-append_stop is_decimal_part s r (begins_no_part r ended) in
    let len = ap tail_len behind ∙ tail_whole tail r is ended (not-true _ apart.1) in
    let front = ap (take (length tail)) behind ∙ take-append_seam tail r in
    let all : prefix_len is_decimal_part (s ++ r) + length tail ≡ length s = omega (arith, count, prefix_len-le-length is_decimal_part s, length-drop (prefix_len is_decimal_part s) s) in
    ap (float_or_int (s ++ r)) len ∙ cond-true _ _ _ (ap is_float_tail front ∙ is) ∙ same_length (Uncarried Float) _ _ all

-- a text in the form of an integer is what its front of that length is found to be
int_whole : (s r : List ℕ) → has_int_form s ≡ true → int_at (s ++ r) (length s) ≡ Some (int_kind s, length s)
int_whole s r h =
    ap (λ t. cond {A = Option (PieceKind × ℕ)} (has_int_form t) (Some (int_kind t, length s)) None) (take-append_seam s r) ∙ cond-true _ _ _ h

-- an integer of any size that may stand before the rest is found
form_finds : (s r : List ℕ) → has_int_form s ≡ true → may_follow_int s r ≡ true → number_at (s ++ r) ≡ Some (int_kind s, length s)
form_finds s r h m =
    let parts = and_parts (begins is_ascii_digit s) _ h in
    let suffix = (and_parts (has_digit (base_of s) (digits_of s)) _ parts.1).1 in
    let apart = and_parts (not (begins is_xid_continue r)) _ m in
    let ended = not-true _ apart.0 in
    cond-false _ _ _ (int_no_tail s r suffix ended apart.1) ∙ ap (int_at (s ++ r)) (word_whole s r (int_words s h) ended) ∙ int_whole s r h

-- a supported integer is found
pub int_finds : (s r : List ℕ) → is_int s ≡ true → may_follow_int s r ≡ true → number_at (s ++ r) ≡ Some (Token (Literal Int), length s)
int_finds s r h m =
    let parts = and_parts (has_int_form s) _ h in
    form_finds s r parts.0 m ∙ ap (λ kind. Some (kind, length s)) (cond-true _ _ _ parts.1)

-- an unsupported integer is found
pub wide_int_finds : (s r : List ℕ) → is_wide_int s ≡ true → may_follow_int s r ≡ true → number_at (s ++ r) ≡ Some (Uncarried WideInt, length s)
wide_int_finds s r h m =
    let parts = and_parts (has_int_form s) _ h in
    form_finds s r parts.0 m ∙ ap (λ kind. Some (kind, length s)) (cond-false _ _ _ (not-true _ parts.1))
