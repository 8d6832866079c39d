-- The cases of what a character does in a literal between quotes.
use Rattle.std.proofs.Common.{◌≡◌, ℕ, ◌+◌, ◌*◌, Bool, true, cond, ◌&&◌, not}
use Rattle.std.specs.Prelude.{◌==◌, nat_lt}
use Rattle.std.specs.Char.{digit_value}
use Rattle.std.proofs.lemmas.Bool.{cond_both, and_parts}
use Rattle.educe_tokens_pieces.specs.declared.quotes.Quote.{Quote}
use Rattle.educe_tokens_pieces.specs.declared.quotes.Within.TheVariants.{Break, Escape, Return, High, Brace, Code}
use Rattle.educe_tokens_pieces.specs.declared.quotes.Next.{Next}
use Rattle.educe_tokens_pieces.specs.declared.quotes.Next.TheVariants.{Go, End, Stop}
use Rattle.educe_tokens_pieces.specs.Quotes.{closing, is_single, is_bytes, is_escape, is_plain, is_hex, is_scalar}
use Rattle.educe_tokens_pieces.specs.Machine.{behind_part, open_step, escape_step, code_step}

-- a choice by two tests that hold together
both_hold : (P : Next → Type 0) (a b : Bool) (x y : Next) → (a ≡ true → b ≡ true → P x) → P y → P (cond (a && b) x y)
both_hold P a b x y h k = cond_both (a && b) x y P (λ e. let both = and_parts a b e in h both.0 both.1) (λ e. k)

-- before a part: the mark at the end, a `\`, a character as it stands, or none of these
pub open_cases : (P : Next → Type 0) (q : Quote) (c : ℕ)
    → ((c == closing q) ≡ true → not (is_single q) ≡ true → P End)
    → ((c == 92) ≡ true → P (Go (Escape q)))
    → (is_plain q c ≡ true → P (Go (behind_part q)))
    → P Stop → P (open_step q c)
open_cases P q c ends escapes plain none =
    both_hold P (c == closing q) (not (is_single q)) End _ ends
    (cond_both (c == 92) (Go (Escape q)) _ P escapes (λ e. cond_both (is_plain q c) (Go (behind_part q)) Stop P plain (λ e. none)))

-- behind a `\`: a letter or a mark, `x`, `u`, the end of a line, or none of these
pub escape_cases : (P : Next → Type 0) (q : Quote) (c : ℕ)
    → (is_escape c ≡ true → P (Go (behind_part q)))
    → ((c == 120) ≡ true → P (Go (High q)))
    → ((c == 117) ≡ true → not (is_bytes q) ≡ true → P (Go (Brace q)))
    → ((c == 10) ≡ true → not (is_single q) ≡ true → P (Go (Break q)))
    → ((c == 13) ≡ true → not (is_single q) ≡ true → P (Go (Return q)))
    → P Stop → P (escape_step q c)
escape_cases P q c letter hex unicode feed return none =
    cond_both (is_escape c) (Go (behind_part q)) _ P letter
    (λ e. cond_both (c == 120) (Go (High q)) _ P hex
    (λ e. both_hold P (c == 117) (not (is_bytes q)) (Go (Brace q)) _ unicode
    (both_hold P (c == 10) (not (is_single q)) (Go (Break q)) _ feed
    (both_hold P (c == 13) (not (is_single q)) (Go (Return q)) Stop return none))))

-- behind `\u{`: the brace at the end, `_`, a digit, or none of these
pub code_cases : (P : Next → Type 0) (q : Quote) (digits value c : ℕ)
    → ((c == 125) ≡ true → nat_lt 0 digits ≡ true → is_scalar value ≡ true → P (Go (behind_part q)))
    → ((c == 95) ≡ true → nat_lt 0 digits ≡ true → P (Go (Code q digits value)))
    → (is_hex c ≡ true → nat_lt digits 6 ≡ true → P (Go (Code q (digits + 1) (value * 16 + digit_value c))))
    → P Stop → P (code_step q digits value c)
code_cases P q digits value c closes mark digit none =
    cond_both (c == 125) _ _ P (λ e. both_hold P (nat_lt 0 digits) (is_scalar value) (Go (behind_part q)) Stop (closes e) none)
    (λ e. cond_both (c == 95) _ _ P (λ e. cond_both (nat_lt 0 digits) (Go (Code q digits value)) Stop P (mark e) (λ e. none))
    (λ e. both_hold P (is_hex c) (nat_lt digits 6) (Go (Code q (digits + 1) (value * 16 + digit_value c))) Stop digit none))
