-- The places in a literal stay reachable, and the numbers there are small.
use Rattle.std.proofs.Common.{◌≡◌, ℕ, ◌+◌, ◌*◌, ◌^◌, ◌<◌, ◌≤◌, true, ◌&&◌, refl, subst, arith}
use Rattle.std.specs.Prelude.{◌==◌, nat_lt, nat_le}
use Rattle.std.specs.Char.{digit_value}
use Rattle.std.proofs.Math.Nat.{pow-le-pow_right}
use Rattle.std.proofs.lemmas.Bool.{cond_both, and_parts, ltb-true}
use Rattle.std.proofs.lemmas.Bool.Decides.{nat_tests}
use Rattle.std.proofs.lemmas.Grind.{pow_more}
use Rattle.educe_tokens_pieces.specs.declared.quotes.Quote.{Quote}
use Rattle.educe_tokens_pieces.specs.declared.quotes.Within.{Within}
use Rattle.educe_tokens_pieces.specs.declared.quotes.Within.TheVariants.{Open, Break, Escape, Return, High, Low, Brace, Code, Close}
use Rattle.educe_tokens_pieces.specs.declared.quotes.Next.{Next}
use Rattle.educe_tokens_pieces.specs.declared.quotes.Next.TheVariants.{Go, End, Stop}
use Rattle.educe_tokens_pieces.specs.Quotes.{closing, is_single, top_digit, is_hex}
use Rattle.educe_tokens_pieces.specs.Machine.{behind_part, is_space_character, open_step, step}
use Rattle.educe_tokens_pieces.specs.Reachable.{is_reachable}
use Rattle.educe_tokens_pieces.proofs.Steps.{open_cases, escape_cases, code_cases}

-- with fewer than six digits, the value is below that of five
pub code_below : (n v : ℕ) → (nat_le n 6 && nat_lt v (16 ^ n)) ≡ true → n < 6 → v < 1048576
code_below n v h few = let most : 16 ^ n ≤ 16 ^ 5 = pow-le-pow_right {n = 16} (omega arith) {i = n} {j = 5} (omega arith) in grind (arith, nat_tests)

-- a digit more makes it one of a digit more
code_grows : (n v d : ℕ) → (nat_le n 6 && nat_lt v (16 ^ n)) ≡ true → n < 6 → d < 16 → (nat_le (n + 1) 6 && nat_lt (v * 16 + d) (16 ^ (n + 1))) ≡ true
code_grows n v d h few small = let more : 16 ^ (n + 1) ≡ 16 ^ n * 16 = pow_more 16 n in grind (arith, nat_tests)

-- where the literal goes on, it stands at a reachable place
abbrev Reaches : Next → Type 0
Reaches (Go more) = is_reachable more ≡ true
Reaches End = Unit {0}
Reaches Stop = Unit {0}

-- behind a part
behind_reached : (q : Quote) → is_reachable (behind_part q) ≡ true
behind_reached q = cond_both (is_single q) (Close q) (Open q) (λ w. is_reachable w ≡ true) (λ e. refl) (λ e. refl)

-- from before a part
open_reached : (q : Quote) (c : ℕ) → Reaches (open_step q c)
open_reached q c = open_cases Reaches q c (λ e f. tt) (λ e. refl) (λ e. behind_reached q) tt

-- from any reachable place
step_reached : (w : Within) (c : ℕ) → is_reachable w ≡ true → Reaches (step w c)
step_reached (Open q) c h = open_reached q c
step_reached (Break q) c h = cond_both (is_space_character c) (Go (Break q)) (open_step q c) Reaches (λ e. refl) (λ e. open_reached q c)
step_reached (Escape q) c h = escape_cases Reaches q c (λ e. behind_reached q) (λ e. refl) (λ e f. refl) (λ e f. refl) (λ e f. refl) tt
step_reached (Return q) c h = cond_both (c == 10) (Go (Break q)) Stop Reaches (λ e. refl) (λ e. tt)
step_reached (High q) c h = cond_both (is_hex c && nat_le (digit_value c) (top_digit q)) (Go (Low q (digit_value c))) Stop Reaches (λ e. (and_parts (is_hex c) _ e).0) (λ e. tt)
step_reached (Low q high) c h = cond_both (is_hex c) (Go (behind_part q)) Stop Reaches (λ e. behind_reached q) (λ e. tt)
step_reached (Brace q) c h = cond_both (c == 123) (Go (Code q 0 0)) Stop Reaches (λ e. refl) (λ e. tt)
step_reached (Code q n v) c h =
    code_cases Reaches q n v c (λ e f g. behind_reached q) (λ e f. h)
    (λ digit few. code_grows n v (digit_value c) h (ltb-true n 6 few) (ltb-true (digit_value c) 16 digit)) tt
step_reached (Close q) c h = cond_both (c == closing q) End Stop Reaches (λ e. tt) (λ e. tt)

-- the literal goes on at a reachable place
pub go_reached : (w more : Within) (c : ℕ) → is_reachable w ≡ true → step w c ≡ Go more → is_reachable more ≡ true
go_reached w more c h e = subst Reaches e (step_reached w c h)
