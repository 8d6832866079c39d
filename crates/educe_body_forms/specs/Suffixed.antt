-- Numbers of steps, as they are printed, and why they may stand anywhere (Rust Reference, Integer literals).
use Rattle.std.proofs.Common.{◌≡◌, ◌⊎◌, inr, ℕ, ◌<◌, ◌^◌, true, false, not, IsTrue, List, [], ◌∷◌, ◌++◌, length, codes, refl, ap, ◌∙◌, arith}
use Rattle.std.specs.Prelude.{◌==◌}
use Rattle.std.specs.Char.{is_digit, is_ascii_digit, digit_value}
use Rattle.std.specs.Fmt.{decimal}
use Rattle.std.specs.Int.{IsInRange}
use Rattle.std.specs.List.{list_all, filter}
use Rattle.std.specs.Str.Parse.{AllDigits, digits_value}
use Rattle.std.proofs.lemmas.Bool.{or_right}
use Rattle.std.proofs.lemmas.Bool.Decides.{nat_tests}
use Rattle.std.proofs.lemmas.Fmt.{decimal_is_IsNumeral}
use Rattle.std.proofs.lemmas.Str.Parse.{digit_from_value}
use Rattle.educe_tokens.specs.Base.TheVariants.{Decimal}
use Rattle.educe_tokens.specs.LiteralKind.TheVariants.{Int}
use Rattle.educe_tokens.specs.TokenKind.TheVariants.{Ident, Literal}
use Rattle.educe_tokens.specs.Chars.{begins}
use Rattle.educe_tokens.specs.Integers.{is_digit_or_mark, is_integer_type}
use Rattle.educe_tokens.specs.Lexes.{Lexeme}
use Rattle.educe_tokens.specs.Quote.{word_lexeme}
use Rattle.educe_tokens.specs.Numbers.{has_digit, digits_number}
use Rattle.educe_tokens.specs.Pieces.{spells, is_name_or_index}
use Rattle.educe_tokens.specs.Spells.{IsIntegerOf}
use Rattle.educe_tokens.proofs.Printable.{IsPrintable, printable-word}
use Rattle.educe_tree.specs.TokenLaws.{lawful_kinds}

-- The decimal digits of a number, and `usize`.
abbrev pub steps_text : ℕ → List ℕ
steps_text n = decimal n ++ codes "usize"

-- The token of the decimal digits of a number, and `usize`.
abbrev pub steps_lexeme : ℕ → Lexeme
steps_lexeme n = word_lexeme (steps_text n)

-- ---- digits with a suffix are an integer

-- A digit is one in its base, and no `_`.
digit_is : (c : ℕ) → digit_value c < 10 → (is_digit c 10 ≡ true) × ((c == 95) ≡ false) × (is_ascii_digit c ≡ true)
digit_is c h =
    let range : IsInRange 48 57 c = digit_from_value c h in
    (grind (arith, nat_tests), grind (arith, nat_tests), grind (arith, nat_tests))

-- Decimal digits are digits or underscores of their base.
digits_each : (ds : List ℕ) → AllDigits 10 ds → list_all (is_digit_or_mark Decimal) ds ≡ true
digits_each [] h = refl
digits_each (c ∷ cs) h = let d = (digit_is c h.0).0 in rw d (digits_each cs h.1)

-- No decimal digit is an underscore.
digits_kept : (ds : List ℕ) → AllDigits 10 ds → filter (λ c. not (c == 95)) ds ≡ ds
digits_kept [] h = refl
digits_kept (c ∷ cs) h = let d = (digit_is c h.0).1 in rw d (ap (λ rest. c ∷ rest) (digits_kept cs h.1))

-- Decimal digits that are not empty have a digit.
digits_some : (ds : List ℕ) → AllDigits 10 ds → 0 < length ds → has_digit Decimal ds ≡ true
digits_some [] h some = absurd (omega arith)
digits_some (c ∷ cs) h some = let d = (digit_is c h.0).0 in rw d refl

-- Decimal digits that are not empty begin with a digit.
pub digits_begin : (ds : List ℕ) → AllDigits 10 ds → 0 < length ds → begins is_ascii_digit ds ≡ true
digits_begin [] h some = absurd (omega arith)
digits_begin (c ∷ cs) h some = (digit_is c h.0).2

-- Decimal digits that are not empty, with more behind them, begin with a digit.
digits_begin-append : (ds more : List ℕ) → AllDigits 10 ds → 0 < length ds → begins is_ascii_digit (ds ++ more) ≡ true
digits_begin-append [] more h some = absurd (omega arith)
digits_begin-append (c ∷ cs) more h some = digits_begin (c ∷ cs) h some

-- The decimal digits of a number, with no suffix or a type of integers, are an integer.
pub decimal_suffixed : (n : ℕ) (suffix : List ℕ) → n < 2 ^ 64 → (suffix ≡ []) ⊎ IsTrue (is_integer_type suffix) → IsTrue (spells (Literal Int) (decimal n ++ suffix))
decimal_suffixed n suffix small typed =
    let own = decimal_is_IsNumeral n small in
    let ds : List ℕ = decimal n in
    let int : IsIntegerOf (ds ++ suffix) Decimal ds = record {
      suffix = suffix;
      is = refl;
      first = digits_begin-append ds suffix own.0.1 own.0.0;
      each = digits_each ds own.0.1;
      some = digits_some ds own.0.1 own.0.0;
      typed = typed;
    } in
    let value : digits_number Decimal ds ≡ n = ap (digits_value 10) (digits_kept ds own.0.1) ∙ own.1 in
    lawful_kinds.integer (ds ++ suffix) (Decimal, ds, int, omega arith)

-- `usize` is a type of integers.
is_usize : IsTrue (is_integer_type (codes "usize"))
unfolding is_integer_type
is_usize = refl

-- A number of steps, as it is printed, spells an integer.
pub steps_spelled : (n : ℕ) → n < 2 ^ 64 → IsTrue (is_name_or_index (steps_text n))
steps_spelled n small = or_right (spells Ident (steps_text n)) (spells (Literal Int) (steps_text n)) (decimal_suffixed n (codes "usize") small (inr is_usize))

-- The token of a number of steps may stand anywhere.
pub steps_printable : (n : ℕ) → n < 2 ^ 64 → IsPrintable (steps_lexeme n ∷ [])
steps_printable n small = printable-word (record { text = steps_text n; spelled = steps_spelled n small })
