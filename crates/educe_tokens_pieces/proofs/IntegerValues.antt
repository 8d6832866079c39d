-- The value of an integer's digits, one more at a time.
use Rattle.std.proofs.Common.{◌≡◌, ℕ, ◌+◌, ◌*◌, ◌<◌, ◌≤◌, Bool, true, false, not, Option, Some, List, [], ◌∷◌, ◌++◌, length, take, drop, get_or, filter, sym, ap, ◌∙◌, arith}
use Rattle.std.specs.Prelude.{◌==◌, cond}
use Rattle.std.specs.Char.{digit_value}
use Rattle.std.specs.Str.Parse.{digits_value}
use Rattle.std.proofs.Math.Seq.{take-append_seam}
use Rattle.std.specs.Iterator.{Yields}
use Rattle.std.proofs.lemmas.Iterator.{YieldsList}
use Rattle.std.proofs.lemmas.Iterator.Consumers.{YieldsList-turn, YieldsList-so_far}
use Rattle.std.proofs.lemmas.List.{take-append-drop, append-nil, map-id}
use Rattle.std.proofs.lemmas.List.Elements.{filter-append, filter_more}
use Rattle.std.proofs.lemmas.Int.Digits.{digits_value_push}
use Rattle.std.proofs.lemmas.Str.Parse.{digits_value-take-le}
use Rattle.educe_tokens_pieces.specs.declared.integers.Base.{Base}
use Rattle.educe_tokens_pieces.specs.declared.integers.Base.TheVariants.{Binary, Octal, Decimal, Hexadecimal}
use Rattle.educe_tokens_pieces.specs.Integers.{radix}
use Rattle.educe_tokens_pieces.specs.Numbers.{with_digit, digits_number}

-- no `_`
abbrev no_mark : ℕ → Bool
no_mark c = not (c == 95)

-- each radix is at least 1
radix_within : (base : Base) → 1 ≤ radix base
radix_within Binary = omega arith
radix_within Octal = omega arith
radix_within Decimal = omega arith
radix_within Hexadecimal = omega arith

-- one more digit behind digits, or a `_`, which is left out
push_digit : (base : Base) (ds : List ℕ) (c : ℕ) (mark : Bool) → digits_value (radix base) (ds ++ cond (not mark) (c ∷ []) []) ≡ cond mark (digits_value (radix base) ds) (digits_value (radix base) ds * radix base + digit_value c)
push_digit base ds c true = ap (digits_value (radix base)) (append-nil ds)
push_digit base ds c false = digits_value_push (radix base) ds c

-- the number of digits and one more
pub digits_push : (base : Base) (ds : List ℕ) (c : ℕ) → digits_number base (ds ++ c ∷ []) ≡ with_digit base (digits_number base ds) c
digits_push base ds c = ap (digits_value (radix base)) (filter-append no_mark ds (c ∷ [])) ∙ push_digit base (filter no_mark ds) c (c == 95)

-- the number with one more digit that a loop has
pub digits_item : (base : Base) (ds : List ℕ) (i c : ℕ) → i < length ds → c ≡ get_or ds i c → digits_number base (take (i + 1) ds) ≡ with_digit base (digits_number base (take i ds)) c
digits_item base ds i c h e =
    ap (digits_value (radix base)) (filter_more no_mark ds i c h) ∙ push_digit base (filter no_mark (take i ds)) (get_or ds i c) (get_or ds i c == 95)
    ∙ ap (with_digit base (digits_number base (take i ds))) (sym e)

-- no front is worth more than the whole
front_le : (base : Base) (ds : List ℕ) (i : ℕ) → digits_number base (take i ds) ≤ digits_number base ds
front_le base ds i =
    let front : List ℕ = filter no_mark (take i ds) in
    let back : List ℕ = filter no_mark (drop i ds) in
    let whole : front ++ back ≡ filter no_mark ds = sym (filter-append no_mark (take i ds) (drop i ds)) ∙ ap (filter no_mark) (take-append-drop i ds) in
    let le = digits_value-take-le (radix base) (front ++ back) (length front) (radix_within base) in
    let seam = ap (digits_value (radix base)) (take-append_seam front back) in
    let all = ap (digits_value (radix base)) whole in
    omega (arith, le, seam, all)

-- the number so far, and one more digit, are no more than the number of the whole
pub more_le : (base : Base) (ds : List ℕ) (i c value : ℕ) → i < length ds → c ≡ get_or ds i c → value ≡ digits_number base (take i ds) → with_digit base value c ≤ digits_number base ds
more_le base ds i c value h e front =
    let item = digits_item base ds i c h e in
    let le = front_le base ds (i + 1) in
    let same = ap (λ v. with_digit base v c) front in
    omega (arith, item, le, same)

-- the number of what an iterator gave so far, and its next digit, are no more than the number of all that it gives
pub next_le : {S : Type 0} {steps : S → Option ℕ → S → Type 0} {s : S} {all : List ℕ} (base : Base) (road : YieldsList steps (λ x. x) s all) (xs : List ℕ) (t : S) (so_far : Yields steps s xs t) (r : Option ℕ) (u : S) (c : ℕ) → r ≡ Some c → steps t r u → with_digit base (digits_number base xs) c ≤ digits_number base all
next_le {S} {steps} {s} {all} base road xs t so_far r u c is next =
    let turn = YieldsList-turn road xs t so_far r u c is next in
    more_le base all (length xs) c (digits_number base xs) turn.0 turn.1 (ap (digits_number base) (sym (map-id xs) ∙ YieldsList-so_far road xs t so_far))
