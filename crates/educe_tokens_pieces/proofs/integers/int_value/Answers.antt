use Rattle.std.proofs.Common.{ℕ, Some, List, take, drop, chars, sym, ap, ◌∙◌, arith, rules, tests}
use Rattle.std.specs.List.{prefix_len}
use Rattle.std.proofs.lemmas.Bool.{and_parts, ltb-true}
use Rattle.std.proofs.lemmas.List.{map-id}
use Rattle.std.proofs.lemmas.Iterator.{YieldsList-from_chars}
use Rattle.std.proofs.lemmas.Iterator.Adapters.{YieldsList-from_skip}
use Rattle.std.proofs.lemmas.Iterator.Search.{YieldsList-from_take_while}
use Rattle.std.proofs.lemmas.Iterator.Consumers.{YieldsList-at, YieldsList-end}
use Rattle.educe_tokens_pieces.specs.declared.integers.Base.{Base}
use Rattle.educe_tokens_pieces.specs.Integers.{mark_length, base_of, is_digit_or_mark, has_int_form}
use Rattle.educe_tokens_pieces.specs.Numbers.{with_digit, digits_number}
use Rattle.educe_tokens_pieces.proofs.IntegerLaws.{int_bytes}
use Rattle.educe_tokens_pieces.proofs.IntegerValues.{digits_push, next_le}
use Rattle.educe_tokens_pieces.proofs.integers.int_value.Goals as goal

-- the digits, if the base were this one
abbrev digits_at : List ℕ → Base → List ℕ
digits_at cs base = take (prefix_len (is_digit_or_mark base) (drop (mark_length base) cs)) (drop (mark_length base) cs)

pub loop-c-preserved : goal.loop-c-preserved
loop-c-preserved c =
    let text = c.args.text.now in
    let base = c.base_of_bytes-base.ensures ∙ ap base_of (c.as_bytes.ensures.value ∙ int_bytes text c.utf8.text c.requires) in
    record {
      front = c.in_ok-value.ensures.1 ∙ (λ i. with_digit (base i) (c.loop-c.invariant.front i) c.in-Some.c) ∙ sym (digits_push (base_of (chars text)) c.loop-c.yielded c.in-Some.c);
      in_range = omega (arith, c.in_ok-value.ensures);
    }

pub returns : goal.returns
returns c =
    let text = c.args.text.now in
    let cs : List ℕ = chars text in
    let base = c.base_of_bytes-base.ensures ∙ ap base_of (c.as_bytes.ensures.value ∙ int_bytes text c.utf8.text c.requires) in
    let end =
    YieldsList-end
    (YieldsList-at {t = c.take_while-c-items.result} (cc)
    (YieldsList-from_take_while _ (is_digit_or_mark c.base_of_bytes-base.result)
    (YieldsList-from_skip (mark_length c.base_of_bytes-base.result) (YieldsList-from_chars text c.utf8.text (cc)) (cc))
    c.take_while-c-items.ensures.closure c.take_while-c-items.ensures.done (λ x b q k. search (rules, tests))))
    c.loop-c.yielded _ c.loop-c.yielded_by _ _ c.in-None.is c.next.ensures.steps in
    let all = sym (map-id c.loop-c.yielded) ∙ end.0 ∙ ap (digits_at cs) base in
    ap Some (c.loop-c.invariant.front ∙ ap (digits_number (base_of cs)) all)

pub returns-in_err-value : goal.returns-in_err-value
returns-in_err-value c =
    let text = c.args.text.now in
    let cs : List ℕ = chars text in
    let base = c.base_of_bytes-base.ensures ∙ ap base_of (c.as_bytes.ensures.value ∙ int_bytes text c.utf8.text c.requires) in
    let most =
    next_le c.base_of_bytes-base.result
    (YieldsList-at {t = c.take_while-c-items.result} (cc)
    (YieldsList-from_take_while _ (is_digit_or_mark c.base_of_bytes-base.result)
    (YieldsList-from_skip (mark_length c.base_of_bytes-base.result) (YieldsList-from_chars text c.utf8.text (cc)) (cc))
    c.take_while-c-items.ensures.closure c.take_while-c-items.ensures.done (λ x b q k. search (rules, tests))))
    c.loop-c.yielded _ c.loop-c.yielded_by _ _ c.in-Some.c c.in-Some.is c.next.ensures.steps in
    let front = c.loop-c.invariant.front ∙ ap (λ base. digits_number base c.loop-c.yielded) (sym base) in
    let pushed = ap (λ value. with_digit c.base_of_bytes-base.result value c.in-Some.c) front in
    let whole = ap (λ base. digits_number base (digits_at cs base)) base in
    let fits = ltb-true _ _ (and_parts (has_int_form cs) _ c.requires).1 in
    absurd (c.in_err-value.ensures (omega (arith, most, pushed, whole, fits)))
