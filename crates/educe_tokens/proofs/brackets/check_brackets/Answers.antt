use Rattle.std.proofs.Common.{◌≡◌, ◌<◌, true, [], reverse, sym, ap, ◌∙◌, subst, arith, List, length, false-eqb}
use Rattle.std.proofs.lemmas.Bool.{eqb-true}
use Rattle.std.proofs.lemmas.List.{length-reverse}
use Rattle.educe_tokens.specs.declared.token.Token.{Token}
use Rattle.educe_tokens.specs.Lexes.{lexemes, Lexes}
use Rattle.educe_tokens.specs.Brackets.{closes, depth_after, kinds, NestsWithin}
use Rattle.educe_tokens.proofs.Bracketed.{opened_item, shallow_item, all_shallow, token_cause, unclosed_cause, all_closed}
use Rattle.educe_tokens.proofs.brackets.check_brackets.Goals as goal

pub returns-in-Err-clause-err : goal.returns-in-Err-clause-err
returns-in-Err-clause-err c = λ text lexes bytes.
    let own = subst (Lexes text) (sym c.as_slice-token-items.ensures) lexes in
    token_cause text c.as_slice-token-items.result.now c.loop-token.token-index c.token-item.result (reverse c.loop-token.outer.items) c.in-Err.cause _ c.loop-token-test.true c.token-item.is c.loop-token.invariant.opened c.loop-token.invariant.shallow c.in-Err.ensures.err c.refusal.ensures own

pub loop-token-preserved : goal.loop-token-preserved
loop-token-preserved c = record {
  within = c.in_default.ensures.within;
  opened =
      opened_item c.as_slice-token-items.result.now c.loop-token.token-index c.token-item.result (reverse c.loop-token.outer.items) (reverse c.take_kind.new.outer.items) c.loop-token-test.true c.token-item.is c.loop-token.invariant.opened c.in_default.ensures.ok;
  shallow =
      let depth : depth_after (length (reverse c.loop-token.outer.items)) c.token-item.result.kind ≡ length c.take_kind.new.outer.items =
      ap (λ n. depth_after n c.token-item.result.kind) (length-reverse c.loop-token.outer.items) ∙ sym c.in_default.ensures.depth in
      shallow_item c.as_slice-token-items.result.now c.loop-token.token-index c.token-item.result (reverse c.loop-token.outer.items) c.loop-token-test.true c.token-item.is c.loop-token.invariant.opened c.loop-token.invariant.shallow
      (omega (arith, depth, c.take_kind.new.outer.ok.0, c.in_default.ensures.within));
}

pub returns-clause-err : goal.returns-clause-err
returns-clause-err c = λ text lexes bytes.
    let own = subst (Lexes text) (sym c.as_slice-token-items.ensures) lexes in
    let some : 0 < length (reverse c.loop-token.outer.items) = omega (arith, false-eqb _ 0 (sym c.if-is_empty.false ∙ c.is_empty.ensures), c.loop-token.outer.ok.0, length-reverse c.loop-token.outer.items) in
    unclosed_cause text c.as_slice-token-items.result.now c.loop-token.token-index c.args.end (reverse c.loop-token.outer.items) _ (omega (arith, c.loop-token-test.false)) some c.loop-token.invariant.opened c.loop-token.invariant.shallow c.new.ensures own bytes

pub returns-then-is_empty-clause-balanced : goal.returns-then-is_empty-clause-balanced
returns-then-is_empty-clause-balanced c =
    let none : length (reverse c.loop-token.outer.items) ≡ 0 = omega (arith, eqb-true _ 0 (sym c.is_empty.ensures ∙ c.if-is_empty.true), c.loop-token.outer.ok.0, length-reverse c.loop-token.outer.items) in
    subst (λ (ts : List Token). closes [] (kinds (lexemes ts)) ≡ true) c.as_slice-token-items.ensures
    (all_closed c.as_slice-token-items.result.now c.loop-token.token-index (reverse c.loop-token.outer.items) (omega (arith, c.loop-token-test.false)) none c.loop-token.invariant.opened)

pub returns-then-is_empty-clause-shallow : goal.returns-then-is_empty-clause-shallow
returns-then-is_empty-clause-shallow c =
    subst (λ (ts : List Token). NestsWithin c.args.nesting (lexemes ts)) c.as_slice-token-items.ensures
    (all_shallow c.args.nesting c.as_slice-token-items.result.now c.loop-token.token-index (omega (arith, c.loop-token-test.false)) c.loop-token.invariant.shallow)
