use Rattle.std.proofs.Common.{◌+◌, ◌-◌, ℕ, [], List, length, map, chars, sym, refl, ap, ◌∙◌, subst, arith, false-eqb, true-eqb, IsTrue}
use Rattle.std.specs.Str.{IsUtf8}
use Rattle.std.proofs.lemmas.Result.{err_from_is_err_and}
use Rattle.std.proofs.lemmas.Str.{length-le-encodes, IsUtf8-drop}
use Rattle.educe_tokens_pieces.specs.Chars.{is_blank}
use Rattle.educe_tokens_pieces.specs.Pieces.{is_piece}
use Rattle.educe_tokens_scan.specs.InPlace.{IsFront}
use Rattle.educe_tokens.specs.declared.span.Span.{Span}
use Rattle.educe_tokens.specs.declared.token.Token.{Token}
use Rattle.educe_tokens.specs.Causes.{empty_at, last_of, IsLexicalCauseWithin}
use Rattle.educe_tokens.specs.Refusals.{syntax_at}
use Rattle.educe_tokens.specs.Steps.{Adds, IsCauseOfPiece}
use Rattle.educe_tokens.proofs.Cutting.{front_place, front_cut}
use Rattle.educe_tokens.proofs.Lexed.{Before, before_all, before_rest, before_more, bytes_of, front_cause, front_is_piece, front_some, lexes_all, rest_no_longer, some_chars, stuck_cause}
use Rattle.educe_tokens.proofs.Tokens.{span_of}
use Rattle.educe_tokens.proofs.lexer.token_pieces.Goals as goal

pub loop-rest-init : goal.loop-rest-init
loop-rest-init c =
    let source : List ℕ = c.args.source.now in
    let first = before_rest source source c.behind_blanks-rest.result.now [] 0 c.utf8.source c.behind_blanks-rest.utf8 (before_all (chars source)) c.behind_blanks-rest.ensures in
    record { utf8 = c.behind_blanks-rest.utf8; before = rw c.new-tokens.ensures first.0; within = first.1 }

pub returns-in_default-clause-err : goal.returns-in_default-clause-err
returns-in_default-clause-err c = λ nesting. subst (IsLexicalCauseWithin nesting (chars c.args.source.now)) (sym c.alloc.ensures) IsLexicalCauseWithin.memory

pub returns-in_default-found-clause-err : goal.returns-in_default-found-clause-err
returns-in_default-found-clause-err c =
    let rest : List ℕ = c.loop-rest.rest.now in
    let u : IsUtf8 rest = c.loop-rest.invariant.utf8 in
    let place = ap syntax_at (c.last_place-place.ensures ∙ ap (λ (ts : List Token). last_of (map span_of ts) (empty_at (length c.args.source.now))) c.as_slice.ensures) in
    let some = some_chars rest u (omega (arith, false-eqb _ 0 c.loop-rest-test.ensures)) in
    λ nesting. stuck_cause _ (chars rest) _ _ _ _ c.loop-rest.invariant.before some (rw c.in_default-found.is at c.in-Ok.ensures.value)
    (bytes_of c.args.source.now c.utf8.source) (c.new.ensures ∙ place)

pub push_piece-requires-clause-place : goal.push_piece-requires-clause-place
push_piece-requires-clause-place c =
    let rest : List ℕ = c.loop-rest.rest.now in
    let start : ℕ = length c.args.source.now - length rest in
    let u : IsUtf8 rest = c.loop-rest.invariant.utf8 in
    let f : IsFront rest (c.in-Some.kind, c.in-Some.len) = rw c.in-Some.is at c.in-Ok.ensures.value in
    let span : Span = record { start = start; end = start + c.in-Some.len } in
    front_place c.args.source.now c.args.shared.now rest c.loop-rest.tokens c.in-Some.kind c.in-Some.len span c.utf8.source u c.requires.shared c.loop-rest.invariant.before f refl refl

pub push_piece-requires-clause-piece : goal.push_piece-requires-clause-piece
push_piece-requires-clause-piece c =
    let rest : List ℕ = c.loop-rest.rest.now in
    let start : ℕ = length c.args.source.now - length rest in
    let u : IsUtf8 rest = c.loop-rest.invariant.utf8 in
    let f : IsFront rest (c.in-Some.kind, c.in-Some.len) = rw c.in-Some.is at c.in-Ok.ensures.value in
    let span : Span = record { start = start; end = start + c.in-Some.len } in
    let cut = front_cut c.args.source.now c.args.shared.now rest c.loop-rest.tokens c.in-Some.kind c.in-Some.len span c.utf8.source u c.requires.shared c.loop-rest.invariant.before f refl refl in
    subst (λ (s : List ℕ). IsTrue (is_piece c.in-Some.kind s)) (sym cut)
    (front_is_piece c.args.source.now rest c.loop-rest.tokens c.in-Some.kind c.in-Some.len span u c.loop-rest.invariant.before f refl refl)

pub returns-in_err-push_piece-clause-err : goal.returns-in_err-push_piece-clause-err
returns-in_err-push_piece-clause-err c =
    let p = err_from_is_err_and c.from_residual.result c.from_residual.ensures.1 in
    let rest : List ℕ = c.loop-rest.rest.now in
    let start : ℕ = length c.args.source.now - length rest in
    let u : IsUtf8 rest = c.loop-rest.invariant.utf8 in
    let f : IsFront rest (c.in-Some.kind, c.in-Some.len) = rw c.in-Some.is at c.in-Ok.ensures.value in
    let span : Span = record { start = start; end = start + c.in-Some.len } in
    let cut = front_cut c.args.source.now c.args.shared.now rest c.loop-rest.tokens c.in-Some.kind c.in-Some.len span c.utf8.source u c.requires.shared c.loop-rest.invariant.before f refl refl in
    let cause = subst (λ (s : List ℕ). IsCauseOfPiece s span c.in-Some.kind c.in_err-push_piece.field-0.0) cut c.in_err-push_piece.ensures.err in
    rw (p.1, p.2) (λ nesting. front_cause c.args.source.now rest c.loop-rest.tokens c.in-Some.kind c.in-Some.len span u c.loop-rest.invariant.before f refl refl c.in_err-push_piece.field-0.0 cause)

pub loop-rest-smaller : goal.loop-rest-smaller
loop-rest-smaller c =
    let rest : List ℕ = c.loop-rest.rest.now in
    let start : ℕ = length c.args.source.now - length rest in
    let u : IsUtf8 rest = c.loop-rest.invariant.utf8 in
    let f : IsFront rest (c.in-Some.kind, c.in-Some.len) = rw c.in-Some.is at c.in-Ok.ensures.value in
    let span : Span = record { start = start; end = start + c.in-Some.len } in
    let some = front_some c.args.source.now rest c.loop-rest.tokens c.in-Some.kind c.in-Some.len span u c.loop-rest.invariant.before f refl refl in
    let more : IsUtf8 c.split_at.result.1.now = subst IsUtf8 (sym c.split_at.ensures.back) (IsUtf8-drop rest c.in-Some.len u f.boundary) in
    let shorter = rest_no_longer is_blank c.split_at.result.1.now c.behind_blanks-rest-in-loop-rest.result.now more c.behind_blanks-rest-in-loop-rest.utf8 c.behind_blanks-rest-in-loop-rest.ensures in
    omega (arith, some, shorter, c.split_at.ensures.back_len)

pub loop-rest-preserved : goal.loop-rest-preserved
loop-rest-preserved c =
    let rest : List ℕ = c.loop-rest.rest.now in
    let start : ℕ = length c.args.source.now - length rest in
    let u : IsUtf8 rest = c.loop-rest.invariant.utf8 in
    let f : IsFront rest (c.in-Some.kind, c.in-Some.len) = rw c.in-Some.is at c.in-Ok.ensures.value in
    let span : Span = record { start = start; end = start + c.in-Some.len } in
    let cut = front_cut c.args.source.now c.args.shared.now rest c.loop-rest.tokens c.in-Some.kind c.in-Some.len span c.utf8.source u c.requires.shared c.loop-rest.invariant.before f refl refl in
    let tokens : List Token = c.push_piece.new.tokens in
    let adds = subst (λ (s : List ℕ). Adds c.in-Some.kind s span c.loop-rest.tokens tokens) cut c.in_ok-push_piece.ensures.ok in
    let more = before_more c.args.source.now rest c.loop-rest.tokens c.in-Some.kind c.in-Some.len span u c.loop-rest.invariant.before f refl refl tokens adds in
    let on = subst (λ (r : List ℕ). Before (chars c.args.source.now) (chars r) tokens span.end) (sym c.split_at.ensures.back) more in
    let blanks = c.behind_blanks-rest-in-loop-rest in
    let next = before_rest c.args.source.now c.split_at.result.1.now blanks.result.now tokens span.end c.utf8.source blanks.utf8 on blanks.ensures in
    record { utf8 = blanks.utf8; before = next.0; within = next.1 }

pub returns-clause-lexes : goal.returns-clause-lexes
returns-clause-lexes c =
    let rest : List ℕ = c.loop-rest.rest.now in
    let bytes = bytes_of rest c.loop-rest.invariant.utf8 in
    lexes_all _ (chars rest) _ _ c.loop-rest.invariant.before (omega (arith, bytes, length-le-encodes (chars rest), true-eqb _ 0 c.loop-rest-test.ensures))
