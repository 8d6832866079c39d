use Rattle.std.proofs.Common.{◌≡◌, ◌+◌, ◌-◌, ◌≤◌, ◌&&◌, List, map, chars, take, drop, length, length-drop, ◌∙◌, sym, ap, arith}
use Rattle.std.specs.Str.{bytes_eq}
use Rattle.std.proofs.lemmas.List.{take_all}
use Rattle.std.specs.Cmp.Lexicographic.{pointwise}
use Rattle.educe_body_values.specs.Callees.{path_of, spellings}
use Rattle.educe_body_values.proofs.Steps.{path_of-short, path_of-step}
use Rattle.educe_body_values.proofs.callee.is_spelled.Goals as goal

length-drop-le : {A : Type 0} (xs : List A) → length (drop 3 xs) ≤ length xs - 3
length-drop-le xs = let e = length-drop 3 xs in omega arith

pub returns-then-rest-lt3 : goal.returns-then-rest-lt3
returns-then-rest-lt3 c =
    sym (path_of-short c.loop-word.rest.now c.args.words.now c.loop-word.word-index c.if-rest-lt3.true c.loop-word-test.true) ∙ c.loop-word.invariant

pub returns-then-not-is_segment : goal.returns-then-not-is_segment
returns-then-not-is_segment c =
    let rest = c.loop-word.rest.now in
    let more = pointwise bytes_eq (spellings (drop 3 rest)) (path_of (map (λ w. chars w.now) (drop (c.loop-word.word-index + 1) c.args.words.now))) in
    let step = path_of-step rest c.args.words.now c.loop-word.word-index c.index-rest-0.result c.index-rest-1.result c.index-rest-2.result (omega arith)
    c.loop-word-test.true c.index-rest-0.is c.index-rest-1.is c.index-rest-2.is in
    sym (step ∙ ap (λ t. t && more) (sym c.is_segment.ensures ∙ c.if-not-is_segment.true)) ∙ c.loop-word.invariant

pub loop-word-preserved : goal.loop-word-preserved
loop-word-preserved c =
    let rest = c.loop-word.rest.now in
    let more = pointwise bytes_eq (spellings (drop 3 rest)) (path_of (map (λ w. chars w.now) (drop (c.loop-word.word-index + 1) c.args.words.now))) in
    let step = path_of-step rest c.args.words.now c.loop-word.word-index c.index-rest-0.result c.index-rest-1.result c.index-rest-2.result (omega arith)
    c.loop-word-test.true c.index-rest-0.is c.index-rest-1.is c.index-rest-2.is in
    let tail : take (length rest - 3) (drop 3 rest) ≡ drop 3 rest = take_all _ (drop 3 rest) (length-drop-le rest) in
    ap (λ ts. pointwise bytes_eq (spellings ts) (path_of (map (λ w. chars w.now) (drop (c.loop-word.word-index + 1) c.args.words.now)))) tail
    ∙ sym (step ∙ ap (λ t. t && more) (sym c.is_segment.ensures ∙ c.if-not-is_segment.false)) ∙ c.loop-word.invariant
