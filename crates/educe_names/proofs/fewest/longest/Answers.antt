use Rattle.std.proofs.Common.{◌∙◌, ◌≤◌, ℕ, List, length, take, get_or, subst, arith}
use Rattle.std.specs.List.{All}
use Rattle.std.proofs.lemmas.List.{take_all}
use Rattle.std.proofs.lemmas.List.Elements.{All-more}
use Rattle.educe_names.proofs.fewest.longest.Goals as goal

weaker : (words : List (List ℕ)) (most after : ℕ) → most ≤ after → All (λ (word : List ℕ). length word ≤ most) words → All (λ (word : List ℕ). length word ≤ after) words
weaker words most after less all k d inside = let own = all k d inside in omega arith

pub loop-word-preserved : goal.loop-word-preserved
loop-word-preserved c =
    let words = c.args.words.now in
    let place = c.loop-word.word-index in
    let after = c.larger-most.result in
    let own : length (get_or words place c.word-item.result) ≤ after = subst (λ (word : List ℕ). length word ≤ after) (c.as_slice.ensures ∙ c.word-item.is) c.larger-most.ensures.second in
    (All-more (λ (word : List ℕ). length word ≤ after) words place c.word-item.result c.loop-word-test.true (weaker (take place words) c.loop-word.most after c.larger-most.ensures.first c.loop-word.invariant.0) own, c.larger-most.ensures.small c.loop-word.invariant.1 (let bytes = c.as_slice.type_inv.1 in omega arith))

pub returns-clause-all : goal.returns-clause-all
returns-clause-all c =
    let all = take_all c.loop-word.word-index c.args.words.now (omega arith) in
    subst (λ (ws : List (List ℕ)). All (λ (word : List ℕ). length word ≤ c.loop-word.most) ws) all c.loop-word.invariant.0
