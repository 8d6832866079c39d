use Rattle.std.proofs.Common.{◌∙◌, refl, sym, subst, ℕ, drop, chars, add-one}
use Rattle.std.proofs.lemmas.Bool.{false≢true}
use Rattle.educe_names.specs.Words.{HasWord}
use Rattle.educe_names.proofs.Having.{has_word-at, has_word-past, has_word-end}
use Rattle.educe_names.proofs.words.has_word.Goals as goal

pub returns-then-branch : goal.returns-then-branch
returns-then-branch c = (
  (λ h. has_word-at c.args.tokens.now c.loop-token.token-index c.token-item.result (chars c.args.name.now) c.loop-token-test.true c.token-item.is (c.in_ok-is_word_of.ensures.0 c.if-branch.true)),
  (λ h. refl),
)

pub loop-token-preserved : goal.loop-token-preserved
loop-token-preserved c =
    λ has. subst (λ (i : ℕ). HasWord (drop i c.args.tokens.now) (chars c.args.name.now)) (sym (add-one c.loop-token.token-index))
    (has_word-past c.args.tokens.now c.loop-token.token-index c.token-item.result (chars c.args.name.now) c.loop-token-test.true c.token-item.is
    (λ h. absurd (false≢true (sym c.if-branch.false ∙ c.in_ok-is_word_of.ensures.1 h))) (c.loop-token.invariant has))

pub returns : goal.returns
returns c = (
  (λ h. absurd (false≢true h)),
  (λ has. absurd (has_word-end c.args.tokens.now c.loop-token.token-index (chars c.args.name.now) c.loop-token-test.false (c.loop-token.invariant has))),
)
