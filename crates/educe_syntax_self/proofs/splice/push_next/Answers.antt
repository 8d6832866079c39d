use Rattle.std.proofs.Common.{◌≡◌, ◌-◌, ◌++◌, ◌∷◌, [], zero, length, take, drop, ap, ◌∙◌, length-drop, arith, ℕ}
use Rattle.std.proofs.lemmas.List.{take_all}
use Rattle.educe_tokens.specs.declared.token.Token.{Token}
use Rattle.educe_grammar.specs.Steps.{Tokens}
use Rattle.educe_syntax_self.specs.Splicing.{walk}
use Rattle.educe_syntax_self.proofs.Splices.{walk_stays, walk_goes}
use Rattle.educe_syntax_self.proofs.splice.push_next.Goals as goal

pub returns-in_ok-push_all-in-Some-clause-walks : goal.returns-in_ok-push_all-in-Some-clause-walks
returns-in_ok-push_all-in-Some-clause-walks c = λ at says.
    (let head = c.args.head.now in
    let behind = c.args.behind.now in
    let k = c.saturating_sub.result in
    let rest : take (length behind - k) (drop k behind) ≡ drop (length behind - c.in-Some.left) behind =
    take_all (length behind - k) (drop k behind) (omega (arith, length-drop k behind)) ∙ ap (λ (n : ℕ). drop n behind) c.saturating_sub.ensures in
    ap (λ (us : Tokens). us ++ walk head at zero (take (length behind - k) (drop k behind))) c.in_ok-push_all-in-Some.ensures
    ∙ ap (λ (ts : Tokens). (c.args.out.now ++ head) ++ walk head at zero ts) rest
    ∙ walk_goes head at c.args.out.now c.args.token.now behind c.in-Some.left (says ∙ c.in-Some.is))

pub returns-in_ok-push-in-None-clause-walks : goal.returns-in_ok-push-in-None-clause-walks
returns-in_ok-push-in-None-clause-walks c = λ at says.
    (let head = c.args.head.now in
    let behind = c.args.behind.now in
    ap (λ (us : Tokens). us ++ walk head at zero behind) (c.in_ok-push-in-None.ensures.ok ∙ ap (λ (t : Token). c.args.out.now ++ t ∷ []) c.in_ok-duplicate-in-None.ensures)
    ∙ walk_stays head at c.args.out.now c.args.token.now behind (says ∙ c.in-None.is))
