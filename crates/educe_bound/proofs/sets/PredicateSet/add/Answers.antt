use Rattle.std.proofs.Common.{◌≡◌, ℕ, List, [], ◌∷◌, ◌++◌, length, refl, ap, sym, subst, ◌∙◌}
use Rattle.educe_syntax.specs.WherePredicate.{WherePredicate}
use Rattle.educe_tokens_interner.specs.Distinct.{Has}
use Rattle.educe_bound.specs.Predicates.{key_of, keys_of}
use Rattle.educe_bound.proofs.Inserted.{unheld, kept_more, kept_same, popped}
use Rattle.educe_bound.proofs.sets.PredicateSet.add.Goals as goal

pub add-requires : goal.add-requires
add-requires c =
    unheld c.self.inside.list c.args.predicate.now c.self.inside.interner c.args.tokens c.self.invariant.0 c.requires.tokens
    (λ has. c.requires.new (subst (λ (ps : List WherePredicate). Has (keys_of ps) (key_of c.args.predicate.now)) c.self.view_is has))

pub invariant_of-self-in-Ok-add : goal.invariant_of-self-in-Ok-add
invariant_of-self-in-Ok-add c =
    let list = c.self.inside.list in
    let p = c.args.predicate.now in
    kept_more list c.push-2.new.self p c.in_ok-copy.copy c.self.inside.interner c.add.new.self c.args.tokens c.len-place.result c.push.new.self
    c.self.invariant.0 c.requires.tokens c.in_ok-copy.ensures c.in-Ok.ensures.ok c.self.invariant.2
    (λ has. c.requires.new (subst (λ (ps : List WherePredicate). Has (keys_of ps) (key_of p)) c.self.view_is has))
    c.in-Ok-add.ensures.added c.len-place.ensures (c.in_ok-push.ensures.ok ∙ ap (λ (ns : List ℕ). ns ++ c.len-place.result ∷ []) c.self.invariant.1)

pub invariant_of-self-in-Err-add : goal.invariant_of-self-in-Err-add
invariant_of-self-in-Err-add c =
    let set = c.self.inside in
    let numbers = popped set.numbers c.push.new.self c.pop.new.self c.len-place.result c.pop.result c.in_ok-push.ensures.ok c.pop.ensures.some c.pop.ensures.none c.pop.ensures.empty in
    let list = popped set.list c.push-2.new.self c.pop-in-Err-add.new.self c.in_ok-copy.copy c.pop-in-Err-add.result c.in-Ok.ensures.ok c.pop-in-Err-add.ensures.some c.pop-in-Err-add.ensures.none c.pop-in-Err-add.ensures.empty in
    kept_same set.list c.pop-in-Err-add.new.self set.interner c.add.new.self set.numbers c.pop.new.self c.self.invariant c.in-Err-add.ensures.err numbers list

pub returns-in-Err-add-clause-err : goal.returns-in-Err-add-clause-err
returns-in-Err-add-clause-err c =
    popped c.self.inside.list c.push-2.new.self c.pop-in-Err-add.new.self c.in_ok-copy.copy c.pop-in-Err-add.result c.in-Ok.ensures.ok c.pop-in-Err-add.ensures.some c.pop-in-Err-add.ensures.none c.pop-in-Err-add.ensures.empty ∙ c.self.view_is

pub invariant_of-self-in-Err-push : goal.invariant_of-self-in-Err-push
invariant_of-self-in-Err-push c =
    let set = c.self.inside in
    let numbers = popped set.numbers c.push.new.self c.pop-in-Err.new.self c.len-place.result c.pop-in-Err.result c.in_ok-push.ensures.ok c.pop-in-Err.ensures.some c.pop-in-Err.ensures.none
    c.pop-in-Err.ensures.empty in
    kept_same set.list c.push-2.new.self set.interner set.interner set.numbers c.pop-in-Err.new.self c.self.invariant refl numbers c.in-Err.ensures.err
