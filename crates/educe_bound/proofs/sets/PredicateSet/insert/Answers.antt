use Rattle.std.proofs.Common.{◌≡◌, Option, None, Some, ℕ, List, refl, sym, ap, subst, ◌∙◌}
use Rattle.std.specs.Prelude.{IfSome, IfNone}
use Rattle.educe_syntax.specs.WherePredicate.{WherePredicate}
use Rattle.educe_tokens_interner.specs.Distinct.{Has}
use Rattle.educe_tokens_interner.specs.Interned.{IsUnder, IsHeld}
use Rattle.educe_bound.specs.Predicates.{key_of, keys_of}
use Rattle.educe_bound.proofs.Inserted.{there, held}
use Rattle.educe_bound.proofs.sets.PredicateSet.insert.Goals as goal

pub add-requires-clause-new : goal.add-requires-clause-new
add-requires-clause-new c =
    let same = c.in_ok-tokens.ensures ∙ c.as_slice.ensures ∙ c.tokens.ensures in
    λ has.
    subst (λ (o : Option ℕ). IfNone o (IsHeld c.self.inside.interner c.in_ok-tokens.tokens → ⊥)) c.in-None.is c.find_keyed.ensures.none
    (held c.self.inside.list c.args.predicate.now c.self.inside.interner c.in_ok-tokens.tokens c.self.invariant.0 same
    (subst (λ (ps : List WherePredicate). Has (keys_of ps) (key_of c.args.predicate.now)) (sym c.self.view_is) has))

pub returns-in-Some-clause-ok : goal.returns-in-Some-clause-ok
returns-in-Some-clause-ok c =
    let same = c.in_ok-tokens.ensures ∙ c.as_slice.ensures ∙ c.tokens.ensures in
    let has = there c.self.inside.list c.args.predicate.now c.self.inside.interner c.in_ok-tokens.tokens c.in-Some.field-0 c.self.invariant.0 same
    (subst (λ (o : Option ℕ). IfSome o (λ n. IsUnder c.self.inside.interner n c.in_ok-tokens.tokens)) c.in-Some.is c.find_keyed.ensures.some) in
    (subst (λ (ps : List WherePredicate). Has (keys_of ps) (key_of c.args.predicate.now)) c.self.view_is has, refl)
