use Rattle.std.proofs.Common.{◌≡◌, ℕ, List, map, ap, sym, subst, ◌∙◌, arith, None}
use Rattle.educe_tokens.specs.declared.token.Token.{Token}
use Rattle.educe_tokens_interner.specs.Keys.{tokens_key}
use Rattle.educe_tokens_interner.specs.Interned.{IsHeld}
use Rattle.educe_tokens_interner.specs.Places.{place_from}
use Rattle.educe_tokens_interner.proofs.Places.{kept_more, place_unheld}
use Rattle.educe_tokens_interner.proofs.interner.Interner.add.Goals as goal

pub invariant_of-self-in-Ok : goal.invariant_of-self-in-Ok
invariant_of-self-in-Ok c =
    let lists = c.self.inside.lists.items in
    let new = subst (λ (xs : List (List Token)). IsHeld xs c.args.list → ⊥) (sym c.self.view_is) c.requires in
    let none = subst (λ (k : List ℕ). place_from 0 (map tokens_key lists) k ≡ None) (sym c.into_key.ensures) (place_unheld lists c.args.list new) in
    let full = c.self.inside.lists.ok in
    let count = c.len-number.ensures in
    kept_more c.self.inside.numbers c.insert.new.self lists c.push.new.self.items c.args.list c.in_ok-copy.copy c.into_key.result c.len-number.result
    c.into_key.ensures none c.self.invariant (omega arith) c.in-Ok.ensures.updates (c.in_ok-copy.ensures ∙ c.tokens.ensures) c.in_ok-push.ensures.items
