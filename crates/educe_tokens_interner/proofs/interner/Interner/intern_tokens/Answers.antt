use Rattle.std.proofs.Common.{◌≡◌, List, [], ◌∷◌, ◌++◌, OnOk, subst}
use Rattle.educe_tokens.specs.declared.token.Token.{Token}
use Rattle.educe_tokens_interner.specs.Interned.{IsHeld, IsUnder, Interns}
use Rattle.educe_tokens_interner.proofs.Places.{interns_if}
use Rattle.educe_tokens_interner.proofs.interner.Interner.intern_tokens.Goals as goal

pub returns-in-Some-clause-ok : goal.returns-in-Some-clause-ok
returns-in-Some-clause-ok c =
    let lists = c.args.self.now in
    let number = c.in-Some.number in
    Interns.held lists c.args.tokens.now number (subst (λ (ts : List Token). IsUnder lists number ts) c.in_ok-list.ensures c.in-Some.ensures.some)

pub returns-in-None-clause-ok : goal.returns-in-None-clause-ok
returns-in-None-clause-ok c =
    let lists = c.args.self.now in
    let same = c.in_ok-list.ensures in
    interns_if c.add.result lists c.add.new.self c.args.tokens.now (subst (λ (ts : List Token). IsHeld lists ts → ⊥) same c.in-None.ensures.none) c.add.ensures.ok
    (subst (λ (ts : List Token). OnOk c.add.result (c.add.new.self ≡ lists ++ ts ∷ [])) same c.add.ensures.added)
