use Rattle.std.proofs.Common.{◌≡◌, List, [], ◌∷◌, ◌++◌, take, ap, sym, subst, ◌∙◌, arith}
use Rattle.std.proofs.lemmas.Grind.{common_steps}
use Rattle.std.proofs.lemmas.List.{take_more, map-append}
use Rattle.educe_syntax.specs.WherePredicate.{WherePredicate}
use Rattle.educe_bound_classes.specs.declared.needs.Asked.{Asked}
use Rattle.educe_bound_classes.specs.Asked as needs
use Rattle.educe_bound_classes.specs.Deriving.{Extends}
use Rattle.educe_bound.specs.Predicates.{Key, keys_of, asks_for, AreRead}
use Rattle.educe_bound.proofs.Asking.{all_parts}
use Rattle.educe_bound.proofs.Inserted.{extends_step, read_more}
use Rattle.educe_bound.proofs.asked.predicates_of.Goals as goal

pub loop-one-init : goal.loop-one-init
loop-one-init c = record {
  keys = subst (λ (found : List WherePredicate). Extends [] [] (keys_of found)) (sym c.new-found.ensures) (Extends.done []);
  read = λ params ex self asked. subst AreRead (sym c.new-found.ensures) tt;
}

pub loop-one-preserved : goal.loop-one-preserved
loop-one-preserved c =
    let items = c.args.asked.now in
    let i = c.loop-one.one-index in
    let p = c.one-item.result in
    let bound = asks_for c.args.which in
    let front = take i items in
    let found = c.loop-one.found in
    let one = c.in_ok-predicate.predicate in
    let next = c.insert.new.self in
    let before = c.loop-one.invariant in
    let inserts = c.in_ok-insert.ensures.ok in
    let whole = take_more items i p c.loop-one-test.true ∙ ap (λ (x : Asked). front ++ x ∷ []) (sym c.one-item.is) in
    record {
      keys = subst (λ (ks : List Key). Extends [] ks (keys_of next))
          (ap (λ (k : Key). needs.keys_of bound front ++ k ∷ []) c.in_ok-predicate.ensures.key ∙ sym (ap (needs.keys_of bound) whole ∙ map-append (needs.key_of bound) front (p ∷ [])))
          (extends_step [] (needs.keys_of bound front) found next one c.in_ok-insert.field-0 before.keys inserts);
      read = λ params ex self asked.
          (let each = all_parts (needs.IsAskedRead params ex self) front p (subst (needs.AreAskedRead params ex self) whole asked) in
          read_more found next one c.in_ok-insert.field-0 (before.read params ex self each.0) (c.in_ok-predicate.ensures.read params ex self each.1) inserts);
    }

pub returns : goal.returns
returns c =
    let whole : take c.loop-one.one-index c.args.asked.now ≡ c.args.asked.now = grind (arith, common_steps) in
    record {
      keys = subst (λ (asked : List Asked). Extends [] (needs.keys_of (asks_for c.args.which) asked) (keys_of c.loop-one.found)) whole c.loop-one.invariant.keys;
      read = λ params ex self asked. c.loop-one.invariant.read params ex self (subst (needs.AreAskedRead params ex self) (sym whole) asked);
    }
