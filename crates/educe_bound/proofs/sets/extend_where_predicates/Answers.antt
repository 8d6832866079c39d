use Rattle.std.proofs.Common.{◌≡◌, List, [], ◌∷◌, ◌++◌, take, ap, sym, subst, ◌∙◌, arith}
use Rattle.std.proofs.lemmas.Grind.{common_steps}
use Rattle.std.proofs.lemmas.List.{take_more}
use Rattle.educe_grammar.specs.Readings.{IsReadPredicate}
use Rattle.educe_syntax.specs.WherePredicate.{WherePredicate}
use Rattle.educe_bound_classes.specs.Deriving.{Extends}
use Rattle.educe_bound.specs.Predicates.{keys_of, AreRead}
use Rattle.educe_bound.proofs.Asking.{all_parts}
use Rattle.educe_bound.proofs.Inserted.{extends_more, prefix_none, prefix_more, read_more}
use Rattle.educe_bound.proofs.sets.extend_where_predicates.Goals as goal

pub loop-predicate-init : goal.loop-predicate-init
loop-predicate-init c = record { extends = Extends.done (keys_of c.args.own.now); prefix = prefix_none c.args.own.now; read = λ own extra. own }

pub loop-predicate-preserved : goal.loop-predicate-preserved
loop-predicate-preserved c =
    let items = c.as_slice-predicate-items.result.now in
    let i = c.loop-predicate.predicate-index in
    let one = c.predicate-item.result in
    let own = c.loop-predicate.own in
    let next = c.insert.new.self in
    let new = c.in_ok-insert.field-0 in
    let before = c.loop-predicate.invariant in
    let inserts = c.in_ok-insert.ensures.ok in
    let whole = take_more items i one c.loop-predicate-test.true ∙ ap (λ (x : WherePredicate). take i items ++ x ∷ []) (sym c.predicate-item.is) in
    record {
      extends = extends_more (keys_of c.args.own.now) items i one own next new c.loop-predicate-test.true c.predicate-item.is before.extends inserts;
      prefix = prefix_more c.args.own.now own next one new before.prefix inserts;
      read = λ first extra. (let each = all_parts IsReadPredicate (take i items) one (subst AreRead whole extra) in read_more own next one new (before.read first each.0) each.1 inserts);
    }

pub returns : goal.returns
returns c =
    let items = c.as_slice-predicate-items.result.now in
    let whole : take c.loop-predicate.predicate-index items ≡ items = grind (arith, common_steps) in
    let all = whole ∙ c.as_slice-predicate-items.ensures in
    record {
      ok = subst (λ (ps : List WherePredicate). Extends (keys_of c.args.own.now) (keys_of ps) (keys_of c.loop-predicate.own)) all c.loop-predicate.invariant.extends;
      kept = c.loop-predicate.invariant.prefix;
      read = λ own extra. c.loop-predicate.invariant.read own (subst AreRead (sym all) extra);
    }
