use Rattle.std.proofs.Common.{◌≡◌, List, [], ◌∷◌, ◌++◌, take, ap, sym, subst, ◌∙◌, arith}
use Rattle.std.proofs.lemmas.Grind.{common_steps}
use Rattle.educe_grammar.specs.Readings.{IsReadPredicate}
use Rattle.educe_grammar.proofs.Each.{all_append}
use Rattle.std.proofs.lemmas.List.{take_more, map-append}
use Rattle.educe_syntax.specs.GenericParam.{GenericParam}
use Rattle.educe_bound_classes.specs.Needs.{param_of, AreNames}
use Rattle.educe_bound.specs.Predicates.{Key, key_of, keys_of, asks_for, on_each_param, AreRead}
use Rattle.educe_bound.proofs.AskedPredicates.{laws}
use Rattle.educe_bound.proofs.Asking.{IsNamed, all_parts, on_type_param, on_other}
use Rattle.educe_bound.proofs.asked.predicates_on_params.Goals as goal
use Rattle.educe_bound.proofs.asked.predicates_on_params.Goals.{in-TypeParam+in_ok-predicate_on+in_ok-push, in_default}

pub loop-param-preserved : goal.loop-param-preserved
loop-param-preserved c =
    let items = c.as_slice-param-items.result.now in
    let i = c.loop-param.param-index in
    let p = c.param-item.result in
    let which = c.args.which in
    let front = take i items in
    let found = c.loop-param.found in
    let whole = take_more items i p c.loop-param-test.true ∙ ap (λ (x : GenericParam). front ++ x ∷ []) (sym c.param-item.is) in
    let before = c.loop-param.invariant in
    elim c.match-param.branch [
      | in-TypeParam+in_ok-predicate_on+in_ok-push w ↦
          let t = w.in-TypeParam.param in
          let one = w.in_ok-predicate_on.field-0 in
          let key : key_of one ≡ param_of (asks_for which) t.ident.text = w.in_ok-predicate_on.ensures.key in
          let is : c.match-param.found ≡ found ++ one ∷ [] = w.found-is ∙ w.in_ok-push.ensures.ok in
          record {
            keys =
                ap keys_of is ∙ map-append key_of found (one ∷ []) ∙ ap (λ (ks : List Key). ks ++ key_of one ∷ []) before.keys
                ∙ ap (λ (k : Key). on_each_param front which ++ k ∷ []) key ∙ sym (ap (λ ps. on_each_param ps which) whole ∙ on_type_param front p t which w.in-TypeParam.is);
            read = λ named.
                (let names = all_parts IsNamed front p (subst AreNames whole named) in
                let name = subst IsNamed w.in-TypeParam.is names.1 in
                subst AreRead (sym is) (all_append IsReadPredicate found (one ∷ []) (before.read names.0) (laws.params which t.ident.text one name w.in_ok-predicate_on.ensures.tokens, tt)));
          }
      | in_default w ↦ record {
        keys = ap keys_of w.found-is ∙ before.keys ∙ sym (ap (λ ps. on_each_param ps which) whole ∙ on_other front p which w.in_default.not-TypeParam);
        read = λ named. subst AreRead (sym w.found-is) (before.read (all_parts IsNamed front p (subst AreNames whole named)).0);
      }
    ]

pub loop-param-init : goal.loop-param-init
loop-param-init c = record { keys = ap keys_of c.new-found.ensures; read = λ named. subst AreRead (sym c.new-found.ensures) tt }

pub returns : goal.returns
returns c =
    let items = c.as_slice-param-items.result.now in
    let whole : take c.loop-param.param-index items ≡ items = grind (arith, common_steps) in
    let all = whole ∙ c.as_slice-param-items.ensures in
    record {
      keys = subst (λ ps. keys_of c.loop-param.found ≡ on_each_param ps c.args.which) all c.loop-param.invariant.keys;
      read = λ named. c.loop-param.invariant.read (subst AreNames (sym all) named);
    }
