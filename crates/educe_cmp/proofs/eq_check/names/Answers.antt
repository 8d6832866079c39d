use Rattle.std.proofs.Common.{◌≡◌, [], ◌∷◌, ◌∙◌, ap, sym, subst}
use Rattle.std.specs.Prelude.{codes}
use Rattle.educe_handlers.proofs.Chosen.{chosen_first}
use Rattle.educe_meaning.specs.Arms.{AreChosenFor}
use Rattle.educe_meaning.specs.Checks.{plain_names, texts_of}
use Rattle.educe_cmp.proofs.CheckedTypes.{three_pushed}
use Rattle.educe_cmp.proofs.eq_check.names.Goals as goal

pub returns : goal.returns
returns c =
    let outer = c.in_ok-outer.ensures in
    let inner = c.in_ok-inner.ensures in
    let parameter = c.in_ok-parameter.ensures in
    let last = c.in_ok-parameter.parameter.text ∷ [] in
    let behind = c.in_ok-inner.inner.text ∷ last in
    let words = ap texts_of (three_pushed _ _ _ _ _ _ _ c.new-names.ensures c.in_ok-push.ensures.ok c.in_ok-push-2.ensures.ok c.in_ok-push-3.ensures.ok) in
    let texts : texts_of c.push-3.new.self ≡ c.in_ok-outer.outer.text ∷ behind = words ∙ (λ i. c.new.ensures i ∷ c.new-2.ensures i ∷ c.new-3.ensures i ∷ []) in
    subst (AreChosenFor c.args.ast.now plain_names) (sym texts)
    (record {
      words = c.in_ok-used.used;
      words_are = c.in_ok-used.ensures;
      chosen =
          chosen_first _ _ (codes "__educe_eq_fields") _ (codes "__educe_assert_eq" ∷ codes "T" ∷ []) behind outer.chosen outer.held
          (chosen_first _ _ (codes "__educe_assert_eq") _ (codes "T" ∷ []) last inner.chosen inner.held
          (chosen_first _ _ (codes "T") _ [] [] parameter.chosen parameter.held tt));
    })
