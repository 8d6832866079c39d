use Rattle.std.proofs.Common.{[], ◌∷◌, subst}
use Rattle.std.specs.Prelude.{codes}
use Rattle.educe_body.specs.Chosen.{IsPrefix}
use Rattle.educe_handlers.proofs.Chosen.{chosen_first}
use Rattle.educe_make_clone.proofs.clone_names.CloneNames.choose.Goals as goal

pub returns : goal.returns
returns c =
    let source = c.in_ok-source.ensures in
    let function = c.in_ok-function.ensures in
    let value = c.in_ok-value.ensures in
    let last = c.in_ok-value.value.text ∷ [] in
    record {
      are = record {
        words = c.in_ok-used.used;
        words_are = c.in_ok-used.ensures;
        chosen =
            chosen_first _ _ (codes "source") _ (codes "__educe_clone_method_used" ∷ codes "educe__value" ∷ []) (c.in_ok-function.function.text ∷ last) source.chosen source.held
            (chosen_first _ _ (codes "__educe_clone_method_used") _ (codes "educe__value" ∷ []) last function.chosen function.held
            (chosen_first _ _ (codes "educe__value") _ [] [] value.chosen value.held tt));
      };
      sources_are = subst (λ words. IsPrefix words (codes "_s_") c.in_ok-sources.sources) source.held c.in_ok-sources.ensures.chosen;
      own_is = subst (λ words. IsPrefix words (codes "_d_") c.in_ok-own.own) source.held c.in_ok-own.ensures.chosen;
    }
