use Rattle.std.proofs.Common.{[], ◌∷◌, ◌∙◌, subst}
use Rattle.std.specs.Prelude.{codes}
use Rattle.educe_body.specs.Chosen.{IsPrefix}
use Rattle.educe_handlers.proofs.Chosen.{chosen_first, held_more}
use Rattle.educe_make_hash.proofs.hash_names.HashNames.choose.Goals as goal

pub returns : goal.returns
returns c =
    let state = c.in_ok-state.ensures in
    let hasher = c.in_ok-hasher.ensures in
    let all = hasher.held ∙ held_more _ _ _ _ state.held in
    record {
      are = record {
        words = c.in_ok-used.used;
        words_are = c.in_ok-used.ensures;
        chosen =
            chosen_first _ _ (codes "state") _ (codes "H" ∷ []) (c.in_ok-hasher.hasher.text ∷ []) state.chosen state.held
            (chosen_first _ _ (codes "H") _ [] [] hasher.chosen hasher.held tt);
      };
      prefix_is = subst (λ words. IsPrefix words (codes "_v_") c.in_ok-prefix.prefix) all c.in_ok-prefix.ensures.chosen;
    }
