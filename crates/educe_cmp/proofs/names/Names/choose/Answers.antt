use Rattle.std.proofs.Common.{[], ◌∷◌, ◌∙◌, subst}
use Rattle.std.specs.Prelude.{codes}
use Rattle.educe_body.specs.Chosen.{IsPrefix}
use Rattle.educe_handlers.proofs.Chosen.{chosen_first, held_more}
use Rattle.educe_cmp.proofs.names.Names.choose.Goals as goal

pub returns : goal.returns
returns c =
    let other = c.in_ok-other.ensures in
    let discriminant = c.in_ok-discriminant.ensures in
    let this = c.in_ok-this.ensures in
    let base = c.in_ok-base.ensures in
    let all = base.held ∙ held_more _ _ _ _ this.held ∙ held_more _ _ _ _ discriminant.held ∙ held_more _ _ _ _ other.held in
    let last = c.in_ok-base.base.text ∷ [] in
    let later = c.in_ok-this.this.text ∷ last in
    let behind = c.in_ok-discriminant.discriminant.text ∷ later in
    record {
      are = record {
        words = c.in_ok-used.used;
        words_are = c.in_ok-used.ensures;
        chosen =
            chosen_first _ _ (codes "other") _ (codes "discriminant" ∷ codes "this" ∷ codes "base" ∷ []) behind other.chosen other.held
            (chosen_first _ _ (codes "discriminant") _ (codes "this" ∷ codes "base" ∷ []) later discriminant.chosen discriminant.held
            (chosen_first _ _ (codes "this") _ (codes "base" ∷ []) last this.chosen this.held
            (chosen_first _ _ (codes "base") _ [] [] base.chosen base.held tt)));
      };
      own_is = subst (λ words. IsPrefix words (codes "_s_") c.in_ok-own.own) all c.in_ok-own.ensures.chosen;
      others_is = subst (λ words. IsPrefix words (codes "_o_") c.in_ok-others.others) all c.in_ok-others.ensures.chosen;
    }
