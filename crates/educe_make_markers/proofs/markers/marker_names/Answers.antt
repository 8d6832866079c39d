use Rattle.std.proofs.Common.{◌∙◌, ℕ, List, ◌∷◌, [], ◌++◌, ap}
use Rattle.educe_settings.proofs.Lists.{two_pushed}
use Rattle.educe_meaning.specs.Checks.{texts_of}
use Rattle.educe_make_markers.specs.Marking.{own_texts}
use Rattle.educe_make_markers.proofs.markers.marker_names.Goals as goal

pub returns : goal.returns
returns c =
    c.in_ok-push_name.ensures
    ∙ ap (λ (front : List (List ℕ)). front ++ own_texts c.args.names.now.formatter)
    (ap texts_of (two_pushed _ _ _ _ _ c.new-found.ensures c.in_ok-push.ensures.ok c.in_ok-push-2.ensures.ok)
    ∙ (λ i. c.new.ensures i ∷ c.new-2.ensures i ∷ []) ∙ (λ i. c.in_ok-duplicate.ensures i ∷ c.in_ok-duplicate-2.ensures i ∷ []))
