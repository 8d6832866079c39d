use Rattle.std.proofs.Common.{ap, ◌∙◌, ◌++◌, ◌∷◌, []}
use Rattle.std.specs.Prelude.{unwrap_or}
use Rattle.educe_bound_classes.proofs.Declared.{place_kept, place_added}
use Rattle.educe_bound_classes.proofs.places.add_place.Goals as goal

pub returns-clause-keeps : goal.returns-clause-keeps
returns-clause-keeps c =
    let items = c.in_ok-push.ensures.items ∙ ap (λ known. known.items ++ c.args.place ∷ []) (c.unwrap_or-known.ensures ∙ ap (λ o. unwrap_or o c.new.result) c.remove.ensures.value) in
    place_kept c.args.places.now c.remove.new.self c.insert.new.self c.as_str-name.result c.new.result c.push.new.self c.args.place items c.remove.ensures.updates.0 c.in_ok-insert.ensures.updates.0

pub returns-clause-has : goal.returns-clause-has
returns-clause-has c =
    let items = c.in_ok-push.ensures.items ∙ ap (λ known. known.items ++ c.args.place ∷ []) (c.unwrap_or-known.ensures ∙ ap (λ o. unwrap_or o c.new.result) c.remove.ensures.value) in
    place_added c.args.places.now c.remove.new.self c.insert.new.self c.as_str-name.result c.new.result c.push.new.self c.args.place items c.remove.ensures.updates.0 c.in_ok-insert.ensures.updates.0
    c.args.name.now c.as_str-name.utf8 c.as_str-name.ensures.chars
