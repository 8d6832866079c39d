use Rattle.std.proofs.Common.{◌≡◌, ◌∙◌, ◌∷◌, List, ℕ, sym, ap}
use Rattle.std.proofs.lemmas.Result.{on_ok_weaker}
use Rattle.educe_names.proofs.Gaining.{name_gains}
use Rattle.educe_names.proofs.gathered.add_lifetime.Goals as goal

pub returns-in-Some : goal.returns-in-Some
returns-in-Some c =
    let text : c.args.text.now ≡ 39 ∷ c.in_ok-from_slice-in-Some.field-0 =
    sym (c.as_slice.ensures ∙ c.in_ok-letters.ensures ∙ c.as_str.ensures.chars) ∙ c.in-Some.ensures.some ∙ ap (λ (cs : List ℕ). 39 ∷ cs) (sym c.in_ok-from_slice-in-Some.ensures) in
    on_ok_weaker c.push.result (λ adds. name_gains c.args.text.now c.in_ok-from_slice-in-Some.field-0 c.args.words.now c.push.new.self text adds) c.push.ensures.ok
