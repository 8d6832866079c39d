-- Names that are chosen behind others.
use Rattle.std.proofs.Common.{◌≡◌, ℕ, List, [], ◌∷◌, ◌++◌, sym, ap, ◌∙◌, subst, append-nil}
use Rattle.std.proofs.lemmas.List.{append_assoc}
use Rattle.educe_body.specs.Chosen.{AreChosen}

-- names, and then those that are chosen behind them
pub chosen_behind : (held next names texts more others : List (List ℕ)) → AreChosen held names texts → next ≡ held ++ texts → AreChosen next more others → AreChosen held (names ++ more) (texts ++ others)
chosen_behind held next [] [] more others chosen is rest = subst (λ words. AreChosen words more others) (is ∙ append-nil held) rest
chosen_behind held next [] (text ∷ texts) more others chosen is rest = absurd chosen
chosen_behind held next (name ∷ names) [] more others chosen is rest = absurd chosen
chosen_behind held next (name ∷ names) (text ∷ texts) more others chosen is rest =
    (chosen.0, chosen_behind (held ++ text ∷ []) next names texts more others chosen.1 (is ∙ sym (append_assoc held (text ∷ []) texts)) rest)

-- what is held behind these and those
pub held_behind : (held next texts others : List (List ℕ)) → next ≡ held ++ texts → next ++ others ≡ held ++ (texts ++ others)
held_behind held next texts others is = ap (λ words. words ++ others) is ∙ append_assoc held texts others
