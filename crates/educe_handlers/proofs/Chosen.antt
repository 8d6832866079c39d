-- Names that are chosen one after the other.
use Rattle.std.proofs.Common.{◌≡◌, ℕ, List, [], ◌∷◌, ◌++◌, ap, ◌∙◌, subst}
use Rattle.std.proofs.lemmas.List.{append_assoc}
use Rattle.educe_syntax.specs.DeriveInput.{DeriveInput}
use Rattle.educe_body.specs.Chosen.{IsChosen, AreChosen}
use Rattle.educe_body.specs.Held.{AreWordsOf}
use Rattle.educe_body.specs.NameLaws.{lawful_names}
use Rattle.educe_meaning.specs.Blocks.{IsParameter}

-- a name, and then those that are chosen behind it
pub chosen_first : (held next : List (List ℕ)) (name text : List ℕ) (names texts : List (List ℕ)) → IsChosen held name text → next ≡ held ++ text ∷ [] → AreChosen next names texts
    → AreChosen held (name ∷ names) (text ∷ texts)
chosen_first held next name text names texts one is rest = (one, subst (λ words. AreChosen words names texts) is rest)

-- what is held behind one more
pub held_more : (held next : List (List ℕ)) (text : List ℕ) (texts : List (List ℕ)) → next ≡ held ++ text ∷ [] → next ++ texts ≡ held ++ text ∷ texts
held_more held next text texts is = ap (λ words. words ++ texts) is ∙ append_assoc held (text ∷ []) texts

-- a name that is chosen apart from the words of the definition is that of the parameter
pub chosen_is : (d : DeriveInput) (words : List (List ℕ)) (plain name : List ℕ) → AreWordsOf d.tokens words → IsChosen words plain name → IsParameter d plain name
chosen_is d words plain name are chosen = record {
  count = chosen.count;
  is = chosen.is;
  no_word = lawful_names.no_word d.tokens words name (λ word has. (are word).1 has) (lawful_names.chosen words (plain ∷ []) (name ∷ []) (chosen, tt)).0;
  least = λ fewer less. (are _).0 (chosen.fewest.least fewer less);
}
