-- What is known of names that are chosen: none is a word, and no two are the same.
use Rattle.std.proofs.Common.{◌≡◌, ℕ, false, List, [], ◌∷◌, ◌++◌, refl, sym, ap, ◌∙◌}
use Rattle.std.specs.List.{AllByRecursion}
use Rattle.std.specs.Str.{bytes_eq}
use Rattle.std.proofs.lemmas.Bool.{false≢true, or_left, or_parts, or_from, false_from_ne_true}
use Rattle.std.proofs.lemmas.List.Folds.{list_any-append}
use Rattle.std.proofs.lemmas.Slice.Eq.{bytes_eq-Decides}
use Rattle.educe_tokens.specs.declared.token.Token.{Token}
use Rattle.educe_names.specs.Chosen.{is_held, IsChosen, AreChosen, AreApart}
use Rattle.educe_names.specs.Held.{AreWordsOf, HoldWordsOf}
use Rattle.educe_names.specs.Words.{HasWord}

-- ---- what is held

-- what is not held of two lists is held of neither
held_neither : (words more : List (List ℕ)) (text : List ℕ) → is_held (words ++ more) text ≡ false → (is_held words text ≡ false) × (is_held more text ≡ false)
held_neither words more text free = or_parts (is_held words text) (is_held more text) (sym (list_any-append (λ w. bytes_eq w text) words more) ∙ free)

-- one word less
held_earlier : (words : List (List ℕ)) (one text : List ℕ) → is_held (words ++ one ∷ []) text ≡ false → (is_held words text ≡ false) × (bytes_eq one text ≡ false)
held_earlier words one text free = let both = held_neither words (one ∷ []) text free in (both.0, (or_parts (bytes_eq one text) false both.1).0)

-- the words of the tokens are held, whatever else is
pub words_held : (tokens : List Token) (words more : List (List ℕ)) → AreWordsOf tokens words → HoldWordsOf tokens (words ++ more)
words_held tokens words more are word has = list_any-append (λ w. bytes_eq w word) words more ∙ or_left (is_held words word) (is_held more word) ((are word).1 has)

-- what is not held is no word of the tokens
pub no_word_free : (tokens : List Token) (words : List (List ℕ)) (text : List ℕ) → HoldWordsOf tokens words → is_held words text ≡ false → ¬ HasWord tokens text
no_word_free tokens words text hold free has = false≢true (sym free ∙ hold text has)

-- ---- names that are chosen one after the other

-- a chosen name is none of the words
chosen_free : (words : List (List ℕ)) (name text : List ℕ) → IsChosen words name text → is_held words text ≡ false
chosen_free words name text chosen = ap (is_held words) chosen.is ∙ chosen.fewest.free

-- none of them is a word that was held at first
pub each_free : (words names texts : List (List ℕ)) → AreChosen words names texts → AllByRecursion (λ text. is_held words text ≡ false) texts
each_free words [] [] chosen = tt
each_free words [] (text ∷ texts) chosen = absurd chosen
each_free words (name ∷ names) [] chosen = absurd chosen
each_free words (name ∷ names) (text ∷ texts) chosen =
    (chosen_free words name text chosen.0, weaken texts (each_free (words ++ text ∷ []) names texts chosen.1))
  where
    weaken : (texts : List (List ℕ)) → AllByRecursion (λ t. is_held (words ++ text ∷ []) t ≡ false) texts → AllByRecursion (λ t. is_held words t ≡ false) texts
    weaken [] all = tt
    weaken (t ∷ ts) all = ((held_earlier words text t all.0).0, weaken ts all.1)

-- a text that is none of the others, each by itself
not_among : (texts : List (List ℕ)) (one : List ℕ) → AllByRecursion (λ t. bytes_eq one t ≡ false) texts → is_held texts one ≡ false
not_among [] one all = refl
not_among (t ∷ ts) one all = or_from (bytes_eq t one) (is_held ts one) (false_from_ne_true _ (λ e. false≢true (sym all.0 ∙ (bytes_eq-Decides one t).1 (sym ((bytes_eq-Decides t one).0 e))))) (not_among ts one all.1)

-- no two of them are the same
pub each_apart : (words names texts : List (List ℕ)) → AreChosen words names texts → AreApart texts
each_apart words [] [] chosen = tt
each_apart words [] (text ∷ texts) chosen = absurd chosen
each_apart words (name ∷ names) [] chosen = absurd chosen
each_apart words (name ∷ names) (text ∷ texts) chosen =
    (not_among texts text (differ texts (each_free (words ++ text ∷ []) names texts chosen.1)), each_apart (words ++ text ∷ []) names texts chosen.1)
  where
    differ : (texts : List (List ℕ)) → AllByRecursion (λ t. is_held (words ++ text ∷ []) t ≡ false) texts → AllByRecursion (λ t. bytes_eq text t ≡ false) texts
    differ [] all = tt
    differ (t ∷ ts) all = ((held_earlier words text t all.0).1, differ ts all.1)
