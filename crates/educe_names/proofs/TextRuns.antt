-- The runs of a text, gathered character by character, are its words.
use Rattle.std.proofs.Common.{◌≡◌, ◌≢◌, ℕ, suc, ◌||◌, ◌↔◌, Bool, true, false, not, IsTrue, List, [], ◌∷◌, ◌++◌, length, refl, sym, ap, ◌∙◌, arith, append_assoc}
use Rattle.std.specs.Prelude.{if◌then◌else◌}
use Rattle.std.specs.List.{onto_first}
use Rattle.std.specs.Str.{bytes_eq}
use Rattle.std.proofs.lemmas.Bool.{cond-true, cond-false, false≢true}
use Rattle.std.proofs.lemmas.List.{append-nil}
use Rattle.unicode_ident.specs.Ident.{is_xid_continue}
use Rattle.educe_names.specs.Chosen.{is_held}
use Rattle.educe_names.specs.Held.{some_word}
use Rattle.educe_names.specs.Words.{IsRunOf, parts}
use Rattle.educe_names.proofs.Runs.{part_is_run, run_is_part, run_some}

-- the runs of a text, of which the first goes on behind these characters
abbrev pub runs_behind : List ℕ → List ℕ → List (List ℕ)
runs_behind run [] = some_word run
runs_behind run (c ∷ cs) = if is_xid_continue c then runs_behind (run ++ c ∷ []) cs else some_word run ++ runs_behind [] cs

-- the parts that are not empty
abbrev somes : List (List ℕ) → List (List ℕ)
somes [] = []
somes (p ∷ ps) = some_word p ++ somes ps

-- the first part goes on behind these characters
abbrev onto : List ℕ → List (List ℕ) → List (List ℕ)
onto run [] = run ∷ []
onto run (p ∷ ps) = (run ++ p) ∷ ps

onto_more : (run : List ℕ) (c : ℕ) (ps : List (List ℕ)) → onto (run ++ c ∷ []) ps ≡ onto run (onto_first c ps)
onto_more run c [] = refl
onto_more run c (p ∷ ps) = ap (λ q. q ∷ ps) (append_assoc run (c ∷ []) p)

somes-onto : (ps : List (List ℕ)) → somes (onto [] ps) ≡ somes ps
somes-onto [] = refl
somes-onto (p ∷ ps) = refl

-- they are the parts that are not empty
runs_are : (run text : List ℕ) → runs_behind run text ≡ somes (onto run (parts text))
runs_are run [] = sym (append-nil (some_word (run ++ [])) ∙ ap some_word (append-nil run))
runs_are run (c ∷ cs) = split (is_xid_continue c) refl (runs_are (run ++ c ∷ []) cs) (runs_are [] cs)
  where
    split : (b : Bool) → is_xid_continue c ≡ b → runs_behind (run ++ c ∷ []) cs ≡ somes (onto (run ++ c ∷ []) (parts cs)) → runs_behind [] cs ≡ somes (onto [] (parts cs))
        → runs_behind run (c ∷ cs) ≡ somes (onto run (parts (c ∷ cs)))
    split true h on apart =
        cond-true (is_xid_continue c) _ _ h ∙ on ∙ ap somes (onto_more run c (parts cs))
        ∙ ap (λ ps. somes (onto run ps)) (sym (cond-false (not (is_xid_continue c)) ([] ∷ parts cs) (onto_first c (parts cs)) (ap not h)))
    split false h on apart =
        cond-false (is_xid_continue c) _ _ h ∙ ap (λ rest. some_word run ++ rest) (apart ∙ somes-onto (parts cs))
        ∙ ap (λ r. some_word r ++ somes (parts cs)) (sym (append-nil run))
        ∙ ap (λ ps. somes (onto run ps)) (sym (cond-true (not (is_xid_continue c)) ([] ∷ parts cs) (onto_first c (parts cs)) (ap not h)))

-- the empty word is none of them
somes_none : (ps : List (List ℕ)) → is_held (somes ps) [] ≡ false
somes_none [] = refl
somes_none ([] ∷ ps) = somes_none ps
somes_none ((c ∷ cs) ∷ ps) = somes_none ps

-- each other word is, where it is a part
somes_held : (ps : List (List ℕ)) (c : ℕ) (cs : List ℕ) → is_held (somes ps) (c ∷ cs) ≡ is_held ps (c ∷ cs)
somes_held [] c cs = refl
somes_held ([] ∷ ps) c cs = somes_held ps c cs
somes_held ((d ∷ ds) ∷ ps) c cs = ap (λ b. bytes_eq (d ∷ ds) (c ∷ cs) || b) (somes_held ps c cs)

held_runs : (text : List ℕ) → runs_behind [] text ≡ somes (parts text)
held_runs text = runs_are [] text ∙ somes-onto (parts text)

-- the words that are held are those that are runs
pub runs_held : (text word : List ℕ) → IsTrue (is_held (runs_behind [] text) word) ↔ IsRunOf word text
runs_held text [] = (
  (λ h. absurd (false≢true (sym (somes_none (parts text)) ∙ ap (λ ws. is_held ws []) (sym (held_runs text)) ∙ h))),
  (λ own. absurd (run_some [] text own refl)),
)
runs_held text (c ∷ cs) =
    let same : is_held (runs_behind [] text) (c ∷ cs) ≡ is_held (parts text) (c ∷ cs) = ap (λ ws. is_held ws (c ∷ cs)) (held_runs text) ∙ somes_held (parts text) c cs in (
      (λ h. part_is_run (c ∷ cs) text (not_empty c cs) (sym same ∙ h)),
      (λ own. same ∙ run_is_part (c ∷ cs) text own),
    )
  where
    not_empty : (c : ℕ) (cs : List ℕ) → (c ∷ cs) ≢ []
    not_empty c cs e = let l : suc (length cs) ≡ 0 = ap length e in absurd (omega arith)
