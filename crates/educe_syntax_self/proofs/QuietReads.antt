-- Where no path stands nothing is noted.
use Rattle.std.proofs.Common.{◌≡◌, ℕ, zero, suc, ◌-◌, Bool, true, false, ◌&&◌, List, [], ◌∷◌, ◌++◌, length, refl, sym, ap, ◌∙◌, inl, inr, Ok, Err}
use Rattle.std.proofs.lemmas.Bool.{and_parts, false≢true}
use Rattle.educe_grammar.specs.declared.parse_stream.ParseStream.{ParseStream}
use Rattle.educe_grammar.specs.Ahead.{Look, sees_any, opens, closes}
use Rattle.educe_grammar.specs.Expressions.{group}
use Rattle.educe_grammar.specs.NotedReads.{readers_below, readers, read}
use Rattle.educe_grammar.specs.Noting.{Noter, Noters, run, repeat, plainly}
use Rattle.educe_grammar.specs.Reads.{rule_of}
use Rattle.educe_grammar.specs.Rules.{Rule, token, documentation, empty, both, made, checked, either, prefer, operator, lone, binary, nest, angles, under, arrow, list, many, chain, path, sliced, written, part, types, plains, exprs, trees}
use Rattle.educe_grammar.specs.Steps.{expect, enter}
use Rattle.educe_grammar.specs.Terminals.{accepts}
use Rattle.educe_grammar.proofs.Productions.{productions}
use Rattle.educe_syntax_self.proofs.NotedSteps.{both_same, went, chose, plainly_went}

-- the program notes nothing
abbrev pub Quiet : {A : Type 0} → Noter A → Type 0
Quiet {A = A} note = (s t : ParseStream) (x : A) → note s ≡ Ok (x, t) → t.selves ≡ s.selves

-- the rule is made of tokens, brackets and trees
unfoldable is_of_trees : {A : Type 0} → Rule A → Bool
is_of_trees (token asked) = true
is_of_trees documentation = false
is_of_trees (empty x) = false
is_of_trees (both g h) = false
is_of_trees (made f g) = is_of_trees g
is_of_trees (checked test g) = false
is_of_trees (either look g h) = is_of_trees g && is_of_trees h
is_of_trees (prefer asked g h) = false
is_of_trees (operator c d) = false
is_of_trees (lone c d g) = false
is_of_trees (binary g) = false
is_of_trees (nest b g) = is_of_trees g
is_of_trees (angles g) = false
is_of_trees (under asked g) = false
is_of_trees (arrow g) = false
is_of_trees (list separator stop g) = false
is_of_trees (many look g) = is_of_trees g
is_of_trees (chain look g) = false
is_of_trees (path g) = false
is_of_trees (sliced g) = false
is_of_trees (written g) = false
is_of_trees (part types) = false
is_of_trees (part plains) = false
is_of_trees (part exprs) = false
is_of_trees (part trees) = true

-- a loop
quiet_repeat : {A : Type 0} (item : Noter A) → Quiet item → (look : Look) (n : ℕ) (found : List A) → Quiet (repeat look item n found)
unfolding repeat
quiet_repeat item quiet look zero found s t x is = absurd (cc)
quiet_repeat item quiet look (suc n) found s t x is =
    elim (chose (sees_any look s.cursor) _ _ (Ok (x, t)) is) [
      | inl u ↦ (let v = went (item s) _ x t u.1 in quiet_repeat item quiet look n (found ++ v.value ∷ []) v.left t x v.second ∙ quiet s v.left v.value v.first)
      | inr u ↦ ap (λ (r : ParseStream). r.selves) (sym (both_same u.1).1)
    ]

module _ (noters : Noters) (each : (budget : ℕ) → Quiet (noters budget trees)) where
  -- what is made of tokens, brackets and trees
  quiet_run : {A : Type 0} (g : Rule A) (budget : ℕ) → is_of_trees g ≡ true → Quiet (run noters budget g)
  unfolding run is_of_trees
  quiet_run (token asked) budget h s t x is = (plainly_went (expect (accepts asked)) s t x is).1
  quiet_run documentation budget h s t x is = absurd (false≢true h)
  quiet_run (empty z) budget h s t x is = absurd (false≢true h)
  quiet_run (both g k) budget h s t x is = absurd (false≢true h)
  quiet_run (made f g) budget h s t x is =
      let v = went (run noters budget g s) _ x t is in ap (λ (r : ParseStream). r.selves) (sym (both_same v.second).1) ∙ quiet_run g budget h s v.left v.value v.first
  quiet_run (checked test g) budget h s t x is = absurd (false≢true h)
  quiet_run (either look g k) budget h s t x is =
      let parts = and_parts (is_of_trees g) (is_of_trees k) h in
      let first = quiet_run g budget parts.0 in
      let second = quiet_run k budget parts.1 in
      elim (chose (sees_any look s.cursor) _ _ (Ok (x, t)) is) [ inl u ↦ first s t x u.1 | inr u ↦ second s t x u.1 ]
  quiet_run (prefer asked g k) budget h s t x is = absurd (false≢true h)
  quiet_run (operator c d) budget h s t x is = absurd (false≢true h)
  quiet_run (lone c d g) budget h s t x is = absurd (false≢true h)
  quiet_run (binary g) budget h s t x is = absurd (false≢true h)
  quiet_run (nest b g) budget h s t x is =
      let o = went (plainly (expect (opens b)) s) _ x t is in
      let a = went (plainly (enter budget (length s.cursor)) o.left) _ x t o.second in
      let v = went (run noters (budget - 1) g a.left) _ x t a.second in
      let f = went (plainly (expect (closes b)) v.left) _ x t v.second in
      ap (λ (r : ParseStream). r.selves) (sym (both_same f.second).1)
      ∙ (plainly_went (expect (closes b)) v.left f.left f.value f.first).1
      ∙ quiet_run g (budget - 1) h a.left v.left v.value v.first
      ∙ (plainly_went (enter budget (length s.cursor)) o.left a.left a.value a.first).1
      ∙ (plainly_went (expect (opens b)) s o.left o.value o.first).1
  quiet_run (angles g) budget h s t x is = absurd (false≢true h)
  quiet_run (under asked g) budget h s t x is = absurd (false≢true h)
  quiet_run (arrow g) budget h s t x is = absurd (false≢true h)
  quiet_run (list separator stop g) budget h s t x is = absurd (false≢true h)
  quiet_run (many look g) budget h s t x is = quiet_repeat (run noters budget g) (quiet_run g budget h) look (suc (length s.cursor)) [] s t x is
  quiet_run (chain look g) budget h s t x is = absurd (false≢true h)
  quiet_run (path g) budget h s t x is = absurd (false≢true h)
  quiet_run (sliced g) budget h s t x is = absurd (false≢true h)
  quiet_run (written g) budget h s t x is = absurd (false≢true h)
  quiet_run (part types) budget h s t x is = absurd (false≢true h)
  quiet_run (part plains) budget h s t x is = absurd (false≢true h)
  quiet_run (part exprs) budget h s t x is = absurd (false≢true h)
  quiet_run (part trees) budget h s t x is = each budget s t x is

quiet_below : (n budget : ℕ) → Quiet (readers_below n budget trees)
unfolding readers_below productions is_of_trees
quiet_below zero budget s t x is = absurd (cc)
quiet_below (suc n) budget s t x is = quiet_run (readers_below n) (quiet_below n) (rule_of trees) budget refl s t x is

-- of a group nothing is noted
pub group_quiet : (budget : ℕ) → Quiet (read budget group)
unfolding productions is_of_trees
group_quiet budget = quiet_run readers (λ budget. quiet_below (suc budget) budget) group budget refl
