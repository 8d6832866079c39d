-- Operands are read, whatever follows that may.
use Rattle.std.proofs.Common.{◌≡◌, ℕ, ◌≤◌, false, List, [], ◌∷◌, ◌++◌, refl, inl, inr}
use Rattle.educe_tokens.specs.Bracket.TheVariants.{Curly}
use Rattle.educe_tree.specs.declared.path.Segment.{Segment}
use Rattle.educe_tree.specs.declared.expr.ExprForm.TheVariants as form
use Rattle.educe_grammar.specs.declared.terminal.Terminal.TheVariants as terminal
use Rattle.educe_grammar.specs.declared.ending.Tail.{Tail}
use Rattle.educe_grammar.specs.declared.ending.Tail.TheVariants as tail
use Rattle.educe_grammar.specs.Steps.{Tokens}
use Rattle.educe_grammar.specs.Ahead.{one, start, lone, pair, Look, sees_any}
use Rattle.educe_grammar.specs.Rules.{part, exprs, made, nest, token, chain}
use Rattle.educe_grammar.specs.Rules as rule
use Rattle.educe_grammar.specs.Reading.{Parts, Parses}
use Rattle.educe_grammar.specs.Running.{Readers}
use Rattle.educe_grammar.specs.Combining.{at, at_colons, skipping, colons, in_round}
use Rattle.educe_grammar.specs.Names.{segment_name}
use Rattle.educe_grammar.specs.Types.{angle_args}
use Rattle.educe_grammar.specs.Expressions.{at_turbofish, expr_segment, expr_path, macro_group, inits, path_tail, primary, at_postfix, postfix, unary, at_link}
use Rattle.educe_grammar.proofs.Apart.{all_apart_sound}
use Rattle.educe_grammar.proofs.Computed.{computed}
use Rattle.educe_grammar.proofs.Again.{Behind, Again, again_weaker, again_both, again_made, again_checked, again_written, again_empty, again_either}
use Rattle.educe_grammar.proofs.LoopsAgain.{PathFits, again_path}
use Rattle.educe_grammar.proofs.Ends.{unseen, behind_expression}
use Rattle.educe_grammar.proofs.Deciding.{Seen, no_pair, pair_then}
use Rattle.educe_grammar.proofs.Known.{firsts, Known, Always, behind_empty, again_optional, whatever, always, begins, begins_not, again_choice, again_then, again_skip, again_before}
use Rattle.educe_grammar.proofs.TypesAgain.{maybe_ends, again_qualified_self}

-- `::` and a name
abbrev colons_name : Look
colons_name = (pair 58 58 ∷ one terminal.PathSegment ∷ []) ∷ []

-- no arguments stand behind a segment
abbrev OperandSegmentEnd : Behind Segment
OperandSegmentEnd x rest = sees_any at_turbofish rest ≡ false

-- no segment stands behind a path
abbrev pub NoColons : {A : Type 0} → Behind A
NoColons x rest = sees_any at_colons rest ≡ false

-- what goes on a path as an operand
abbrev path_going_on : Look
path_going_on = (pair 58 58 ∷ []) ∷ (start Curly ∷ []) ∷ (lone 33 61 ∷ []) ∷ []

-- nothing like that stands there
abbrev pub PathDone : {A : Type 0} → Behind A
PathDone x rest = sees_any path_going_on rest ≡ false

-- what stands behind an operand
abbrev pub behind_operand : Look
behind_operand = at_link ++ behind_expression

-- what ends a path
done_parts : (rest : Tokens) → sees_any path_going_on rest ≡ false
    → (sees_any at_colons rest ≡ false) × (sees_any (at (start Curly)) rest ≡ false) × (sees_any (at (lone 33 61)) rest ≡ false)
unfolding computed
done_parts rest h = (unseen at_colons path_going_on rest refl h, unseen (at (start Curly)) path_going_on rest refl h, unseen (at (lone 33 61)) path_going_on rest refl h)

module _ {readers : Readers} {parts : Parts} {limit : ℕ} (known : Known readers parts limit) where
  -- a segment is read
  again_expr_segment : (budget : ℕ) → budget ≤ limit → Again readers parts budget expr_segment OperandSegmentEnd
  unfolding expr_segment computed
  again_expr_segment budget room = again_made readers parts budget
      (again_both readers parts budget (always known segment_name budget room refl)
      (again_optional readers parts budget (always known (skipping colons angle_args) budget room refl)
      (λ front rest x p. begins known (skipping colons angle_args) at_turbofish budget front rest x refl p))
      (λ front rest x y p f. (tt, maybe_ends at_turbofish Always y rest f (λ z. tt))))

  -- what may stand behind each segment
  segments_fit : (budget : ℕ) (xs : List Segment) (rest : Tokens) → sees_any at_colons rest ≡ false → PathFits (Parses parts budget expr_segment) OperandSegmentEnd xs rest
  unfolding PathFits computed
  segments_fit budget [] rest h = tt
  segments_fit budget (x ∷ []) rest h = (no_pair 58 58 rest h, unseen at_turbofish at_colons rest refl h)
  segments_fit budget (x ∷ y ∷ more) rest h = (
    (λ first second front ts p joint. all_apart_sound colons_name at_turbofish (first ∷ second ∷ front ++ ts) refl
        (pair_then (at (one terminal.PathSegment)) first second (front ++ ts) joint (begins known expr_segment (at (one terminal.PathSegment)) budget front ts y refl p))),
    segments_fit budget (y ∷ more) rest h,
  )

  -- segments are read
  again_expr_segments : (budget : ℕ) → budget ≤ limit → Again readers parts budget (rule.path expr_segment) NoColons
  again_expr_segments budget room = again_weaker readers parts budget (again_path readers parts budget (again_expr_segment budget room))
      (λ front rest xs p h. segments_fit budget xs rest h)

  -- a path of an expression is read, where no `::` follows
  pub again_expr_path : (budget : ℕ) → budget ≤ limit → Again readers parts budget expr_path NoColons
  unfolding expr_path computed
  again_expr_path budget room = again_made readers parts budget (again_written readers parts budget
      (again_choice known budget refl refl
      (again_made readers parts budget (again_both readers parts budget (again_qualified_self known budget room)
      (again_skip known false budget room refl (again_expr_segments budget room)) (λ front rest x y p f. (tt, f))))
      (again_checked readers parts budget (again_made readers parts budget (again_then known false budget room refl (again_expr_segments budget room)))
      (λ front rest x p t f. f)))
      (λ front rest x w p e f. f))

  -- what stands behind a path is read
  again_path_tail : (budget : ℕ) → budget ≤ limit → Again readers parts budget path_tail PathDone
  unfolding path_tail Parses computed
  again_path_tail budget room =
      again_either readers parts budget (whatever known (made (λ _. tail.Fields) (nest Curly inits)) budget room refl)
      (again_either readers parts budget (whatever known (made (λ _. tail.Call) (rule.lone 33 61 macro_group)) budget room refl)
      (again_empty readers parts budget tail.Nothing)
      (λ front rest x p f. begins known (made (λ _. tail.Call) (rule.lone 33 61 macro_group)) (at (lone 33 61)) budget front rest x refl p)
      (λ front rest x p f. behind_empty readers parts budget PathDone tail.Nothing (at (lone 33 61)) front rest x p f (λ h. (done_parts rest h).2)))
      (λ front rest x p f. begins known (made (λ _. tail.Fields) (nest Curly inits)) (at (start Curly)) budget front rest x refl p)
      (λ front rest x p f. elim p [
        | inl p ↦ begins_not known (made (λ _. tail.Call) (rule.lone 33 61 macro_group)) (at (start Curly)) budget front rest x refl p
        | inr p ↦ behind_empty readers parts budget PathDone tail.Nothing (at (start Curly)) front rest x p f (λ h. (done_parts rest h).1)
      ])

  -- what stands behind a path and its tail
  tail_before : (budget : ℕ) (front rest : Tokens) (x : Tail) → Parses parts budget path_tail front x → sees_any path_going_on rest ≡ false
      → sees_any at_colons (front ++ rest) ≡ false
  unfolding path_tail Parses computed
  tail_before budget front rest x (inl p) f = begins_not known (made (λ _. tail.Fields) (nest Curly inits)) at_colons budget front rest x refl p
  tail_before budget front rest x (inr (inl p)) f =
      begins_not known (made (λ _. tail.Call) (rule.lone 33 61 macro_group)) at_colons budget front rest x refl p
  tail_before budget front rest x (inr (inr p)) f = behind_empty readers parts budget PathDone tail.Nothing at_colons front rest x p f (λ h. (done_parts rest h).0)

  -- an operand without what stands before and behind it
  again_primary : (budget : ℕ) → budget ≤ limit → Again readers parts budget primary PathDone
  unfolding primary computed
  again_primary budget room =
      again_choice known budget refl refl (whatever known (made (λ _. form.Literal) (token terminal.Literal)) budget room refl)
      (again_choice known budget refl refl (whatever known (made (λ _. form.Truth) (token terminal.Truth)) budget room refl)
      (again_choice known budget refl refl (whatever known (made (λ _. form.Other) (in_round (part exprs))) budget room refl)
      (again_made readers parts budget (again_checked readers parts budget
      (again_both readers parts budget {F = PathDone} (again_expr_path budget room) (again_path_tail budget room) (λ front rest x y p f. (tail_before budget front rest y p f, f)))
      (λ front rest x p t f. f)))))

  -- an operand is read, with what stands behind it
  pub again_unary : (budget : ℕ) → budget ≤ limit → Again readers parts budget unary (Seen behind_operand)
  unfolding unary computed
  again_unary budget room = again_made readers parts budget
      (again_weaker readers parts budget (again_then known false budget room refl
      (again_before known false behind_operand budget room refl (again_primary budget room)
      (λ x rest s. all_apart_sound (firsts (chain at_postfix postfix) behind_operand) path_going_on rest refl s)))
      (λ front rest x p s. s))
