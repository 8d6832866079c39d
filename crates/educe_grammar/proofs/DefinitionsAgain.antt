-- Definitions are read, whatever follows them.
use Rattle.std.proofs.Common.{◌≡◌, ℕ, ◌-◌, ◌<◌, ◌≤◌, Bool, true, false, ◌&&◌, ◌||◌, [], ◌∷◌, ◌++◌, refl, arith}
use Rattle.std.specs.List.{list_any}
use Rattle.educe_tokens.specs.Bracket.TheVariants.{Round, Curly}
use Rattle.educe_tree.specs.declared.ty.Ty.{Ty}
use Rattle.educe_grammar.specs.declared.terminal.Keyword.TheVariants as keyword
use Rattle.educe_grammar.specs.declared.terminal.Terminal.TheVariants as terminal
use Rattle.educe_grammar.specs.Terminals.{accepts}
use Rattle.educe_grammar.specs.Steps.{Tokens}
use Rattle.educe_grammar.specs.Ahead.{one, start, stop, Look, meets, sees, sees_any}
use Rattle.educe_grammar.specs.Rules.{Rule, part, types, exprs, both, made, either, nest}
use Rattle.educe_grammar.specs.Reading.{Parts, Parses}
use Rattle.educe_grammar.specs.Running.{Readers}
use Rattle.educe_grammar.specs.Combining.{at, at_sign, at_word, at_angle, skipping, optional, flag, sign, word, behind_colon, in_curly}
use Rattle.educe_grammar.specs.Names.{name}
use Rattle.educe_grammar.specs.Generics.{behind_where}
use Rattle.educe_grammar.specs.Definitions.{at_scope, scope, visibility, named_field, tuple_field, unit_shape, named_fields, tuple_fields, variant_fields, variant, struct_body, enum_body, struct_item, enum_item, definition}
use Rattle.educe_grammar.proofs.Apart.{all_within_sound}
use Rattle.educe_grammar.proofs.Looks.{anything, anything_seen}
use Rattle.educe_grammar.proofs.Fronts.{no_table, no_table_obeyed, fronts, fronts_seen}
use Rattle.educe_grammar.proofs.PartFronts.{part_fronts}
use Rattle.educe_grammar.proofs.Computed.{computed, more_computed}
use Rattle.educe_grammar.proofs.Again.{Behind, Again, again_weaker, again_both, again_made, again_either, again_empty, again_nest, again_sliced}
use Rattle.educe_grammar.proofs.LoopsAgain.{again_list}
use Rattle.educe_grammar.proofs.Ends.{unseen}
use Rattle.educe_grammar.proofs.Deciding.{Seen, behind_item, list_fits, stop_seen}
use Rattle.educe_grammar.proofs.Known.{firsts, behind_empty, Known, Always, whatever, always, inside, begins, begins_not, begins_apart, again_choice, again_choice_before, again_then, again_then_before, again_skip, again_before}
use Rattle.educe_grammar.proofs.GenericsAgain.{again_where_clause, again_generic_params}

-- ---- visibility

-- what goes on a visibility
abbrev pub visibility_going_on : Look
visibility_going_on = (one (terminal.Word keyword.Pub) ∷ []) ∷ at_scope

-- nothing like that stands there
abbrev pub VisibilityEnd : {A : Type 0} → Behind A
VisibilityEnd x rest = sees_any visibility_going_on rest ≡ false

-- nothing like that stands there
visibility_ends : (rest : Tokens) → sees_any visibility_going_on rest ≡ false → (sees_any (at_word keyword.Pub) rest ≡ false) × (sees_any at_scope rest ≡ false)
unfolding computed more_computed
visibility_ends rest h = (unseen (at_word keyword.Pub) visibility_going_on rest refl h, unseen at_scope visibility_going_on rest refl h)

-- three tokens show a scope
scope_seen : (parts : Parts) (budget : ℕ) (front rest : Tokens) (x : Bool) → Parses parts budget (made (λ _. true) (nest Round scope)) front x → sees_any at_scope (front ++ rest) ≡ true
unfolding computed more_computed
scope_seen parts budget front rest x p =
    let scoped : Rule Bool = made (λ _. true) (nest Round scope) in
    all_within_sound (fronts 3 no_table scoped anything) at_scope (front ++ rest) refl
    (fronts_seen parts 3 no_table (no_table_obeyed parts) scoped budget front rest x anything p (anything_seen rest))

module _ {readers : Readers} {parts : Parts} {limit : ℕ} (known : Known readers parts limit) where
  -- a visibility is read, or none
  pub again_visibility : (budget : ℕ) → budget ≤ limit → Again readers parts budget visibility VisibilityEnd
  unfolding computed more_computed
  again_visibility budget room =
      let scoped : Again readers parts budget (flag at_scope (nest Round scope)) VisibilityEnd =
      again_either readers parts budget (whatever known (made (λ _. true) (nest Round scope)) budget room refl) (again_empty readers parts budget false)
      (λ front rest x p f. scope_seen parts budget front rest x p)
      (λ front rest x p f. behind_empty readers parts budget VisibilityEnd false at_scope front rest x p f (λ h. (visibility_ends rest h).1)) in
      again_made readers parts budget (again_either readers parts budget
      (again_made readers parts budget (again_both readers parts budget (always known (word keyword.Pub) budget room refl) scoped (λ front rest x y p f. (tt, f))))
      (again_empty readers parts budget false)
      (λ front rest x p f. begins known (made (λ _. true) (both (word keyword.Pub) (flag at_scope (nest Round scope)))) (at_word keyword.Pub) budget front rest x refl p)
      (λ front rest x p f. behind_empty readers parts budget VisibilityEnd false (at_word keyword.Pub) front rest x p f (λ h. (visibility_ends rest h).0)))

  -- ---- fields

  -- a field with a name
  again_named_field : (budget : ℕ) → budget < limit → Again readers parts budget named_field (Seen (behind_item (terminal.Sign 44) (at (stop Curly))))
  unfolding computed more_computed
  again_named_field budget room =
      let l : Look = behind_item (terminal.Sign 44) (at (stop Curly)) in
      again_made readers parts budget (again_sliced readers parts budget {G = Seen l} (again_made readers parts budget
      (again_then_before known true l budget room refl (again_made readers parts budget
      (again_both readers parts budget {F = Seen l} (again_visibility budget (omega arith)) (inside known (both name (behind_colon (part types))) l budget room refl)
      (λ front rest x y p s. (begins_apart known (both name (behind_colon (part types))) l visibility_going_on budget front rest y refl p s, s))))))
      (λ front rest x p s. s))

  -- fields with names
  again_named_fields : (budget : ℕ) → budget ≤ limit → Again readers parts budget named_fields Always
  unfolding computed more_computed
  again_named_fields budget room = again_made readers parts budget (again_nest readers parts budget
      (λ some. again_list readers parts (budget - 1) (again_named_field (budget - 1) (omega arith))
      (list_fits 2 (part_fronts 2) readers parts limit known.reads known.begins named_field (budget - 1) (terminal.Sign 44) (at (stop Curly)) (at (stop Curly)) refl refl refl))
      (λ front rest x last p c. stop_seen Curly last rest c))

-- no type is a scope in brackets, or begins as one
abbrev pub NoScope : Parts → Type 0
NoScope parts = (budget : ℕ) (front rest : Tokens) (x : Ty) → Parses parts budget (part types) front x → sees_any at_scope (front ++ rest) ≡ false

-- no type begins with `pub`
visibility_unseen : (ts : Tokens) → sees_any (at_word keyword.Pub) ts ≡ false → sees_any at_scope ts ≡ false → sees_any visibility_going_on ts ≡ false
unfolding sees_any
visibility_unseen ts first second = or_false (sees (accepts (terminal.Word keyword.Pub)) ts && true) (list_any (λ way. meets way ts) at_scope) first second
  where
    or_false : (a b : Bool) → (a || false) ≡ false → b ≡ false → (a || b) ≡ false
    or_false true b h k = h
    or_false false b h k = k

module _ {readers : Readers} {parts : Parts} {limit : ℕ} (known : Known readers parts limit) (no_scope : NoScope parts) where
  -- a field without a name
  again_tuple_field : (budget : ℕ) → budget < limit → Again readers parts budget tuple_field (Seen (behind_item (terminal.Sign 44) (at (stop Round))))
  unfolding computed more_computed
  again_tuple_field budget room =
      let l : Look = behind_item (terminal.Sign 44) (at (stop Round)) in
      again_made readers parts budget (again_sliced readers parts budget {G = Seen l}
      (again_then_before known true l budget room refl (again_made readers parts budget
      (again_both readers parts budget {F = Seen l} (again_visibility known budget (omega arith)) (inside known (part types) l budget room refl)
      (λ front rest x y p s. (visibility_unseen (front ++ rest) (begins_not known (part types) (at_word keyword.Pub) budget front rest y refl p) (no_scope budget front rest y p), s)))))
      (λ front rest x p s. s))

  -- fields without names
  again_tuple_fields : (budget : ℕ) → budget ≤ limit → Again readers parts budget tuple_fields Always
  unfolding computed more_computed
  again_tuple_fields budget room = again_made readers parts budget (again_nest readers parts budget
      (λ some. again_list readers parts (budget - 1) (again_tuple_field (budget - 1) (omega arith))
      (list_fits 2 (part_fronts 2) readers parts limit known.reads known.begins tuple_field (budget - 1) (terminal.Sign 44) (at (stop Round)) (at (stop Round)) refl refl refl))
      (λ front rest x last p c. stop_seen Round last rest c))

  -- ---- enums

  -- what stands behind the fields of a variant
  abbrev behind_fields : Look
  behind_fields = (one (terminal.Sign 61) ∷ []) ∷ behind_item (terminal.Sign 44) (at (stop Curly))

  -- the fields of a variant
  again_variant_fields : (budget : ℕ) → budget ≤ limit → Again readers parts budget variant_fields (Seen behind_fields)
  unfolding computed more_computed
  again_variant_fields budget room =
      again_choice_before known behind_fields budget refl refl (again_weaker readers parts budget (again_named_fields known budget room) (λ front rest x p s. tt))
      (again_choice_before known behind_fields budget refl refl (again_weaker readers parts budget (again_tuple_fields budget room) (λ front rest x p s. tt))
      (again_empty readers parts budget unit_shape))

  -- a variant
  again_variant : (budget : ℕ) → budget < limit → Again readers parts budget variant (Seen (behind_item (terminal.Sign 44) (at (stop Curly))))
  unfolding computed more_computed
  again_variant budget room =
      let l : Look = behind_item (terminal.Sign 44) (at (stop Curly)) in
      again_made readers parts budget (again_sliced readers parts budget {G = Seen l}
      (again_then_before known true l budget room refl (again_then_before known true l budget room refl
      (again_before known true {G = Seen behind_fields} l budget room refl (again_variant_fields budget (omega arith))
      (λ x rest s. all_within_sound (firsts (optional (at_sign 61) (skipping (sign 61) (part exprs))) l) behind_fields rest refl s))))
      (λ front rest x p s. s))

  -- ---- definitions

  -- the body of a struct
  again_struct_body : (budget : ℕ) → budget < limit → Again readers parts budget struct_body Always
  unfolding computed more_computed
  again_struct_body budget room = again_made readers parts budget (again_choice known budget refl refl
      (again_made readers parts budget (again_both readers parts budget {G = Seen (at_sign 59)}
      (again_both readers parts budget {F = Seen (at_sign 59)} (again_tuple_fields budget (omega arith)) (again_where_clause known budget room)
      (λ front rest x y p s. (tt, all_within_sound (at_sign 59) behind_where rest refl s)))
      (always known (sign 59) budget (omega arith) refl)
      (λ front rest x y p f. (begins known (sign 59) (at_sign 59) budget front rest y refl p, tt))))
      (again_made readers parts budget (again_both readers parts budget (again_where_clause known budget room)
      (again_choice known budget refl refl (again_named_fields known budget (omega arith)) (always known (made (λ _. unit_shape) (sign 59)) budget (omega arith) refl))
      (λ front rest x y p f. (begins known (either (at (start Curly)) named_fields (made (λ _. unit_shape) (sign 59))) behind_where budget front rest y refl p, tt)))))

  -- the body of an enum
  again_enum_body : (budget : ℕ) → budget < limit → Again readers parts budget enum_body Always
  unfolding computed more_computed
  again_enum_body budget room = again_made readers parts budget (again_both readers parts budget (again_where_clause known budget room)
      (again_nest readers parts budget {F = Always}
      (λ some. again_list readers parts (budget - 1) (again_variant (budget - 1) (omega arith))
      (list_fits 2 (part_fronts 2) readers parts limit known.reads known.begins variant (budget - 1) (terminal.Sign 44) (at (stop Curly)) (at (stop Curly)) refl refl refl))
      (λ front rest x last p c. stop_seen Curly last rest c))
      (λ front rest x y p f. (begins known (in_curly variant) behind_where budget front rest y refl p, tt)))

  -- a struct
  again_struct_item : (budget : ℕ) → budget < limit → Again readers parts budget struct_item Always
  unfolding computed more_computed
  again_struct_item budget room = again_skip known false budget (omega arith) refl (again_then known false budget (omega arith) refl
      (again_both readers parts budget (again_generic_params known budget (omega arith)) (again_struct_body budget room)
      (λ front rest x y p f. (begins_not known struct_body at_angle budget front rest y refl p, tt))))

  -- an enum
  again_enum_item : (budget : ℕ) → budget < limit → Again readers parts budget enum_item Always
  unfolding computed more_computed
  again_enum_item budget room = again_skip known false budget (omega arith) refl (again_then known false budget (omega arith) refl
      (again_both readers parts budget (again_generic_params known budget (omega arith)) (again_enum_body budget room)
      (λ front rest x y p f. (begins_not known enum_body at_angle budget front rest y refl p, tt))))

  -- a definition is read, whatever follows
  pub again_definition : (budget : ℕ) → budget < limit → Again readers parts budget definition Always
  unfolding computed more_computed
  again_definition budget room = again_made readers parts budget (again_sliced readers parts budget {G = Always}
      (again_then known false budget (omega arith) refl (again_made readers parts budget
      (again_both readers parts budget {F = Always} (again_visibility known budget (omega arith))
      (again_choice known budget refl refl (again_enum_item budget room) (again_struct_item budget room))
      (λ front rest x y p f. (begins_not known (either (at_word keyword.Enum) enum_item struct_item) visibility_going_on budget front rest y refl p, tt)))))
      (λ front rest x p f. tt))
