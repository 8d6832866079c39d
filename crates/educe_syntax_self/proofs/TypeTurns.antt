-- Types with the head in place of each path's `Self`.
use Rattle.std.proofs.Common.{◌≡◌, ℕ, ◌-◌, ◌<◌, ◌≤◌, Bool, true, false, IsTrue, List, [], length, codes, Option, Some, None, refl, sym, ap, subst, ◌∙◌, ◌⊎◌, ⊎_elim, inl, inr, arith}
use Rattle.std.specs.Str.{bytes_eq}
use Rattle.std.proofs.lemmas.Bool.{false≢true}
use Rattle.educe_tokens.specs.Bracket.TheVariants.{Round}
use Rattle.educe_tree.specs.declared.ident.Ident.{Ident}
use Rattle.educe_tree.specs.declared.expr.Expr.{Expr}
use Rattle.educe_tree.specs.declared.path.Segment.{out-roll-Segment}
use Rattle.educe_tree.specs.declared.ty.Ty.{Ty}
use Rattle.educe_tree.specs.declared.ty.TypeForm.TheVariants as form
use Rattle.educe_grammar.specs.declared.ending.Ending.{Ending}
use Rattle.educe_grammar.specs.declared.ending.Ending.TheVariants.{Closed, Arguments, Name}
use Rattle.educe_grammar.specs.declared.terminal.Keyword.TheVariants as keyword
use Rattle.educe_grammar.specs.declared.terminal.Terminal.TheVariants as terminal
use Rattle.educe_grammar.specs.Ahead.{one, stop}
use Rattle.educe_grammar.specs.Combining.{at, at_sign, at_word, at_colons, skipping, optional, flag, sign, word, colons, commas, in_round}
use Rattle.educe_grammar.specs.Names.{segment_name, segment_name_of, lifetime}
use Rattle.educe_grammar.specs.Reading.{Parses}
use Rattle.educe_grammar.specs.Reads.{parts}
use Rattle.educe_grammar.specs.Rules.{Rule, token, both, part, Typed, types, exprs}
use Rattle.educe_grammar.specs.Steps.{Tokens}
use Rattle.educe_grammar.specs.Types.{is_scope_segment, no_args, ArgsRead, round_args, type_args, angle_args, SegmentRead, segment_of, segment_read, type_segment, type_segments, type_path, qualified_self, qualified, for_all, bound_path, BoundRead, bound, bounds, some_bounds, round_of, round_form, reference, pointer, square_of, square_form, fn_param, fn_of, fn_qualifiers, fn_pointer, plain_form, one_bound_form, any_bounds_form, plain_type, any_type}
use Rattle.educe_grammar.proofs.Keeping.{has_no_documentation}
use Rattle.educe_grammar.proofs.Productions.{productions}
use Rattle.educe_syntax_self.proofs.HeadReads.{is_self_segment, TypeHead, type_head}
use Rattle.educe_syntax_self.proofs.PathTurns.{BehindColons, colons_stay, Segments, Started, turns_path, turns_path_kept, turns_leading, turns_behind}
use Rattle.educe_syntax_self.proofs.Pieces.{Setting}
use Rattle.educe_syntax_self.proofs.SimpleTurns.{is_simple, PartTurns, simple}
use Rattle.educe_syntax_self.proofs.Turns.{Any, Same, Pairwise, Optionally, Anywhere, Turns, turns_token, turns_both, turns_made, turns_checked, turns_either, turns_nest, turns_angles, turns_under, turns_arrow, turns_written, turns_list, turns_nothing, turns_skipping, turns_optional, turns_flag}
use Rattle.educe_syntax_self.proofs.SegmentTurns.{Freer, Ended, both_closed, ArgsTurned, same_args, round_turned, SegmentTurned, SelfTurned, segment_turned, last_turned, follow_turned, started_follow, SegmentsTurned, PathTurned, paths_turned, named_self, segment_filled}

-- ---- values

-- `Self` with any arguments becomes the head
self_turned : (x y : SegmentRead) (i : Ident) (a : ArgsRead) → x ≡ segment_read (i, a) → bytes_eq i.text (codes "Self") ≡ true → (y.1 ≡ Name) ⊎ (y.1 ≡ Arguments) → y.2 ≡ true → is_scope_segment y.0 ≡ false → is_self_segment y.0 ≡ false → SelfTurned x y
self_turned x y i a is named ending follows scope self = record {
  was = ap (λ (s : SegmentRead). is_self_segment s.0) is ∙ ap (λ r. bytes_eq r.ident.text (codes "Self")) (out-roll-Segment (record { ident = i; args = a.0 })) ∙ named;
  self = self;
  ending = ⊎_elim (λ e. subst (Freer Name) (sym e) (Freer.same Name)) (λ e. subst (Freer Name) (sym e) Freer.freer) ending;
  follows = follows;
  scope = scope;
}

-- how forms end
round_closed : (t : Ty) (more : Option (List Ty)) → (round_of (t, more)).1 ≡ Closed
round_closed t None = refl
round_closed t (Some more) = refl

square_closed : (t : Ty) (length : Option Expr) → (square_of (t, length)).1 ≡ Closed
square_closed t None = refl
square_closed t (Some length) = refl

fn_turned : (xs ys : List Ty) (o p : Option Typed) → Optionally Ended o p → Ended (fn_of (xs, o)) (fn_of (ys, p))
fn_turned xs ys o p Optionally.none = Freer.same Closed
fn_turned xs ys o p (Optionally.some h) = h

-- there are bounds where there were
bounds_turned : {xs ys : List BoundRead} → Pairwise Ended xs ys → IsTrue (some_bounds xs) → IsTrue (some_bounds ys)
bounds_turned Pairwise.none is = is
bounds_turned (Pairwise.one h more) is = refl

module _ (c : Setting) where
  -- the name of a segment
  pub turns_segment_name : {budget : ℕ} → Turns c Anywhere budget segment_name Same
  unfolding segment_name
  turns_segment_name = turns_made c (turns_token c terminal.PathSegment) (λ x y same. ap segment_name_of same)

module _ (c : Setting) (bound_below : ℕ) (each : (budget : ℕ) → budget < bound_below → PartTurns c Ended budget) where
  -- a rule where no part stands here
  pub plainly : {A : Type 0} (g : Rule A) (budget : ℕ) → budget ≤ bound_below → is_simple false g ≡ true → Turns c Anywhere budget g Any
  plainly g budget room is = simple c Ended bound_below each g false budget room (λ e. absurd (false≢true e)) is

  -- a rule where parts may
  pub inside : {A : Type 0} (g : Rule A) (budget : ℕ) → budget < bound_below → is_simple true g ≡ true → Turns c Anywhere budget g Any
  inside g budget room is = simple c Ended bound_below each g true budget (omega arith) (λ e. room) is

  -- ---- segments

  turns_round_args : (budget : ℕ) → budget ≤ bound_below → Turns c Anywhere budget round_args (λ x y. Any x.0 y.0 × Optionally Ended x.1 y.1)
  unfolding productions is_simple
  turns_round_args budget room = turns_both c (plainly (in_round (part types)) budget room refl) (turns_optional c (turns_arrow c (λ some. (each (budget - 1) (omega arith)).a_plain)))

  turns_type_args : (budget : ℕ) → budget ≤ bound_below → Turns c Anywhere budget type_args ArgsTurned
  unfolding productions is_simple
  turns_type_args budget room =
      turns_either c (turns_made c (plainly (skipping (flag at_colons colons) angle_args) budget room refl) (λ x y h. record { ending = Freer.same Arguments; follows = λ h. h; none = λ h. h }))
      (turns_either c (turns_made c (turns_round_args budget room) (λ x y h. round_turned x.0 y.0 x.1 y.1 h.1)) (turns_nothing c no_args (same_args no_args)))

  turns_type_segment : (budget : ℕ) → budget ≤ bound_below → Turns c Anywhere budget type_segment SegmentTurned
  unfolding type_segment
  turns_type_segment budget room =
      turns_made c (turns_both c (turns_segment_name c) (turns_type_args budget room))
      (λ x y h. subst (λ i. SegmentTurned (segment_read x) (segment_read (i, y.1))) (sym h.0) (segment_turned x.0 x.1 y.1 h.1))

  type_segments_turn : (budget : ℕ) → budget ≤ bound_below → Segments c budget type_segment SelfTurned SegmentTurned
  unfolding Parses type_segment
  type_segments_turn budget room =
      let own_head = type_head budget c.head c.is_head in
      record {
        value = own_head.value;
        reads = own_head.reads;
        filled = λ x is. segment_filled budget type_args is.0 is.2;
        first = λ tokens x begins is.
            self_turned x own_head.value is.0.0 is.0.1 is.1 (named_self budget type_args tokens is.0 begins is.2) own_head.ending own_head.follows own_head.scope own_head.self;
        each = turns_type_segment budget room;
      }

  turns_type_segments : (budget : ℕ) → budget ≤ bound_below → Turns c Anywhere budget type_segments (Started SelfTurned SegmentTurned)
  unfolding type_segments
  turns_type_segments budget room = turns_checked c (turns_path c budget type_segment SelfTurned SegmentTurned (type_segments_turn budget room)) started_follow

  -- behind `::` the first segment stays too
  turns_later_segments : (budget : ℕ) → budget ≤ bound_below → Turns c BehindColons budget type_segments (Pairwise SegmentTurned)
  unfolding type_segments
  turns_later_segments budget room =
      turns_checked c (turns_path_kept c budget type_segment SelfTurned SegmentTurned (type_segments_turn budget room) BehindColons colons_stay) (λ xs ys h is. follow_turned h is)

  -- ---- paths

  pub turns_type_path : (budget : ℕ) → budget ≤ bound_below → Turns c Anywhere budget type_path PathTurned
  unfolding type_path
  turns_type_path budget room =
      turns_checked c (turns_made c (turns_leading c (turns_later_segments budget room) (turns_type_segments budget room) SegmentsTurned (λ x y h. h) (λ x y h. h)) paths_turned) (λ p q h is. h.path is)

  pub turns_qualified_self : (budget : ℕ) → budget ≤ bound_below → Turns c Anywhere budget qualified_self (λ x y. Any x.0 y.0 × Optionally PathTurned x.1 y.1)
  unfolding qualified_self is_simple
  turns_qualified_self budget room = turns_angles c (λ some.
      (let less : budget - 1 < bound_below = omega arith in
      turns_both c (each (budget - 1) less).a_type (turns_optional c (turns_skipping c (plainly (word keyword.As) (budget - 1) (omega arith) refl) (turns_type_path (budget - 1) (omega arith))))))

  turns_qualified : (budget : ℕ) → budget ≤ bound_below → Turns c Anywhere budget qualified Ended
  unfolding qualified
  turns_qualified budget room = turns_made c (turns_both c (turns_qualified_self budget room) (turns_behind c (turns_later_segments budget room))) (λ x y h. last_turned h.1)

  -- ---- bounds

  turns_bound_path : (budget : ℕ) → budget ≤ bound_below → Turns c Anywhere budget bound_path PathTurned
  unfolding productions is_simple
  turns_bound_path budget room =
      turns_skipping c (plainly (flag (at_sign 63) (sign 63)) budget room refl) (turns_skipping c (plainly (flag (at_word keyword.For) for_all) budget room refl) (turns_type_path budget room))

  turns_bound : (budget : ℕ) → budget ≤ bound_below → Turns c Anywhere budget bound Ended
  unfolding productions is_simple
  turns_bound budget room =
      turns_either c (turns_made c (plainly lifetime budget room refl) (λ x y h. Freer.same Closed))
      (turns_either c (turns_made c (turns_nest c (λ some. turns_bound_path (budget - 1) (omega arith))) (λ x y h. Freer.same Closed))
      (turns_made c (turns_bound_path budget room) (λ x y h. h.ending)))

  pub turns_bounds : (budget : ℕ) → budget ≤ bound_below → Turns c Anywhere budget bounds (Pairwise Ended)
  unfolding bounds
  turns_bounds budget room = turns_list c (turns_bound budget room)

  -- ---- forms

  turns_round_form : (budget : ℕ) → budget ≤ bound_below → Turns c Anywhere budget round_form Ended
  unfolding productions is_simple
  turns_round_form budget room = turns_nest c (λ some.
      turns_either c (turns_nothing c (form.Tuple [], Closed) (Freer.same Closed))
      (turns_made c (inside (both (part types) (optional (at_sign 44) (skipping (sign 44) (commas (at (stop Round)) (part types))))) (budget - 1) (omega arith) refl)
      (λ x y h. both_closed (round_of x).1 (round_of y).1 (round_closed x.0 x.1) (round_closed y.0 y.1))))

  turns_reference : (budget : ℕ) → budget ≤ bound_below → Turns c Anywhere budget reference Ended
  unfolding productions is_simple
  turns_reference budget room = turns_made c (turns_under c (λ some.
      (let less : budget - 1 < bound_below = omega arith in
      turns_skipping c (plainly (flag (at (one terminal.Lifetime)) lifetime) (budget - 1) (omega arith) refl) (turns_both c (plainly (flag (at_word keyword.Mut) (word keyword.Mut)) (budget - 1) (omega arith) refl) (each (budget - 1) less).a_plain))))
      (λ x y h. h.1)

  turns_pointer : (budget : ℕ) → budget ≤ bound_below → Turns c Anywhere budget pointer Ended
  unfolding productions is_simple
  turns_pointer budget room = turns_made c (turns_under c (λ some.
      (let less : budget - 1 < bound_below = omega arith in
      turns_skipping c (plainly (token terminal.PointerWord) (budget - 1) (omega arith) refl) (each (budget - 1) less).a_plain)))
      (λ x y h. h)

  turns_square_form : (budget : ℕ) → budget ≤ bound_below → Turns c Anywhere budget square_form Ended
  unfolding productions is_simple
  turns_square_form budget room = turns_made c (turns_nest c (λ some.
      inside (both (part types) (optional (at_sign 59) (skipping (sign 59) (part exprs)))) (budget - 1) (omega arith) refl))
      (λ x y h. both_closed (square_of x).1 (square_of y).1 (square_closed x.0 x.1) (square_closed y.0 y.1))

  turns_fn_pointer : (budget : ℕ) → budget ≤ bound_below → Turns c Anywhere budget fn_pointer Ended
  unfolding productions is_simple
  turns_fn_pointer budget room = turns_made c (turns_skipping c (plainly fn_qualifiers budget room refl) (turns_skipping c (plainly (word keyword.Fn) budget room refl)
      (turns_both c (plainly (in_round fn_param) budget room refl) (turns_optional c (turns_arrow c (λ some. (each (budget - 1) (omega arith)).a_plain))))))
      (λ x y h. fn_turned x.0 y.0 x.1 y.1 h.1)

  turns_plain_form : (budget : ℕ) → budget ≤ bound_below → Turns c Anywhere budget plain_form Ended
  unfolding plain_form is_simple
  turns_plain_form budget room =
      turns_either c (turns_round_form budget room)
      (turns_either c (turns_made c (plainly (sign 33) budget room refl) (λ x y h. Freer.same Closed))
      (turns_either c (turns_reference budget room)
      (turns_either c (turns_pointer budget room)
      (turns_either c (turns_square_form budget room)
      (turns_either c (turns_qualified budget room)
      (turns_either c (turns_fn_pointer budget room)
      (turns_made c (turns_type_path budget room) (λ x y h. h.ending))))))))

  turns_one_bound_form : (budget : ℕ) → budget ≤ bound_below → Turns c Anywhere budget one_bound_form Ended
  unfolding one_bound_form
  turns_one_bound_form budget room = turns_either c (turns_made c (turns_under c (λ some. turns_bound (budget - 1) (omega arith))) (λ x y h. h)) (turns_plain_form budget room)

  turns_any_bounds_form : (budget : ℕ) → budget ≤ bound_below → Turns c Anywhere budget any_bounds_form Ended
  unfolding any_bounds_form
  turns_any_bounds_form budget room =
      turns_either c (turns_made c (turns_under c (λ some. turns_checked c (turns_bounds (budget - 1) (omega arith)) (λ xs ys h is. bounds_turned h is))) (λ x y h. Freer.same Closed)) (turns_plain_form budget room)

  -- ---- types

  pub turns_plain_type : (budget : ℕ) → budget ≤ bound_below → Turns c Anywhere budget plain_type Ended
  unfolding productions has_no_documentation
  turns_plain_type budget room = turns_made c (turns_written c refl (turns_one_bound_form budget room)) (λ x y h. h)

  pub turns_any_type : (budget : ℕ) → budget ≤ bound_below → Turns c Anywhere budget any_type Any
  unfolding productions has_no_documentation
  turns_any_type budget room = turns_made c (turns_written c refl (turns_any_bounds_form budget room)) (λ x y h. tt)
