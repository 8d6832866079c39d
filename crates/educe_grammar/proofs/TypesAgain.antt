-- Types and bounds are read, whatever follows that may.
use Rattle.std.proofs.Common.{◌≡◌, ℕ, ◌-◌, ◌<◌, ◌≤◌, true, false, List, [], ◌∷◌, Option, Some, None, refl, arith}
use Rattle.educe_tokens.specs.Bracket.TheVariants.{Round}
use Rattle.educe_tree.specs.declared.ty.Ty.{Ty}
use Rattle.educe_grammar.specs.declared.ending.Ending.{Ending}
use Rattle.educe_grammar.specs.declared.ending.Ending.TheVariants.{Closed, Name}
use Rattle.educe_grammar.specs.declared.terminal.Keyword.TheVariants as keyword
use Rattle.educe_grammar.specs.declared.terminal.Terminal.TheVariants as terminal
use Rattle.educe_grammar.specs.Steps.{Tokens}
use Rattle.educe_grammar.specs.Ahead.{stop, Look, sees_any}
use Rattle.educe_grammar.specs.Rules.{Typed, part, types, plains, made, arrow}
use Rattle.educe_grammar.specs.Rules as rule
use Rattle.educe_grammar.specs.Reading.{Parts}
use Rattle.educe_grammar.specs.Running.{Readers}
use Rattle.educe_grammar.specs.Combining.{at, at_sign, at_word, at_arrow, skipping, optional, word, sign}
use Rattle.educe_grammar.specs.Names.{lifetime}
use Rattle.educe_grammar.specs.Types.{behind_type, type_path, qualified_self, qualified, bound_path, BoundRead, bound, bounds, FormRead, round_form, reference, pointer, square_form, fn_param, fn_of, fn_pointer, never_of, plain_form, one_bound_form, any_bounds_form, plain_type, any_type}
use Rattle.educe_grammar.proofs.Apart.{all_apart, all_apart_sound}
use Rattle.educe_grammar.proofs.Computed.{computed}
use Rattle.educe_grammar.proofs.Again.{Behind, Again, again_weaker, again_both, again_made, again_checked, again_nest, again_angles, again_under, again_arrow, again_written}
use Rattle.educe_grammar.proofs.LoopsAgain.{OfLast, again_list}
use Rattle.educe_grammar.proofs.Ends.{going_on, Ends, ends_name, ends_behind}
use Rattle.educe_grammar.proofs.Deciding.{Seen, Follows, no_token, one_seen, stop_seen}
use Rattle.educe_grammar.proofs.Known.{Known, Always, Maybe, again_optional, whatever, always, begins, begins_not, begins_before, again_choice, again_then, again_skip}
use Rattle.educe_grammar.proofs.TypePaths.{PathEnd, again_type_segments, again_type_path}

-- what may stand behind a form of a type
abbrev pub FormEnd : Behind FormRead
FormEnd x rest = Ends x.1 rest

-- what may stand behind a bound
abbrev pub BoundEnd : Behind BoundRead
BoundEnd x rest = Ends x.1 rest

-- where one of these stands, nothing goes on a type
pub ends_before : (l : Look) (ending : Ending) (rest : Tokens) → all_apart l (going_on Name) ≡ true → sees_any l rest ≡ true → Ends ending rest
ends_before l ending rest h s = ends_name ending rest (all_apart_sound l (going_on Name) rest h s)

-- what may be left out isn't there, or may end
pub maybe_ends : {A : Type 0} (look : Look) (G : Behind A) (x : Option A) (rest : Tokens) → sees_any look rest ≡ false → ((y : A) → G y rest) → Maybe look G x rest
maybe_ends look G None rest none some = none
maybe_ends look G (Some y) rest none some = some y

-- what holds of all holds of the last
last_always : {A : Type 0} (P : A → Type 0) (xs : List A) → ((x : A) → P x) → OfLast P xs
unfolding OfLast
last_always P [] h = tt
last_always P (x ∷ []) h = h x
last_always P (x ∷ y ∷ more) h = last_always P (y ∷ more) h

module _ {readers : Readers} {parts : Parts} {limit : ℕ} (known : Known readers parts limit) where
  -- the type and the trait of a qualified path
  pub again_qualified_self : (budget : ℕ) → budget ≤ limit → Again readers parts budget qualified_self Always
  unfolding qualified_self computed
  again_qualified_self budget room = again_angles readers parts budget
      (λ some. let less : budget - 1 < limit = omega arith in
      again_both readers parts (budget - 1) {F = Seen (at_sign 62)} (known.reads (budget - 1) less types)
      (again_optional readers parts (budget - 1)
      (again_skip known true (budget - 1) less refl (again_type_path known (budget - 1) (omega arith)))
      (λ front rest x p. begins known (skipping (word keyword.As) type_path) (at_word keyword.As) (budget - 1) front rest x refl p))
      (λ front rest x y p s. (
        begins_before known (optional (at_word keyword.As) (skipping (word keyword.As) type_path)) (at_sign 62) behind_type (budget - 1) front rest y refl p s,
        maybe_ends (at_word keyword.As) PathEnd y rest (all_apart_sound (at_sign 62) (at_word keyword.As) rest refl s) (λ q. ends_before (at_sign 62) q.1 rest refl s),
      )))
      (λ front rest x last p c. one_seen (terminal.Sign 62) last rest c)

  -- a qualified path
  again_qualified : (budget : ℕ) → budget ≤ limit → Again readers parts budget qualified FormEnd
  unfolding qualified computed
  again_qualified budget room = again_made readers parts budget
      (again_both readers parts budget (again_qualified_self budget room) (again_skip known false budget room refl (again_type_segments known budget room))
      (λ front rest x y p f. (tt, f)))

  -- the path of a bound
  again_bound_path : (budget : ℕ) → budget ≤ limit → Again readers parts budget bound_path PathEnd
  unfolding bound_path computed
  again_bound_path budget room = again_skip known false budget room refl (again_skip known false budget room refl (again_type_path known budget room))

  -- a bound
  again_bound : (budget : ℕ) → budget ≤ limit → Again readers parts budget bound BoundEnd
  unfolding bound computed
  again_bound budget room = again_choice known budget refl refl (whatever known (made (λ _. (None, Closed)) lifetime) budget room refl)
      (again_choice known budget refl refl
      (again_made readers parts budget (again_nest readers parts budget (λ some. again_bound_path (budget - 1) (omega arith))
      (λ front rest x last p c. ends_before (at (stop Round)) x.1 (last ∷ rest) refl (stop_seen Round last rest c))))
      (again_made readers parts budget (again_bound_path budget room)))

  -- bounds, with what stands behind them
  pub again_bounds : (budget : ℕ) → budget ≤ limit → Again readers parts budget bounds (Seen behind_type)
  unfolding bounds computed
  again_bounds budget room = again_list readers parts budget (again_bound budget room) (record {
    begins = λ front rest x p e. begins_not known bound behind_type budget front rest x refl p;
    separator = λ front rest x t p s. ends_before (at_sign 43) x.1 (t ∷ rest) refl (one_seen (terminal.Sign 43) t rest s);
    stops = λ xs rest s. s;
    ends = λ xs rest s. no_token (terminal.Sign 43) rest (all_apart_sound behind_type (at_sign 43) rest refl s);
    last = λ xs rest s. last_always (λ x. BoundEnd x rest) xs (λ x. ends_behind x.1 rest s);
  })

  -- ---- forms

  -- a reference
  again_reference : (budget : ℕ) → budget ≤ limit → Again readers parts budget reference FormEnd
  unfolding reference computed
  again_reference budget room = again_made readers parts budget (again_under readers parts budget
      (λ some. let less : budget - 1 < limit = omega arith in
      again_skip known true (budget - 1) less refl (again_then known true (budget - 1) less refl (known.reads (budget - 1) less plains))))

  -- a pointer
  again_pointer : (budget : ℕ) → budget ≤ limit → Again readers parts budget pointer FormEnd
  unfolding pointer computed
  again_pointer budget room = again_made readers parts budget (again_under readers parts budget
      (λ some. let less : budget - 1 < limit = omega arith in again_skip known true (budget - 1) less refl (known.reads (budget - 1) less plains)))

  -- what may stand behind the result of a function pointer
  fn_ends : (inputs : List Ty) (output : Option Typed) (rest : Tokens) → FormEnd (fn_of (inputs, output)) rest → Maybe at_arrow (λ (t : Typed). Ends t.1) output rest
  fn_ends inputs None rest h = h
  fn_ends inputs (Some output) rest h = h

  -- a function pointer
  again_fn_pointer : (budget : ℕ) → budget ≤ limit → Again readers parts budget fn_pointer FormEnd
  unfolding fn_pointer computed
  again_fn_pointer budget room = again_made readers parts budget
      (again_skip known false budget room refl (again_skip known false budget room refl
      (again_both readers parts budget (always known (rule.nest Round (rule.list (terminal.Sign 44) (at (stop Round)) fn_param)) budget room refl)
      (again_optional readers parts budget (again_arrow readers parts budget (λ some. known.reads (budget - 1) (omega arith) plains))
      (λ front rest x p. begins known (arrow (part plains)) at_arrow budget front rest x refl p))
      (λ front rest x y p f. (tt, fn_ends x y rest f)))))

  -- a type that isn't `dyn`
  again_plain_form : (budget : ℕ) → budget ≤ limit → Again readers parts budget plain_form FormEnd
  unfolding plain_form computed
  again_plain_form budget room =
      again_choice known budget refl refl (whatever known round_form budget room refl)
      (again_choice known budget refl refl (whatever known (made never_of (sign 33)) budget room refl)
      (again_choice known budget refl refl (again_reference budget room)
      (again_choice known budget refl refl (again_pointer budget room)
      (again_choice known budget refl refl (whatever known square_form budget room refl)
      (again_choice known budget refl refl (again_qualified budget room)
      (again_choice known budget refl refl (again_fn_pointer budget room)
      (again_made readers parts budget (again_type_path known budget room))))))))

  -- a type, where `dyn` has one bound
  again_one_bound_form : (budget : ℕ) → budget ≤ limit → Again readers parts budget one_bound_form FormEnd
  unfolding one_bound_form computed
  again_one_bound_form budget room = again_choice known budget refl refl
      (again_made readers parts budget (again_under readers parts budget (λ some. again_bound (budget - 1) (omega arith))))
      (again_plain_form budget room)

  -- a type, where `dyn` has any bounds
  again_any_bounds_form : (budget : ℕ) → budget ≤ limit → Again readers parts budget any_bounds_form (Seen behind_type)
  unfolding any_bounds_form computed
  again_any_bounds_form budget room = again_choice known budget refl refl
      (again_made readers parts budget (again_under readers parts budget
      (λ some. again_checked readers parts (budget - 1) (again_bounds (budget - 1) (omega arith)) (λ front rest x p t s. s))))
      (again_weaker readers parts budget (again_plain_form budget room) (λ front rest x p s. ends_behind x.1 rest s))

  -- a type behind which stands nothing that goes on it
  pub again_plain_type : (budget : ℕ) → budget ≤ limit → Again readers parts budget plain_type (Follows plains)
  unfolding plain_type
  again_plain_type budget room = again_made readers parts budget (again_written readers parts budget (again_one_bound_form budget room) (λ front rest x w p e f. f))

  -- a type, with what stands behind it
  pub again_any_type : (budget : ℕ) → budget ≤ limit → Again readers parts budget any_type (Follows types)
  unfolding any_type
  again_any_type budget room = again_made readers parts budget (again_written readers parts budget (again_any_bounds_form budget room) (λ front rest x w p e s. s))
