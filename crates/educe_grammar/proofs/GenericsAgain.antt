-- Generic parameters and where-clauses are read, whatever follows that may.
use Rattle.std.proofs.Common.{◌≡◌, ℕ, ◌-◌, ◌<◌, ◌≤◌, true, false, [], ◌∷◌, ◌++◌, refl, arith}
use Rattle.educe_grammar.specs.declared.terminal.Keyword.TheVariants as keyword
use Rattle.educe_grammar.specs.declared.terminal.Terminal.TheVariants as terminal
use Rattle.educe_grammar.specs.Ahead.{one, finish, Look, sees_any}
use Rattle.educe_grammar.specs.Rules.{types, part}
use Rattle.educe_grammar.specs.Reading.{Parts}
use Rattle.educe_grammar.specs.Running.{Readers}
use Rattle.educe_grammar.specs.Combining.{at, at_sign, at_word, at_colon, at_angle, skipping, sign, flag, behind_colon, in_angles}
use Rattle.educe_grammar.specs.Types.{behind_type, for_all, bounds}
use Rattle.educe_grammar.specs.Generics.{lifetime_param, type_param, const_param, generic_param, generic_params, params, lifetime_predicate, bounded_type, type_predicate, predicate, behind_where, predicates, where_clause}
use Rattle.educe_grammar.proofs.Apart.{all_apart, all_within, all_apart_sound, all_within_sound}
use Rattle.educe_grammar.proofs.Computed.{computed, more_computed}
use Rattle.educe_grammar.proofs.Again.{Again, again_weaker, again_both, again_made, again_written, again_empty, again_lone, again_angles, again_prefer, again_either}
use Rattle.educe_grammar.proofs.LoopsAgain.{again_list}
use Rattle.educe_grammar.proofs.Deciding.{Seen, behind_item, list_fits, no_token, no_second, one_seen, one_token}
use Rattle.educe_grammar.proofs.PartFronts.{part_fronts}
use Rattle.educe_grammar.proofs.Known.{firsts, behind_empty, Known, inside, begins, begins_before, not_empty, again_choice_before, again_then_before, again_skip, again_before}
use Rattle.educe_grammar.proofs.TypesAgain.{again_bounds}

-- what stands behind parameters
abbrev behind_params : Look
behind_params = (one (terminal.Sign 62) ∷ []) ∷ at finish

-- what stands behind a parameter
abbrev behind_param : Look
behind_param = behind_item (terminal.Sign 44) behind_params

-- what stands before the default of a parameter
abbrev before_default : Look
before_default = (one (terminal.Sign 61) ∷ []) ∷ behind_param

-- what stands behind a predicate
abbrev behind_predicate : Look
behind_predicate = behind_item (terminal.Sign 44) behind_where

module _ {readers : Readers} {parts : Parts} {limit : ℕ} (known : Known readers parts limit) (budget : ℕ) (room : budget < limit) where
  -- bounds behind a colon, before what isn't half of `::`
  again_behind_colon : (l : Look) → all_within l behind_type ≡ true → all_apart l (at_sign 58) ≡ true → Again readers parts budget (behind_colon bounds) (Seen l)
  again_behind_colon l within apart = again_lone readers parts budget
      (again_weaker readers parts budget (again_bounds known budget (omega arith)) (λ front rest x p s. all_within_sound l behind_type rest within s))
      (λ rest x first p s. no_second 58 58 first rest (no_token (terminal.Sign 58) rest (all_apart_sound l (at_sign 58) rest apart s)))

  -- bounds that may be left out
  again_flag_bounds : Again readers parts budget (flag at_colon (behind_colon bounds)) (Seen before_default)
  unfolding computed more_computed
  again_flag_bounds = again_choice_before known before_default budget refl refl
      (again_made readers parts budget (again_behind_colon before_default refl refl)) (again_empty readers parts budget false)

  -- a parameter that is a type
  again_type_param : Again readers parts budget type_param (Seen behind_param)
  unfolding computed more_computed
  again_type_param = again_made readers parts budget (again_before known true {G = Seen before_default} behind_param budget room refl
      (again_made readers parts budget (again_written readers parts budget {G = Seen before_default}
      (again_then_before known true before_default budget room refl again_flag_bounds) (λ front rest x w p e s. s)))
      (λ x rest s. all_within_sound (firsts (flag (at_sign 61) (skipping (sign 61) (part types))) behind_param) before_default rest refl s))

  -- a parameter
  pub again_generic_param : Again readers parts budget generic_param (Seen behind_param)
  unfolding computed more_computed
  again_generic_param = again_choice_before known behind_param budget refl refl (inside known lifetime_param behind_param budget room refl)
      (again_choice_before known behind_param budget refl refl (inside known const_param behind_param budget room refl) again_type_param)

  -- parameters up to the end of the tokens
  pub again_params : Again readers parts budget params (Seen (at finish))
  unfolding computed more_computed
  again_params = again_list readers parts budget
      (again_weaker readers parts budget again_generic_param (λ front rest x p s. all_within_sound (behind_item (terminal.Sign 44) (at finish)) behind_param rest refl s))
      (list_fits 2 (part_fronts 2) readers parts limit known.reads known.begins generic_param budget (terminal.Sign 44) (at finish) (at finish) refl refl refl)

  -- a predicate of a type
  again_bounded_type : Again readers parts budget bounded_type (Seen behind_predicate)
  unfolding computed more_computed
  again_bounded_type = again_made readers parts budget
      (again_both readers parts budget {F = Seen behind_predicate} (known.reads budget room types) (again_behind_colon behind_predicate refl refl)
      (λ front rest x y p s. (begins_before known (behind_colon bounds) behind_predicate behind_type budget front rest y refl p s, s)))

  -- a predicate of a type, with its `for`
  again_type_predicate : Again readers parts budget type_predicate (Seen behind_predicate)
  unfolding computed more_computed
  again_type_predicate = again_prefer readers parts budget (again_skip known true budget room refl again_bounded_type) again_bounded_type
      (λ front rest x p s. one_token (terminal.Word keyword.For) (front ++ rest) (begins known (skipping for_all bounded_type) (at_word keyword.For) budget front rest x refl p))
      (not_empty known bounded_type budget refl)

  -- a predicate
  pub again_predicate : Again readers parts budget predicate (Seen behind_predicate)
  unfolding computed more_computed
  again_predicate = again_made readers parts budget (again_written readers parts budget {G = Seen behind_predicate}
      (again_choice_before known behind_predicate budget refl refl (inside known lifetime_predicate behind_predicate budget room refl) again_type_predicate)
      (λ front rest x w p e s. s))

  -- predicates are read, with what stands behind a where-clause
  pub again_predicates : Again readers parts budget predicates (Seen behind_where)
  unfolding computed more_computed
  again_predicates = again_list readers parts budget again_predicate
      (list_fits 2 (part_fronts 2) readers parts limit known.reads known.begins predicate budget (terminal.Sign 44) behind_where behind_where refl refl refl)

  -- a where-clause is read, or none
  pub again_where_clause : Again readers parts budget where_clause (Seen behind_where)
  unfolding computed more_computed
  again_where_clause = again_choice_before known behind_where budget refl refl
      (again_made readers parts budget (again_then_before known true behind_where budget room refl again_predicates))
      (again_empty readers parts budget [])

module _ {readers : Readers} {parts : Parts} {limit : ℕ} (known : Known readers parts limit) where
  -- parameters in angle brackets are read, or none
  pub again_generic_params : (budget : ℕ) → budget ≤ limit → Again readers parts budget generic_params (λ x rest. sees_any at_angle rest ≡ false)
  unfolding computed more_computed
  again_generic_params budget room = again_either readers parts budget
      (again_angles readers parts budget
      (λ some. again_list readers parts (budget - 1)
      (again_weaker readers parts (budget - 1) (again_generic_param known (budget - 1) (omega arith))
      (λ front rest x p s. all_within_sound (behind_item (terminal.Sign 44) (at_sign 62)) behind_param rest refl s))
      (list_fits 2 (part_fronts 2) readers parts limit known.reads known.begins generic_param (budget - 1) (terminal.Sign 44) (at_sign 62) (at_sign 62) refl refl refl))
      (λ front rest x last p c. one_seen (terminal.Sign 62) last rest c))
      (again_empty readers parts budget [])
      (λ front rest x p f. begins known (in_angles generic_param) at_angle budget front rest x refl p)
      (λ front rest x p f. behind_empty readers parts budget (λ y ts. sees_any at_angle ts ≡ false) [] at_angle front rest x p f (λ h. h))
