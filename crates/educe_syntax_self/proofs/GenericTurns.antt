-- Generic parameters and predicates with the head in place of each path's `Self`.
use Rattle.std.proofs.Common.{◌≡◌, ℕ, ◌<◌, refl, ap, arith}
use Rattle.educe_tree.specs.declared.ident.Ident.{Ident}
use Rattle.educe_tree.specs.declared.lifetime.Lifetime.{Lifetime}
use Rattle.educe_tree.specs.declared.generics.GenericParam.{GenericParam}
use Rattle.educe_tree.specs.declared.generics.GenericParam.TheVariants as param
use Rattle.educe_tree.specs.Params.{written_of}
use Rattle.educe_grammar.specs.declared.terminal.Keyword.TheVariants as keyword
use Rattle.educe_grammar.specs.declared.terminal.Terminal.TheVariants as terminal
use Rattle.educe_grammar.specs.Combining.{at_sign, at_colon, skipping, flag, sign, word, behind_colon}
use Rattle.educe_grammar.specs.Generics.{bounded_lifetime, lifetime_param, bounded_name, type_param, any_constant, typed_const, const_param, generic_param, lifetime_predicate, bounded_type, type_predicate, any_predicate, predicate}
use Rattle.educe_grammar.specs.Names.{name, name_of, lifetime, lifetime_of}
use Rattle.educe_grammar.specs.Rules.{part, types}
use Rattle.educe_grammar.specs.Types.{lifetime_bounds, for_all}
use Rattle.educe_grammar.proofs.Keeping.{has_no_documentation}
use Rattle.educe_grammar.proofs.Productions.{productions}
use Rattle.educe_syntax_self.specs.Visits.{with_written}
use Rattle.educe_syntax_self.proofs.Pieces.{Setting}
use Rattle.educe_syntax_self.proofs.SegmentTurns.{Ended}
use Rattle.educe_syntax_self.proofs.SimpleTurns.{is_simple, PartTurns}
use Rattle.educe_syntax_self.proofs.Turns.{Any, Same, Anywhere, Turns, turns_token, turns_both, turns_made, turns_either, turns_prefer, turns_lone, turns_written, turns_skipping, turns_leaving, turns_flag}
use Rattle.educe_syntax_self.proofs.TypeTurns.{inside, turns_bounds}

-- The parameter has other tokens alone.
pub record ParamTurned (x y : GenericParam) : Type 0 where
  pub is : y ≡ with_written x (written_of y)

module _ (c : Setting) (bound_below : ℕ) (each : (budget : ℕ) → budget < bound_below → PartTurns c Ended budget) where
  -- ---- names

  turns_lifetime : (budget : ℕ) → Turns c Anywhere budget lifetime Same
  unfolding lifetime
  turns_lifetime budget = turns_made c (turns_token c terminal.Lifetime) (λ x y same. ap lifetime_of same)

  turns_name : (budget : ℕ) → Turns c Anywhere budget name Same
  unfolding name
  turns_name budget = turns_made c (turns_token c terminal.Name) (λ x y same. ap name_of same)

  -- ---- parameters

  turns_bounded_lifetime : (budget : ℕ) → budget < bound_below → Turns c Anywhere budget bounded_lifetime (λ x y. (y.0 ≡ x.0) × Any x.1 y.1)
  unfolding productions is_simple
  turns_bounded_lifetime budget room = turns_both c (turns_lifetime budget) (inside c bound_below each (flag at_colon (behind_colon lifetime_bounds)) budget room refl)

  turns_lifetime_param : (budget : ℕ) → budget < bound_below → Turns c Anywhere budget lifetime_param ParamTurned
  unfolding productions has_no_documentation
  turns_lifetime_param budget room =
      turns_made c (turns_written c refl (turns_bounded_lifetime budget room)) (λ x y h. record { is = ap (λ (l : Lifetime). param.Lifetime (record { lifetime = l; written = y.1 })) h.0 })

  turns_bounded_name : (budget : ℕ) → budget < bound_below → Turns c Anywhere budget bounded_name (λ x y. (y.0 ≡ x.0) × Same x.1 y.1)
  unfolding bounded_name
  turns_bounded_name budget room = turns_both c (turns_name budget) (turns_flag c (turns_lone c (turns_bounds c bound_below each budget (omega arith))))

  turns_type_param : (budget : ℕ) → budget < bound_below → Turns c Anywhere budget type_param ParamTurned
  unfolding productions is_simple has_no_documentation
  turns_type_param budget room =
      turns_leaving c (turns_made c (turns_written c refl (turns_bounded_name budget room)) (λ x y h. record { is = ap (λ (i : Ident). param.TypeParam (record { ident = i; written = y.1 })) h.0 }))
      (inside c bound_below each (flag (at_sign 61) (skipping (sign 61) (part types))) budget room refl)

  turns_typed_const : (budget : ℕ) → budget < bound_below → Turns c Anywhere budget typed_const Same
  unfolding productions is_simple
  turns_typed_const budget room =
      turns_skipping c (inside c bound_below each (word keyword.Const) budget room refl) (turns_leaving c (turns_name budget) (inside c bound_below each (behind_colon (part types)) budget room refl))

  turns_const_param : (budget : ℕ) → budget < bound_below → Turns c Anywhere budget const_param ParamTurned
  unfolding productions is_simple has_no_documentation
  turns_const_param budget room =
      turns_leaving c (turns_made c (turns_written c refl (turns_typed_const budget room)) (λ x y h. record { is = ap (λ (i : Ident). param.Const (record { ident = i; written = y.1 })) h }))
      (inside c bound_below each (flag (at_sign 61) (skipping (sign 61) any_constant)) budget room refl)

  pub turns_generic_param : (budget : ℕ) → budget < bound_below → Turns c Anywhere budget generic_param ParamTurned
  unfolding generic_param
  turns_generic_param budget room = turns_either c (turns_lifetime_param budget room) (turns_either c (turns_const_param budget room) (turns_type_param budget room))

  -- ---- predicates

  turns_bounded_type : (budget : ℕ) → budget < bound_below → Turns c Anywhere budget bounded_type Any
  unfolding bounded_type
  turns_bounded_type budget room = turns_made c (turns_both c (each budget room).a_type (turns_lone c (turns_bounds c bound_below each budget (omega arith)))) (λ x y h. tt)

  turns_any_predicate : (budget : ℕ) → budget < bound_below → Turns c Anywhere budget any_predicate Any
  unfolding productions is_simple
  turns_any_predicate budget room =
      turns_either c (inside c bound_below each lifetime_predicate budget room refl)
      (turns_prefer c (turns_skipping c (inside c bound_below each for_all budget room refl) (turns_bounded_type budget room)) (turns_bounded_type budget room))

  pub turns_predicate : (budget : ℕ) → budget < bound_below → Turns c Anywhere budget predicate Any
  unfolding productions has_no_documentation
  turns_predicate budget room = turns_made c (turns_written c refl (turns_any_predicate budget room)) (λ x y h. tt)
