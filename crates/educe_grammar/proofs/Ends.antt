-- How types and expressions end, and what may stand behind them.
use Rattle.std.proofs.Common.{◌≡◌, Bool, true, false, [], ◌∷◌, refl, sym, ◌∙◌}
use Rattle.educe_tokens.specs.Bracket.TheVariants.{Round, Square, Curly}
use Rattle.educe_grammar.specs.declared.ending.Ending.{Ending}
use Rattle.educe_grammar.specs.declared.ending.Ending.TheVariants.{Closed, Arguments, Name}
use Rattle.educe_grammar.specs.declared.terminal.Terminal.TheVariants.{Sign}
use Rattle.educe_grammar.specs.Steps.{Tokens}
use Rattle.educe_grammar.specs.Ahead.{one, start, stop, lone, pair, finish, Look, sees_any}
use Rattle.educe_grammar.specs.Types.{behind_type}
use Rattle.educe_grammar.proofs.Apart.{apart, within, ways_apart, way_within, all_apart, all_within, all_apart_sound, all_within_sound}
use Rattle.educe_grammar.proofs.Sets.{are_disjoint, is_within}

-- what standing behind a type that ends so would be read on by it
abbrev pub going_on : Ending → Look
going_on Closed = (pair 45 62 ∷ []) ∷ []
going_on Arguments = (pair 45 62 ∷ []) ∷ (pair 58 58 ∷ []) ∷ []
going_on Name = (pair 45 62 ∷ []) ∷ (pair 58 58 ∷ []) ∷ (lone 60 61 ∷ []) ∷ (start Round ∷ []) ∷ []

-- nothing like that stands there
abbrev pub Ends : Ending → Tokens → Type 0
Ends ending rest = sees_any (going_on ending) rest ≡ false

-- where nothing of the wider list of beginnings is seen, nothing of the other is
pub unseen : (l m : Look) (ts : Tokens) → all_within l m ≡ true → sees_any m ts ≡ false → sees_any l ts ≡ false
unseen l m ts h e = go (sees_any l ts) refl
  where
    go : (b : Bool) → sees_any l ts ≡ b → b ≡ false
    go true is = sym (all_within_sound l m ts h is) ∙ e
    go false is = refl

-- what goes on no name goes on no type
pub ends_name : (ending : Ending) (ts : Tokens) → Ends Name ts → Ends ending ts
unfolding all_within way_within within is_within
ends_name Closed ts h = unseen (going_on Closed) (going_on Name) ts refl h
ends_name Arguments ts h = unseen (going_on Arguments) (going_on Name) ts refl h
ends_name Name ts h = h

-- what may stand behind a type
pub ends_behind : (ending : Ending) (ts : Tokens) → sees_any behind_type ts ≡ true → Ends ending ts
unfolding all_apart ways_apart apart are_disjoint
ends_behind ending ts h = ends_name ending ts (all_apart_sound behind_type (going_on Name) ts refl h)

-- what stands behind an expression
abbrev pub behind_expression : Look
behind_expression =
    (one (Sign 44) ∷ []) ∷ (one (Sign 59) ∷ []) ∷ (stop Round ∷ []) ∷ (stop Square ∷ []) ∷ (stop Curly ∷ []) ∷ (pair 46 46 ∷ []) ∷ (finish ∷ []) ∷ []
