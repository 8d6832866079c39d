use Rattle.std.proofs.Common.{◌≡◌, ◌≤◌, true, List, [], ◌∷◌, length, length-drop, refl, sym, ◌∙◌, arith}
use Rattle.educe_grammar.specs.declared.ending.Link.{Link}
use Rattle.educe_grammar.specs.Expressions.{casts_end}
use Rattle.educe_parser_expressions.proofs.links.casts_end.Goals as goal

-- at most one link fits
one_fits : (links : List Link) → length links ≤ 1 → casts_end links ≡ true
unfolding casts_end
one_fits [] few = refl
one_fits (link ∷ []) few = refl
one_fits (link ∷ next ∷ more) few = absurd (omega arith)

pub returns : goal.returns
returns c = sym (c.loop-index.invariant ∙ one_fits _ (simp length-drop (omega arith)))
