use Rattle.educe_syntax.proofs.knot.+knot.Given as goal

abbrev pub decreases-ty : goal.decreases-ty
decreases-ty l = l.budget

abbrev pub decreases-plain : goal.decreases-plain
decreases-plain l = l.budget

abbrev pub decreases-expr : goal.decreases-expr
decreases-expr l = l.budget
