use Rattle.std.specs.List.{AllZip}
use Rattle.educe_cmp.proofs.Armed.{IsArmOf}
use Rattle.educe_cmp.proofs.keys.key_arms.Given as goal

abbrev pub invariant-loop-variant : goal.invariant-loop-variant
invariant-loop-variant l = AllZip (λ pair arm. IsArmOf (pair.0.now, pair.1) arm) l.yielded l.arms
