use Rattle.std.proofs.Common.{◌≡◌, drop}
use Rattle.std.specs.Prelude.{find}
use Rattle.educe_bound_traits.specs.Named.{names_trait}
use Rattle.educe_bound_traits.proofs.named.first_named.Given as goal

abbrev pub invariant-loop-which : goal.invariant-loop-which
invariant-loop-which l = find (names_trait l.path) l.traits ≡ find (names_trait l.path) (drop l.which-index l.traits)
