use Rattle.std.proofs.Common.{◌≡◌, drop}
use Rattle.educe_body_values.specs.Cases.{variant_named}
use Rattle.educe_body_eval.proofs.cases.variant_named.Given as goal

abbrev pub invariant-loop-place : goal.invariant-loop-place
invariant-loop-place l = variant_named l.place (drop l.place l.variants) l.name ≡ variant_named 0 l.variants l.name
