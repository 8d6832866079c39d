use Rattle.std.proofs.Common.{◌≡◌, [], string_bytes}
use Rattle.educe_names.specs.Chosen.{underscored}
use Rattle.educe_names.proofs.used_idents.underscored.Given as goal

abbrev pub invariant-loop-turn : goal.invariant-loop-turn
invariant-loop-turn l = string_bytes l.text ≡ underscored l._turn []
