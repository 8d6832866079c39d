use Rattle.std.proofs.Common.{◌≡◌, drop}
use Rattle.educe_body_forms.specs.Keys.{keys_from}
use Rattle.educe_body_values.specs.Meaning.{place_named}
use Rattle.educe_body_values.proofs.Steps.{counted_from}
use Rattle.educe_body_eval.proofs.reading.place.Given as goal

abbrev pub invariant-loop-i : goal.invariant-loop-i
invariant-loop-i l = counted_from l.i (place_named (keys_from l.i (drop l.i l.fields)) l.key) ≡ place_named (keys_from 0 l.fields) l.key
