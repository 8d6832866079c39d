use Rattle.std.proofs.Common.{◌≡◌, drop}
use Rattle.educe_body_forms.specs.Keys.{keys_from}
use Rattle.educe_body_values.specs.Meaning.{part_of}
use Rattle.educe_body_eval.proofs.reading.part.Given as goal

abbrev pub invariant-loop-i : goal.invariant-loop-i
invariant-loop-i l = part_of (keys_from l.i (drop l.i l.fields)) (drop l.i l.values) l.key ≡ part_of (keys_from 0 l.fields) l.values l.key
