use Rattle.std.proofs.Common.{◌≡◌, drop}
use Rattle.std.specs.Option.{option_map}
use Rattle.educe_body_values.specs.Matching.{fields_bound}
use Rattle.educe_body_values.specs.Meaning.{enter, fields_from}
use Rattle.educe_body_eval.proofs.matching.bind_fields.Given as goal

abbrev pub invariant-loop-i : goal.invariant-loop-i
invariant-loop-i l =
    option_map (enter l.env) (fields_bound (drop l.i l.fields) (drop l.i l.pattern) (fields_from l.found l.i (drop l.i l.values)))
    ≡ option_map (enter l.fn.env) (fields_bound l.fields l.pattern (fields_from l.found 0 l.values))
