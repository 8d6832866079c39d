use Rattle.std.proofs.Common.{◌≡◌, ◌+◌, drop}
use Rattle.educe_body_values.specs.Callees.{spellings}
use Rattle.educe_body_values.specs.Types.{first_place}
use Rattle.educe_body_eval.proofs.types.first_place.Given as goal

abbrev pub invariant-loop-place : goal.invariant-loop-place
invariant-loop-place l = first_place l.fields (spellings l.ty) ≡ l.place + first_place (drop l.place l.fields) (spellings l.ty)
