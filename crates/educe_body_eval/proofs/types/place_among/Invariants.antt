use Rattle.std.proofs.Common.{◌≡◌, ◌+◌, drop}
use Rattle.std.specs.List.{flat_map}
use Rattle.educe_body_values.specs.Callees.{spellings}
use Rattle.educe_body_values.specs.Types.{first_place}
use Rattle.educe_body_eval.proofs.types.place_among.Given as goal

abbrev pub invariant-loop-variant : goal.invariant-loop-variant
invariant-loop-variant l =
    first_place (flat_map (λ v. v.fields.fields) l.variants) (spellings l.ty)
    ≡ l.before + first_place (flat_map (λ v. v.fields.fields) (drop l.variant-index l.variants)) (spellings l.ty)
