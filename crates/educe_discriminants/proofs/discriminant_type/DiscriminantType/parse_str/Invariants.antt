use Rattle.std.proofs.Common.{◌≡◌, chars, drop}
use Rattle.educe_discriminants.specs.Types.{first_named, type_named}
use Rattle.educe_discriminants.proofs.discriminant_type.DiscriminantType.parse_str.Given as goal

abbrev pub invariant-loop-ty : goal.invariant-loop-ty
invariant-loop-ty l = first_named (drop l.ty-index l.ty-items) (chars l.name) ≡ type_named (chars l.name)
