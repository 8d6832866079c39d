use Rattle.std.proofs.Common.{sym, ◌∙◌}
use Rattle.educe_discriminants.specs.Types.{width, is_signed}
use Rattle.educe_discriminants.proofs.Wrapping.{wrapped_unsigned, wrapped_low, wrapped_high}
use Rattle.educe_discriminants.proofs.discriminant_type.DiscriminantType.wrapping_add.Goals as goal
use Rattle.educe_discriminants.proofs.discriminant_type.DiscriminantType.wrapping_add.Goals.{else-is_signed-via-then-is_signed+else-bits-mask, else-is_signed-via-else-is_signed}

pub returns-then-bits-mask : goal.returns-then-bits-mask
returns-then-bits-mask c =
    c.negated.ensures
    ∙ wrapped_high (is_signed c.args.self) (width c.args.self) c.args.number c.args.steps c.low_bits.result c.mask-mask.result c.low_bits.ensures c.mask-mask.ensures
    (sym c.is_signed.ensures ∙ c.if-is_signed.true) c.if-bits-mask.true

pub returns-else-is_signed : goal.returns-else-is_signed
returns-else-is_signed c =
    c.new.ensures
    ∙ elim c.else-is_signed.branch [
      | else-is_signed-via-then-is_signed+else-bits-mask w ↦
          wrapped_low (is_signed c.args.self) (width c.args.self) c.args.number c.args.steps c.low_bits.result c.mask-mask.result c.low_bits.ensures c.mask-mask.ensures
          (sym c.is_signed.ensures ∙ w.if-is_signed.true) w.if-bits-mask.false
      | else-is_signed-via-else-is_signed w ↦
          wrapped_unsigned (is_signed c.args.self) (width c.args.self) c.args.number c.args.steps c.low_bits.result c.mask-mask.result c.low_bits.ensures
          c.mask-mask.ensures (sym c.is_signed.ensures ∙ w.if-is_signed.false)
    ]
