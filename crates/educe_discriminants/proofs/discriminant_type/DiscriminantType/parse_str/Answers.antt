use Rattle.std.proofs.Common.{sym, ap, ◌∙◌, refl, chars}
use Rattle.std.proofs.lemmas.Bool.{true≢false}
use Rattle.std.proofs.lemmas.Slice.Eq.{bytes_eq-Decides}
use Rattle.educe_discriminants.specs.Types.{types, type_named}
use Rattle.educe_discriminants.specs.declared.discriminant_type.DiscriminantType.TheVariants.{ISize}
use Rattle.educe_discriminants.proofs.Named.{named_here, named_behind, named_none, named_only, same_bytes}
use Rattle.educe_discriminants.proofs.discriminant_type.DiscriminantType.parse_str.Goals as goal

pub loop-ty-init : goal.loop-ty-init
unfolding type_named
loop-ty-init c = refl

pub returns-then-eq-clause-value : goal.returns-then-eq-clause-value
returns-then-eq-clause-value c =
    let same = (bytes_eq-Decides c.args.name.now c.as_str.result.now).0 (sym c.eq.ensures ∙ c.if-eq.true) in
    named_here types c.loop-ty.ty-index ISize (chars c.args.name.now) c.loop-ty.invariant c.loop-ty-test.true (ap chars same ∙ c.as_str.ensures.chars)

pub loop-ty-preserved : goal.loop-ty-preserved
loop-ty-preserved c =
    named_behind types c.loop-ty.ty-index ISize (chars c.args.name.now) c.loop-ty.invariant c.loop-ty-test.true
    (λ is.
    let same = same_bytes c.args.name.now c.as_str.result.now c.utf8.name c.as_str.utf8 (is ∙ sym c.as_str.ensures.chars) in
    true≢false (sym ((bytes_eq-Decides c.args.name.now c.as_str.result.now).1 same) ∙ sym c.eq.ensures ∙ c.if-eq.false))

pub returns-clause-only : goal.returns-clause-only
returns-clause-only c ty is =
    named_none types c.loop-ty.ty-index (chars c.args.name.now) c.loop-ty.invariant c.loop-ty-test.false ∙ named_only ty (chars c.args.name.now) is
