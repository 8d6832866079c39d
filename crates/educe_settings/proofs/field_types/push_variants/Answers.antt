use Rattle.std.proofs.Common.{◌≡◌, ◌++◌, List, ap, sym, subst, ◌∙◌, append-nil}
use Rattle.std.specs.List.{flat_map}
use Rattle.std.proofs.lemmas.List.{take_all}
use Rattle.educe_syntax.specs.Field.{Field}
use Rattle.educe_syntax.specs.Variant.{Variant}
use Rattle.educe_settings.specs.Cases.{fields_in}
use Rattle.educe_settings.specs.EveryType.{behind, types_of}
use Rattle.educe_settings.proofs.AllTypes.{variants_more}
use Rattle.educe_settings.proofs.field_types.push_variants.Goals as goal

pub loop-variant-init : goal.loop-variant-init
loop-variant-init c = sym (append-nil _)

pub loop-variant-preserved : goal.loop-variant-preserved
loop-variant-preserved c =
    let variant = c.variant-item.result in
    let pushed = c.in_ok-push_types.ensures ∙ ap (λ (fs : List Field). behind c.loop-variant.types.items ++ types_of fs) c.as_slice.ensures in
    variants_more (behind c.args.types.now.items) _ _ c.args.variants.now c.loop-variant.variant-index variant variant c.loop-variant-test.true c.variant-item.is c.loop-variant.invariant pushed

pub returns : goal.returns
returns c =
    subst (λ (front : List Variant). behind c.loop-variant.types.items ≡ behind c.args.types.now.items ++ types_of (flat_map fields_in front))
    (take_all c.loop-variant.variant-index c.args.variants.now c.loop-variant-test.false) c.loop-variant.invariant
