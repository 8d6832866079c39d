use Rattle.std.proofs.Common.{[], ◌∷◌, ◌++◌, None, length, refl, sym, ap, ◌∙◌, subst, Bor}
use Rattle.std.specs.Iterator.Adapters.{zip_first, zip_second}
use Rattle.std.specs.List.{AllZip}
use Rattle.std.specs.Slice.Iter.{iter_rest}
use Rattle.std.proofs.lemmas.Iterator.{YieldsList-from_slice, YieldsList-from_zip}
use Rattle.std.proofs.lemmas.Iterator.Adapters.{YieldsList-from_vec}
use Rattle.std.proofs.lemmas.Iterator.Consumers.{YieldsList-at, YieldsList-end}
use Rattle.educe_syntax.specs.Variant.{Variant}
use Rattle.educe_body_forms.specs.declared.key_function.Constant.{Constant}
use Rattle.educe_cmp.proofs.Armed.{IsArmOf, key_arms_from}
use Rattle.educe_settings.proofs.Lists.{zip_push, zip_mapped}
use Rattle.educe_cmp.proofs.keys.key_arms.Goals as goal

-- a pair with the variant behind the reference
abbrev read : Bor Variant × Constant → Variant × Constant
read pair = (pair.0.now, pair.1)

pub loop-variant-preserved : goal.loop-variant-preserved
loop-variant-preserved c =
    let pair : Bor Variant × Constant = (c.in-Some.variant, c.in-Some.constant) in
    subst (AllZip (λ pair arm. IsArmOf (read pair) arm) (c.loop-variant.yielded ++ pair ∷ [])) (sym c.in_ok-push.ensures.ok)
    (zip_push (λ pair arm. IsArmOf (read pair) arm) c.loop-variant.yielded c.loop-variant.arms pair _ c.loop-variant.invariant
    (record { pattern_is = c.in_ok-bare_pattern.ensures; constant_is = refl }))

pub returns : goal.returns
returns c = λ ty base counts.
    let variants = c.args.variants.now in
    let constants = c.args.constants in
    let items = c.into_items.result in
    let both = c.zip-variant-items.result in
    let own = YieldsList-from_slice {s = zip_first both} variants (ap iter_rest c.zip-variant-items.ensures.first ∙ c.iter.ensures.rest) in
    let others =
    YieldsList-from_vec {s = zip_second both} constants (c.zip-variant-items.ensures.second.0 ∙ c.into_items.ensures)
    (c.zip-variant-items.ensures.second.1 ∙ items.ok.0 ∙ ap length c.into_items.ensures) in
    let road = YieldsList-at c.into_iter-variant-iterator.ensures.into_iter_gives (YieldsList-from_zip {s = both} own others) in
    let end = YieldsList-end road c.loop-variant.yielded c.loop-variant.variant-iterator c.loop-variant.yielded_by c.next.result c.next.new.self c.in-None.is c.next.ensures.steps in
    key_arms_from ty base None 0 variants constants c.loop-variant.arms
    (subst (λ pairs. AllZip IsArmOf pairs c.loop-variant.arms) end.0 (zip_mapped IsArmOf read c.loop-variant.yielded c.loop-variant.arms c.loop-variant.invariant))
    counts
