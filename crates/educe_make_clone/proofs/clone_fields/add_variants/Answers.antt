use Rattle.std.proofs.Common.{◌≡◌, ◌∙◌, List, ◌++◌, [], ◌∷◌, ◌+◌, map, take, ap, sym, append-nil, append_assoc, arith}
use Rattle.std.specs.List.{flat_map}
use Rattle.std.proofs.lemmas.Grind.{flat_map-append}
use Rattle.std.proofs.lemmas.List.{take_all}
use Rattle.educe_syntax.specs.Variant.{Variant}
use Rattle.educe_bound_traits.specs.declared.traits.Trait.TheVariants.{Clone}
use Rattle.educe_settings.specs.Ranked.{kept_of}
use Rattle.educe_settings.proofs.SettingsAt.{settings_each, settings_at}
use Rattle.educe_settings.proofs.Visited.{mapped_more}
use Rattle.educe_settings.specs.Cases.{fields_in}
use Rattle.educe_settings.specs.Settings.{settings_of, kept_fields}
use Rattle.educe_make_clone.proofs.clone_fields.add_variants.Goals as goal

pub bounds-settings-place : goal.bounds-settings-place
bounds-settings-place c =
    let each = settings_each Clone c.args.task.ast.now c.args.variants.now c.args.settings.now c.requires in
    omega (arith, each, c.loop-place-test.true)

pub add_kept-requires : goal.add_kept-requires
add_kept-requires c =
    c.as_slice.ensures
    ∙ settings_at Clone c.args.task.ast.now c.args.variants.now c.args.settings.now c.requires c.loop-place.place c.index-variants-place.result c.index-settings-place.result
    c.loop-place-test.true c.index-variants-place.is c.index-settings-place.is
    ∙ ap (map (settings_of Clone c.args.task.ast.now)) (sym c.as_slice-fields.ensures)

pub loop-place-init : goal.loop-place-init
loop-place-init c = sym (append-nil (map kept_of c.args.all.now.items))

pub loop-place-preserved : goal.loop-place-preserved
loop-place-preserved c =
    let kept = kept_fields Clone c.args.task.ast.now in
    let variants = c.args.variants.now in
    let variant = c.index-variants-place.result in
    let i = c.loop-place.place in
    let begun = map kept_of c.args.all.now.items in
    let cases = map fields_in (take i variants) in
    let more : flat_map kept (map fields_in (take (i + 1) variants)) ≡ flat_map kept cases ++ kept (fields_in variant) =
    ap (flat_map kept) (mapped_more fields_in variants i variant variant c.loop-place-test.true c.index-variants-place.is)
    ∙ flat_map-append kept cases (fields_in variant ∷ []) ∙ ap (λ own. flat_map kept cases ++ own) (append-nil (kept (fields_in variant))) in
    c.in_ok-add_kept.ensures ∙ (λ j. c.loop-place.invariant j ++ kept (c.as_slice-fields.ensures j)) ∙ append_assoc begun (flat_map kept cases) (kept (fields_in variant))
    ∙ ap (λ own. begun ++ own) (sym more)

pub returns : goal.returns
returns c =
    let begun = map kept_of c.args.all.now.items in
    c.loop-place.invariant
    ∙ ap (λ (front : List Variant). begun ++ flat_map (kept_fields Clone c.args.task.ast.now) (map fields_in front)) (take_all c.loop-place.place c.args.variants.now c.loop-place-test.false)
