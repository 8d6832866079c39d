use Rattle.std.proofs.Common.{◌∙◌, List, ap, subst}
use Rattle.std.specs.Prelude.{OnOk}
use Rattle.std.specs.List.{flat_map}
use Rattle.educe_syntax.specs.Variant.{Variant}
use Rattle.educe_settings.specs.Settings.{Kept}
use Rattle.educe_settings.specs.Shown.{variant_shown, shown_fields}
use Rattle.educe_settings_types.specs.Visits.{SeesEach}
use Rattle.educe_settings_types.proofs.ShownTypes.{struct_all, enum_all}
use Rattle.educe_settings_types.proofs.debug_types.see_all.Goals as goal

pub returns-in-Struct-clause-types : goal.returns-in-Struct-clause-types
returns-in-Struct-clause-types c =
    let ast = c.args.task.ast.now in
    subst (λ (shown : List Kept). OnOk c.see_struct.result (SeesEach shown c.args.types.now c.see_struct.new.types)) (struct_all ast c.in-Struct.shape c.in-Struct.is) c.see_struct.ensures.types

pub returns-in-Enum-clause-types : goal.returns-in-Enum-clause-types
returns-in-Enum-clause-types c =
    let ast = c.args.task.ast.now in
    let same = ap (λ (variants : List Variant). flat_map (λ (v : Variant). shown_fields ast (variant_shown ast v)) variants) c.as_slice.ensures ∙ enum_all ast c.in-Enum.variants c.in-Enum.is in
    subst (λ (shown : List Kept). OnOk c.see_variants.result (SeesEach shown c.args.types.now c.see_variants.new.types)) same c.see_variants.ensures.types
