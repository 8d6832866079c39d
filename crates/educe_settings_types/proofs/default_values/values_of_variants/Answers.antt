use Rattle.std.proofs.Common.{◌≡◌, ◌∙◌, List, map, subst, sym}
use Rattle.educe_syntax.specs.Field.{Field}
use Rattle.educe_syntax.specs.Variant.{Variant}
use Rattle.educe_attrs.specs.FieldSettings.{FieldSettings}
use Rattle.educe_settings.specs.Cases.{fields_in}
use Rattle.educe_settings.specs.Defaults.{type_values, mark_values, is_written, IsCase}
use Rattle.educe_settings.proofs.Elements.{In, In-at, In-all}
use Rattle.educe_settings.proofs.Uncaused.{in_among}
use Rattle.educe_settings_types.specs.Defaults.{settings_by, AreFieldsRead, IsMarkRead}
use Rattle.educe_settings.proofs.Growing.{made_more, each_more}
use Rattle.educe_settings_types.proofs.Marked.{mark_settings}
use Rattle.educe_settings_types.proofs.Written.{written_is}
use Rattle.educe_settings_types.proofs.default_values.values_of_variants.Goals as goal

pub values_of-requires-clause-case : goal.values_of-requires-clause-case
values_of-requires-clause-case c =
    let ast = c.args.task.ast.now in
    let variants = c.args.variants.now in
    let variant = c.index-variants-place.result in
    let mark = c.index-marks-place.result in
    let place = c.loop-place.place in
    let inside : In variant variants = In-at variants place variant variant c.loop-place-test.true (sym c.index-variants-place.is) in
    let written : c.is_written-written.result ≡ is_written ast variants variant =
    c.is_written-written.ensures ∙ written_is ast variants c.args.marks.now place variant mark c.args.bare c.requires.typed.bare_is c.requires.marks c.loop-place-test.true c.index-variants-place.is c.index-marks-place.is in
    let settings = mark_settings ast variant (In-all (IsMarkRead ast) variants variant c.requires.read inside) in
    let case = IsCase.of_variant (type_values ast) (mark_values ast variant) variants variant c.requires.typed.own c.requires.shape (in_among variant variants inside) settings in
    subst (λ (fields : List Field). IsCase ast fields c.is_written-written.result) (sym c.as_slice-fields.ensures) (subst (IsCase ast (fields_in variant)) (sym written) case)

pub loop-place-preserved : goal.loop-place-preserved
loop-place-preserved c =
    let ast = c.args.task.ast.now in
    let variants = c.args.variants.now in
    let variant = c.index-variants-place.result in
    let mark = c.index-marks-place.result in
    let place = c.loop-place.place in
    let written : c.is_written-written.result ≡ is_written ast variants variant =
    c.is_written-written.ensures ∙ written_is ast variants c.args.marks.now place variant mark c.args.bare c.requires.typed.bare_is c.requires.marks c.loop-place-test.true c.index-variants-place.is c.index-marks-place.is in
    let Values : Variant → List FieldSettings = λ v. map (settings_by (is_written ast variants v) ast) (fields_in v) in
    let settings : c.in-Ok.settings ≡ Values variant = c.in-Ok.ensures.settings ∙ (λ i. map (settings_by (written i) ast) (c.as_slice-fields.ensures i)) in
    let read : AreFieldsRead (is_written ast variants variant) ast (fields_in variant) =
    subst (λ b. AreFieldsRead b ast (fields_in variant)) written (subst (AreFieldsRead c.is_written-written.result ast) c.as_slice-fields.ensures c.in-Ok.ensures.uncaused) in
    record {
      values = made_more Values variants place variant variant c.loop-place.all c.push.new.self c.in-Ok.settings c.loop-place-test.true c.index-variants-place.is c.loop-place.invariant.values c.in_ok-push-in-Ok.ensures.ok settings;
      uncaused = each_more (λ v. AreFieldsRead (is_written ast variants v) ast (fields_in v)) variants place variant variant c.loop-place-test.true c.index-variants-place.is c.loop-place.invariant.uncaused read;
    }
