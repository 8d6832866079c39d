use Rattle.std.proofs.Common.{◌≡◌, ◌∙◌, true, List, length, map, ap, subst, sym}
use Rattle.std.proofs.lemmas.List.{length-map}
use Rattle.std.proofs.lemmas.Result.{IfOk-weaker}
use Rattle.educe_syntax.specs.Field.{Field}
use Rattle.educe_settings.specs.Cases.{fields_in}
use Rattle.educe_settings.specs.Defaults.{by_value, of_struct, of_variant, default_types}
use Rattle.educe_settings.specs.EveryType.{behind}
use Rattle.educe_settings_types.specs.Chosen.{IsChosen}
use Rattle.educe_settings_types.specs.Defaults.{settings_by}
use Rattle.educe_settings_types.proofs.Choices.{types_without, types_chosen}
use Rattle.educe_settings_types.proofs.default_types.types_of.Goals as goal

pub returns-in-ByValue : goal.returns-in-ByValue
returns-in-ByValue c =
    let ast = c.args.ast.now in
    let is = subst (IsChosen ast) c.in-ByValue.is c.requires in
    types_chosen ast (by_value c.in-ByValue._value) _ is (ap behind c.new.ensures.items)

pub types_without-requires : goal.types_without-requires
types_without-requires c =
    let ast = c.args.ast.now in
    let is = subst (IsChosen ast) c.in-OfStruct.is c.requires in
    ap length (c.as_slice-own.ensures ∙ is.1) ∙ length-map c.in-OfStruct.shape.now.fields (settings_by true ast) ∙ ap length (sym c.as_slice-fields.ensures)

pub returns-in-OfStruct : goal.returns-in-OfStruct
returns-in-OfStruct c =
    let ast = c.args.ast.now in
    let is = subst (IsChosen ast) c.in-OfStruct.is c.requires in
    let settings = c.as_slice-own.ensures ∙ is.1 ∙ ap (map (settings_by true ast)) (sym c.as_slice-fields.ensures) in
    IfOk-weaker c.types_without.result _ (λ types. behind types.items ≡ default_types ast)
    (λ types are. types_chosen ast (of_struct c.in-OfStruct.shape.now) _ is.0 (are ∙ ap (λ (fields : List Field). types_without ast fields) c.as_slice-fields.ensures))
    (c.types_without.ensures ast settings)

pub types_without-requires-in-OfVariant : goal.types_without-requires-in-OfVariant
types_without-requires-in-OfVariant c =
    let ast = c.args.ast.now in
    let is = subst (IsChosen ast) c.in-OfVariant.is c.requires in
    ap length (c.as_slice-own-in-OfVariant.ensures ∙ is.2) ∙ length-map (fields_in c.in-OfVariant.variant.now) (settings_by true ast) ∙ ap length (sym c.as_slice-fields-in-OfVariant.ensures)

pub returns-in-OfVariant : goal.returns-in-OfVariant
returns-in-OfVariant c =
    let ast = c.args.ast.now in
    let is = subst (IsChosen ast) c.in-OfVariant.is c.requires in
    let settings = c.as_slice-own-in-OfVariant.ensures ∙ is.2 ∙ ap (map (settings_by true ast)) (sym c.as_slice-fields-in-OfVariant.ensures) in
    IfOk-weaker c.types_without-in-OfVariant.result _ (λ types. behind types.items ≡ default_types ast)
    (λ types are. types_chosen ast (of_variant is.0 c.in-OfVariant.variant.now) _ is.1 (are ∙ ap (λ (fields : List Field). types_without ast fields) c.as_slice-fields-in-OfVariant.ensures))
    (c.types_without-in-OfVariant.ensures ast settings)
