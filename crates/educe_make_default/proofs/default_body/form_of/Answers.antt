use Rattle.std.proofs.Common.{◌∙◌, true, length, ap, subst}
use Rattle.std.proofs.lemmas.List.{length-map}
use Rattle.std.proofs.lemmas.Result.{IfOk-weaker}
use Rattle.educe_settings.specs.Cases.{fields_in}
use Rattle.educe_settings_types.specs.Chosen.{IsChosen}
use Rattle.educe_settings_types.specs.Defaults.{settings_by}
use Rattle.educe_make_default.specs.MadeForms.{IsMadeForm}
use Rattle.educe_make_default.proofs.Forms.{value_made, struct_made, variant_made}
use Rattle.educe_make_default.proofs.default_body.form_of.Goals as goal

pub returns-in-ByValue : goal.returns-in-ByValue
returns-in-ByValue c =
    let ast = c.args.ast.now in
    let is = subst (IsChosen ast) c.in-ByValue.is c.requires in
    IfOk-weaker c.whole.result _ (IsMadeForm ast) (λ form pasted. value_made ast c.in-ByValue.value form is pasted) c.whole.ensures

pub construct-requires : goal.construct-requires
construct-requires c =
    let ast = c.args.ast.now in
    let is = subst (IsChosen ast) c.in-OfStruct.is c.requires in
    ap length (c.as_slice.ensures ∙ is.1) ∙ length-map c.in-OfStruct.shape.now.fields (settings_by true ast)

pub returns-in-OfStruct : goal.returns-in-OfStruct
returns-in-OfStruct c =
    let ast = c.args.ast.now in
    let is = subst (IsChosen ast) c.in-OfStruct.is c.requires in
    IfOk-weaker c.construct.result _ (IsMadeForm ast) (λ form constructs. struct_made ast c.in-OfStruct.shape.now form is.0 constructs) (c.construct.ensures ast (c.as_slice.ensures ∙ is.1))

pub construct-requires-in-OfVariant : goal.construct-requires-in-OfVariant
construct-requires-in-OfVariant c =
    let ast = c.args.ast.now in
    let is = subst (IsChosen ast) c.in-OfVariant.is c.requires in
    ap length (c.as_slice-in-OfVariant.ensures ∙ is.2) ∙ length-map (fields_in c.in-OfVariant.variant.now) (settings_by true ast)

pub returns-in-OfVariant : goal.returns-in-OfVariant
returns-in-OfVariant c =
    let ast = c.args.ast.now in
    let is = subst (IsChosen ast) c.in-OfVariant.is c.requires in
    IfOk-weaker c.construct-in-OfVariant.result _ (IsMadeForm ast) (λ form constructs. variant_made ast is.0 c.in-OfVariant.variant.now form is.1 constructs)
    (c.construct-in-OfVariant.ensures ast (c.as_slice-in-OfVariant.ensures ∙ is.2))
