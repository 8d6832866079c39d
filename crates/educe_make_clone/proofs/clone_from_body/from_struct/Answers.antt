use Rattle.std.proofs.Common.{◌≡◌, ◌≢◌, ◌∙◌, List, map, length, subst, sym, arith}
use Rattle.std.specs.List.{AllZip}
use Rattle.std.proofs.lemmas.List.{length-map}
use Rattle.std.proofs.lemmas.Result.{IfOk-weaker}
use Rattle.educe_body_forms.specs.declared.form.Form.{Form}
use Rattle.educe_settings.specs.Ranked.{kept_of}
use Rattle.educe_meaning.specs.CloneBodies.{IsDiscard, IsAssignment, AreAssignments, IsFromStruct}
use Rattle.educe_settings.specs.Settings.{Kept}
use Rattle.educe_make_clone.specs.CloneNames.{names_of}
use Rattle.educe_make_clone.proofs.Assigning.{none_assigned, some_assigned}
use Rattle.educe_make_clone.proofs.clone_from_body.from_struct.Goals as goal

pub returns-then-fields-eq0 : goal.returns-then-fields-eq0
returns-then-fields-eq0 c = λ definition shape copied kept.
    let names = names_of c.args.names.now in
    let fields = map kept_of c.args.fields.now in
    let none : length c.args.fields.now ≡ 0 = omega arith in
    IfOk-weaker c.discard.result (IsDiscard names.source) (IsFromStruct definition names shape)
    (λ block is. record {
      copied = c.args.copied;
      copied_are = copied;
      steps_are = subst (λ (own : List Kept). AreAssignments c.args.copied names.source own block) kept
          (none_assigned c.args.copied names.source fields block (length-map c.args.fields.now kept_of ∙ none) is);
    }) c.discard.ensures

pub returns-else-fields-eq0 : goal.returns-else-fields-eq0
returns-else-fields-eq0 c = λ definition shape copied kept.
    let names = names_of c.args.names.now in
    let fields = map kept_of c.args.fields.now in
    let some : length c.args.fields.now ≢ 0 = omega arith in
    IfOk-weaker c.assignments.result (λ (block : List Form). AllZip (IsAssignment c.args.copied names.source) fields block) (IsFromStruct definition names shape)
    (λ block zip. record {
      copied = c.args.copied;
      copied_are = copied;
      steps_are = subst (λ (own : List Kept). AreAssignments c.args.copied names.source own block) kept
          (some_assigned c.args.copied names.source fields block (λ none. some (sym (length-map c.args.fields.now kept_of) ∙ none)) zip);
    }) c.assignments.ensures
