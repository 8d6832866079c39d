use Rattle.std.proofs.Common.{List, ℕ, subst}
use Rattle.std.proofs.lemmas.Result.{IfOk-weaker}
use Rattle.educe_settings.specs.Shown.{ShownCase, struct_shown}
use Rattle.educe_meaning.specs.ShownBodies.{IsBuilt, IsDebugStruct}
use Rattle.educe_meaning.specs.Steps.{of_base}
use Rattle.educe_make_debug.specs.Cases.{shown_of}
use Rattle.educe_make_debug.specs.DebugNames.{names_of}
use Rattle.educe_make_debug.proofs.debug_body.struct_block.Goals as goal

pub returns : goal.returns
returns c = λ definition shape copied case_is.
    let names = names_of c.args.names.now in
    let base = c.in_ok-own.own in
    let case = shown_of c.args.case.now in
    IfOk-weaker c.built.result (IsBuilt definition names (of_base c.args.copied base.text) case) (IsDebugStruct definition names shape)
    (λ block is. record {
      copied = c.args.copied;
      copied_are = copied;
      built = subst (λ (text : List ℕ). IsBuilt definition names (of_base c.args.copied text) (struct_shown definition shape) block) c.in_ok-own.ensures.text
          (subst (λ (shown : ShownCase). IsBuilt definition names (of_base c.args.copied base.text) shown block) case_is.is is);
    }) (c.built.ensures definition case_is.settled)
