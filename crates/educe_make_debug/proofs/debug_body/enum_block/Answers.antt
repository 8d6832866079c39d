use Rattle.std.proofs.Common.{◌≡◌, ◌≢◌, ◌∷◌, [], length, arith}
use Rattle.std.proofs.lemmas.Result.{IfOk-weaker}
use Rattle.educe_body_forms.specs.declared.form.Form.{MatchValue}
use Rattle.educe_meaning.specs.ShownBodies.{IsWritten, IsDebugEnum}
use Rattle.educe_make_debug.specs.DebugNames.{names_of}
use Rattle.educe_make_debug.proofs.ShownBlocks.{enum_written, enum_matched}
use Rattle.educe_make_debug.proofs.debug_body.enum_block.Goals as goal

pub returns-then-variants-eq0 : goal.returns-then-variants-eq0
returns-then-variants-eq0 c =
    let shown = c.args.shown.now in
    let names = names_of c.args.names.now in
    let variants = c.args.variants.now in
    let none : length variants ≡ 0 = omega arith in
    IfOk-weaker c.written.result (IsWritten names shown.name.text) (IsDebugEnum shown.ast.now names variants)
    (λ block is. enum_written shown.ast.now names variants shown.name.text block none c.requires.shown.name_is is) c.written.ensures

pub returns : goal.returns
returns c =
    let shown = c.args.shown.now in
    let names = names_of c.args.names.now in
    let variants = c.args.variants.now in
    let arms = c.in_ok-arms.arms in
    let value = c.in_ok-value.value in
    let some : length variants ≢ 0 = omega arith in
    IfOk-weaker c.block_of.result (λ block. block ≡ MatchValue value arms ∷ []) (IsDebugEnum shown.ast.now names variants)
    (λ block is. enum_matched shown.ast.now names variants arms value block some (record { is = c.in_ok-value.ensures.text; nowhere = c.in_ok-value.ensures.nowhere }) c.in_ok-arms.ensures is)
    c.block_of.ensures
