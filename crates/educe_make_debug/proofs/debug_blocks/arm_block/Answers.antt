use Rattle.std.proofs.Common.{Bool, sym, subst}
use Rattle.std.proofs.lemmas.Result.{IfOk-weaker}
use Rattle.educe_meaning.specs.ShownBodies.{IsWritten, IsBuilt, IsArmBlock}
use Rattle.educe_meaning.specs.Steps.{bound}
use Rattle.educe_make_debug.specs.Cases.{shown_of}
use Rattle.educe_make_debug.specs.DebugNames.{names_of}
use Rattle.educe_make_debug.proofs.debug_blocks.arm_block.Goals as goal

pub returns-then-case : goal.returns-then-case
returns-then-case c = λ definition settled.
    let case = c.args.case.now in
    let names = names_of c.args.names.now in
    IfOk-weaker c.written.result (IsWritten names case.name.text) (IsArmBlock case.unit definition names (shown_of case))
    (λ block is. subst (λ (unit : Bool). IsArmBlock unit definition names (shown_of case) block) (sym c.if-case.true) is) c.written.ensures

pub returns-else-case : goal.returns-else-case
returns-else-case c = λ definition settled.
    let case = c.args.case.now in
    let names = names_of c.args.names.now in
    IfOk-weaker c.built.result (IsBuilt definition names (bound names.prefix) (shown_of case)) (IsArmBlock case.unit definition names (shown_of case))
    (λ block is. subst (λ (unit : Bool). IsArmBlock unit definition names (shown_of case) block) (sym c.if-case.false) is) (c.built.ensures definition settled)
