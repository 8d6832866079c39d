use Rattle.std.proofs.Common.{take}
use Rattle.std.specs.List.{AllZip}
use Rattle.educe_meaning.specs.ShownBodies.{IsDebugArm}
use Rattle.educe_make_debug.specs.DebugNames.{names_of}
use Rattle.educe_make_debug.proofs.debug_blocks.arms.Given as goal

abbrev pub invariant-loop-place : goal.invariant-loop-place
invariant-loop-place l = AllZip (IsDebugArm l.fn.shown.ast.now (names_of l.names)) (take l.place l.variants) l.arms
