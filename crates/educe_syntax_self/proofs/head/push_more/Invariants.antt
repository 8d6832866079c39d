use Rattle.std.proofs.Common.{take, map}
use Rattle.std.specs.List.{flat_map}
use Rattle.educe_syntax_self.specs.Heads.{Adds, behind_comma, argument_of}
use Rattle.educe_syntax_self.proofs.head.push_more.Given as goal

abbrev pub invariant-loop-param : goal.invariant-loop-param
invariant-loop-param l = Adds (flat_map behind_comma (map argument_of (take l.param-index l.params))) l.fn.tokens l.tokens
