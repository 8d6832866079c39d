use Rattle.std.proofs.Common.{◌≡◌, ◌++◌}
use Rattle.educe_tokens.proofs.stream.TokenStream.append.Given as goal

abbrev pub invariant-loop-token : goal.invariant-loop-token
invariant-loop-token l = l.self ≡ l.initial.self ++ l.yielded
