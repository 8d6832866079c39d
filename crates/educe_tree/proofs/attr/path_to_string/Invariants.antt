use Rattle.std.proofs.Common.{◌≡◌, chars, take}
use Rattle.std.specs.List.{flat_map}
use Rattle.std.specs.String.{string_bytes}
use Rattle.educe_tree.proofs.attr.path_to_string.Given as goal

-- the spellings of the tokens so far
abbrev pub invariant-loop-token : goal.invariant-loop-token
invariant-loop-token l = chars (string_bytes l.text) ≡ flat_map (λ token. token.spelling) (take l.token-index l.token-items)
