use Rattle.std.proofs.Common.{map}
use Rattle.std.specs.List.{flat_map}
use Rattle.educe_tokens.specs.Appends.{Appends, HasPrefix}
use Rattle.educe_body_forms.specs.Filled.{behind, filled_word}
use Rattle.educe_body_forms.proofs.filled.push_filled.Given as goal

abbrev pub invariant-loop-word : goal.invariant-loop-word
invariant-loop-word l = record {
  grown : Appends (flat_map (filled_word (behind l.fn.names)) (map (λ word. word.now) l.yielded)) l.fn.tokens l.tokens;
  prefix : HasPrefix l.fn.tokens l.tokens;
}
