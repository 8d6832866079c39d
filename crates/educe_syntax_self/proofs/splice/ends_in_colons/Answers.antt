use Rattle.std.proofs.Common.{◌∙◌, ◌-◌, sym, ap, drop, length, length-drop, arith}
use Rattle.std.proofs.lemmas.List.{take_all}
use Rattle.educe_grammar.specs.Ahead.{begins_pair}
use Rattle.educe_syntax_self.proofs.Splices.{ends_short, ends_drop}
use Rattle.educe_syntax_self.proofs.splice.ends_in_colons.Goals as goal

pub returns-then-tokens-lt2 : goal.returns-then-tokens-lt2
returns-then-tokens-lt2 c = sym (ends_short c.args.tokens.now (omega arith))

pub returns : goal.returns
returns c =
    let ts = c.args.tokens.now in
    let n = length ts - 2 in
    c.begins_colons.ensures ∙ ap (begins_pair 58 58) (take_all (length ts - n) (drop n ts) (omega (arith, length-drop n ts))) ∙ sym (ends_drop ts (omega arith))
