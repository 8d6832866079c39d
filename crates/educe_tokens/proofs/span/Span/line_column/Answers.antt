use Rattle.std.proofs.Common.{◌≡◌, ◌∙◌, sym, ap, take, chars}
use Rattle.std.proofs.Math.Nat.{sub-zero}
use Rattle.std.proofs.lemmas.List.{map-id}
use Rattle.std.proofs.lemmas.Iterator.{YieldsList-from_chars}
use Rattle.std.proofs.lemmas.Iterator.Consumers.{YieldsList-end}
use Rattle.educe_tokens.specs.Span.{before}
use Rattle.educe_tokens.proofs.span.Span.line_column.Goals as goal

-- at the end, all characters before the place went by
all_before : (c : goal.In-None) → c.loop-c.yielded ≡ before c.args.source.now c.args.self.now.start
all_before c =
    let front = YieldsList-end (YieldsList-from_chars c.range.result.now c.range.utf8 cc) c.loop-c.yielded _ c.loop-c.yielded_by _ _ c.in-None.is c.next.ensures.steps in
    sym (map-id c.loop-c.yielded) ∙ front.0 ∙ ap chars c.range.ensures.value ∙ ap (λ n. chars (take n c.args.source.now)) (sub-zero c.args.self.now.start)

pub returns-clause-line : goal.returns-clause-line
returns-clause-line c = cc (all_before c)

pub returns-clause-column : goal.returns-clause-column
returns-clause-column c = cc (all_before c)
