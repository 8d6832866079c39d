use Rattle.std.proofs.Common.{◌+◌, ◌≤◌, rules, sym, ap, ◌∙◌}
use Rattle.std.specs.Prelude.{slice_range}
use Rattle.std.proofs.lemmas.List.{places}
use Rattle.educe_tokens.proofs.Parts.{range-range}
use Rattle.educe_tokens.proofs.slice.TokenSlice.part.Goals as goal

pub returns : goal.returns
returns c =
    let s = c.self.inside in
    let within : s.start + c.args.end ≤ s.end = search (rules, places) in
    ap (λ tokens. slice_range tokens (s.start + c.args.start) (s.start + c.args.end)) c.in_ok-list.ensures.cases
    ∙ sym (range-range s.list.value s.start s.end c.args.start c.args.end c.requires.start_le_end within)
    ∙ ap (λ tokens. slice_range tokens c.args.start c.args.end) c.self.view_is
