use Rattle.std.proofs.Common.{sym, ◌∙◌}
use Rattle.std.proofs.lemmas.Result.{IfOk-weaker}
use Rattle.educe_meaning.specs.CloneBodies.{IsDiscard, IsFromEnum}
use Rattle.educe_make_clone.specs.CloneNames.{names_of}
use Rattle.educe_make_clone.specs.Matches.{IsMatchOf}
use Rattle.educe_make_clone.proofs.Matched.{from_matched, from_unmatched}
use Rattle.educe_make_clone.proofs.clone_from_body.from_enum.Goals as goal

pub returns-then-len-eq0 : goal.returns-then-len-eq0
returns-then-len-eq0 c = λ definition variants are.
    let names = names_of c.args.names.now in
    IfOk-weaker c.discard.result (IsDiscard names.source) (IsFromEnum definition names variants)
    (λ block is. from_unmatched definition names variants c.args.arms block (sym c.len.ensures ∙ c.if-len-eq0.true) are is) c.discard.ensures

pub returns-else-len-eq0 : goal.returns-else-len-eq0
returns-else-len-eq0 c = λ definition variants are.
    let names = names_of c.args.names.now in
    IfOk-weaker c.match_on_self.result (IsMatchOf c.args.arms) (IsFromEnum definition names variants)
    (λ block is. from_matched definition names variants c.args.arms block (λ none. c.if-len-eq0.false (c.len.ensures ∙ none)) are is) c.match_on_self.ensures
