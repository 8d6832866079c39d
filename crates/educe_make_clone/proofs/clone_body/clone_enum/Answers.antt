use Rattle.std.proofs.Common.{◌≡◌, ◌∷◌, [], sym, ◌∙◌}
use Rattle.std.proofs.lemmas.Result.{IfOk-weaker}
use Rattle.educe_body_forms.specs.declared.form.Form.{Unreachable}
use Rattle.educe_meaning.specs.CloneBodies.{IsCloneEnum}
use Rattle.educe_make_clone.specs.Matches.{IsMatchOf}
use Rattle.educe_make_clone.proofs.Matched.{clone_matched, clone_unmatched}
use Rattle.educe_make_clone.proofs.clone_body.clone_enum.Goals as goal

pub returns-then-len-eq0 : goal.returns-then-len-eq0
returns-then-len-eq0 c = λ definition names variants are.
    IfOk-weaker c.block_of.result (λ block. block ≡ Unreachable ∷ []) (IsCloneEnum definition names variants)
    (λ block is. clone_unmatched definition names variants c.args.arms block (sym c.len.ensures ∙ c.if-len-eq0.true) are is) c.block_of.ensures

pub returns-else-len-eq0 : goal.returns-else-len-eq0
returns-else-len-eq0 c = λ definition names variants are.
    IfOk-weaker c.match_on_self.result (IsMatchOf c.args.arms) (IsCloneEnum definition names variants)
    (λ block is. clone_matched definition names variants c.args.arms block (λ none. c.if-len-eq0.false (c.len.ensures ∙ none)) are is) c.match_on_self.ensures
