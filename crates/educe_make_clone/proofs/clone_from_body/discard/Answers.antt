use Rattle.std.proofs.Common.{◌≡◌, ◌∷◌, []}
use Rattle.std.proofs.lemmas.Result.{IfOk-weaker}
use Rattle.educe_body_forms.specs.declared.form.Form.{Discard}
use Rattle.educe_meaning.specs.CloneBodies.{IsDiscard}
use Rattle.educe_make_clone.proofs.clone_from_body.discard.Goals as goal

pub returns : goal.returns
returns c =
    let name = c.in_ok-name.name in
    IfOk-weaker c.block_of.result (λ block. block ≡ Discard name ∷ []) (IsDiscard c.args.source.now.text)
    (λ block is. record { name = name; name_is = c.in_ok-name.ensures; block_is = is }) c.block_of.ensures
