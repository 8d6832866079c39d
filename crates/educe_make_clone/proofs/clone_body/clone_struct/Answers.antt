use Rattle.std.proofs.Common.{◌≡◌, List, [], ◌∷◌, subst}
use Rattle.std.proofs.lemmas.Result.{IfOk-weaker}
use Rattle.std.specs.Prelude.{ℕ, None}
use Rattle.educe_meaning.specs.CloneBodies.{IsCloneConstruct, IsCloneStruct}
use Rattle.educe_meaning.specs.Steps.{of_base}
use Rattle.educe_make_clone.proofs.clone_body.clone_struct.Goals as goal

pub returns : goal.returns
returns c = λ definition copied_are kept.
    let form = c.in_ok-form.form in
    let cloned = subst (λ (text : List ℕ). IsCloneConstruct definition (of_base c.args.copied text) None c.args.shape.now form) c.in_ok-own.ensures.text (c.in_ok-form.ensures definition kept) in
    IfOk-weaker c.block_of.result (λ block. block ≡ form ∷ []) (IsCloneStruct definition c.args.shape.now)
    (λ block is. record { copied = c.args.copied; copied_are = copied_are; form = form; form_is = cloned; block_is = is }) c.block_of.ensures
