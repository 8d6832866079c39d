use Rattle.std.specs.Prelude.{codes}
use Rattle.std.proofs.Common.{◌≡◌, refl}
use Rattle.std.proofs.lemmas.Result.{IfOk-weaker}
use Rattle.educe_body_forms.specs.declared.form.Form.{Form, WholeCopy}
use Rattle.educe_handlers.proofs.Formed.{function_with}
use Rattle.educe_meaning.specs.Blocks.{AreCopying}
use Rattle.educe_meaning.specs.Making.{HasOneForm}
use Rattle.educe_make_clone.proofs.clone_handling.copying.Goals as goal

pub returns : goal.returns
returns c =
    IfOk-weaker c.function.result _ AreCopying
    (λ functions one. function_with (codes "clone") (HasOneForm (λ (x : Form). x ≡ WholeCopy)) _ functions one (record {
      params_are = c.in_ok-body.ensures.params;
      form = WholeCopy;
      block_is = c.in_ok-body.ensures.block;
      form_is = refl;
    })) c.function.ensures
