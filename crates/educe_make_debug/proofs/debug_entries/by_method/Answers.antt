use Rattle.std.proofs.Common.{List, ◌∷◌, [], ◌++◌, ap, subst, ◌∙◌}
use Rattle.educe_body_forms.specs.declared.form.Form.{Form}
use Rattle.educe_body_forms.specs.declared.shown.ArgumentNames.{ArgumentNames}
use Rattle.educe_meaning.specs.Arms.{IsName}
use Rattle.educe_make_debug.proofs.debug_entries.by_method.Goals as goal

pub returns : goal.returns
returns c = λ form text key_is.
    let entry = c.in_ok-entry.field-0 in
    record {
      argument = c.in_ok-argument.field-0;
      argument_is = c.in_ok-argument.ensures;
      local = c.in_ok-local.local;
      local_is = subst (λ (own : ArgumentNames). IsName own.argument.text c.in_ok-local.local) c.get.ensures c.in_ok-local.ensures;
      entry = entry;
      entry_is = c.in_ok-entry.ensures form text key_is;
      are = c.in_ok-push.ensures.ok ∙ ap (λ (front : List Form). front ++ entry ∷ []) c.in_ok-forms.ensures;
    }
