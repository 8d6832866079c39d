use Rattle.std.proofs.Common.{List, ◌∷◌, [], ◌++◌, ap, ◌∙◌}
use Rattle.educe_body_forms.specs.declared.form.Form.{Form, Finish}
use Rattle.educe_make_debug.proofs.debug_blocks.built.Goals as goal

pub returns : goal.returns
returns c = λ definition settled.
    let entries = c.in_ok-entries.field-0 in
    let last = c.in_ok-same_name.field-0 in
    record {
      builder = c.in_ok-builder.builder;
      builder_is = c.in_ok-builder.ensures;
      formatter = c.in_ok-formatter.formatter;
      formatter_is = c.in_ok-formatter.ensures;
      begins = c.in_ok-opening.field-0;
      begins_are = c.in_ok-opening.ensures;
      entries = entries;
      entries_are = c.in_ok-entries.ensures definition settled;
      last = last;
      last_is = c.in_ok-same_name.ensures;
      block_is = c.in_ok-push.ensures.ok
          ∙ ap (λ (front : List Form). front ++ Finish last ∷ []) (c.in_ok-append.ensures.ok ∙ ap (λ (front : List Form). front ++ entries) c.in_ok-block.ensures);
    }
