use Rattle.std.proofs.Common.{ap}
use Rattle.educe_body_forms.specs.declared.form.Form.{Form, BuilderEntry}
use Rattle.educe_make_debug.proofs.debug_entries.entry.Goals as goal

pub returns : goal.returns
returns c = λ form text key_is. record {
  builder = c.in_ok-builder.builder;
  builder_is = c.in_ok-builder.ensures;
  key = c.args.key;
  key_is = key_is;
  is = ap (λ (held : Form). BuilderEntry c.in_ok-builder.builder c.args.key held c.args.by_reference) c.in_ok-held.ensures;
}
