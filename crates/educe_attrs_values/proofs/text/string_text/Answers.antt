use Rattle.std.proofs.Common.{chars, string_bytes}
use Rattle.educe_attrs_values.proofs.Texts.{text_found}
use Rattle.educe_attrs_values.proofs.text.string_text.Goals as goal

pub returns : goal.returns
returns c = text_found (λ s. chars (string_bytes s)) c.args.token.now c.requires c.string_value.result c.string_value.ensures.value
