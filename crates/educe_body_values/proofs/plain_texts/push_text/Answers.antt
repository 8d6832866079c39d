use Rattle.std.proofs.lemmas.Str.{IsUtf8-string_bytes}
use Rattle.educe_body_values.proofs.Pushed.{pushed}
use Rattle.educe_body_values.proofs.plain_texts.push_text.Goals as goal

pub returns : goal.returns
returns c = pushed _ _ _ _ (IsUtf8-string_bytes c.args.out.now) c.in_ok-push_str.ensures.bytes c.as_str.ensures.chars
