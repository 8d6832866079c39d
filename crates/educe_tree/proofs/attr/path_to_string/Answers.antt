use Rattle.std.proofs.Common.{ap, ◌∙◌, chars}
use Rattle.std.specs.String.{string_bytes}
use Rattle.std.proofs.lemmas.Str.{chars-nil, IsUtf8-string_bytes}
use Rattle.educe_tokens.proofs.Printed.{put_text}
use Rattle.educe_tree.proofs.Spelled.{spelled_more}
use Rattle.educe_tree.proofs.attr.path_to_string.Goals as goal

pub loop-token-init : goal.loop-token-init
loop-token-init c = ap chars c.new-text.ensures.bytes ∙ chars-nil

pub loop-token-preserved : goal.loop-token-preserved
loop-token-preserved c =
    put_text (string_bytes c.loop-token.text) (string_bytes c.push_str.new.self) c.as_str.result.now c.token-item.result.spelling _ (IsUtf8-string_bytes c.loop-token.text) c.in_ok-push_str.ensures.bytes c.as_str.ensures.chars c.loop-token.invariant
    ∙ spelled_more c.as_slice-token-items.result.now c.loop-token.token-index c.token-item.result _ c.loop-token-test.true c.token-item.is
