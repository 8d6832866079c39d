use Rattle.std.proofs.lemmas.Str.{IsUtf8-string_bytes}
use Rattle.std.specs.String.{string_bytes}
use Rattle.educe_tokens_pieces.proofs.Values.{pushed}
use Rattle.educe_tokens_pieces.proofs.quote_value.push_given.Goals as goal

pub returns-in-Some : goal.returns-in-Some
returns-in-Some c =
    pushed c.push.result (string_bytes c.args.value.now) (string_bytes c.push.new.self) c.in-Some.c c.args.given
    (IsUtf8-string_bytes c.args.value.now) (IsUtf8-string_bytes c.push.new.self) c.push.ensures.bytes c.in-Some.is
