use Rattle.std.proofs.Common.{ℕ, List, ◌∙◌, ◌++◌, chars, ap, arith}
use Rattle.std.specs.String.{string_bytes}
use Rattle.std.proofs.lemmas.Str.{IsUtf8-string_bytes, encode_ascii}
use Rattle.educe_tokens.specs.Lexes.{Lexeme}
use Rattle.educe_tokens.specs.Text.{text_of}
use Rattle.educe_tokens.proofs.Appending.{lexemes-Appends}
use Rattle.educe_tokens.proofs.Printable.{lexes_back_from}
use Rattle.educe_body_items.specs.Items.{item_lexemes, item_printout}
use Rattle.educe_body_items.proofs.Spelled.{put_line}
use Rattle.educe_body_items.proofs.speller.push_item.Goals as goal

pub returns-clause-spelled : goal.returns-clause-spelled
returns-clause-spelled c =
    let old : List ℕ = chars (string_bytes c.args.out.now) in
    let mid = string_bytes c.push_text.new.out in
    let same = lexemes-Appends c.requires c.in_ok-to_tokens.ensures.ok in
    put_line mid (string_bytes c.push.new.self) old (text_of (item_lexemes c.args.item.now)) (IsUtf8-string_bytes c.push_text.new.out)
    (c.in_ok-push_text.ensures ∙ ap (λ (found : List Lexeme). old ++ text_of found) same)
    (c.in_ok-push.ensures.bytes ∙ ap (λ bytes. mid ++ bytes) (encode_ascii 10 (omega arith)))

pub returns-clause-lexes : goal.returns-clause-lexes
returns-clause-lexes c = lexes_back_from (item_printout c.args.item.now).printable
