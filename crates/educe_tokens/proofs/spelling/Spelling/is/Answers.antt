use Rattle.std.proofs.Common.{sym, ap, ◌∙◌, chars, encode_utf8_all}
use Rattle.std.proofs.lemmas.Str.{encodes-chars}
use Rattle.std.proofs.lemmas.Slice.Eq.{bytes_eq-Decides}
use Rattle.educe_tokens.proofs.spelling.Spelling.is.Goals as goal

pub returns : goal.returns
returns c =
    let own = c.as_str.result.now in
    let text = c.args.text.now in
    let decides = bytes_eq-Decides own text in (
      (λ same. sym c.as_str.ensures.chars ∙ ap chars (decides.0 (sym c.eq.ensures ∙ same))),
      (λ same. c.eq.ensures ∙ decides.1 (c.as_str.ensures.bytes ∙ ap encode_utf8_all same ∙ encodes-chars text c.utf8.text)),
    )
