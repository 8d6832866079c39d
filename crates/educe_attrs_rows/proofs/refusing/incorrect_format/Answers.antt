use Rattle.std.proofs.Common.{◌≡◌, ◌∙◌, ap, [], ◌∷◌, ◌++◌, encode_utf8_all}
use Rattle.educe_tokens.specs.declared.error.Kind.TheVariants.{AttributeIncorrectFormat}
use Rattle.educe_attrs_values.specs.Refusals.{refusal}
use Rattle.educe_attrs_values.specs.Words.{place_of, text_of}
use Rattle.educe_attrs_rows.specs.Usage.{with_usage}
use Rattle.educe_attrs_rows.proofs.refusing.incorrect_format.Goals as goal

pub returns : goal.returns
returns c =
    let path = c.args.path.now in
    let row = c.args.row.now in
    let span : c.place_of-span.result ≡ place_of path.written.tokens = c.place_of-span.ensures ∙ ap place_of (c.as_slice.ensures ∙ c.tokens.ensures) in
    let own : c.in_ok-duplicate.field-0 ≡ text_of path = c.in_ok-duplicate.ensures ∙ c.in_ok-name.ensures in
    let first : c.push.new.self ≡ text_of path ∷ [] = c.in_ok-push.ensures.ok ∙ (λ i. c.new-words.ensures i ++ own i ∷ []) in
    let name : c.as_str.result.now ≡ encode_utf8_all (text_of path) = c.as_str.ensures.bytes ∙ ap encode_utf8_all c.in_ok-name.ensures in
    let words : c.in_ok-words.words ≡ with_usage (text_of path ∷ []) (encode_utf8_all (text_of path)) row = c.in_ok-words.ensures ∙ (λ i. with_usage (first i) (name i) row) in
    λ i. refusal AttributeIncorrectFormat (span i) (words i)
