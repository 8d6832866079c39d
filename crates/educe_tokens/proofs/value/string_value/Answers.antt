use Rattle.std.proofs.Common.{◌≡◌, ℕ, List, sym, ap, ◌∙◌, subst, chars}
use Rattle.std.specs.String.{string_bytes}
use Rattle.educe_tokens_pieces.specs.declared.kind.LiteralKind.TheVariants.{Str}
use Rattle.educe_tokens_pieces.specs.declared.kind.TokenKind.{TokenKind}
use Rattle.educe_tokens_pieces.specs.declared.kind.TokenKind.TheVariants.{Literal}
use Rattle.educe_tokens_pieces.specs.Comments.{IsDocOf}
use Rattle.educe_tokens.specs.StringValue.{IsStringValue, doc, text_of_kind}
use Rattle.educe_tokens.proofs.StringValues.{text_is}
use Rattle.educe_tokens.proofs.value.string_value.Goals as goal

pub returns-in_ok-from_str-in-Doc-clause-some : goal.returns-in_ok-from_str-in-Doc-clause-some
returns-in_ok-from_str-in-Doc-clause-some c =
    let token = c.args.token.now in
    let value : List ℕ = chars (string_bytes c.in_ok-from_str-in-Doc.field-0) in
    let law : IsDocOf (chars c.as_str-in-Doc.result.now) (chars c.doc_value-text.result.now) = c.doc_value-text.ensures.law in
    let text : IsDocOf token.spelling (chars c.doc_value-text.result.now) =
    subst (λ (s : List ℕ). IsDocOf s (chars c.doc_value-text.result.now)) c.as_str-in-Doc.ensures.chars law in
    let is : IsDocOf token.spelling value = subst (IsDocOf token.spelling) (ap chars (sym c.in_ok-from_str-in-Doc.ensures.ok)) text in
    subst (λ (kind : TokenKind). IsStringValue (record { kind = kind; spelling = token.spelling }) value) (sym c.in-Doc.is) (doc token.spelling value is)

pub returns-in_ok-literal_value-in-Literal-Str-clause-value : goal.returns-in_ok-literal_value-in-Literal-Str-clause-value
returns-in_ok-literal_value-in-Literal-Str-clause-value c =
    let value : List ℕ = chars (string_bytes c.in_ok-literal_value-in-Literal-Str.field-0) in
    let own : IsStringValue (record { kind = Literal Str; spelling = chars c.as_str.result.now }) value = c.in_ok-literal_value-in-Literal-Str.ensures in
    let inner : c.in-Literal-Str.field-0 ≡ Str = rw c.in-Literal-Str.is at c.in-Literal-Str.field-0-is in
    let kind : c.args.token.now.kind ≡ Literal Str = c.in-Literal-Str.is ∙ ap Literal inner in
    sym (text_is (record { kind = Literal Str; spelling = chars c.as_str.result.now }) value own) ∙ (λ i. text_of_kind (sym kind i) (c.as_str.ensures.chars i))
