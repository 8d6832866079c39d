use Rattle.std.proofs.Common.{◌≡◌, ap, ◌∙◌}
use Rattle.educe_tokens.specs.Copied.{copied}
use Rattle.educe_tokens.specs.Lexes.{lexemes}
use Rattle.educe_tokens.specs.WrittenLexemes.{written_lexemes}
use Rattle.educe_tokens.proofs.Appending.{lexemes-Appends}
use Rattle.educe_attrs_generated.specs.Adjusted.{into}
use Rattle.educe_attrs_generated.proofs.Printed.{fits, kept, into_printable}
use Rattle.educe_attrs_generated.proofs.adjusted.converted.Goals as goal

pub new-requires : goal.new-requires
new-requires c =
    let made : lexemes c.in_ok-into_slice.field-0 ≡ into (written_lexemes c.args.value.now) = ap lexemes c.in_ok-into_slice.ensures ∙ lexemes-Appends c.new-tokens.ensures c.in_ok-push_into.ensures in
    fits c.in_ok-into_slice.field-0 _ made (into_printable c.args.value.now)

pub returns : goal.returns
returns c =
    let made : lexemes c.in_ok-into_slice.field-0 ≡ into (written_lexemes c.args.value.now) = ap lexemes c.in_ok-into_slice.ensures ∙ lexemes-Appends c.new-tokens.ensures c.in_ok-push_into.ensures in
    ap (λ ts. copied (lexemes ts)) c.new.ensures ∙ kept c.in_ok-into_slice.field-0 _ made (into_printable c.args.value.now) ∙ made
