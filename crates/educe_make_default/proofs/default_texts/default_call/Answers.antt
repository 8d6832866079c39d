use Rattle.std.proofs.Common.{◌≡◌, ap, ◌∙◌}
use Rattle.educe_tokens.specs.Copied.{copied}
use Rattle.educe_tokens.specs.Lexes.{lexemes}
use Rattle.educe_tokens.proofs.Appending.{lexemes-Appends}
use Rattle.educe_meaning.specs.Making.{default_tokens}
use Rattle.educe_make_default.proofs.DefaultTexts.{default_fits, default_kept}
use Rattle.educe_make_default.proofs.default_texts.default_call.Goals as goal

pub new-requires : goal.new-requires
new-requires c =
    let made : lexemes c.in_ok-into_slice.field-0 ≡ default_tokens c.args.ty.now = ap lexemes c.in_ok-into_slice.ensures ∙ lexemes-Appends c.new-tokens.ensures c.in_ok-push_default.ensures in
    default_fits c.in_ok-into_slice.field-0 c.args.ty.now made

pub returns : goal.returns
returns c =
    let made : lexemes c.in_ok-into_slice.field-0 ≡ default_tokens c.args.ty.now = ap lexemes c.in_ok-into_slice.ensures ∙ lexemes-Appends c.new-tokens.ensures c.in_ok-push_default.ensures in
    ap (λ ts. copied (lexemes ts)) c.new.ensures ∙ default_kept c.in_ok-into_slice.field-0 c.args.ty.now made
