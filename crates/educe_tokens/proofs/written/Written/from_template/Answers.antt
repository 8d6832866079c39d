use Rattle.std.proofs.Common.{◌≡◌, ◌∙◌, sym, ap, subst, IsTrue, List}
use Rattle.educe_tokens.specs.Copied.{copied, may_be_copied}
use Rattle.educe_tokens.specs.Lexes.{Lexeme, lexemes}
use Rattle.educe_tokens.specs.Quote.{quoted}
use Rattle.educe_tokens.proofs.Appending.{lexemes-Appends}
use Rattle.educe_tokens.proofs.Copying.{copied-written, may_be_copied-written}
use Rattle.educe_tokens.proofs.written.Written.from_template.Goals as goal

pub invariant_of-result : goal.invariant_of-result
invariant_of-result c =
    let same : lexemes c.in_ok-tokens.tokens ≡ quoted c.args.template.now = ap lexemes c.in_ok-tokens.ensures ∙ lexemes-Appends c.new-tokens.ensures c.in_ok-quote.ensures.ok in
    record { written = subst (λ (found : List Lexeme). IsTrue (may_be_copied found)) (sym same) (may_be_copied-written (quoted c.args.template.now) c.requires.written) }

pub returns-clause-printed : goal.returns-clause-printed
returns-clause-printed c =
    let same : lexemes c.in_ok-tokens.tokens ≡ quoted c.args.template.now = ap lexemes c.in_ok-tokens.ensures ∙ lexemes-Appends c.new-tokens.ensures c.in_ok-quote.ensures.ok in
    ap copied same ∙ copied-written (quoted c.args.template.now) c.requires.written
