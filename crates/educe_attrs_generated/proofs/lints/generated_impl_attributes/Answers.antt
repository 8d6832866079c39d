use Rattle.std.proofs.Common.{ap, ◌∙◌}
use Rattle.educe_tokens.specs.Lexes.{lexemes}
use Rattle.educe_tokens.proofs.Appending.{Appends-append, lexemes-Appends}
use Rattle.educe_attrs_generated.proofs.Printed.{fits, kept, impl_attributes_printable}
use Rattle.educe_attrs_generated.proofs.lints.generated_impl_attributes.Goals as goal

pub returns-clause-fit : goal.returns-clause-fit
returns-clause-fit c =
    let made = ap lexemes c.in_ok-slice.ensures ∙ lexemes-Appends c.new-tokens.ensures (Appends-append c.in_ok-quote.ensures.ok c.in_ok-push_lints.ensures) in
    fits c.in_ok-slice.slice _ made (impl_attributes_printable c.args.attributes.now)

pub returns-clause-kept : goal.returns-clause-kept
returns-clause-kept c =
    let made = ap lexemes c.in_ok-slice.ensures ∙ lexemes-Appends c.new-tokens.ensures (Appends-append c.in_ok-quote.ensures.ok c.in_ok-push_lints.ensures) in
    kept c.in_ok-slice.slice _ made (impl_attributes_printable c.args.attributes.now)
