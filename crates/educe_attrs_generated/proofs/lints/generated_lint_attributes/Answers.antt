use Rattle.std.proofs.Common.{ap, ◌∙◌}
use Rattle.educe_tokens.specs.Lexes.{lexemes}
use Rattle.educe_tokens.proofs.Appending.{lexemes-Appends}
use Rattle.educe_attrs_generated.proofs.Printed.{fits, kept, lints_printable}
use Rattle.educe_attrs_generated.proofs.lints.generated_lint_attributes.Goals as goal

pub returns-clause-fit : goal.returns-clause-fit
returns-clause-fit c = fits c.in_ok-slice.slice _ (ap lexemes c.in_ok-slice.ensures ∙ lexemes-Appends c.new-tokens.ensures c.in_ok-push_lints.ensures) (lints_printable c.args.attributes.now)

pub returns-clause-kept : goal.returns-clause-kept
returns-clause-kept c = kept c.in_ok-slice.slice _ (ap lexemes c.in_ok-slice.ensures ∙ lexemes-Appends c.new-tokens.ensures c.in_ok-push_lints.ensures) (lints_printable c.args.attributes.now)
