use Rattle.std.proofs.Common.{◌≡◌, ◌∙◌, sym, ap, Some, length}
use Rattle.std.specs.Prelude.{nat_eq}
use Rattle.std.specs.Option.{option_eq}
use Rattle.educe_tokens_pieces.specs.declared.quotes.Within.TheVariants.{Open}
use Rattle.educe_tokens_pieces.specs.Machine.{ends}
use Rattle.educe_tokens_pieces.proofs.Ends.{whole_ends}
use Rattle.educe_tokens_pieces.proofs.Bodies.{body_ends, ends_body, one_value}
use Rattle.educe_tokens_pieces.proofs.quotes.is_body.Goals as goal

-- the test is whether the text ends as such a literal
is_end : (c : goal.After-eq) → c.eq.result ≡ ends (Open c.args.quote) c.args.text.now
is_end c = c.eq.ensures ∙ ap (λ o. option_eq nat_eq o (Some (length c.args.text.now))) c.quote_end.ensures.value ∙ whole_ends c.args.text.now (Open c.args.quote)

pub returns-clause-value : goal.returns-clause-value
returns-clause-value c = is_end c

pub returns-clause-is : goal.returns-clause-is
returns-clause-is c = λ h. ends_body c.args.quote c.args.text.now (sym (is_end c) ∙ h)

pub returns-clause-only : goal.returns-clause-only
returns-clause-only c = λ parts b. is_end c ∙ (body_ends c.args.quote c.args.text.now parts b).0

pub returns-clause-one_value : goal.returns-clause-one_value
returns-clause-one_value c = one_value c.args.quote c.args.text.now
