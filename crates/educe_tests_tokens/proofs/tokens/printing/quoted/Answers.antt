use Rattle.std.proofs.Common.{refl, sym, subst}
use Rattle.educe_tokens.specs.Quote.{quoted}
use Rattle.educe_tokens.specs.Text.{IsWellFormed}
use Rattle.educe_tokens.proofs.Appending.{lexemes-Appends}
use Rattle.educe_tests_tokens.proofs.tokens.printing.quoted.Goals as goal

pub text-requires : goal.text-requires
unfolding quoted
text-requires c = subst IsWellFormed (sym (lexemes-Appends c.new-tokens.ensures c.in_ok-quote.ensures.ok)) refl
