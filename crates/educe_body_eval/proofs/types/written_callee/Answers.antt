use Rattle.std.proofs.Common.{◌≡◌, ◌∙◌, ◌++◌, List, [], ap, sym, subst}
use Rattle.educe_tokens.specs.declared.token.Token.{Token}
use Rattle.educe_tokens.specs.Appends.{Appends}
use Rattle.educe_tokens.specs.Lexes.{Lexeme, lexemes}
use Rattle.educe_tokens.specs.Text.{IsWellFormed}
use Rattle.educe_tokens.specs.WrittenLexemes.{written_lexemes}
use Rattle.educe_tokens.proofs.Printable.{printable-written, well_formed_from}
use Rattle.educe_body_eval.proofs.types.written_callee.Goals as goal

-- what was appended to no tokens is all that there is
appended_to_none : (found : List Lexeme) (old new : List Token) → old ≡ [] → Appends found old new → lexemes new ≡ found
appended_to_none found old new empty appends = ap lexemes (appends.joined ∙ ap (λ (tokens : List Token). tokens ++ appends.more) empty) ∙ appends.same

pub text-requires : goal.text-requires
text-requires c =
    let all = appended_to_none (written_lexemes c.args.written.now) c.new-tokens.result c.append_written.new.tokens c.new-tokens.ensures c.in_ok-append_written.ensures.ok in
    subst IsWellFormed (sym all) (well_formed_from (printable-written c.args.written.now))
