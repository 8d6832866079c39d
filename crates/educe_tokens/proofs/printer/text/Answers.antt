use Rattle.std.proofs.Common.{ℕ, List, [], ◌++◌, sym, ap, ◌∙◌, subst, chars}
use Rattle.std.proofs.lemmas.Bool.{and_parts}
use Rattle.std.proofs.lemmas.Str.{chars-nil}
use Rattle.educe_tokens.specs.Lexes.{lexemes, LexesAside}
use Rattle.educe_tokens.specs.Brackets.{closes, kinds}
use Rattle.educe_tokens.specs.Text.{text_of}
use Rattle.educe_tokens.proofs.TextLexes.{text_of_tokens_lexes}
use Rattle.educe_tokens.proofs.printer.text.Goals as goal

pub returns-clause-spelled : goal.returns-clause-spelled
returns-clause-spelled c =
    c.in_ok-push_text.ensures ∙ ap (λ front. front ++ text_of (lexemes c.args.tokens.now)) (ap chars c.new-out.ensures.bytes ∙ chars-nil)

pub returns-clause-lexes : goal.returns-clause-lexes
returns-clause-lexes c =
    subst (λ (t : List ℕ). LexesAside t (lexemes c.args.tokens.now)) (sym (returns-clause-spelled c))
    (text_of_tokens_lexes c.args.tokens.now (and_parts (closes [] (kinds (lexemes c.args.tokens.now))) _ c.requires).1)
