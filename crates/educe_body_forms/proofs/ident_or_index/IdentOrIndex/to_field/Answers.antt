use Rattle.std.proofs.Common.{List, IsTrue, sym, subst}
use Rattle.educe_tokens.specs.Lexes.{Lexeme, lexemes}
use Rattle.educe_tokens.specs.Text.{is_written}
use Rattle.educe_body_forms.proofs.Tokens.{field_written}
use Rattle.educe_body_forms.proofs.ident_or_index.IdentOrIndex.to_field.Goals as goal

pub returns-clause-written : goal.returns-clause-written
returns-clause-written c =
    λ h. let P : List Lexeme → Type 0 = λ found. IsTrue (is_written found) in
    subst P (sym c.in_ok-tokens.ensures) (field_written c.args.self.now (lexemes c.args.value.now) h)
