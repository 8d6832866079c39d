use Rattle.std.proofs.Common.{ℕ, IsTrue, List, [], ◌∷◌, sym, ap, ◌∙◌, subst}
use Rattle.std.proofs.lemmas.Result.{on_ok_weaker}
use Rattle.educe_tokens.specs.Lexes.{Lexeme}
use Rattle.educe_tokens.specs.Pieces.{spells}
use Rattle.educe_tokens.specs.TokenKind.{TokenKind}
use Rattle.educe_tokens.proofs.Appending.{Appends-same}
use Rattle.educe_tree.specs.TokenLaws.{ascii_chars}
use Rattle.educe_body_forms.proofs.print_fmt.push_ascii.Goals as goal

-- the token of this kind
abbrev token : TokenKind → List ℕ → Lexeme
token kind text = record { kind = kind; spelling = text }

pub push_spelling-requires : goal.push_spelling-requires
push_spelling-requires c =
    let same = c.in_ok-spelling.ensures ∙ ascii_chars c.args.text.now c.requires.ascii in
    subst (λ (text : List ℕ). IsTrue (spells c.args.kind text)) (sym same) c.requires.spelled

pub returns-clause-ok : goal.returns-clause-ok
returns-clause-ok c =
    let same = ap (λ (text : List ℕ). token c.args.kind text ∷ []) (c.in_ok-spelling.ensures ∙ ascii_chars c.args.text.now c.requires.ascii) in
    on_ok_weaker _ (λ found. Appends-same same found) c.push_spelling.ensures.ok
