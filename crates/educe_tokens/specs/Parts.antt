-- The tokens that a part of a stream stands for: a token, a template or copies of written tokens.
use Rattle.std.specs.Prelude.{◌≡◌, refl, ℕ, IsTrue, List, [], ◌∷◌}
use Rattle.std.proofs.Common.{◌∙◌}
use Rattle.std.proofs.lemmas.Bool.{and_parts}
use Rattle.educe_tokens_pieces.specs.declared.kind.TokenKind.{TokenKind}
use Rattle.educe_tokens_pieces.specs.declared.kind.TokenKind.TheVariants.{Ident, Lifetime, Literal, Punct, Start, Stop, Doc}
use Rattle.educe_tokens_pieces.specs.Pieces.{spells}
use Rattle.educe_tokens.specs.declared.kept_template.KeptTemplate.{KeptTemplate}
use Rattle.educe_tokens.specs.declared.stream.Part.{Part}
use Rattle.educe_tokens.specs.declared.stream.Part.TheVariants as part
use Rattle.educe_tokens.specs.declared.token.Token.{Token}
use Rattle.educe_tokens.specs.Appends.{no_place}
use Rattle.educe_tokens.specs.Brackets.{kinds}
use Rattle.educe_tokens.specs.Copied.{copied_kind}
use Rattle.educe_tokens.specs.Lexes.{Lexeme, lexemes}
use Rattle.educe_tokens.specs.Quote.{quoted}
use Rattle.educe_tokens.specs.Spelled.{are_spelled}

-- Tokens that are spelled as their kinds, with the span of no place.
abbrev pub tokens_nowhere : (found : List Lexeme) → IsTrue (are_spelled found) → List Token
tokens_nowhere [] h = []
tokens_nowhere (x ∷ xs) h =
    let parts = and_parts (spells x.kind x.spelling) (are_spelled xs) h in
    record { kind = x.kind; span = no_place; spelling = x.spelling; spelled = parts.0 } ∷ tokens_nowhere xs parts.1

-- The tokens that a template stands for.
abbrev pub template_tokens : KeptTemplate → List Token
template_tokens template = tokens_nowhere (quoted template.text.now) template.spelled

-- Copying a kind does not change how its token is spelled.
pub spells_copied : (kind : TokenKind) (more : List TokenKind) (spelling : List ℕ)
    → spells (copied_kind kind more) spelling ≡ spells kind spelling
spells_copied (Punct c joint) more spelling = refl
spells_copied Ident more spelling = refl
spells_copied Lifetime more spelling = refl
spells_copied (Literal l) more spelling = refl
spells_copied (Start b) more spelling = refl
spells_copied (Stop b) more spelling = refl
spells_copied Doc more spelling = refl

-- The copies of these tokens, each with its own span.
abbrev pub copied_tokens : List Token → List Token
copied_tokens [] = []
copied_tokens (t ∷ ts) =
    let kind = copied_kind t.kind (kinds (lexemes ts)) in
    let spelled = spells_copied t.kind (kinds (lexemes ts)) t.spelling ∙ t.spelled in
    record { kind = kind; span = t.span; spelling = t.spelling; spelled = spelled } ∷ copied_tokens ts

-- The tokens that a part stands for.
abbrev pub part_tokens : Part → List Token
part_tokens (part.Token token) = token ∷ []
part_tokens (part.Template template) = template_tokens template
part_tokens (part.Written written) = copied_tokens written.tokens
