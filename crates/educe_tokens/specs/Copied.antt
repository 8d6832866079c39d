-- Tokens as they are copied to another place, where other tokens may follow them.
use Rattle.std.specs.Prelude.{◌&&◌, Bool, false, List, [], ◌∷◌}
use Rattle.educe_tokens_pieces.specs.declared.kind.TokenKind.{TokenKind}
use Rattle.educe_tokens_pieces.specs.declared.kind.TokenKind.TheVariants.{Ident, Lifetime, Literal, Punct, Start, Stop, Doc}
use Rattle.educe_tokens.specs.Lexes.{Lexeme}
use Rattle.educe_tokens.specs.Brackets.{kinds, closes}
use Rattle.educe_tokens.specs.Text.{is_punct_behind, have_no_doc}

-- The kind of a copied token before these tokens: a punct stays joint only before a punct with which it opens no
-- comment.
abbrev pub copied_kind : TokenKind → List TokenKind → TokenKind
copied_kind (Punct c joint) more = Punct c (joint && is_punct_behind c more)
copied_kind Ident more = Ident
copied_kind Lifetime more = Lifetime
copied_kind (Literal l) more = Literal l
copied_kind (Start b) more = Start b
copied_kind (Stop b) more = Stop b
copied_kind Doc more = Doc

-- The tokens as they are copied to another place: a punctuation character stays joint only before another one with which it opens
-- no comment, and all else is kept.
abbrev pub copied : List Lexeme → List Lexeme
copied [] = []
copied (x ∷ more) = record { kind = copied_kind x.kind (kinds more); spelling = x.spelling } ∷ copied more

-- The brackets close in order, and no token is documentation: copies of such lists may stand side by side.
abbrev pub may_be_copied : List Lexeme → Bool
may_be_copied found = closes [] (kinds found) && have_no_doc (kinds found)

-- ---- jointness, which is all that copying changes

-- The kind with jointness removed.
abbrev pub unjoined : TokenKind → TokenKind
unjoined (Punct c joint) = Punct c false
unjoined Ident = Ident
unjoined Lifetime = Lifetime
unjoined (Literal l) = Literal l
unjoined (Start b) = Start b
unjoined (Stop b) = Stop b
unjoined Doc = Doc

-- The token with jointness removed.
abbrev pub unjoin : Lexeme → Lexeme
unjoin x = record { kind = unjoined x.kind; spelling = x.spelling }
