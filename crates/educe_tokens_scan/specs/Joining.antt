-- What may follow a token, decided by its kind alone.
use Rattle.std.specs.Prelude.{Bool, true, false, not}
use Rattle.educe_tokens_pieces.specs.declared.kind.TokenKind.{TokenKind}
use Rattle.educe_tokens_pieces.specs.declared.kind.TokenKind.TheVariants.{Ident, Lifetime, Literal, Punct, Start, Stop, Doc}
use Rattle.educe_tokens_pieces.specs.declared.kind.PieceKind.{PieceKind}
use Rattle.educe_tokens_pieces.specs.declared.kind.PieceKind.TheVariants.{Token}

-- A space or the end of the text may follow the token: it is no joint punct, and no documentation, which may take the
-- rest of its line.
abbrev pub stands_apart : TokenKind → Bool
stands_apart (Punct c joint) = not joint
stands_apart Ident = true
stands_apart Lifetime = true
stands_apart (Literal l) = true
stands_apart (Start b) = true
stands_apart (Stop b) = true
stands_apart Doc = false

-- The kind with jointness removed, as at the end of a text.
abbrev pub unjoined : PieceKind → PieceKind
unjoined (Token (Punct c joint)) = Token (Punct c false)
unjoined kind = kind
