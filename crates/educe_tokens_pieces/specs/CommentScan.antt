-- The scanner of comments and documentation at the start of a text.
use Rattle.std.specs.Prelude.{ℕ, ◌+◌, ◌-◌, ◌==◌, Bool, cond, ◌&&◌, Option, Some, None, List, [], ◌∷◌}
use Rattle.std.specs.List.{prefix_len}
use Rattle.educe_tokens_pieces.specs.declared.kind.TokenKind.TheVariants.{Doc}
use Rattle.educe_tokens_pieces.specs.declared.kind.PieceKind.{PieceKind}
use Rattle.educe_tokens_pieces.specs.declared.kind.PieceKind.TheVariants.{Comment, Token}
use Rattle.educe_tokens_pieces.specs.Chars.{is_in_line}
use Rattle.educe_tokens_pieces.specs.Comments.{opens_line_doc, opens_block_doc, opens_inner}
use Rattle.educe_tokens_pieces.specs.Machine.{plus}

-- The length up to the `*/` that closes the outermost block comment, with `inner` more comments open inside it.
abbrev pub closing_len : ℕ → List ℕ → Option ℕ
closing_len inner [] = None
closing_len inner (c ∷ []) = None
closing_len inner (c ∷ d ∷ cs) =
    cond ((c == 42) && (d == 47)) (cond (inner == 0) (Some 2) (plus 2 (closing_len (inner - 1) cs)))
    (cond ((c == 47) && (d == 42)) (plus 2 (closing_len (inner + 1) cs)) (plus 1 (closing_len inner (d ∷ cs))))

-- The kind of a comment: documentation, or a comment that documents nothing.
abbrev pub comment_kind : Bool → PieceKind
comment_kind documents = cond documents (Token Doc) Comment

-- A found length, paired with the kind.
abbrev pub of_kind : PieceKind → Option ℕ → Option (PieceKind × ℕ)
of_kind kind None = None
of_kind kind (Some n) = Some (kind, n)

-- The kind and length of the line comment whose text after `//` this is; none for inner documentation.
abbrev pub line_at : List ℕ → Option (PieceKind × ℕ)
line_at cs = cond (opens_inner cs) None (Some (comment_kind (opens_line_doc cs), 2 + prefix_len is_in_line cs))

-- The kind and length of the block comment whose text after `/*` this is; none for inner documentation and where it is
-- never closed.
abbrev pub block_at : List ℕ → Option (PieceKind × ℕ)
block_at cs = cond (opens_inner cs) None (of_kind (comment_kind (opens_block_doc cs)) (plus 2 (closing_len 0 cs)))

-- The comment or documentation at the front, with its kind and length; what may follow it is not asked.
abbrev pub comment_at : List ℕ → Option (PieceKind × ℕ)
comment_at [] = None
comment_at (c ∷ []) = None
comment_at (c ∷ d ∷ cs) = cond ((c == 47) && (d == 47)) (line_at cs) (cond ((c == 47) && (d == 42)) (block_at cs) None)
