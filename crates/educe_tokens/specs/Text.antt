-- The text of a list of tokens.
use Rattle.std.specs.Prelude.{ℕ, ◌==◌, Bool, true, false, cond, ◌&&◌, not, IsTrue, List, [], ◌∷◌, ◌++◌}
use Rattle.std.specs.List.{list_all}
use Rattle.educe_tokens_pieces.specs.declared.kind.TokenKind.{TokenKind}
use Rattle.educe_tokens_pieces.specs.declared.kind.TokenKind.TheVariants.{Ident, Lifetime, Literal, Punct, Start, Stop, Doc}
use Rattle.educe_tokens_pieces.specs.Chars.{is_slash_or_star}
use Rattle.educe_tokens.specs.Lexes.{Lexeme}
use Rattle.educe_tokens.specs.Brackets.{kinds, closes}

-- The token is a joint punct, so no space separates it from the next token.
abbrev pub joins_next : TokenKind → Bool
joins_next (Punct c joint) = joint
joins_next Ident = false
joins_next Lifetime = false
joins_next (Literal l) = false
joins_next (Start b) = false
joins_next (Stop b) = false
joins_next Doc = false

-- The next token is a punct that does not open a comment together with the punct `c`.
abbrev pub is_punct_behind : ℕ → List TokenKind → Bool
is_punct_behind c (Punct d joint ∷ more) = not ((c == 47) && is_slash_or_star d)
is_punct_behind c [] = false
is_punct_behind c (Ident ∷ more) = false
is_punct_behind c (Lifetime ∷ more) = false
is_punct_behind c (Literal l ∷ more) = false
is_punct_behind c (Start b ∷ more) = false
is_punct_behind c (Stop b ∷ more) = false
is_punct_behind c (Doc ∷ more) = false

-- The token is not joint, or the next token is a punct with which it opens no comment.
abbrev pub punct_joins : TokenKind → List TokenKind → Bool
punct_joins (Punct c true) more = is_punct_behind c more
punct_joins (Punct c false) more = true
punct_joins Ident more = true
punct_joins Lifetime more = true
punct_joins (Literal l) more = true
punct_joins (Start b) more = true
punct_joins (Stop b) more = true
punct_joins Doc more = true

-- Each joint punct is followed by a punct with which it opens no comment.
abbrev pub puncts_join : List TokenKind → Bool
puncts_join [] = true
puncts_join (kind ∷ more) = punct_joins kind more && puncts_join more

-- The token may stand before these: it is no documentation, and a joint punct is followed by a punct with which it
-- opens no comment.
abbrev pub may_join : TokenKind → List TokenKind → Bool
may_join (Punct c joint) more = punct_joins (Punct c joint) more
may_join Ident more = true
may_join Lifetime more = true
may_join (Literal l) more = true
may_join (Start b) more = true
may_join (Stop b) more = true
may_join Doc more = false

-- No token is documentation, and each joint one is followed by a punctuation character with which it opens no comment.
abbrev pub joins_well : List TokenKind → Bool
joins_well [] = true
joins_well (kind ∷ more) = may_join kind more && joins_well more

-- The token is no documentation.
abbrev pub is_no_doc : TokenKind → Bool
is_no_doc Doc = false
is_no_doc Ident = true
is_no_doc Lifetime = true
is_no_doc (Literal l) = true
is_no_doc (Punct c joint) = true
is_no_doc (Start b) = true
is_no_doc (Stop b) = true

-- No token is documentation.
abbrev pub have_no_doc : List TokenKind → Bool
have_no_doc found = list_all is_no_doc found

-- The brackets close in order, and each token may stand before the next.
abbrev pub is_well_formed : List Lexeme → Bool
is_well_formed found = closes [] (kinds found) && joins_well (kinds found)

-- Brackets match, and the list joins well.
abbrev pub IsWellFormed : List Lexeme → Type 0
IsWellFormed found = IsTrue (is_well_formed found)

-- The last token, if there is one, is not joint.
abbrev pub ends_apart : List TokenKind → Bool
ends_apart [] = true
ends_apart (kind ∷ []) = not (joins_next kind)
ends_apart (kind ∷ next ∷ more) = ends_apart (next ∷ more)

-- The spellings, with one space between two tokens and none after a joint punct.
abbrev pub text_behind : Bool → List Lexeme → List ℕ
text_behind joint [] = []
text_behind joint (x ∷ xs) = cond joint [] (32 ∷ []) ++ (x.spelling ++ text_behind (joins_next x.kind) xs)

-- The spellings of tokens, with one space between two of them and none behind a joint one.
abbrev pub text_of : List Lexeme → List ℕ
text_of found = text_behind true found

-- The tokens are well formed and the last is not joint, so that such lists may stand side by side.
abbrev pub is_written : List Lexeme → Bool
is_written found = is_well_formed found && ends_apart (kinds found)
