-- Names and keywords (Rust Reference, Keywords).
use Rattle.std.specs.Prelude.{ℕ, ◌==◌, Bool, false, ◌&&◌, not, if◌then◌else◌, List, [], ◌∷◌, codes}
use Rattle.std.specs.List.{list_any}
use Rattle.std.specs.Str.{bytes_eq}
use Rattle.educe_tokens.specs.TokenKind.{TokenKind}
use Rattle.educe_tokens.specs.TokenKind.TheVariants.{Ident, Lifetime, Literal, Punct, Start, Stop, Doc}

-- The strict and reserved keywords of edition 2021.
abbrev pub keywords : List (List ℕ)
keywords =
    codes "abstract" ∷ codes "as" ∷ codes "async" ∷ codes "await" ∷ codes "become" ∷ codes "box" ∷ codes "break"
    ∷ codes "const" ∷ codes "continue" ∷ codes "crate" ∷ codes "do" ∷ codes "dyn" ∷ codes "else" ∷ codes "enum"
    ∷ codes "extern" ∷ codes "false" ∷ codes "final" ∷ codes "fn" ∷ codes "for" ∷ codes "if" ∷ codes "impl"
    ∷ codes "in" ∷ codes "let" ∷ codes "loop" ∷ codes "macro" ∷ codes "match" ∷ codes "mod" ∷ codes "move"
    ∷ codes "mut" ∷ codes "override" ∷ codes "priv" ∷ codes "pub" ∷ codes "ref" ∷ codes "return" ∷ codes "self"
    ∷ codes "Self" ∷ codes "static" ∷ codes "struct" ∷ codes "super" ∷ codes "trait" ∷ codes "true" ∷ codes "try"
    ∷ codes "type" ∷ codes "typeof" ∷ codes "unsafe" ∷ codes "unsized" ∷ codes "use" ∷ codes "virtual"
    ∷ codes "where" ∷ codes "while" ∷ codes "yield" ∷ []

-- The text is a keyword.
unfoldable pub is_keyword : List ℕ → Bool
is_keyword text = list_any (λ keyword. bytes_eq keyword text) keywords

-- The token is a name: an identifier that is neither `_` nor a keyword.
abbrev pub is_name : TokenKind → List ℕ → Bool
is_name Ident text = not (bytes_eq text (codes "_")) && not (is_keyword text)
is_name Lifetime text = false
is_name (Literal l) text = false
is_name (Punct c joint) text = false
is_name (Start b) text = false
is_name (Stop b) text = false
is_name Doc text = false

-- The text without a leading `r#` (Rust Reference, Raw identifiers).
abbrev pub unraw : List ℕ → List ℕ
unraw [] = []
unraw (c ∷ []) = c ∷ []
unraw (c ∷ d ∷ cs) = if (c == 114) && (d == 35) then cs else c ∷ d ∷ cs
