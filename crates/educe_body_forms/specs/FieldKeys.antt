-- The keys of fields: a name or an index (Rust Reference, Field access expressions; Tuple indexing expressions).
use Rattle.std.specs.Prelude.{ℕ, Option, None, Some, List, [], ◌∷◌, ◌++◌, ◌^◌, if◌then◌else◌, nat_lt, codes}
use Rattle.std.specs.Fmt.{decimal}
use Rattle.educe_tokens.specs.LiteralKind.TheVariants.{Int}
use Rattle.educe_tokens.specs.TokenKind.TheVariants as token
use Rattle.educe_tokens.specs.Lexes.{Lexeme}
use Rattle.educe_tokens.specs.Quote.{quoted}
use Rattle.educe_tree.specs.declared.ident.Ident.{Ident as Name}
use Rattle.educe_tree.specs.Names.{unraw}
use Rattle.educe_body_forms.specs.declared.ident_or_index.IdentOrIndex.{IdentOrIndex}
use Rattle.educe_body_forms.specs.declared.ident_or_index.IdentOrIndex.TheVariants.{Ident, Index}

-- The key of a field: its name, or its place where it has no name.
abbrev pub key_of : Option Name → ℕ → IdentOrIndex
key_of None index = Index index
key_of (Some name) index = Ident name

-- The token of a key: an identifier, or the decimal digits of the index as an integer.
abbrev pub key_lexeme : IdentOrIndex → Lexeme
key_lexeme (Ident name) = record { kind = token.Ident; spelling = name.text }
key_lexeme (Index index) = record { kind = token.Literal Int; spelling = decimal index }

-- The tokens of a key. An index past 64 bits has none, so that the laws of printing hold of any number.
abbrev pub key_lexemes : IdentOrIndex → List Lexeme
key_lexemes (Ident name) = key_lexeme (Ident name) ∷ []
key_lexemes (Index index) = if nat_lt index (2 ^ 64) then key_lexeme (Index index) ∷ [] else []

-- The name of a key's local variable: the prefix, followed by the name without `r#` or the digits of the index.
abbrev pub binding_text : List ℕ → IdentOrIndex → List ℕ
binding_text prefix (Ident name) = prefix ++ unraw name.text
binding_text prefix (Index index) = prefix ++ decimal index

-- The tokens before the value of a field: its name and a colon, or none.
abbrev pub name_lexemes : IdentOrIndex → List Lexeme
name_lexemes (Ident name) = key_lexeme (Ident name) ∷ [] ++ quoted (codes ":")
name_lexemes (Index index) = []

-- The tokens of an initializer of a field, with a trailing comma.
abbrev pub field_lexemes : IdentOrIndex → List Lexeme → List Lexeme
field_lexemes key value = name_lexemes key ++ value ++ quoted (codes ",")
