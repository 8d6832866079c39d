-- Token lists that begin with the tokens of a template.
use Rattle.std.specs.Prelude.{◌≡◌, ℕ, ◌==◌, Bool, true, false, ◌&&◌, if◌then◌else◌, List, [], ◌∷◌, ◌++◌, Option, Some, None}
use Rattle.std.specs.Str.{bytes_eq}
use Rattle.educe_tokens.specs.LiteralKind.{LiteralKind}
use Rattle.educe_tokens.specs.LiteralKind.TheVariants as literal
use Rattle.educe_tokens.specs.TokenKind.{TokenKind}
use Rattle.educe_tokens.specs.TokenKind.TheVariants as kind
use Rattle.educe_tokens.specs.declared.token.Token.{Token}
use Rattle.educe_tokens.specs.Brackets.{same_bracket}
use Rattle.educe_tokens.specs.Lexes.{Lexeme, lexeme_of}
use Rattle.educe_tokens.specs.Quote.{quoted}

-- Tokens, with their spans.
abbrev pub Tokens : Type 0
Tokens = List Token

-- Both kinds of literals are the same.
abbrev pub same_literal : LiteralKind → LiteralKind → Bool
same_literal literal.Int literal.Int = true
same_literal literal.Str literal.Str = true
same_literal literal.ByteStr literal.ByteStr = true
same_literal literal.Char literal.Char = true
same_literal literal.Byte literal.Byte = true
same_literal _ _ = false

-- Both truth values are the same.
abbrev pub same_truth : Bool → Bool → Bool
same_truth true b = b
same_truth false true = false
same_truth false false = true

-- Both kinds are the same, jointness included.
abbrev pub same_kind : TokenKind → TokenKind → Bool
same_kind kind.Ident kind.Ident = true
same_kind kind.Lifetime kind.Lifetime = true
same_kind (kind.Literal l) (kind.Literal m) = same_literal l m
same_kind (kind.Punct c i) (kind.Punct d j) = (c == d) && same_truth i j
same_kind (kind.Start b) (kind.Start c) = same_bracket b c
same_kind (kind.Stop b) (kind.Stop c) = same_bracket b c
same_kind kind.Doc kind.Doc = true
same_kind _ _ = false

-- Both are the same token, jointness included.
abbrev pub same_lexeme : Lexeme → Lexeme → Bool
same_lexeme l m = same_kind l.kind m.kind && bytes_eq m.spelling l.spelling

-- What is left behind these tokens, if the list begins with them.
unfoldable pub strip_lexemes : List Lexeme → Tokens → Option Tokens
strip_lexemes [] ts = Some ts
strip_lexemes (l ∷ ls) [] = None
strip_lexemes (l ∷ ls) (t ∷ ts) = if same_lexeme l (lexeme_of t) then strip_lexemes ls ts else None

-- There is a value.
abbrev pub is_some : {A : Type 0} → Option A → Bool
is_some None = false
is_some (Some x) = true

-- The list begins with the tokens of the template.
unfoldable pub starts_with : List ℕ → Tokens → Bool
starts_with text ts = is_some (strip_lexemes (quoted text) ts)

-- The list is a front of this kind, and then the rest.
pub record Front (Is : Tokens → Type 0) (tokens rest : Tokens) : Type 0 where
  pub front : Tokens
  pub same : tokens ≡ front ++ rest
  pub is : Is front
