-- The head that replaces `Self`: the name of the definition with its parameters as arguments.
use Rattle.std.specs.Prelude.{◌≡◌, ℕ, Bool, true, false, not, ◌&&◌, ◌||◌, IsTrue, List, [], ◌∷◌, ◌++◌, map}
use Rattle.std.specs.List.{flat_map}
use Rattle.educe_tokens.specs.TokenKind.TheVariants as kind
use Rattle.educe_tokens.specs.Appends.{LieNowhere}
use Rattle.educe_tokens.specs.Lexes.{Lexeme, lexemes}
use Rattle.educe_tree.specs.declared.derive.DeriveInput.{DeriveInput}
use Rattle.educe_tree.specs.declared.generics.GenericParam.{GenericParam}
use Rattle.educe_tree.specs.declared.generics.GenericParam.TheVariants as param
use Rattle.educe_grammar.specs.declared.terminal.Terminal.{Terminal}
use Rattle.educe_grammar.specs.declared.terminal.Terminal.TheVariants as terminal
use Rattle.educe_grammar.specs.Ahead.{is_sign, is_joint}
use Rattle.educe_grammar.specs.Steps.{Tokens}
use Rattle.educe_grammar.specs.Terminals.{set_of, token_in}

-- ---- lexemes

-- An identifier with this text.
abbrev pub name : List ℕ → Lexeme
name text = record { kind = kind.Ident; spelling = text }

-- A punct, joint with the next token or not.
abbrev pub punct : ℕ → Bool → Lexeme
punct c joint = record { kind = kind.Punct c joint; spelling = c ∷ [] }

-- A lifetime with this text.
abbrev pub lifetime : List ℕ → Lexeme
lifetime text = record { kind = kind.Lifetime; spelling = text }

-- The tokens `:: <`.
abbrev pub opening : List Lexeme
opening = punct 58 true ∷ punct 58 false ∷ punct 60 false ∷ []

-- A comma followed by the argument.
abbrev pub behind_comma : Lexeme → List Lexeme
behind_comma argument = punct 44 false ∷ argument ∷ []

-- The tokens of arguments: `:: <`, the arguments with commas between them, and `>`.
abbrev pub arguments : Lexeme → List Lexeme → List Lexeme
arguments first more = opening ++ first ∷ (flat_map behind_comma more ++ punct 62 false ∷ [])

-- The name, followed by its arguments where there are any.
abbrev pub head_of : List ℕ → List Lexeme → List Lexeme
head_of text [] = name text ∷ []
head_of text (first ∷ more) = name text ∷ arguments first more

-- The argument for a parameter: its name.
abbrev pub argument_of : GenericParam → Lexeme
argument_of (param.Lifetime p) = lifetime p.lifetime.text
argument_of (param.TypeParam p) = name p.ident.text
argument_of (param.Const p) = name p.ident.text

-- The head of a definition: its name with its parameters as arguments.
abbrev pub head_for : DeriveInput → List Lexeme
head_for d = head_of d.ident.text (map argument_of d.generics.params)

-- The new list is the old one followed by tokens that equal these and have the span of no place.
pub record Adds (found : List Lexeme) (old new : Tokens) : Type 0 where
  pub more : Tokens
  pub joined : new ≡ old ++ more
  pub same : lexemes more ≡ found
  pub nowhere : LieNowhere more

-- ---- tests

-- The token is in the set that is requested.
abbrev pub is_a : Terminal → Lexeme → Bool
is_a asked found = token_in (set_of asked) found.kind found.spelling

-- The token is a lifetime or a name.
abbrev pub is_argument : Lexeme → Bool
is_argument found = is_a terminal.Lifetime found || is_a terminal.Name found

-- The rest of arguments: further ones, each after a comma, and `>`.
unfoldable pub ends_arguments : List Lexeme → Bool
ends_arguments [] = false
ends_arguments (last ∷ []) = is_a (terminal.Sign 62) last
ends_arguments (comma ∷ argument ∷ more) = is_a (terminal.Sign 44) comma && (is_argument argument && ends_arguments more)

-- Arguments: `:: <` with the `<` not joint, at least one argument, and `>`.
unfoldable pub is_arguments : List Lexeme → Bool
is_arguments (first ∷ second ∷ less ∷ argument ∷ more) =
    is_joint 58 first.kind && (is_sign 58 second.kind && (is_sign 60 less.kind && (not (is_joint 60 less.kind) && (is_argument argument && ends_arguments more))))
is_arguments other = false

-- The tokens are the head of some definition: a name, alone or with lifetimes and names as its arguments.
unfoldable pub is_head : List Lexeme → Bool
is_head [] = false
is_head (name ∷ []) = is_a terminal.Name name
is_head (name ∷ first ∷ more) = is_a terminal.Name name && is_arguments (first ∷ more)

-- The tokens are the head of some definition.
abbrev pub IsHead : Tokens → Type 0
IsHead tokens = IsTrue (is_head (lexemes tokens))
