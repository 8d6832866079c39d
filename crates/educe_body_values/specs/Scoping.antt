-- What a path calls where names are in scope: a name in scope hides what a text of the user's means by it (Rust Reference, Names; Scopes).
use Rattle.std.specs.Prelude.{◌≡◌, ℕ, Bool, true, false, ◌&&◌, not, List, Option, Some, None, if◌then◌else◌, codes}
use Rattle.std.specs.List.{AllByRecursion, list_any}
use Rattle.std.specs.Str.{bytes_eq}
use Rattle.educe_tokens.specs.TokenKind.{TokenKind}
use Rattle.educe_tokens.specs.TokenKind.TheVariants.{Ident, Lifetime, Literal, Punct, Start, Stop, Doc}
use Rattle.educe_tokens.specs.declared.token.Token.{Token}
use Rattle.educe_tree.specs.Names.{unraw}
use Rattle.educe_tree.specs.declared.expr.ExprPath.{ExprPath}
use Rattle.educe_names.specs.Words.{HasWord}
use Rattle.educe_body_values.specs.declared.environment.Binding.{Binding}
use Rattle.educe_body_values.specs.declared.callee.BuiltIn.{BuiltIn}
use Rattle.educe_body_values.specs.declared.callee.Callee.{Callee}
use Rattle.educe_body_values.specs.declared.callee.Callee.TheVariants.{Written}
use Rattle.educe_body_values.specs.Callees.{built_in, as_callee, text_of_path}

-- ---- what is called

-- The binding hides what a text means by this name: both are one name, ignoring a leading `r#`; `self`, a keyword, hides nothing.
abbrev pub hides : Binding → List ℕ → Bool
hides binding name = not (bytes_eq binding.name (codes "self")) && bytes_eq (unraw binding.name) name

-- An identifier.
abbrev pub is_ident : TokenKind → Bool
is_ident Ident = true
is_ident Lifetime = false
is_ident (Literal l) = false
is_ident (Punct c joint) = false
is_ident (Start b) = false
is_ident (Stop b) = false
is_ident Doc = false

-- The name is one in scope.
abbrev pub is_hidden : List Binding → List ℕ → Bool
is_hidden names name = list_any (λ binding. hides binding name) names

-- The token is a name in scope.
abbrev pub is_bound : List Binding → Token → Bool
is_bound names token = is_ident token.kind && is_hidden names (unraw token.spelling)

-- One of the tokens is a name in scope.
abbrev pub names_bound : List Binding → List Token → Bool
names_bound names tokens = list_any (λ token. is_bound names token) tokens

-- A function that is built in, or else that of the path's text, if that has no name in scope.
abbrev pub named_in : List Binding → ExprPath → Option BuiltIn → Option Callee
named_in names path None = if names_bound names path.written.tokens then None else Some (Written (text_of_path path))
named_in names path (Some which) = Some (as_callee which)

-- What a path calls where these names are in scope: a built-in function; nothing, if one of its tokens is a name in scope;
-- otherwise the function of its text.
abbrev pub callee_in : List Binding → ExprPath → Option Callee
callee_in names path = named_in names path (built_in path)

-- ---- names that hide nothing of an input

-- The name in scope is `self`, or, without `r#`, no word of the input.
pub data IsApart (input : List Token) (binding : Binding) : Type 0 where
  own_self : binding.name ≡ codes "self" → IsApart input binding
  apart : (HasWord input (unraw binding.name) → ⊥) → IsApart input binding

-- Each identifier of the tokens is, without `r#`, a word of the input.
abbrev pub AreOwnNames : List Token → List Token → Type 0
AreOwnNames input tokens = AllByRecursion (λ (t : Token). is_ident t.kind ≡ true → HasWord input (unraw t.spelling)) tokens
