-- Tests for the word `Self` and for a macro call.
use Rattle.std.specs.Prelude.{Bool, true, false, ◌&&◌, [], ◌∷◌}
use Rattle.educe_tokens.specs.TokenKind.{TokenKind}
use Rattle.educe_tokens.specs.TokenKind.TheVariants as kind
use Rattle.educe_tokens.specs.declared.token.Token.{Token}
use Rattle.educe_grammar.specs.declared.terminal.Keyword.TheVariants as keyword
use Rattle.educe_grammar.specs.declared.terminal.Terminal.TheVariants as terminal
use Rattle.educe_grammar.specs.Ahead.{is_sign}
use Rattle.educe_grammar.specs.Steps.{Tokens}
use Rattle.educe_grammar.specs.Terminals.{accepts}

-- The token is the word `Self`.
abbrev pub is_self : Token → Bool
is_self t = accepts (terminal.Word keyword.SelfType) t

-- The token is an opening bracket.
abbrev pub is_opening : TokenKind → Bool
is_opening (kind.Start b) = true
is_opening kind.Ident = false
is_opening kind.Lifetime = false
is_opening (kind.Literal l) = false
is_opening (kind.Punct c joint) = false
is_opening (kind.Stop b) = false
is_opening kind.Doc = false

-- The list begins with `!` and an opening bracket, as the input of a macro call does.
unfoldable pub begins_call : Tokens → Bool
begins_call [] = false
begins_call (t ∷ []) = false
begins_call (t ∷ u ∷ ts) = is_sign 33 t.kind && is_opening u.kind

-- The list begins with the word `Self`.
unfoldable pub begins_self : Tokens → Bool
begins_self [] = false
begins_self (t ∷ ts) = is_self t
