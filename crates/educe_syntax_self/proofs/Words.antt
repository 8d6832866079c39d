-- The word `Self` among tokens.
use Rattle.std.proofs.Common.{◌≡◌, true, false, [], ◌∷◌}
use Rattle.educe_tokens.specs.TokenKind.TheVariants as kind
use Rattle.educe_tokens.specs.declared.token.Token.{Token}
use Rattle.educe_grammar.specs.declared.terminal.Keyword.TheVariants as keyword
use Rattle.educe_grammar.specs.declared.terminal.Terminal.TheVariants as terminal
use Rattle.educe_grammar.specs.Names.{word_kind, accepted}
use Rattle.educe_grammar.specs.Terminals.{some_words}
use Rattle.educe_syntax_self.specs.Selves.{is_self}

-- the word is an identifier
pub self_ident : (t : Token) → is_self t ≡ true → t.kind ≡ kind.Ident
self_ident t is = word_kind (some_words false (keyword.SelfType ∷ [])) t.kind t.spelling (accepted (terminal.Word keyword.SelfType) t is)
