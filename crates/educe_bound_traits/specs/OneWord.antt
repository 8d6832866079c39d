-- Tokens that are a single word, compared by spelling.
use Rattle.std.specs.Prelude.{ℕ, Bool, false, ◌&&◌, List, [], ◌∷◌}
use Rattle.std.specs.Str.{bytes_eq}
use Rattle.educe_tokens.specs.declared.token.Token.{Token}
use Rattle.educe_grammar.specs.declared.terminal.Terminal.TheVariants.{AnyWord}
use Rattle.educe_grammar.specs.Terminals.{accepts}

-- The token is an identifier with this spelling; `r#` counts.
abbrev pub is_word : List ℕ → Token → Bool
is_word text t = accepts AnyWord t && bytes_eq text t.spelling

-- The tokens are one identifier with this spelling; `r#` counts.
abbrev pub is_one_word : List ℕ → List Token → Bool
is_one_word text [] = false
is_one_word text (t ∷ []) = is_word text t
is_one_word text (t ∷ u ∷ ts) = false
