-- Token lists that consist of one word.
use Rattle.std.specs.Prelude.{◌≡◌, ℕ, List, [], ◌∷◌}
use Rattle.educe_tokens.specs.declared.token.Token.{Token}
use Rattle.educe_tokens.specs.TokenKind.TheVariants as kind

-- The list consists of this one word.
abbrev pub IsWord : List Token → Token → Type 0
IsWord tokens word = (tokens ≡ word ∷ []) × (word.kind ≡ kind.Ident)

-- The list consists of one word with this spelling.
abbrev pub IsOneWord : List Token → List ℕ → Type 0
IsOneWord [] text = ⊥
IsOneWord (t ∷ []) text = (t.kind ≡ kind.Ident) × (t.spelling ≡ text)
IsOneWord (t ∷ u ∷ ts) text = ⊥
