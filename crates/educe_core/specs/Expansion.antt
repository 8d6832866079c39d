-- What an expansion holds.
use Rattle.std.specs.Prelude.{◌≡◌, ℕ, List, chars, length, string_bytes}
use Rattle.educe_tokens.specs.declared.token.Token.{Token}
use Rattle.educe_tokens.specs.Steps.{IsReading}
use Rattle.educe_body_items.specs.declared.items.Item.{Item}
use Rattle.educe_core.specs.declared.expansion.Expansion.{Expansion}

-- The bytes of the text.
unfoldable pub text_of_expansion : Expansion → List ℕ
text_of_expansion expansion = string_bytes expansion.text

-- The items that the text spells.
unfoldable pub items_of_expansion : Expansion → List Item
items_of_expansion expansion = expansion.items

-- How many tokens the definition has.
unfoldable pub token_count_of_expansion : Expansion → ℕ
token_count_of_expansion expansion = expansion.tokens

-- The text is read as so many tokens.
abbrev pub HasTokens : List ℕ → ℕ → Type 0
HasTokens source count = (tokens : List Token) × (IsReading (chars source) tokens × (length tokens ≡ count))
