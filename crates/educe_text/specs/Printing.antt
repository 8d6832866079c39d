-- What the values of a rule are printed as, and which values have a text at no place.
use Rattle.std.specs.Prelude.{◌≡◌, List}
use Rattle.educe_tokens.specs.Appends.{LieNowhere}
use Rattle.educe_tokens.specs.Lexes.{Lexeme, lexemes}
use Rattle.educe_text.specs.Prefixes.{Tokens}
use Rattle.educe_text.specs.Rules.{TextRule, Spells}

-- Each text of a value by the rule consists of these tokens, spans aside.
abbrev pub Prints : {A : Type 0} → TextRule A → (A → List Lexeme) → Type 0
Prints {A} g p = (ts : Tokens) (x : A) → Spells g ts x → lexemes ts ≡ p x

-- The value has a text by the rule whose tokens lie nowhere.
pub record HasText {A : Type 0} (g : TextRule A) (x : A) : Type 0 where
  pub tokens : Tokens
  pub nowhere : LieNowhere tokens
  pub spells : Spells g tokens x
