-- Combinators: rules made of others, in which the productions are written.
use Rattle.std.specs.Prelude.{ℕ, Bool, true, false, List, [], ◌∷◌, Option, Some, None}
use Rattle.educe_tokens.specs.Bracket.TheVariants.{Round, Curly}
use Rattle.educe_grammar.specs.declared.terminal.Keyword.{Keyword}
use Rattle.educe_grammar.specs.declared.terminal.Terminal.TheVariants.{Word, Sign}
use Rattle.educe_grammar.specs.Ahead.{Ahead, one, stop, pair, lone, Look}
use Rattle.educe_grammar.specs.Rules as rule
use Rattle.educe_grammar.specs.Rules.{Rule}

-- ---- lookaheads

-- The lookahead of one step.
abbrev pub at : Ahead → Look
at a = (a ∷ []) ∷ []

-- A lookahead: a punctuation character.
abbrev pub at_sign : ℕ → Look
at_sign c = at (one (Sign c))

-- A lookahead: a word.
abbrev pub at_word : Keyword → Look
at_word word = at (one (Word word))

-- Lookahead for `::`.
abbrev pub at_colons : Look
at_colons = at (pair 58 58)

-- Lookahead for a colon that isn't half of `::`.
abbrev pub at_colon : Look
at_colon = at (lone 58 58)

-- Lookahead for `->`.
abbrev pub at_arrow : Look
at_arrow = at (pair 45 62)

-- Lookahead for a `<` that isn't half of `<=`.
abbrev pub at_angle : Look
at_angle = at (lone 60 61)

-- ---- rules

-- The rule with its value discarded.
abbrev pub unit : {A : Type 0} → Rule A → Rule (Unit {0})
unit g = rule.made (λ _. tt) g

-- Both rules in sequence, with the second's value.
abbrev pub skipping : {A B : Type 0} → Rule A → Rule B → Rule B
skipping g h = rule.made (λ p. p.1) (rule.both g h)

-- Both rules in sequence, with the first's value.
abbrev pub leaving : {A B : Type 0} → Rule A → Rule B → Rule A
leaving g h = rule.made (λ p. p.0) (rule.both g h)

-- The rule where the lookahead accepts the tokens, and nothing elsewhere.
abbrev pub optional : {A : Type 0} → Look → Rule A → Rule (Option A)
optional look g = rule.either look (rule.made Some g) (rule.empty None)

-- Whether an optional construct is there: the lookahead accepts the tokens, and the rule parses it.
abbrev pub flag : {A : Type 0} → Look → Rule A → Rule Bool
flag look g = rule.either look (rule.made (λ _. true) g) (rule.empty false)

-- A punctuation character.
abbrev pub sign : ℕ → Rule (Unit {0})
sign c = unit (rule.token (Sign c))

-- Rule for one keyword.
abbrev pub word : Keyword → Rule (Unit {0})
word w = unit (rule.token (Word w))

-- Rule for `::`.
abbrev pub colons : Rule (Unit {0})
colons = rule.operator 58 58

-- A colon that isn't half of `::`, followed by the rule.
abbrev pub behind_colon : {A : Type 0} → Rule A → Rule A
behind_colon g = rule.lone 58 58 g

-- Comma-separated items with an optional trailing comma, up to what the lookahead accepts.
abbrev pub commas : {A : Type 0} → Look → Rule A → Rule (List A)
commas closing g = rule.list (Sign 44) closing g

-- Comma-separated items in round brackets.
abbrev pub in_round : {A : Type 0} → Rule A → Rule (List A)
in_round g = rule.nest Round (commas (at (stop Round)) g)

-- Comma-separated items in curly brackets.
abbrev pub in_curly : {A : Type 0} → Rule A → Rule (List A)
in_curly g = rule.nest Curly (commas (at (stop Curly)) g)

-- Comma-separated items in angle brackets.
abbrev pub in_angles : {A : Type 0} → Rule A → Rule (List A)
in_angles g = rule.angles (commas (at_sign 62) g)
