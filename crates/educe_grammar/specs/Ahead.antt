-- Lookahead: tests on the first tokens of a list.
use Rattle.std.specs.Prelude.{◌≡◌, ℕ, ◌==◌, Bool, true, false, not, ◌&&◌, List, [], ◌∷◌}
use Rattle.std.specs.List.{list_any}
use denote.Ref.{Bor}
use Rattle.educe_tokens.specs.TokenKind.{TokenKind}
use Rattle.educe_tokens.specs.TokenKind.TheVariants as kind
use Rattle.educe_tokens.specs.Bracket.{Bracket}
use Rattle.educe_tokens.specs.declared.token.Token.{Token}
use Rattle.educe_tokens.specs.Brackets.{same_bracket}
use Rattle.educe_grammar.specs.declared.terminal.Terminal.{Terminal}
use Rattle.educe_grammar.specs.Terminals.{accepts}
use Rattle.educe_grammar.specs.Steps.{Tokens}

-- The token is this punctuation character.
abbrev pub is_sign : ℕ → TokenKind → Bool
is_sign c (kind.Punct d joint) = d == c
is_sign c kind.Ident = false
is_sign c kind.Lifetime = false
is_sign c (kind.Literal l) = false
is_sign c (kind.Start b) = false
is_sign c (kind.Stop b) = false
is_sign c kind.Doc = false

-- The token is this punctuation character, joint with the next token.
abbrev pub is_joint : ℕ → TokenKind → Bool
is_joint c (kind.Punct d joint) = (d == c) && joint
is_joint c kind.Ident = false
is_joint c kind.Lifetime = false
is_joint c (kind.Literal l) = false
is_joint c (kind.Start b) = false
is_joint c (kind.Stop b) = false
is_joint c kind.Doc = false

-- A kind opens a bracket pair of this form.
abbrev pub is_start : Bracket → TokenKind → Bool
is_start b (kind.Start c) = same_bracket b c
is_start b (kind.Stop c) = false
is_start b kind.Ident = false
is_start b kind.Lifetime = false
is_start b (kind.Literal l) = false
is_start b (kind.Punct d joint) = false
is_start b kind.Doc = false

-- A kind closes a bracket pair of this form.
abbrev pub is_stop : Bracket → TokenKind → Bool
is_stop b (kind.Stop c) = same_bracket b c
is_stop b (kind.Start c) = false
is_stop b kind.Ident = false
is_stop b kind.Lifetime = false
is_stop b (kind.Literal l) = false
is_stop b (kind.Punct d joint) = false
is_stop b kind.Doc = false

-- A kind is documentation.
abbrev pub is_doc : TokenKind → Bool
is_doc kind.Doc = true
is_doc (kind.Start c) = false
is_doc (kind.Stop c) = false
is_doc kind.Ident = false
is_doc kind.Lifetime = false
is_doc (kind.Literal l) = false
is_doc (kind.Punct d joint) = false

-- The token opens a bracket pair of this form.
abbrev pub opens : Bracket → Token → Bool
opens b t = is_start b t.kind

-- The token closes a bracket pair of this form.
abbrev pub closes : Bracket → Token → Bool
closes b t = is_stop b t.kind

-- The token is documentation.
abbrev pub documents : Token → Bool
documents t = is_doc t.kind

-- The tokens begin with two punctuation characters that are one operator, as `::`, the first joint with the second.
unfoldable pub begins_pair : ℕ → ℕ → Tokens → Bool
begins_pair c d [] = false
begins_pair c d (t ∷ []) = false
begins_pair c d (t ∷ u ∷ ts) = is_joint c t.kind && is_sign d u.kind

-- The tokens begin with the first character, and not with the operator of both.
unfoldable pub begins_lone : ℕ → ℕ → Tokens → Bool
begins_lone c d [] = false
begins_lone c d (t ∷ ts) = is_sign c t.kind && not (begins_pair c d (t ∷ ts))

-- The list is not empty and its first token passes the test.
unfoldable pub sees : (Token → Bool) → Tokens → Bool
sees test [] = false
sees test (t ∷ ts) = test t

-- There is no token.
unfoldable pub at_end : Tokens → Bool
at_end [] = true
at_end (t ∷ ts) = false

-- One step of a lookahead: a token of a set, a bracket, documentation, an operator of two characters, a single character, or the
-- end.
pub data Ahead : Type 0 where
  -- A token of this terminal.
  one : Terminal → Ahead
  -- An opening bracket of this kind; `stop` is a closing one.
  start : Bracket → Ahead
  stop : Bracket → Ahead
  -- A documentation comment.
  doc : Ahead
  -- The operator of the puncts `c` and `d`.
  pair : ℕ → ℕ → Ahead
  -- The punct `c`, which isn't the first half of the operator `cd`.
  lone : ℕ → ℕ → Ahead
  -- The end of the list.
  finish : Ahead

-- The tokens begin with this step.
abbrev pub begins : Ahead → Tokens → Bool
begins (one asked) ts = sees (accepts asked) ts
begins (start b) ts = sees (opens b) ts
begins (stop b) ts = sees (closes b) ts
begins doc ts = sees documents ts
begins (pair c d) ts = begins_pair c d ts
begins (lone c d) ts = begins_lone c d ts
begins finish ts = at_end ts

-- The tokens after those that the test looks at.
unfoldable pub behind : Ahead → Tokens → Tokens
behind (pair c d) [] = []
behind (pair c d) (t ∷ []) = []
behind (pair c d) (t ∷ u ∷ ts) = ts
behind a [] = []
behind a (t ∷ ts) = ts

-- The list begins with what these tests ask for, in sequence.
abbrev pub meets : List Ahead → Tokens → Bool
meets [] ts = true
meets (a ∷ more) ts = begins a ts && meets more (behind a ts)

-- A lookahead: rows of such steps, one of which is looked for.
abbrev pub Look : Type 0
Look = List (List Ahead)

-- The tokens begin with one of several rows.
unfoldable pub sees_any : Look → Tokens → Bool
sees_any look ts = list_any (λ way. meets way ts) look

-- A closure that says whether the tokens begin as the lookahead says.
pub record Decides (look : Look) (post : Bor Tokens → Bool → Type 0) : Type 0 where
  pub decides : (ts : Bor Tokens) (r : Bool) → post ts r → r ≡ sees_any look ts.now
