-- Binary operators (Rust Reference, Operator expressions).
use Rattle.std.specs.Prelude.{ℕ, ◌==◌, true, ◌&&◌, if◌then◌else◌, [], ◌∷◌, Option, Some, None}
use Rattle.educe_tokens.specs.TokenKind.{TokenKind}
use Rattle.educe_tokens.specs.TokenKind.TheVariants as kind
use Rattle.educe_grammar.specs.Steps.{Tokens}
use Rattle.educe_grammar.specs.declared.operator.Operator.{Operator}
use Rattle.educe_grammar.specs.declared.operator.Operator.TheVariants.{Joins, Compares, Less, ShiftsLeft, Calculates}

-- The operator that two puncts spell.
abbrev pub pair_of : ℕ → ℕ → Option Operator
pair_of c d =
    if (c == 38) && (d == 38) then Some Joins
    else if (c == 124) && (d == 124) then Some Joins
    else if (c == 61) && (d == 61) then Some Compares
    else if (c == 33) && (d == 61) then Some Compares
    else if (c == 60) && (d == 61) then Some Compares
    else if (c == 62) && (d == 61) then Some Compares
    else if (c == 60) && (d == 60) then Some ShiftsLeft
    else if (c == 62) && (d == 62) then Some Calculates
    else None

-- The operator that one punct spells.
abbrev pub single_of : ℕ → Option Operator
single_of c =
    if c == 60 then Some Less
    else if c == 62 then Some Compares
    else if c == 43 then Some Calculates
    else if c == 45 then Some Calculates
    else if c == 42 then Some Calculates
    else if c == 47 then Some Calculates
    else if c == 37 then Some Calculates
    else if c == 94 then Some Calculates
    else if c == 38 then Some Calculates
    else if c == 124 then Some Calculates
    else None

-- The operator of two tokens, the first joint with the second.
abbrev pub pair_operator : TokenKind → TokenKind → Option Operator
pair_operator (kind.Punct c true) (kind.Punct d joint) = pair_of c d
pair_operator first second = None

-- The operator of one token.
abbrev pub single_operator : TokenKind → Option Operator
single_operator (kind.Punct c joint) = single_of c
single_operator first = None

-- An operator with its length.
abbrev pub of_length : ℕ → Option Operator → Option (Operator × ℕ)
of_length n None = None
of_length n (Some o) = Some (o, n)

-- The first operator with the length 2, or else the second with the length 1.
abbrev pub longer_of : Option Operator → Option Operator → Option (Operator × ℕ)
longer_of (Some o) single = Some (o, 2)
longer_of None single = of_length 1 single

-- The longest operator at the start of the tokens, and its number of tokens.
unfoldable pub operator_at : Tokens → Option (Operator × ℕ)
operator_at [] = None
operator_at (t ∷ []) = of_length 1 (single_operator t.kind)
operator_at (t ∷ u ∷ ts) = longer_of (pair_operator t.kind u.kind) (single_operator t.kind)
