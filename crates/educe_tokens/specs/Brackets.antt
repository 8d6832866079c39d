-- Brackets: whether they close in order, and how deep they nest (Rust Reference, Delimiters).
use Rattle.std.specs.Prelude.{ℕ, ◌+◌, ◌-◌, Bool, true, false, cond, ◌&&◌, IsTrue, Option, Some, None, List, [], ◌∷◌, map, nat_le}
use Rattle.educe_tokens_pieces.specs.declared.kind.Bracket.{Bracket}
use Rattle.educe_tokens_pieces.specs.declared.kind.Bracket.TheVariants.{Round, Square, Curly}
use Rattle.educe_tokens_pieces.specs.declared.kind.TokenKind.{TokenKind}
use Rattle.educe_tokens_pieces.specs.declared.kind.TokenKind.TheVariants.{Ident, Lifetime, Literal, Punct, Start, Stop, Doc}
use Rattle.educe_tokens.specs.declared.brackets.TheConstants.{NESTING}
use Rattle.educe_tokens.specs.Lexes.{Lexeme}

-- Two brackets have one form.
abbrev pub same_bracket : Bracket → Bracket → Bool
same_bracket Round b = elim b [ Round ↦ true | Square ↦ false | Curly ↦ false ]
same_bracket Square b = elim b [ Round ↦ false | Square ↦ true | Curly ↦ false ]
same_bracket Curly b = elim b [ Round ↦ false | Square ↦ false | Curly ↦ true ]

-- The open brackets after one more token, innermost first; none where it closes another bracket than the innermost.
abbrev pub open_after : List Bracket → TokenKind → Option (List Bracket)
open_after outer (Start b) = Some (b ∷ outer)
open_after [] (Stop b) = None
open_after (o ∷ outer) (Stop b) = cond (same_bracket o b) (Some outer) None
open_after outer Ident = Some outer
open_after outer Lifetime = Some outer
open_after outer (Literal l) = Some outer
open_after outer (Punct c joint) = Some outer
open_after outer Doc = Some outer

-- With these brackets open, innermost first, the tokens close every bracket in order.
abbrev pub closes : List Bracket → List TokenKind → Bool
closes [] [] = true
closes (o ∷ outer) [] = false
closes outer (kind ∷ more) = elim (open_after outer kind) [ None ↦ false | Some inner ↦ closes inner more ]

-- The number of open brackets after one more token.
abbrev pub depth_after : ℕ → TokenKind → ℕ
depth_after depth (Start b) = depth + 1
depth_after depth (Stop b) = depth - 1
depth_after depth Ident = depth
depth_after depth Lifetime = depth
depth_after depth (Literal l) = depth
depth_after depth (Punct c joint) = depth
depth_after depth Doc = depth

-- With this many brackets open before the tokens, never more than the limit are open.
abbrev pub nests : ℕ → ℕ → List TokenKind → Bool
nests limit depth [] = true
nests limit depth (kind ∷ more) = nat_le (depth_after depth kind) limit && nests limit (depth_after depth kind) more

-- The kinds of tokens.
abbrev pub kinds : List Lexeme → List TokenKind
kinds found = map (λ lexeme. lexeme.kind) found

-- Brackets match: each closes the innermost open one, and none stays open.
abbrev pub IsBalanced : List Lexeme → Type 0
IsBalanced found = IsTrue (closes [] (kinds found))

-- At most this many brackets are open at once.
abbrev pub NestsWithin : ℕ → List Lexeme → Type 0
NestsWithin limit found = IsTrue (nests limit 0 (kinds found))

-- At most `NESTING` brackets are open at once.
abbrev pub IsShallow : List Lexeme → Type 0
IsShallow found = NestsWithin NESTING found
