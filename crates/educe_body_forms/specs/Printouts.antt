-- Printouts: tokens, with the proof that they may stand side by side with others and that their text lexes as them.
use Rattle.std.specs.Prelude.{◌≡◌, ℕ, ◌<◌, ◌^◌, true, IsTrue, List, [], ◌∷◌, ◌++◌, refl, codes}
use Rattle.std.specs.List.{flat_map}
use Rattle.std.proofs.lemmas.Bool.{and_from}
use Rattle.educe_tokens.specs.Bracket.TheVariants.{Round, Square, Curly}
use Rattle.educe_tokens.specs.LiteralKind.TheVariants.{Int, Str}
use Rattle.educe_tokens.specs.TokenKind.TheVariants as kind
use Rattle.educe_tokens.specs.declared.token.Token.{Token}
use Rattle.educe_tokens.specs.declared.word.Word.{Word}
use Rattle.educe_tokens.specs.declared.written.Written.{Written}
use Rattle.educe_tokens.specs.Appends.{Appends}
use Rattle.educe_tokens.specs.Lexes.{Lexeme}
use Rattle.educe_tokens.specs.Pieces.{spells}
use Rattle.educe_tokens.specs.Quote.{quoted, word_lexeme}
use Rattle.educe_tokens.specs.WrittenLexemes.{written_lexemes}
use Rattle.educe_tokens.proofs.Printable.{IsPrintable, is_printable_template, printable-nil, printable-ident, printable-word, printable-written, printable-append, printable-brackets, printable-flat_map, printable-quoted}
use Rattle.educe_tokens.proofs.Writing.{written-one}
use Rattle.educe_tree.specs.Printed.{printable-lifetime}
use Rattle.educe_tree.specs.declared.ident.Ident.{Ident}
use Rattle.educe_tree.specs.declared.lifetime.Lifetime.{Lifetime}
use Rattle.educe_discriminants.specs.declared.discriminant_type.DiscriminantType.{DiscriminantType}
use Rattle.educe_discriminants.specs.Printed.{primitive_lexemes, primitive_printable}
use Rattle.educe_body_forms.specs.declared.key_function.Distance.{Distance}
use Rattle.educe_body_forms.specs.declared.position.Position.{Position}
use Rattle.educe_body_forms.specs.Suffixed.{steps_lexeme, steps_printable}

-- Tokens, with the proof that they may stand beside others and that their text lexes as them.
pub record Printout : Type 0 where
  pub tokens : List Lexeme
  pub printable : IsPrintable tokens

-- The new list of tokens is the old one and then the printout.
abbrev pub Prints : Printout → List Token → List Token → Type 0
Prints printout old new = Appends printout.tokens old new

-- The printout without tokens.
abbrev pub nothing : Printout
nothing = record { tokens = []; printable = printable-nil }

-- The tokens of a template; that they may stand anywhere is computed, and its proof is `refl`.
abbrev pub says : (text : List ℕ) → is_printable_template text ≡ true → Printout
says text h = record { tokens = quoted text; printable = printable-quoted text h }

-- The printout of an identifier.
abbrev pub name : Ident → Printout
name ident = record { tokens = record { kind = kind.Ident; spelling = ident.text } ∷ []; printable = printable-ident ident.text ident.spelled }

-- The printout of a lifetime.
abbrev pub lifetime : Lifetime → Printout
lifetime l = record { tokens = record { kind = kind.Lifetime; spelling = l.text } ∷ []; printable = printable-lifetime l.text l.spelled }

-- The printout of an identifier or an integer.
abbrev pub word : Word → Printout
word w = record { tokens = word_lexeme w.text ∷ []; printable = printable-word w }

-- The printout of tokens as they were written.
abbrev pub written : Written → Printout
written w = record { tokens = written_lexemes w; printable = printable-written w }

-- The printout of the path of a primitive integer type.
abbrev pub primitive : DiscriminantType → Printout
primitive ty = record { tokens = primitive_lexemes ty; printable = primitive_printable ty }

-- A string literal, as it is spelled, may stand anywhere.
pub string_printable : (text : List ℕ) → IsTrue (spells (kind.Literal Str) text) → IsPrintable (record { kind = kind.Literal Str; spelling = text } ∷ [])
string_printable text h = record { written = written-one (kind.Literal Str) text refl; spelled = and_from _ _ h refl }

-- The token of a string literal that is spelled so; that it is one is computed, and its proof is `refl`.
abbrev pub string : (text : List ℕ) → IsTrue (spells (kind.Literal Str) text) → Printout
string text h = record { tokens = record { kind = kind.Literal Str; spelling = text } ∷ []; printable = string_printable text h }

-- An integer, as it is spelled, may stand anywhere.
pub number_printable : (text : List ℕ) → IsTrue (spells (kind.Literal Int) text) → IsPrintable (record { kind = kind.Literal Int; spelling = text } ∷ [])
number_printable text h = record { written = written-one (kind.Literal Int) text refl; spelled = and_from _ _ h refl }

-- The token of an integer that is spelled so; that it is one is computed, and its proof is `refl`.
abbrev pub number : (text : List ℕ) → IsTrue (spells (kind.Literal Int) text) → Printout
number text h = record { tokens = record { kind = kind.Literal Int; spelling = text } ∷ []; printable = number_printable text h }

-- A number, as an integer of the type `usize`.
abbrev pub counted : (n : ℕ) → n < 2 ^ 64 → Printout
counted n small = record { tokens = steps_lexeme n ∷ []; printable = steps_printable n small }

-- The printout of the steps of a distance.
abbrev pub steps : Distance → Printout
steps distance = counted distance.steps distance.fits

-- The printout of the place of a variant.
abbrev pub place : Position → Printout
place position = counted position.place position.fits

-- One printout and then another.
infixl 30 ◌beside◌
abbrev pub ◌beside◌ : Printout → Printout → Printout
x beside y = record { tokens = x.tokens ++ y.tokens; printable = printable-append x.tokens y.tokens x.printable y.printable }

-- The printouts of a list's items, in order.
abbrev pub each : {X : Type 0} → (X → Printout) → List X → Printout
each f xs = record { tokens = flat_map (λ x. (f x).tokens) xs; printable = printable-flat_map (λ x. (f x).tokens) (λ x. (f x).printable) xs }

-- A list in round brackets may stand anywhere.
pub round_printable : (inside : List Lexeme) → IsPrintable inside → IsPrintable (quoted (codes "(") ++ inside ++ quoted (codes ")"))
unfolding quoted
round_printable inside h = printable-brackets Round inside h

-- A list in square brackets may stand anywhere.
pub square_printable : (inside : List Lexeme) → IsPrintable inside → IsPrintable (quoted (codes "[") ++ inside ++ quoted (codes "]"))
unfolding quoted
square_printable inside h = printable-brackets Square inside h

-- A list in curly brackets may stand anywhere.
pub curly_printable : (inside : List Lexeme) → IsPrintable inside → IsPrintable (quoted (codes "{") ++ inside ++ quoted (codes "}"))
unfolding quoted
curly_printable inside h = printable-brackets Curly inside h

-- The printout in round brackets.
abbrev pub in_round : Printout → Printout
in_round x = record { tokens = quoted (codes "(") ++ x.tokens ++ quoted (codes ")"); printable = round_printable x.tokens x.printable }

-- The printout in square brackets.
abbrev pub in_square : Printout → Printout
in_square x = record { tokens = quoted (codes "[") ++ x.tokens ++ quoted (codes "]"); printable = square_printable x.tokens x.printable }

-- The printout in curly brackets.
abbrev pub in_curly : Printout → Printout
in_curly x = record { tokens = quoted (codes "{") ++ x.tokens ++ quoted (codes "}"); printable = curly_printable x.tokens x.printable }

-- The printout in angle brackets.
abbrev pub in_angle : Printout → Printout
in_angle inside = says (codes "<") refl beside inside beside says (codes ">") refl
