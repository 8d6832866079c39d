-- The laws of tokens as terms, which proofs cite without a call.
use Rattle.std.specs.Prelude.{◌≡◌, ℕ, List, true, chars}
use Rattle.std.specs.Char.{is_ascii}
use Rattle.std.specs.List.{list_all}
use Rattle.educe_tokens.specs.Laws.{LexingLaws, PrintingLaws, KindLaws, CopyingLaws, ValueLaws}
use Rattle.educe_tokens.proofs.Ascii.{chars-ascii}
use Rattle.educe_tokens.proofs.Lawful as lawful

-- A text has one list of tokens or one cause of rejection.
pub lawful_lexing : LexingLaws
lawful_lexing = lawful.lawful_lexing

-- Printed texts lex as their tokens.
pub lawful_printing : PrintingLaws
lawful_printing = lawful.lawful_printing

-- A spelling decides the kind of its token.
pub lawful_kinds : KindLaws
lawful_kinds = lawful.lawful_kinds

-- Copying changes only the jointness of puncts.
pub lawful_copies : CopyingLaws
lawful_copies = lawful.lawful_copies

-- Strings and documentation have exactly one value.
pub lawful_values : ValueLaws
lawful_values = lawful.lawful_values

-- The characters of an ASCII text are its bytes; at a literal the premise is `refl`.
pub ascii_chars : (text : List ℕ) → list_all is_ascii text ≡ true → chars text ≡ text
ascii_chars = chars-ascii
