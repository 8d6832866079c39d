-- The laws of tokens hold.
use Rattle.educe_tokens.specs.Laws.{LexingLaws, PrintingLaws, KindLaws, CopyingLaws, ValueLaws}
use Rattle.educe_tokens_pieces.proofs.IntegerSpells.{int_tested}
use Rattle.educe_tokens.proofs.Alone.{cause_alone}
use Rattle.educe_tokens.proofs.Behind.{lexes_behind}
use Rattle.educe_tokens.proofs.Copying.{copied_spellings, copied_kinds, written-copied, copied-written, copied-last}
use Rattle.educe_tokens.proofs.Decided as decided
use Rattle.educe_tokens.proofs.OneKind.{kind_of_spelling, same_spellings}
use Rattle.educe_tokens.proofs.Places.{cause_placed, cause_words, tokens_sliced}
use Rattle.educe_tokens.proofs.StringValues.{string_value-one, string_value-kind}
use Rattle.educe_tokens.proofs.TextLexes.{well_formed_lexes}
use Rattle.educe_tokens.proofs.Uncaused.{reading_uncaused}
use Rattle.educe_tokens.proofs.Unique.{lexes_one}
use Rattle.educe_tokens.proofs.Words.{word_is_int}

-- texts have them
pub lawful_lexing : LexingLaws
lawful_lexing = record {
  decided = decided.decided;
  uncaused = reading_uncaused;
  one_list = lexes_one;
  one_cause = cause_alone;
  words = cause_words;
  slices = tokens_sliced;
  place = cause_placed;
}

-- they have them
pub lawful_printing : PrintingLaws
lawful_printing = record { lexes = well_formed_lexes; behind = lexes_behind }

-- it does
pub lawful_kinds : KindLaws
lawful_kinds = record { kind = kind_of_spelling; same = same_spellings; integer = int_tested; index = word_is_int }

-- copies have them
pub lawful_copies : CopyingLaws
lawful_copies = record { spellings = copied_spellings; kinds = copied_kinds; written = written-copied; kept = copied-written; last = copied-last }

-- they have them
pub lawful_values : ValueLaws
lawful_values = record { one_value = string_value-one; kind = string_value-kind }
