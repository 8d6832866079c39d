-- The laws of names hold.
use Rattle.educe_names.specs.Laws.{NameLaws}
use Rattle.educe_names.proofs.AsciiNames.{ascii_is_word}
use Rattle.educe_names.proofs.Idents.{idents_run, value_idents}
use Rattle.educe_names.proofs.Names.{words_held, no_word_free, each_free, each_apart}
use Rattle.educe_names.proofs.Prefixes.{prefix_free, prefixes_apart}

-- names have them
pub lawful_names : NameLaws
lawful_names = record {
  ascii = ascii_is_word;
  held = words_held;
  no_word = no_word_free;
  chosen = each_free;
  apart = each_apart;
  prefixed = prefix_free;
  prefixes = prefixes_apart;
  idents_are_words = idents_run;
  idents_in_values = value_idents;
}
