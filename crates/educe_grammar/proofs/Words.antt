-- The words that the grammar spells out, as characters.
use Rattle.std.proofs.Common.{◌≡◌, refl}
use Rattle.std.specs.Str.{chars}
use Rattle.educe_grammar.specs.declared.terminal.Keyword.{Keyword}
use Rattle.educe_grammar.specs.declared.terminal.Keyword.TheVariants.{As, Const, Crate, Dyn, Enum, Extern, False, Fn, For, In, Mut, Pub, SelfType, SelfValue, Struct, Super, True, Underscore, Unsafe, Where}
use Rattle.educe_grammar.specs.Terminals.{text_of}

pub chars_text : (word : Keyword) → chars (text_of word) ≡ text_of word
unfolding chars
chars_text As = refl
chars_text Const = refl
chars_text Crate = refl
chars_text Dyn = refl
chars_text Enum = refl
chars_text Extern = refl
chars_text False = refl
chars_text Fn = refl
chars_text For = refl
chars_text In = refl
chars_text Mut = refl
chars_text Pub = refl
chars_text SelfType = refl
chars_text SelfValue = refl
chars_text Struct = refl
chars_text Super = refl
chars_text True = refl
chars_text Underscore = refl
chars_text Unsafe = refl
chars_text Where = refl
