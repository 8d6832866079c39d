-- How fields are read, by the names behind the references.
use Rattle.std.specs.Prelude.{◌≡◌}
use Rattle.educe_tokens.specs.Appends.{no_place}
use Rattle.educe_tokens.specs.Spells.{IsWord}
use Rattle.educe_handlers.specs.declared.reading.Reading.{Reading}
use Rattle.educe_handlers.specs.declared.reading.Reading.TheVariants.{OfBase, Bound}
use Rattle.educe_meaning.specs.Steps as steps

-- How a field is read, by the texts of the names.
abbrev pub reading_of : Reading → steps.Reading
reading_of (OfBase base copied) = steps.of_base copied base.now.text
reading_of (Bound prefix) = steps.bound prefix.now

-- The name stands at no place; the prefix is a word.
abbrev pub CanRead : Reading → Type 0
CanRead (OfBase base copied) = base.now.span ≡ no_place
CanRead (Bound prefix) = IsWord prefix.now
