-- The names that the block of `Clone` declares, as texts.
use Rattle.educe_make_clone.specs.declared.clone_names.CloneNames.{CloneNames}
use Rattle.educe_meaning.specs.CloneBodies as laws

-- The texts of the names, and the prefixes.
abbrev pub names_of : CloneNames → laws.CloneNames
names_of names = record {
  source = names.source.text;
  function = names.marker.function.text;
  value = names.marker.value.text;
  sources = names.sources;
  own = names.own;
}
