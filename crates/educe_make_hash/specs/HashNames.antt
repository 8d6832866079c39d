-- The names that `hash` declares, as texts.
use Rattle.educe_make_hash.specs.declared.hash_names.HashNames.{HashNames}
use Rattle.educe_meaning.specs.HashBodies as laws

-- The texts of the names, and the prefix.
abbrev pub names_of : HashNames → laws.HashNames
names_of names = record { state = names.state.text; hasher = names.hasher.text; prefix = names.prefix }
