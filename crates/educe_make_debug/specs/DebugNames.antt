-- The names that the block of `Debug` declares, as texts.
use Rattle.std.specs.Prelude.{ℕ, List, [], ◌∷◌}
use Rattle.educe_make_debug.specs.declared.debug_names.DebugNames.{DebugNames}
use Rattle.educe_make_debug.specs.declared.debug_names.FmtNames.{FmtNames}
use Rattle.educe_make_debug.specs.declared.debug_names.Two.{Two}
use Rattle.educe_meaning.specs.ShownBodies as laws

-- The texts of the names, and the prefix.
abbrev pub names_of : DebugNames → laws.DebugNames
names_of names = record {
  formatter = names.formatter.text;
  builder = names.builder.text;
  argument = names.argument.argument.text;
  wrapper = names.argument.wrapper.text;
  helper = names.helper.text;
  value_type = names.argument.value_type.text;
  function_type = names.argument.function_type.text;
  value = names.argument.own_value.text;
  value_formatter = names.argument.own_formatter.text;
  function = names.function.text;
  marker_formatter = names.marker_formatter.text;
  prefix = names.prefix;
}

-- The texts of those that `fmt` declares, in the order in which they are chosen.
abbrev pub fmt_texts : FmtNames → List (List ℕ)
fmt_texts names =
    names.own.first.text ∷ names.own.second.text ∷ names.wrapped.first.text ∷ names.wrapped.second.text ∷ names.helper.text ∷ names.types.first.text
    ∷ names.types.second.text ∷ names.values.first.text ∷ names.values.second.text ∷ []

-- The texts of these names, the prefix, and the texts of the names of a marker.
abbrev pub with_marker : FmtNames → List ℕ → Two → laws.DebugNames
with_marker names prefix marker = record {
  formatter = names.own.first.text;
  builder = names.own.second.text;
  argument = names.wrapped.first.text;
  wrapper = names.wrapped.second.text;
  helper = names.helper.text;
  value_type = names.types.first.text;
  function_type = names.types.second.text;
  value = names.values.first.text;
  value_formatter = names.values.second.text;
  function = marker.first.text;
  marker_formatter = marker.second.text;
  prefix = prefix;
}
