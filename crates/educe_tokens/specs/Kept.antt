-- The characters of a spelling, independent of its representation.
use Rattle.std.specs.Prelude.{ℕ, ◌≤◌, ◌<◌, ◌^◌, List, chars, slice_range, take}
use Rattle.std.specs.Str.{IsCharBoundary, IsUtf8}
use Rattle.std.specs.String.{string_bytes}
use Rattle.educe_tokens.specs.declared.spelling.Text.{Text}
use Rattle.educe_tokens.specs.declared.spelling.Text.TheVariants.{Short, Part}

-- The bytes of the text.
abbrev pub bytes_of : Text → List ℕ
bytes_of (Short bytes len) = take len bytes
bytes_of (Part source start end) = slice_range (string_bytes source.value) start end

-- The characters of the text.
abbrev pub characters_of : Text → List ℕ
characters_of text = chars (bytes_of text)

-- The bytes are UTF-8: a short text has at most 15 of them, and a part begins and ends where characters do, before 4 GiB.
abbrev pub IsCut : Text → Type 0
IsCut (Short bytes len) = (len ≤ 15) × IsUtf8 (take len bytes)
IsCut (Part source start end) = (start ≤ end) × IsCharBoundary (string_bytes source.value) start × IsCharBoundary (string_bytes source.value) end × (end < 2 ^ 32)
