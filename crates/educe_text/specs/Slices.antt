-- What functions answer that take tokens off the front of a slice.
use Rattle.std.specs.Prelude.{Option, Some, None}
use Rattle.std.specs.Borrow.{Bor}
use Rattle.educe_text.specs.Prefixes.{Tokens}

-- The tokens behind a reference, if there is one.
abbrev pub seen : Option (Bor Tokens) → Option Tokens
seen None = None
seen (Some rest) = Some rest.now
