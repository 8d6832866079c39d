-- The states that a scan of a quoted literal reaches from its start. In these the digits of an escape are few, so that
-- the number they write is small.
use Rattle.std.specs.Prelude.{◌^◌, Bool, true, ◌&&◌, nat_lt, nat_le}
use Rattle.educe_tokens_pieces.specs.declared.quotes.Within.{Within}
use Rattle.educe_tokens_pieces.specs.declared.quotes.Within.TheVariants.{Open, Break, Escape, Return, High, Low, Brace, Code, Close}

-- What holds at each place reached from the start of a literal: the first digit of `\x` is below 16; behind `\u{` stand at most
-- six digits, and the number is one that so many write.
abbrev pub is_reachable : Within → Bool
is_reachable (Open quote) = true
is_reachable (Break quote) = true
is_reachable (Escape quote) = true
is_reachable (Return quote) = true
is_reachable (High quote) = true
is_reachable (Low quote high) = nat_lt high 16
is_reachable (Brace quote) = true
is_reachable (Code quote digits value) = nat_le digits 6 && nat_lt value (16 ^ digits)
is_reachable (Close quote) = true
