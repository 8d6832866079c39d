-- What a text has behind a push.
use Rattle.std.proofs.Common.{◌≡◌, ℕ, List, ◌++◌, IsUtf8, chars, ap, ◌∙◌}
use Rattle.std.proofs.lemmas.Str.{chars-append}

-- a text with another one behind it
pub pushed : (old new more text : List ℕ) → IsUtf8 old → new ≡ old ++ more → chars more ≡ text → chars new ≡ chars old ++ text
pushed old new more text utf8 is same = ap chars is ∙ chars-append old more utf8 ∙ ap (λ (text : List ℕ). chars old ++ text) same
