-- The replacement of `Self` in tokens, by the paths that the parser noted.
use Rattle.std.specs.Prelude.{◌≡◌, ℕ, zero, suc, ◌+◌, ◌-◌, ◌<◌, ◌==◌, Bool, if◌then◌else◌, ◌&&◌, List, [], ◌∷◌, ◌++◌, length, take, drop, slice_index_or, Option, Some, None, Ok, Err}
use Rattle.educe_tokens.specs.declared.token.Token.{Token}
use Rattle.educe_grammar.specs.declared.parse_stream.SelfPath.{SelfPath}
use Rattle.educe_grammar.specs.Ahead.{at_end}
use Rattle.educe_grammar.specs.NotedReads.{read}
use Rattle.educe_grammar.specs.Noting.{Noted}
use Rattle.educe_grammar.specs.Parsed.{depth_limit}
use Rattle.educe_grammar.specs.Rules.{Rule}
use Rattle.educe_grammar.specs.Steps.{Tokens}
use Rattle.educe_syntax_self.specs.Replacing.{is_replaced}

-- The noted path is to be replaced, in this whole list of tokens.
abbrev pub counts : Tokens → SelfPath → Bool
counts whole note =
    is_replaced (take (length whole - note.start) whole) (drop (length whole - note.start) whole) (drop (length whole - note.behind) whole)

-- The first option if it has a value, else the second.
abbrev pub latest : {A : Type 0} → Option A → Option A → Option A
latest (Some x) other = Some x
latest None other = other

-- The number of tokens left after the first segment of this path, if it begins where the given number are left and is
-- to be replaced.
abbrev pub ending_of : Tokens → SelfPath → ℕ → Option ℕ
ending_of whole note place = if (note.start == place) && counts whole note then Some note.first else None

-- The number of tokens left after the first segment of the last noted path that begins where the given number are left.
unfoldable pub note_at : Tokens → List SelfPath → ℕ → Option ℕ
note_at whole [] place = None
note_at whole (note ∷ notes) place = latest (note_at whole notes place) (ending_of whole note place)

-- One token, where the option says how far the first segment that it begins extends: the head and the rest, or the
-- token and the rest.
abbrev pub chosen : Tokens → Token → Tokens → (ℕ → Tokens) → Option ℕ → Tokens
chosen head t rest behind None = t ∷ rest
chosen head t rest behind (Some left) = head ++ behind left

-- The tokens after skipping the given number: the head for each first segment that is to be replaced, and the other
-- tokens.
unfoldable pub walk : Tokens → (ℕ → Option ℕ) → ℕ → Tokens → Tokens
walk head at away [] = []
walk head at (suc away) (t ∷ ts) = walk head at away ts
walk head at zero (t ∷ ts) = chosen head t (walk head at zero ts) (λ left. walk head at (length ts - left) ts) (at (length (t ∷ ts)))

-- The tokens, with the head in place of each noted `Self` that is to be replaced.
abbrev pub spliced : Tokens → Tokens → List SelfPath → Tokens
spliced head whole notes = walk head (note_at whole notes) zero whole

-- The noted paths, where no tokens are left.
abbrev pub noted_in : {A : Type 0} → Noted A → List SelfPath
noted_in (Ok p) = if at_end p.1.cursor then p.1.selves else []
noted_in (Err e) = []

-- The paths noted where the rule parses all of the tokens within the limits; none elsewhere.
unfoldable pub notes_of : {A : Type 0} → Rule A → Tokens → List SelfPath
notes_of g tokens = noted_in (read depth_limit g (record { cursor = tokens; selves = [] }))

-- The tokens with the head in place of each `Self` that a path begins with, without `::` before it, by the rule that reads them.
-- The arguments of that `Self` fall away, and the path of a macro stays. Tokens that the rule does not read whole, within the
-- limits, stay as they are.
abbrev pub replaced_in : {A : Type 0} → Rule A → Tokens → Tokens → Tokens
replaced_in g head tokens = spliced head tokens (notes_of g tokens)

-- The entry of the list for each number of tokens left.
pub record ArePlaces (tokens : Tokens) (notes : List SelfPath) (found : List (Option ℕ)) : Type 0 where
  pub size : length found ≡ length tokens + 1
  pub says : (place : ℕ) → place < length found → slice_index_or found place None ≡ note_at tokens notes place
