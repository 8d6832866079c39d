-- The fields that a handler goes over.
use Rattle.std.specs.Prelude.{ℕ, ◌+◌, ◌≤◌, List, slice_index_or}
use Rattle.educe_syntax.specs.ExprPath.{ExprPath}
use Rattle.educe_settings.specs.declared.ranked.How.{How}
use Rattle.educe_settings.specs.declared.ranked.How.TheVariants.{Plainly, ByMethod, ByOrder}
use Rattle.educe_settings.specs.declared.ranked.Ranked.{Ranked}
use Rattle.educe_settings.specs.Settings.{Kept, plainly, by_method, by_order}
use Rattle.educe_settings.specs.Settings as settings

-- How a field is treated, by the path behind the reference.
abbrev pub how_of : How → settings.How
how_of Plainly = plainly
how_of (ByMethod path) = by_method path.now
how_of (ByOrder path) = by_order path.now

-- The path that is called on a field that is treated in this way: its method, or else this one.
abbrev pub called_by : ExprPath → settings.How → ExprPath
called_by plain plainly = plain
called_by plain (by_method path) = path
called_by plain (by_order path) = path

-- The field behind the reference, its place, its rank, where that stands, whether it is reversed, and how it is treated.
abbrev pub kept_of : Ranked → Kept
kept_of ranked = record {
  field = ranked.field.now;
  place = ranked.place;
  rank = ranked.rank;
  rank_span = ranked.rank_span;
  reverse = ranked.reverse;
  how = how_of ranked.how;
}

-- The field behind one index is written no later than the field behind another.
abbrev pub IsNoLater : List Ranked → ℕ → ℕ → Type 0
IsNoLater sorted k j = (d : Ranked) → (slice_index_or sorted (k + 1) d).place ≤ (slice_index_or sorted (j + 1) d).place
