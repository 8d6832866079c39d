-- The segments of a path and how they end.
use Rattle.std.proofs.Common.{◌≡◌, ℕ, suc, ◌-◌, Bool, true, false, not, [], ◌∷◌, length, Option, Some, None, Ok, Err, refl, sym, ap, ◌∙◌, arith, slice_get, List}
use Rattle.std.proofs.lemmas.Bool.{not-true}
use Rattle.educe_tree.specs.declared.path.Path.{Path}
use Rattle.educe_grammar.specs.declared.ending.Ending.{Ending}
use Rattle.educe_grammar.specs.declared.ending.Ending.TheVariants.{Closed}
use Rattle.educe_grammar.specs.declared.parse_error.ParseError.TheVariants.{Syntax}
use Rattle.educe_grammar.specs.declared.parse_stream.ParseStream.{ParseStream}
use Rattle.educe_grammar.specs.Combining.{flag, colons, at_colons}
use Rattle.educe_grammar.specs.Noting.{run}
use Rattle.educe_grammar.specs.NotedReads.{read}
use Rattle.educe_grammar.specs.Types.{SegmentRead, last_ending, is_path, path_read, type_segments, type_path}

-- how a segment ends, where there is one
abbrev pub ending_of : Option SegmentRead → Ending
ending_of None = Closed
ending_of (Some read) = read.1

-- the last one is the last behind the first
last_behind : (s t : SegmentRead) (more : List SegmentRead) → slice_get (t ∷ more) (length (t ∷ more) - 1) ≡ slice_get (s ∷ t ∷ more) (length (s ∷ t ∷ more) - 1)
last_behind s t more = let e : length (s ∷ t ∷ more) - 1 ≡ suc (length (t ∷ more) - 1) = omega arith in rw e

-- how the last one ends
pub ending_of_last : (found : List SegmentRead) → last_ending found ≡ ending_of (slice_get found (length found - 1))
unfolding last_ending
ending_of_last [] = refl
ending_of_last (s ∷ []) = refl
ending_of_last (s ∷ t ∷ more) = ending_of_last (t ∷ more) ∙ ap ending_of (last_behind s t more)

-- a path that is `self`, `super` or `crate` alone is rejected
pub scope_refused : (budget : ℕ) (s t u : ParseStream) (leading : Bool) (found : List SegmentRead) → read budget (flag at_colons colons) s ≡ Ok (leading, t) → read budget type_segments t ≡ Ok (found, u)
    → (path : Path × Ending) → path ≡ path_read (leading, found) → not (is_path path.0) ≡ true → read budget type_path s ≡ Err (Syntax (length u.cursor))
unfolding type_path run
scope_refused budget s t u leading found first second path is scope =
    let none : is_path (path_read (leading, found)).0 ≡ false = not-true (is_path (path_read (leading, found)).0) (ap (λ p. not (is_path p.0)) (sym is) ∙ scope) in rw (first, second, none)
