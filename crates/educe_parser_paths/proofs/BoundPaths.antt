-- The paths of the bounds that are no lifetimes.
use Rattle.std.proofs.Common.{◌≡◌, ◌++◌, [], ◌∷◌, List, Option, Some, None, ap, ◌∙◌, append-nil}
use Rattle.std.proofs.lemmas.List.Elements.{filter_map-append}
use Rattle.educe_tree.specs.declared.path.Path.{Path}
use Rattle.educe_grammar.specs.declared.ending.Ending.{Ending}
use Rattle.educe_grammar.specs.Types.{BoundRead, bound_paths}

-- one more bound adds what it has
bound_paths_more : (found : List BoundRead) (path : Option Path) (end : Ending) → bound_paths (found ++ (path, end) ∷ []) ≡ bound_paths found ++ bound_paths ((path, end) ∷ [])
bound_paths_more found path end = filter_map-append (λ b. b.0) found ((path, end) ∷ [])

-- with one more path
pub one_more_path : (found : List BoundRead) (path : Option Path) (end : Ending) (x : Path) → path ≡ Some x → bound_paths (found ++ (path, end) ∷ []) ≡ bound_paths found ++ x ∷ []
one_more_path found path end x is = bound_paths_more found path end ∙ ap (λ (path : Option Path). bound_paths found ++ bound_paths ((path, end) ∷ [])) is

-- with one more lifetime
pub no_more_path : (found : List BoundRead) (path : Option Path) (end : Ending) → path ≡ None → bound_paths (found ++ (path, end) ∷ []) ≡ bound_paths found
no_more_path found path end is =
    bound_paths_more found path end ∙ ap (λ (path : Option Path). bound_paths found ++ bound_paths ((path, end) ∷ [])) is ∙ append-nil (bound_paths found)
