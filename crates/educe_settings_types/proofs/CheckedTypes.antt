-- The types of which `Eq` is checked: those that are seen of the fields that `PartialEq` compares.
use Rattle.std.proofs.Common.{◌≡◌, true, List, [], ◌∷◌, ◌++◌, ap, ◌∙◌}
use Rattle.std.specs.List.{flat_map}
use Rattle.educe_syntax.specs.DeriveInput.{DeriveInput}
use Rattle.educe_syntax.specs.Field.{Field}
use Rattle.educe_syntax.specs.Ty.{Ty}
use Rattle.educe_bound_traits.specs.declared.traits.Trait.TheVariants.{PartialEq}
use Rattle.educe_settings.specs.Cases.{cases_of}
use Rattle.educe_settings.specs.Settings.{Kept, kept_fields}
use Rattle.educe_settings.specs.Types.{AreVisited, AreOfFields, touched_types, checked_with}

-- in written order these are visited
visited_kept : (d : DeriveInput) (cases : List (List Field)) (visited : List Kept) → AreVisited PartialEq d cases visited → visited ≡ flat_map (kept_fields PartialEq d) cases
visited_kept d [] visited are = are
visited_kept d (fields ∷ cases) visited are = are.2 ∙ (λ i. are.3 i ++ visited_kept d cases are.1 are.4 i)

-- the types of these fields are those that are checked
pub seen_checked : (d : DeriveInput) (read touched : List Ty) → AreOfFields PartialEq d read touched → touched ≡ checked_with true d
seen_checked d read touched are = are.touched_are ∙ ap touched_types (visited_kept d (cases_of d) are.visited are.visited_are)
