use Rattle.std.proofs.Common.{◌+◌, ◌*◌}
use Rattle.educe_parser_paths.proofs.trees.+trees.Given as goal

abbrev pub decreases-nested_trees : goal.decreases-nested_trees
decreases-nested_trees l = 5 * l.budget

abbrev pub decreases-group : goal.decreases-group
decreases-group l = 5 * l.budget + 1

abbrev pub decreases-tree : goal.decreases-tree
decreases-tree l = 5 * l.budget + 2

abbrev pub decreases-some_trees-one : goal.decreases-some_trees-one
decreases-some_trees-one l = 5 * l.budget + 3

abbrev pub decreases-some_trees : goal.decreases-some_trees
decreases-some_trees l = 5 * l.budget + 4
