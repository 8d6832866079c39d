use Rattle.std.proofs.lemmas.Result.{IfOk-weaker}
use Rattle.educe_body_values.specs.declared.callee.BuiltIn.TheVariants.{Ne, Cmp, PartialCmp, Hash, Clone, CloneFrom}
use Rattle.educe_body_values.specs.BuiltIn.{path_lexemes, IsMade, IsBuiltIn}
use Rattle.educe_body_values.specs.Callees.{path_names}
use Rattle.educe_body_values.proofs.MadePaths.{built_in_reads}
use Rattle.educe_body_values.proofs.built_in_paths.built_in_path.Goals as goal

pub returns-in-Ne : goal.returns-in-Ne
returns-in-Ne c = rw c.in-Ne.is (IfOk-weaker _ (IsMade (path_lexemes Ne) (path_names Ne)) (IsBuiltIn Ne) (built_in_reads Ne) c.trait_path.ensures)

pub returns-in-Cmp : goal.returns-in-Cmp
returns-in-Cmp c = rw c.in-Cmp.is (IfOk-weaker _ (IsMade (path_lexemes Cmp) (path_names Cmp)) (IsBuiltIn Cmp) (built_in_reads Cmp) c.trait_path-in-Cmp.ensures)

pub returns-in-PartialCmp : goal.returns-in-PartialCmp
returns-in-PartialCmp c =
    rw c.in-PartialCmp.is (IfOk-weaker _ (IsMade (path_lexemes PartialCmp) (path_names PartialCmp)) (IsBuiltIn PartialCmp) (built_in_reads PartialCmp) c.trait_path-in-PartialCmp.ensures)

pub returns-in-Hash : goal.returns-in-Hash
returns-in-Hash c = rw c.in-Hash.is (IfOk-weaker _ (IsMade (path_lexemes Hash) (path_names Hash)) (IsBuiltIn Hash) (built_in_reads Hash) c.trait_path-in-Hash.ensures)

pub returns-in-Clone : goal.returns-in-Clone
returns-in-Clone c = rw c.in-Clone.is (IfOk-weaker _ (IsMade (path_lexemes Clone) (path_names Clone)) (IsBuiltIn Clone) (built_in_reads Clone) c.trait_path-in-Clone.ensures)

pub returns-in-CloneFrom : goal.returns-in-CloneFrom
returns-in-CloneFrom c =
    rw c.in-CloneFrom.is (IfOk-weaker _ (IsMade (path_lexemes CloneFrom) (path_names CloneFrom)) (IsBuiltIn CloneFrom) (built_in_reads CloneFrom) c.trait_path-in-CloneFrom.ensures)
