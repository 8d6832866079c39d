-- What the laws of visits say.
use Rattle.std.proofs.Common.{refl, suc, []}
use Rattle.educe_tree.specs.declared.expr.ExprPath.{ExprPath}
use Rattle.educe_tree.specs.declared.generics.GenericParam.{GenericParam}
use Rattle.educe_tree.specs.declared.generics.WherePredicate.{WherePredicate}
use Rattle.educe_tree.specs.declared.ty.Ty.{Ty}
use Rattle.educe_grammar.specs.Expressions.{expr_path}
use Rattle.educe_grammar.specs.Generics.{generic_param, predicate}
use Rattle.educe_grammar.specs.Parsed.{depth_limit, IsWhole}
use Rattle.educe_grammar.specs.Reads.{Reads}
use Rattle.educe_grammar.specs.Rules.{Rule}
use Rattle.educe_grammar.specs.Steps.{Tokens}
use Rattle.educe_grammar.specs.Types.{any_type}
use Rattle.educe_syntax_self.specs.Heads.{IsHead}
use Rattle.educe_syntax_self.specs.Laws.{VisitLaws}
use Rattle.educe_syntax_self.specs.Replacing.{changes_below, Changed}
use Rattle.educe_syntax_self.specs.Splicing.{replaced_in}
use Rattle.educe_syntax_self.specs.Visits.{IsVisited}
use Rattle.educe_syntax_self.proofs.ReplacedReads.{replaces_reads, parts_replaced}
use Rattle.educe_syntax_self.proofs.Visiting.{type_visit, path_visit, param_visit, predicate_visit}

-- what tokens become is by the rule, with one more of the budget
pub changed_reads : {A : Type 0} (g : Rule A) (head tokens out : Tokens) (x y : A) → Changed head g tokens x out y → Reads (suc depth_limit) g out y
changed_reads g head tokens out x y is = replaces_reads head (changes_below head (suc depth_limit)) (parts_replaced head (suc depth_limit)) g depth_limit [] tokens [] x out y is

pub types_visited : (head tokens : Tokens) (x : Ty) → IsHead head → IsWhole any_type tokens x → (y : Ty) × IsVisited head any_type tokens x (replaced_in any_type head tokens) y
types_visited head tokens x is_head is =
    let v = type_visit head is_head tokens x is in (v.value, record { tokens = refl; reads = v.reads; changed = v.changed })

pub paths_visited : (head tokens : Tokens) (x : ExprPath) → IsHead head → IsWhole expr_path tokens x → (y : ExprPath) × IsVisited head expr_path tokens x (replaced_in expr_path head tokens) y
paths_visited head tokens x is_head is =
    let v = path_visit head is_head tokens x is in (v.value, record { tokens = refl; reads = v.reads; changed = v.changed })

pub params_visited : (head tokens : Tokens) (x : GenericParam) → IsHead head → IsWhole generic_param tokens x → (y : GenericParam) × IsVisited head generic_param tokens x (replaced_in generic_param head tokens) y
params_visited head tokens x is_head is =
    let v = param_visit head is_head tokens x is in (v.value, record { tokens = refl; reads = v.reads; changed = v.changed })

pub predicates_visited : (head tokens : Tokens) (x : WherePredicate) → IsHead head → IsWhole predicate tokens x → (y : WherePredicate) × IsVisited head predicate tokens x (replaced_in predicate head tokens) y
predicates_visited head tokens x is_head is =
    let v = predicate_visit head is_head tokens x is in (v.value, record { tokens = refl; reads = v.reads; changed = v.changed })

-- ---- laws

-- types have those of visits
pub lawful_types : VisitLaws any_type
lawful_types = record { reads = changed_reads any_type; visited = types_visited }

-- paths have the laws of visits
pub lawful_paths : VisitLaws expr_path
lawful_paths = record { reads = changed_reads expr_path; visited = paths_visited }

-- generic parameters have the laws of visits
pub lawful_params : VisitLaws generic_param
lawful_params = record { reads = changed_reads generic_param; visited = params_visited }

-- predicates have the laws of visits
pub lawful_predicates : VisitLaws predicate
lawful_predicates = record { reads = changed_reads predicate; visited = predicates_visited }
