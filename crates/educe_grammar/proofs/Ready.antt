-- What is computed of the productions: they are ready, and which read no documentation.
use Rattle.std.proofs.Common.{◌≡◌, true, refl}
use Rattle.educe_grammar.specs.Names.{name}
use Rattle.educe_grammar.specs.Types.{any_type, plain_type, type_path}
use Rattle.educe_grammar.specs.Expressions.{expression, tree, expr_path}
use Rattle.educe_grammar.specs.Generics.{params, predicate, predicates}
use Rattle.educe_grammar.specs.Attributes.{meta, metas}
use Rattle.educe_grammar.specs.Definitions.{definition}
use Rattle.educe_grammar.proofs.Keeping.{has_no_documentation, writes_no_documentation}
use Rattle.educe_grammar.proofs.Opening.{begins_with_opener, is_ready}
use Rattle.educe_grammar.proofs.Productions.{productions}

-- ---- what nests, and each link of a chain, stands behind an opener

-- Name
pub name_ready : is_ready name ≡ true
unfolding is_ready productions
name_ready = refl

-- Type
pub any_type_ready : is_ready any_type ≡ true
unfolding is_ready begins_with_opener productions
any_type_ready = refl

-- Plain
pub plain_type_ready : is_ready plain_type ≡ true
unfolding is_ready begins_with_opener productions
plain_type_ready = refl

-- TypePath
pub type_path_ready : is_ready type_path ≡ true
unfolding is_ready begins_with_opener productions
type_path_ready = refl

-- Expr
pub expression_ready : is_ready expression ≡ true
unfolding is_ready begins_with_opener productions
expression_ready = refl

-- Tree
pub tree_ready : is_ready tree ≡ true
unfolding is_ready begins_with_opener productions
tree_ready = refl

-- ExprPath
pub expr_path_ready : is_ready expr_path ≡ true
unfolding is_ready begins_with_opener productions
expr_path_ready = refl

-- List(Param)
pub params_ready : is_ready params ≡ true
unfolding is_ready begins_with_opener productions
params_ready = refl

-- Predicate
pub predicate_ready : is_ready predicate ≡ true
unfolding is_ready begins_with_opener productions
predicate_ready = refl

-- List(Predicate)
pub predicates_ready : is_ready predicates ≡ true
unfolding is_ready begins_with_opener productions
predicates_ready = refl

-- Meta
pub meta_ready : is_ready meta ≡ true
unfolding is_ready begins_with_opener productions
meta_ready = refl

-- List(Meta)
pub metas_ready : is_ready metas ≡ true
unfolding is_ready begins_with_opener productions
metas_ready = refl

-- Input
pub definition_ready : is_ready definition ≡ true
unfolding is_ready begins_with_opener productions
definition_ready = refl

-- ---- no documentation is read

-- Type
pub any_type_undocumented : has_no_documentation any_type ≡ true
unfolding has_no_documentation productions
any_type_undocumented = refl

-- Plain
pub plain_type_undocumented : has_no_documentation plain_type ≡ true
unfolding has_no_documentation productions
plain_type_undocumented = refl

-- TypePath
pub type_path_undocumented : has_no_documentation type_path ≡ true
unfolding has_no_documentation productions
type_path_undocumented = refl

-- Expr
pub expression_undocumented : has_no_documentation expression ≡ true
unfolding has_no_documentation productions
expression_undocumented = refl

-- Tree
pub tree_undocumented : has_no_documentation tree ≡ true
unfolding has_no_documentation productions
tree_undocumented = refl

-- ExprPath
pub expr_path_undocumented : has_no_documentation expr_path ≡ true
unfolding has_no_documentation productions
expr_path_undocumented = refl

-- Predicate
pub predicate_undocumented : has_no_documentation predicate ≡ true
unfolding has_no_documentation productions
predicate_undocumented = refl

-- List(Predicate)
pub predicates_undocumented : has_no_documentation predicates ≡ true
unfolding has_no_documentation productions
predicates_undocumented = refl

-- Meta
pub meta_undocumented : has_no_documentation meta ≡ true
unfolding has_no_documentation productions
meta_undocumented = refl

-- List(Meta)
pub metas_undocumented : has_no_documentation metas ≡ true
unfolding has_no_documentation productions
metas_undocumented = refl

-- ---- what is kept as it was written has no documentation

-- Type
pub any_type_writes : writes_no_documentation any_type ≡ true
unfolding has_no_documentation writes_no_documentation productions
any_type_writes = refl

-- Plain
pub plain_type_writes : writes_no_documentation plain_type ≡ true
unfolding has_no_documentation writes_no_documentation productions
plain_type_writes = refl

-- TypePath
pub type_path_writes : writes_no_documentation type_path ≡ true
unfolding has_no_documentation writes_no_documentation productions
type_path_writes = refl

-- Expr
pub expression_writes : writes_no_documentation expression ≡ true
unfolding has_no_documentation writes_no_documentation productions
expression_writes = refl

-- Tree
pub tree_writes : writes_no_documentation tree ≡ true
unfolding has_no_documentation writes_no_documentation productions
tree_writes = refl

-- ExprPath
pub expr_path_writes : writes_no_documentation expr_path ≡ true
unfolding has_no_documentation writes_no_documentation productions
expr_path_writes = refl

-- Predicate
pub predicate_writes : writes_no_documentation predicate ≡ true
unfolding has_no_documentation writes_no_documentation productions
predicate_writes = refl

-- List(Predicate)
pub predicates_writes : writes_no_documentation predicates ≡ true
unfolding has_no_documentation writes_no_documentation productions
predicates_writes = refl

-- Meta
pub meta_writes : writes_no_documentation meta ≡ true
unfolding has_no_documentation writes_no_documentation productions
meta_writes = refl

-- List(Meta)
pub metas_writes : writes_no_documentation metas ≡ true
unfolding has_no_documentation writes_no_documentation productions
metas_writes = refl

-- Input
pub definition_writes : writes_no_documentation definition ≡ true
unfolding has_no_documentation writes_no_documentation productions
definition_writes = refl
