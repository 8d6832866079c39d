pub mod Nests
pub mod Answers
pub mod Laws
-- Re-exports: the results of the calls, and the causes of rejection.
pub use Rattle.educe_grammar.specs.Parsed
pub use Rattle.educe_grammar.specs.Refusal
pub use Rattle.educe_grammar.specs.Naming
pub use Rattle.educe_grammar.specs.Few
pub use Rattle.educe_grammar.specs.Readings
pub use Rattle.educe_grammar.specs.Placed
pub use Rattle.educe_grammar.specs.Within
pub use Rattle.educe_grammar.specs.Alike
pub use Rattle.educe_grammar.specs.Depth
pub use Rattle.educe_grammar.specs.Causes
-- Re-exports: the laws of tokens and of the calls, by which each list has either a reading or a cause of rejection.
pub use Rattle.educe_tree.specs.TokenLaws
-- Re-exports: the grammar, which relates tokens and values, and the combinators of rules.
pub use Rattle.educe_grammar.specs.Reads
pub use Rattle.educe_grammar.specs.Reading
pub use Rattle.educe_grammar.specs.Rules
pub use Rattle.educe_grammar.specs.Combining
pub use Rattle.educe_grammar.specs.Terminals
pub use Rattle.educe_grammar.specs.Ahead
pub use Rattle.educe_grammar.specs.Steps
-- Re-exports: the productions. Those of generic parameters are `GenericParams`, since `Generics` is the tree.
pub use Rattle.educe_grammar.specs.Names
pub use Rattle.educe_grammar.specs.Types
pub use Rattle.educe_grammar.specs.Expressions
pub use Rattle.educe_grammar.specs.Generics as GenericParams
pub use Rattle.educe_grammar.specs.Attributes
pub use Rattle.educe_grammar.specs.Definitions
-- Re-exports: names and keywords, and parts of trees.
pub use Rattle.educe_tree.specs.Names as Keywords
pub use Rattle.educe_tree.specs.Words
pub use Rattle.educe_tree.specs.Params
pub use Rattle.educe_tree.specs.Fields
-- Re-exports: the trees, and the terminals.
pub use Rattle.educe_tree.specs.declared.attr.Attribute
pub use Rattle.educe_tree.specs.declared.attr.Meta
pub use Rattle.educe_tree.specs.declared.attr.MetaPath
pub use Rattle.educe_tree.specs.declared.data.Field
pub use Rattle.educe_tree.specs.declared.data.FieldForm
pub use Rattle.educe_tree.specs.declared.data.FieldShape
pub use Rattle.educe_tree.specs.declared.data.Variant
pub use Rattle.educe_tree.specs.declared.derive.DeriveInput
pub use Rattle.educe_tree.specs.declared.derive.Shape
pub use Rattle.educe_tree.specs.declared.expr.Expr
pub use Rattle.educe_tree.specs.declared.expr.ExprForm
pub use Rattle.educe_tree.specs.declared.expr.ExprPath
pub use Rattle.educe_tree.specs.declared.generics.ConstParam
pub use Rattle.educe_tree.specs.declared.generics.GenericParam
pub use Rattle.educe_tree.specs.declared.generics.Generics
pub use Rattle.educe_tree.specs.declared.generics.LifetimeParam
pub use Rattle.educe_tree.specs.declared.generics.TypeParam
pub use Rattle.educe_tree.specs.declared.generics.WherePredicate
pub use Rattle.educe_tree.specs.declared.ident.Ident
pub use Rattle.educe_tree.specs.declared.lifetime.Lifetime
pub use Rattle.educe_tree.specs.declared.path.AngleArg
pub use Rattle.educe_tree.specs.declared.path.Args
pub use Rattle.educe_tree.specs.declared.path.Path
pub use Rattle.educe_tree.specs.declared.path.Segment
pub use Rattle.educe_tree.specs.declared.ty.Ty
pub use Rattle.educe_tree.specs.declared.ty.TypeForm
pub use Rattle.educe_grammar.specs.declared.terminal.Terminal
pub use Rattle.educe_grammar.specs.declared.parse_error.ParseError
