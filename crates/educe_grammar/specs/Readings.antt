-- Properties of every parsed definition: its names are names, and each of its types, parameters and predicates is the
-- reading of its tokens.
use Rattle.std.specs.Prelude.{◌≡◌, ℕ, true, List}
use Rattle.std.specs.List.{AllByRecursion}
use Rattle.educe_tokens.specs.TokenKind.TheVariants as kind
use Rattle.educe_tree.specs.Names.{is_name}
use Rattle.educe_tree.specs.Params.{written_of}
use Rattle.educe_tree.specs.declared.data.Field.{Field}
use Rattle.educe_tree.specs.declared.derive.DeriveInput.{DeriveInput}
use Rattle.educe_tree.specs.declared.expr.ExprPath.{ExprPath}
use Rattle.educe_tree.specs.declared.generics.GenericParam.{GenericParam}
use Rattle.educe_tree.specs.declared.generics.GenericParam.TheVariants as param
use Rattle.educe_tree.specs.declared.generics.Generics.{Generics}
use Rattle.educe_tree.specs.declared.generics.WherePredicate.{WherePredicate}
use Rattle.educe_tree.specs.declared.ty.Ty.{Ty, out-Ty}
use Rattle.educe_grammar.specs.Expressions.{expr_path}
use Rattle.educe_grammar.specs.Few.{all_fields}
use Rattle.educe_grammar.specs.Generics.{generic_param, predicate}
use Rattle.educe_grammar.specs.Parsed.{IsWhole}
use Rattle.educe_grammar.specs.Types.{any_type}

-- ---- names

-- The text is a name: no keyword, and not `_`.
abbrev pub IsName : List ℕ → Type 0
IsName text = is_name kind.Ident text ≡ true

-- The name of the parameter is a name.
abbrev pub IsNamed : GenericParam → Type 0
IsNamed (param.Lifetime p) = Unit {0}
IsNamed (param.TypeParam p) = IsName p.ident.text
IsNamed (param.Const p) = IsName p.ident.text

-- The name of the definition and those of its parameters are names.
abbrev pub AreNamed : DeriveInput → Type 0
AreNamed d = IsName d.ident.text × AllByRecursion IsNamed d.generics.params

-- ---- readings of parts

-- The type is the reading of its tokens, within the limits.
abbrev pub IsReadType : Ty → Type 0
IsReadType ty = IsWhole any_type (out-Ty ty).written.tokens ty

-- The path is the reading of its tokens.
abbrev pub IsReadPath : ExprPath → Type 0
IsReadPath path = IsWhole expr_path path.written.tokens path

-- The parameter, without its default, is the reading of its tokens.
abbrev pub IsReadParam : GenericParam → Type 0
IsReadParam p = IsWhole generic_param (written_of p).tokens p

-- The predicate is the reading of its tokens.
abbrev pub IsReadPredicate : WherePredicate → Type 0
IsReadPredicate p = IsWhole predicate p.written.tokens p

-- Each parameter and each predicate is the reading of its tokens.
abbrev pub AreReadGenerics : Generics → Type 0
AreReadGenerics g = AllByRecursion IsReadParam g.params × AllByRecursion IsReadPredicate g.predicates

-- The field's type is the reading of its tokens.
abbrev pub IsReadField : Field → Type 0
IsReadField f = IsReadType f.ty

-- The names of a definition are names, and each of its types, parameters and predicates is the reading of its tokens.
pub record HasReadParts (d : DeriveInput) : Type 0 where
  pub named : AreNamed d
  pub generics : AreReadGenerics d.generics
  pub fields : AllByRecursion IsReadField (all_fields d)
