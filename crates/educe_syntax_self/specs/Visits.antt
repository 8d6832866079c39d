-- The results of visits: the tokens with the head in place of each `Self` that a path begins with, and their values.
use Rattle.std.specs.Prelude.{◌≡◌, suc}
use Rattle.std.specs.List.{AllZip}
use Rattle.educe_tokens.specs.declared.written.Written.{Written}
use Rattle.educe_tree.specs.declared.expr.ExprPath.{ExprPath}
use Rattle.educe_tree.specs.declared.generics.GenericParam.{GenericParam}
use Rattle.educe_tree.specs.declared.generics.GenericParam.TheVariants as param
use Rattle.educe_tree.specs.declared.generics.Generics.{Generics}
use Rattle.educe_tree.specs.declared.generics.WherePredicate.{WherePredicate}
use Rattle.educe_tree.specs.declared.ty.Ty.{Ty, out-Ty}
use Rattle.educe_tree.specs.Params.{written_of}
use Rattle.educe_grammar.specs.Expressions.{expr_path}
use Rattle.educe_grammar.specs.Generics.{generic_param, predicate}
use Rattle.educe_grammar.specs.Parsed.{depth_limit}
use Rattle.educe_grammar.specs.Reads.{Reads}
use Rattle.educe_grammar.specs.Rules.{Rule}
use Rattle.educe_grammar.specs.Steps.{Tokens}
use Rattle.educe_grammar.specs.Types.{any_type}
use Rattle.educe_syntax_self.specs.Replacing.{Changed}
use Rattle.educe_syntax_self.specs.Splicing.{replaced_in}

-- The result of a visit: its tokens are those before with the head in place of each noted `Self`; it is their value by
-- the rule, with one more of the budget; and each path that began with `Self`, and no other, begins with the head.
pub record IsVisited {A : Type 0} (head : Tokens) (g : Rule A) (before : Tokens) (x : A) (after : Tokens) (y : A) : Type 0 where
  pub tokens : after ≡ replaced_in g head before
  pub reads : Reads (suc depth_limit) g after y
  pub changed : Changed head g before x after y

-- ---- types

-- The second type is the result of visiting the first.
abbrev pub IsVisitedType : Tokens → Ty → Ty → Type 0
IsVisitedType head x y = IsVisited head any_type (out-Ty x).written.tokens x (out-Ty y).written.tokens y

-- ---- paths

-- The second path is the result of visiting the first.
abbrev pub IsVisitedPath : Tokens → ExprPath → ExprPath → Type 0
IsVisitedPath head x y = IsVisited head expr_path x.written.tokens x y.written.tokens y

-- ---- generics

-- The parameter with its tokens replaced by these.
abbrev pub with_written : GenericParam → Written → GenericParam
with_written (param.Lifetime p) w = param.Lifetime (record { lifetime = p.lifetime; written = w })
with_written (param.TypeParam p) w = param.TypeParam (record { ident = p.ident; written = w })
with_written (param.Const p) w = param.Const (record { ident = p.ident; written = w })

-- The second parameter is the result of visiting the first, and both have one name.
abbrev pub IsVisitedParam : Tokens → GenericParam → GenericParam → Type 0
IsVisitedParam head x y = (y ≡ with_written x (written_of y)) × IsVisited head generic_param (written_of x).tokens x (written_of y).tokens y

-- The second predicate is the result of visiting the first.
abbrev pub IsVisitedPredicate : Tokens → WherePredicate → WherePredicate → Type 0
IsVisitedPredicate head x y = IsVisited head predicate x.written.tokens x y.written.tokens y

-- The second generics are the result of visiting the first, parameter by parameter and predicate by predicate.
abbrev pub AreVisitedGenerics : Tokens → Generics → Generics → Type 0
AreVisitedGenerics head x y = AllZip (IsVisitedParam head) x.params y.params × AllZip (IsVisitedPredicate head) x.predicates y.predicates
