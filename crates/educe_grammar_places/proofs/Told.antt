-- Each part that is the reading of its tokens has its like at no place.
use Rattle.std.proofs.Common.{◌≡◌, ℕ, suc, ◌≤◌, List, ap, sym, subst, ◌∙◌, arith}
use Rattle.educe_tokens.specs.declared.written.Written.{Written}
use Rattle.educe_tree.specs.declared.attr.Attribute.{Attribute}
use Rattle.educe_tree.specs.declared.expr.Expr.{Expr}
use Rattle.educe_tree.specs.declared.expr.ExprPath.{ExprPath}
use Rattle.educe_tree.specs.declared.generics.WherePredicate.{WherePredicate}
use Rattle.educe_tree.specs.declared.ty.Ty.{Ty, out-Ty, out-roll-Ty}
use Rattle.educe_grammar.specs.Attributes.{attributes}
use Rattle.educe_grammar.specs.Expressions.{expr_path, expression}
use Rattle.educe_grammar.specs.Generics.{predicate}
use Rattle.educe_grammar.specs.Parsed.{depth_limit}
use Rattle.educe_grammar.specs.Reading.{Parses}
use Rattle.educe_grammar.specs.Reads.{Reads}
use Rattle.educe_grammar.specs.Rules.{Rule}
use Rattle.educe_grammar.specs.Steps.{Tokens}
use Rattle.educe_grammar.specs.Types.{any_type}
use Rattle.educe_grammar.proofs.MoreBudget.{read_within}
use Rattle.educe_grammar_places.specs.Copies.{SamePart, IsSteady, ReadOnce}
use Rattle.educe_grammar_places.specs.Told.{IsCopyNowhere, IsReadable, IsDeeper, IsReadablePredicate, IsToldType, IsToldPath, IsToldExpr, IsToldPredicate, IsReadAnywhere}
use Rattle.educe_grammar_places.proofs.Copied.{copied_again}
use Rattle.educe_grammar_places.proofs.Alike.{types_seen}
use Rattle.educe_grammar_places.proofs.Nowhere.{copy_nowhere, nowhere_same}
use Rattle.educe_grammar_places.proofs.SeenInExpressions.{expression_seen}
use Rattle.educe_grammar_places.proofs.Steady.{fitting, any_type_steady, expression_steady, expr_path_steady, predicate_steady, attributes_steady}

-- what is by a steady rule is so of each list that has one copy with its tokens
pub anywhere : {A : Type 0} (g : Rule A) → IsSteady SamePart g → IsReadAnywhere g
anywhere g steady budget ts us x is same = copied_again SamePart fitting g steady budget ts us x is same

-- what is read of a copy at no place
pub record Told {A : Type 0} (g : Rule A) (ts : Tokens) (x : A) : Type 0 where
  pub us : Tokens
  pub copy : IsCopyNowhere ts us
  pub value : A
  pub reads : IsReadable g us value
  pub same : ReadOnce SamePart g x value

pub told : {A : Type 0} (g : Rule A) → IsSteady SamePart g → (ts : Tokens) (x : A) → IsReadable g ts x → Told g ts x
told g steady ts x is =
    let c = copy_nowhere ts in
    let a = anywhere g steady (suc depth_limit) ts c.0 x is (nowhere_same ts c.0 c.1) in
    record { us = c.0; copy = c.1; value = a.0; reads = a.1; same = a.2 }

-- with one more of the budget
pub deeper : {A : Type 0} (g : Rule A) → IsDeeper g
deeper g ts x is = let room : depth_limit ≤ suc depth_limit = omega arith in read_within g depth_limit (suc depth_limit) ts x room is

-- ---- parts keep the tokens that they are read from

pub type_tokens : (budget : ℕ) (ts : Tokens) (x : Ty) → Reads budget any_type ts x → (out-Ty x).written.tokens ≡ ts
unfolding Parses any_type
type_tokens budget ts x is =
    let rolled : (out-Ty x).written ≡ is.0.1 = ap (λ ty. (out-Ty ty).written) is.1 ∙ ap (λ r. r.written) (out-roll-Ty (record { form = is.0.0.0; written = is.0.1 })) in
    ap (λ (w : Written). w.tokens) rolled ∙ is.2.1

pub path_tokens : (budget : ℕ) (ts : Tokens) (x : ExprPath) → Reads budget expr_path ts x → x.written.tokens ≡ ts
unfolding Parses expr_path
path_tokens budget ts x is = ap (λ (p : ExprPath). p.written.tokens) is.1 ∙ is.2.1

pub value_tokens : (budget : ℕ) (ts : Tokens) (x : Expr) → Reads budget expression ts x → x.written.tokens ≡ ts
unfolding Parses expression
value_tokens budget ts x is = ap (λ (e : Expr). e.written.tokens) is.1 ∙ is.2.1

pub predicate_tokens : (budget : ℕ) (ts : Tokens) (x : WherePredicate) → Reads budget predicate ts x → x.written.tokens ≡ ts
unfolding Parses predicate
predicate_tokens budget ts x is = ap (λ (p : WherePredicate). p.written.tokens) is.1 ∙ is.2.1

-- ---- parts

pub told_type : (ty : Ty) → IsReadable any_type (out-Ty ty).written.tokens ty → (found : Ty) × IsToldType ty found
told_type ty is =
    let t = told any_type any_type_steady (out-Ty ty).written.tokens ty is in
    let keeps = sym (type_tokens (suc depth_limit) t.us t.value t.reads) in (
      t.value,
      record {
        tokens = subst (λ us. IsCopyNowhere (out-Ty ty).written.tokens us) keeps t.copy;
        reads = subst (λ us. IsReadable any_type us t.value) keeps t.reads;
        alike = types_seen ty t.value t.same;
      },
    )

pub told_path : (path : ExprPath) → IsReadable expr_path path.written.tokens path → (found : ExprPath) × IsToldPath path found
told_path path is =
    let t = told expr_path expr_path_steady path.written.tokens path is in
    let keeps = sym (path_tokens (suc depth_limit) t.us t.value t.reads) in (
      t.value,
      record {
        tokens = subst (λ us. IsCopyNowhere path.written.tokens us) keeps t.copy;
        reads = subst (λ us. IsReadable expr_path us t.value) keeps t.reads;
      },
    )

pub told_value : (value : Expr) → IsReadable expression value.written.tokens value → (found : Expr) × IsToldExpr value found
told_value value is =
    let t = told expression expression_steady value.written.tokens value is in
    let keeps = sym (value_tokens (suc depth_limit) t.us t.value t.reads) in
    let same = expression_seen.relates value t.value t.same in (
      t.value,
      record {
        tokens = subst (λ us. IsCopyNowhere value.written.tokens us) keeps t.copy;
        reads = subst (λ us. IsReadable expression us t.value) keeps t.reads;
        form = same.0;
      },
    )

pub told_predicate : (p : WherePredicate) → IsReadablePredicate p → (found : WherePredicate) × IsToldPredicate p found
told_predicate p is =
    let t = told predicate predicate_steady p.written.tokens p is in
    let keeps = sym (predicate_tokens (suc depth_limit) t.us t.value t.reads) in (
      t.value,
      record {
        tokens = subst (λ us. IsCopyNowhere p.written.tokens us) keeps t.copy;
        reads = subst (λ us. IsReadable predicate us t.value) keeps t.reads;
      },
    )

pub told_attributes : (ts us : Tokens) (found : List Attribute) → IsReadable attributes ts found → IsCopyNowhere ts us → (others : List Attribute) × IsReadable attributes us others
told_attributes ts us found is copy =
    let a = anywhere attributes attributes_steady (suc depth_limit) ts us found is (nowhere_same ts us copy) in (a.0, a.1)
