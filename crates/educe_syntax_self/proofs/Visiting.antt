-- What is read of the tokens of a visit is what a visit answers.
use Rattle.std.proofs.Common.{◌≡◌, ℕ, suc, Bool, List, [], ◌∷◌, ◌++◌, refl, sym, ap, subst, ◌∙◌, inl, inr, length, take, get_or, zero, ◌+◌, ◌<◌, IsTrue, arith}
use Rattle.std.specs.List.{AllByRecursion, AllZip}
use Rattle.std.proofs.lemmas.List.{append-nil, append_cancel_left, take_more}
use Rattle.std.proofs.lemmas.List.Elements.{AllZip-push}
use Rattle.educe_tokens.specs.Copied.{may_be_copied}
use Rattle.educe_tokens.specs.Lexes.{lexemes}
use Rattle.educe_tokens.specs.declared.token.Token.{Token}
use Rattle.educe_tokens.specs.declared.written.Written.{Written}
use Rattle.educe_tree.specs.Params.{written_of}
use Rattle.educe_tree.specs.declared.expr.ExprPath.{ExprPath}
use Rattle.educe_tree.specs.declared.generics.GenericParam.{GenericParam}
use Rattle.educe_tree.specs.declared.generics.GenericParam.TheVariants as param
use Rattle.educe_tree.specs.declared.generics.WherePredicate.{WherePredicate}
use Rattle.educe_tree.specs.declared.ty.Ty.{Ty, out-Ty}
use Rattle.educe_grammar.specs.Combining.{at_sign, skipping, flag, sign}
use Rattle.educe_grammar.specs.Expressions.{expr_path}
use Rattle.educe_grammar.specs.Generics.{any_constant, generic_param, predicate}
use Rattle.educe_grammar.specs.Parsed.{depth_limit}
use Rattle.educe_grammar.specs.Reading.{Parses}
use Rattle.educe_grammar.specs.Readings.{IsReadType, IsReadPath, IsReadParam, IsReadPredicate}
use Rattle.educe_grammar.specs.Reads.{parts, Reads}
use Rattle.educe_grammar.specs.Rules.{Rule, part, types}
use Rattle.educe_grammar.specs.Steps.{Tokens}
use Rattle.educe_grammar.specs.Types.{any_type}
use Rattle.educe_grammar.proofs.Balanced.{reads_copied}
use Rattle.educe_grammar.proofs.Keeping.{has_no_documentation}
use Rattle.educe_grammar.proofs.OfDefinitions.{type_tokens}
use Rattle.educe_grammar.proofs.Productions.{productions}
use Rattle.educe_grammar.proofs.ReadsAgain.{one_reading, expr_path_again, generic_param_again, predicate_again, any_type_again}
use Rattle.educe_grammar.proofs.Steps.{Written-path}
use Rattle.educe_syntax_self.specs.Heads.{IsHead}
use Rattle.educe_syntax_self.specs.Replacing.{Changes, Replaces, Changed, changes_below}
use Rattle.educe_syntax_self.specs.Splicing.{notes_of, replaced_in}
use Rattle.educe_syntax_self.specs.Visits.{IsVisited, IsVisitedType, IsVisitedPath, with_written, IsVisitedParam, IsVisitedPredicate}
use Rattle.educe_syntax_self.proofs.GenericTurns.{ParamTurned}
use Rattle.educe_syntax_self.proofs.Turns.{Any}
use Rattle.educe_syntax_self.proofs.WholeTurns.{noted, Visit, type_visited, path_visited, param_visited, predicate_visited}

-- ---- tokens

-- a path has the tokens that it is read from
path_tokens : (budget : ℕ) (ts : Tokens) (y : ExprPath) → Reads budget expr_path ts y → y.written.tokens ≡ ts
unfolding Parses expr_path
path_tokens budget ts y is = ap (λ (p : ExprPath). p.written.tokens) is.1 ∙ is.2.1

module _ (head : Tokens) (changes : Changes) (budget : ℕ) where
  -- what a predicate becomes has the tokens that it is read from
  predicate_tokens : (before tokens behind : Tokens) (x : WherePredicate) (out : Tokens) (y : WherePredicate) → Replaces head parts changes budget predicate before tokens behind x out y → y.written.tokens ≡ out
  unfolding Replaces predicate
  predicate_tokens before tokens behind x out y is = ap (λ (p : WherePredicate). p.written.tokens) is.3 ∙ is.4.2

  -- where no default stands none is made
  flag_nothing : {A : Type 0} (g : Rule A) (before rest behind later : Tokens) (x y : Bool) → rest ≡ [] → Replaces head parts changes budget (flag (at_sign 61) (skipping (sign 61) g)) before rest behind x later y → later ≡ []
  unfolding Replaces
  flag_nothing g before rest behind later x y none (inl is) =
      absurd (filled is.4.4.6.0.token is.4.4.1 (sym none ∙ is.4.4.4 ∙ ap (λ us. us ++ is.4.4.1) is.4.4.6.4.0))
    where
      filled : (t : Token) (ts : Tokens) → [] ≡ t ∷ ts → ⊥
      filled t ts e = cc
  flag_nothing g before rest behind later x y none (inr is) = is.2

  -- what stands behind all tokens is nothing
  nothing_behind : (tokens own front rest : Tokens) → own ≡ tokens → own ≡ front → tokens ≡ front ++ rest → rest ≡ []
  nothing_behind tokens own front rest all same is = append_cancel_left front rest [] (sym is ∙ sym all ∙ same ∙ sym (append-nil front))

  -- a parameter without a default becomes one that has all tokens
  param_tokens : (before tokens behind : Tokens) (x : GenericParam) (out : Tokens) (y : GenericParam) → (written_of x).tokens ≡ tokens → Replaces head parts changes budget generic_param before tokens behind x out y
      → (written_of y).tokens ≡ out
  unfolding Replaces productions
  param_tokens before tokens behind x out y all (inl is) = ap (λ p. (written_of p).tokens) is.3 ∙ is.4.2
  param_tokens before tokens behind x out y all (inr (inl is)) =
      let both = is.4 in
      let made = both.6 in
      let front : (written_of x).tokens ≡ both.0 = ap (λ p. (written_of p).tokens) (is.2 ∙ made.2) ∙ made.4.1 in
      let none = nothing_behind tokens (written_of x).tokens both.0 both.1 all front both.4 in
      let later = flag_nothing any_constant (before ++ both.0) both.1 behind both.3 is.0.1 is.1.1 none both.7 in
      ap (λ p. (written_of p).tokens) (is.3 ∙ made.3) ∙ made.4.2 ∙ sym (both.5 ∙ ap (λ us. both.2 ++ us) later ∙ append-nil both.2)
  param_tokens before tokens behind x out y all (inr (inr is)) =
      let both = is.4 in
      let made = both.6 in
      let front : (written_of x).tokens ≡ both.0 = ap (λ p. (written_of p).tokens) (is.2 ∙ made.2) ∙ made.4.1 in
      let none = nothing_behind tokens (written_of x).tokens both.0 both.1 all front both.4 in
      let later = flag_nothing (part types) (before ++ both.0) both.1 behind both.3 is.0.1 is.1.1 none both.7 in
      ap (λ p. (written_of p).tokens) (is.3 ∙ made.3) ∙ made.4.2 ∙ sym (both.5 ∙ ap (λ us. both.2 ++ us) later ∙ append-nil both.2)

-- ---- visits

module _ (head : Tokens) (is_head : IsHead head) where
  -- what the visit of a value of a rule is
  abbrev VisitOf : {A : Type 0} → Rule A → (A → A → Type 0) → Tokens → A → Type 0
  VisitOf g V tokens x = Visit head g V tokens x (notes_of g tokens)

  -- the value is that of the tokens
  value_visited : {A : Type 0} (g : Rule A) (V : A → A → Type 0) (tokens : Tokens) (x : A) (after : Tokens) (y : A) → after ≡ replaced_in g head tokens → (v : VisitOf g V tokens x) → v.value ≡ y
      → IsVisited head g tokens x after y
  value_visited g V tokens x after y is v same = record {
    tokens = is;
    reads = subst (λ z. Reads (suc depth_limit) g after z) same (subst (λ (ts : Tokens). Reads (suc depth_limit) g ts v.value) (sym is) v.reads);
    changed = subst (λ z. Changed head g tokens x after z) same (subst (λ (ts : Tokens). Changed head g tokens x ts v.value) (sym is) v.changed);
  }

  -- what is read has a visit
  pub type_visit : (tokens : Tokens) (x : Ty) → Reads depth_limit any_type tokens x → VisitOf any_type Any tokens x
  type_visit tokens x reads = type_visited head is_head tokens x (notes_of any_type tokens) (noted any_type any_type_again tokens x reads)

  pub path_visit : (tokens : Tokens) (x : ExprPath) → Reads depth_limit expr_path tokens x → VisitOf expr_path Any tokens x
  path_visit tokens x reads = path_visited head is_head tokens x (notes_of expr_path tokens) (noted expr_path expr_path_again tokens x reads)

  pub param_visit : (tokens : Tokens) (x : GenericParam) → Reads depth_limit generic_param tokens x → VisitOf generic_param ParamTurned tokens x
  param_visit tokens x reads = param_visited head is_head tokens x (notes_of generic_param tokens) (noted generic_param generic_param_again tokens x reads)

  pub predicate_visit : (tokens : Tokens) (x : WherePredicate) → Reads depth_limit predicate tokens x → VisitOf predicate Any tokens x
  predicate_visit tokens x reads = predicate_visited head is_head tokens x (notes_of predicate tokens) (noted predicate predicate_again tokens x reads)

  -- its tokens may be copied
  pub type_copied : (tokens : Tokens) (x : Ty) → Reads depth_limit any_type tokens x → IsTrue (may_be_copied (lexemes (replaced_in any_type head tokens)))
  unfolding productions has_no_documentation
  type_copied tokens x reads = let v = type_visit tokens x reads in reads_copied (suc depth_limit) any_type (replaced_in any_type head tokens) v.value refl v.reads

  pub path_copied : (tokens : Tokens) (x : ExprPath) → Reads depth_limit expr_path tokens x → IsTrue (may_be_copied (lexemes (replaced_in expr_path head tokens)))
  unfolding productions has_no_documentation
  path_copied tokens x reads = let v = path_visit tokens x reads in reads_copied (suc depth_limit) expr_path (replaced_in expr_path head tokens) v.value refl v.reads

  pub param_copied : (tokens : Tokens) (x : GenericParam) → Reads depth_limit generic_param tokens x → IsTrue (may_be_copied (lexemes (replaced_in generic_param head tokens)))
  unfolding productions has_no_documentation
  param_copied tokens x reads = let v = param_visit tokens x reads in reads_copied (suc depth_limit) generic_param (replaced_in generic_param head tokens) v.value refl v.reads

  pub predicate_copied : (tokens : Tokens) (x : WherePredicate) → Reads depth_limit predicate tokens x → IsTrue (may_be_copied (lexemes (replaced_in predicate head tokens)))
  unfolding productions has_no_documentation
  predicate_copied tokens x reads = let v = predicate_visit tokens x reads in reads_copied (suc depth_limit) predicate (replaced_in predicate head tokens) v.value refl v.reads

  -- ---- types and paths

  -- the tokens of a visit have a value
  pub known_type : (x : Ty) → IsReadType x → (ts : Tokens) → ts ≡ replaced_in any_type head (out-Ty x).written.tokens → (y : Ty) × Reads (suc depth_limit) any_type ts y
  known_type x is_read ts is =
      let v = type_visit (out-Ty x).written.tokens x is_read in
      (v.value, subst (λ (us : Tokens). Reads (suc depth_limit) any_type us v.value) (sym is) v.reads)

  pub known_path : (x : ExprPath) → IsReadPath x → (ts : Tokens) → ts ≡ replaced_in expr_path head x.written.tokens → (y : ExprPath) × Reads (suc depth_limit) expr_path ts y
  known_path x is_read ts is =
      let v = path_visit x.written.tokens x is_read in
      (v.value, subst (λ (us : Tokens). Reads (suc depth_limit) expr_path us v.value) (sym is) v.reads)

  -- what is read of the tokens of a visited type is the answer
  pub type_answer : (x : Ty) → IsReadType x → (ts : Tokens) → ts ≡ replaced_in any_type head (out-Ty x).written.tokens → (y : Ty) → Reads (suc depth_limit) any_type ts y → IsVisitedType head x y
  type_answer x is_read ts is y reads =
      let v = type_visit (out-Ty x).written.tokens x is_read in
      let own = subst (λ (us : Tokens). Reads (suc depth_limit) any_type us v.value) (sym is) v.reads in
      value_visited any_type Any (out-Ty x).written.tokens x (out-Ty y).written.tokens y (type_tokens (suc depth_limit) ts y reads ∙ is) v (one_reading any_type any_type_again (suc depth_limit) ts v.value y own reads)

  pub path_answer : (x : ExprPath) → IsReadPath x → (ts : Tokens) → ts ≡ replaced_in expr_path head x.written.tokens → (y : ExprPath) → Reads (suc depth_limit) expr_path ts y → IsVisitedPath head x y
  path_answer x is_read ts is y reads =
      let v = path_visit x.written.tokens x is_read in
      let own = subst (λ (us : Tokens). Reads (suc depth_limit) expr_path us v.value) (sym is) v.reads in
      value_visited expr_path Any x.written.tokens x y.written.tokens y (path_tokens (suc depth_limit) ts y reads ∙ is) v (one_reading expr_path expr_path_again (suc depth_limit) ts v.value y own reads)

  -- ---- parameters and predicates

  -- the tokens are those that were given
  given : (x : GenericParam) (w : Written) → written_of (with_written x w) ≡ w
  given (param.Lifetime p) w = refl
  given (param.TypeParam p) w = refl
  given (param.Const p) w = refl

  pub param_answer : (x : GenericParam) → IsReadParam x → (w : Written) → w.tokens ≡ replaced_in generic_param head (written_of x).tokens → IsVisitedParam head x (with_written x w)
  param_answer x is_read w is =
      let v = param_visit (written_of x).tokens x is_read in
      let out = param_tokens head (changes_below head (suc depth_limit)) depth_limit [] (written_of x).tokens [] x (replaced_in generic_param head (written_of x).tokens) v.value refl v.changed in
      let same : written_of v.value ≡ w = Written-path (written_of v.value) w (out ∙ sym is) in
      let value : v.value ≡ with_written x w = v.related.is ∙ ap (with_written x) same in (
        ap (with_written x) (sym (given x w)),
        value_visited generic_param ParamTurned (written_of x).tokens x (written_of (with_written x w)).tokens (with_written x w) (ap (λ (u : Written). u.tokens) (given x w) ∙ is) v value,
      )

  pub predicate_answer : (x : WherePredicate) → IsReadPredicate x → (y : WherePredicate) → y.written.tokens ≡ replaced_in predicate head x.written.tokens → IsVisitedPredicate head x y
  predicate_answer x is_read y is =
      let v = predicate_visit x.written.tokens x is_read in
      let out = predicate_tokens head (changes_below head (suc depth_limit)) depth_limit [] x.written.tokens [] x (replaced_in predicate head x.written.tokens) v.value v.changed in
      let same : v.value.written ≡ y.written = Written-path v.value.written y.written (out ∙ sym is) in
      value_visited predicate Any x.written.tokens x y.written.tokens y is v (ap (λ (w : Written). record { written = w }) same)

-- ---- lists

-- what holds of each holds of the one at an index
pub at_index : {A : Type 0} (P : A → Type 0) (xs : List A) (i : ℕ) (x : A) → i < length xs → x ≡ get_or xs i x → AllByRecursion P xs → P x
at_index P [] i x within is all = absurd (omega arith)
at_index P (y ∷ ys) zero x within is all = subst P (sym is) all.0
at_index P (y ∷ ys) (suc i) x within is all = at_index P ys i x (omega arith) is all.1

-- one more is related
pub zip_more : {A : Type 0} (R : A → A → Type 0) (xs : List A) (i : ℕ) (x y : A) (found : List A) → i < length xs → x ≡ get_or xs i x → AllZip R (take i xs) found → R x y → AllZip R (take (i + 1) xs) (found ++ y ∷ [])
zip_more R xs i x y found within is all related =
    subst (λ zs. AllZip R zs (found ++ y ∷ [])) (ap (λ z. take i xs ++ z ∷ []) is ∙ sym (take_more xs i x within)) (AllZip-push R (take i xs) found x y all related)
