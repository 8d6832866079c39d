-- Lists without repetitions are what they are when each item is taken once.
use Rattle.std.proofs.Common.{◌≡◌, inl, inr, ℕ, List, [], ◌∷◌, ◌++◌, map, refl, ap, sym, subst, ◌∙◌, append_assoc, append-nil}
use Rattle.std.specs.Prelude.{Result, Ok, Err, IfOk}
use Rattle.std.specs.List.{AllByRecursion, filter_map}
use Rattle.educe_tokens.specs.Lexes.{Lexeme}
use Rattle.educe_tree.specs.Names.{unraw}
use Rattle.educe_grammar.specs.Naming.{Named, AreApart, AreNamesApart, type_named}
use Rattle.educe_syntax.specs.DeriveInput.{DeriveInput}
use Rattle.educe_syntax.specs.GenericParam.{GenericParam}
use Rattle.educe_syntax.specs.GenericParam.TheVariants as param
use Rattle.educe_syntax.specs.Ty.{Ty}
use Rattle.educe_syntax.specs.WherePredicate.{WherePredicate}
use Rattle.educe_tokens_interner.specs.Distinct.{Has, AreDistinct}
use Rattle.educe_bound_classes.specs.Asked as needs
use Rattle.educe_bound_classes.specs.Asked.{AddsAll}
use Rattle.educe_bound_classes.specs.Classes.{type_name}
use Rattle.educe_bound_classes.specs.Deriving.{Extends}
use Rattle.educe_bound_classes.specs.Exceptions.{Exceptions}
use Rattle.educe_bound_classes.specs.Needs.{param_of, AreOwn}
use Rattle.educe_bound_classes.specs.declared.needs.Asked.{Asked}
use Rattle.educe_bound_classes.proofs.Lawful.{always_distinct}
use Rattle.educe_bound_traits.specs.declared.traits.Trait.{Trait}
use Rattle.educe_bound.specs.declared.bound.Bound.{Bound}
use Rattle.educe_bound.specs.declared.bound.Bound.TheVariants.{Auto, All}
use Rattle.educe_bound.specs.Predicates.{Key, keys_of, asks_for, on_each_param, AreByBound}
use Rattle.educe_bound.specs.Sets.{AreOnceByBound}

-- ---- lists without repetitions

has_behind : {K : Type 0} (xs ys : List K) (k : K) → Has ys k → Has (xs ++ ys) k
has_behind [] ys k h = h
has_behind (x ∷ xs) ys k h = inr (has_behind xs ys k h)

apart_from : {K : Type 0} (known : List K) (k : K) (more : List K) → AreDistinct (known ++ k ∷ more) → Has known k → ⊥
apart_from [] k more apart h = h
apart_from (j ∷ known) k more apart (inl same) = apart.0 (has_behind known (k ∷ more) j (inl (sym same)))
apart_from (j ∷ known) k more apart (inr h) = apart_from known k more apart.1 h

extends_rest : {K : Type 0} (known xs : List K) → AreDistinct (known ++ xs) → Extends known xs (known ++ xs)
extends_rest known [] apart = subst (λ all. Extends known [] all) (sym (append-nil known)) (Extends.done known)
extends_rest known (k ∷ xs) apart =
    let same = append_assoc known (k ∷ []) xs in
    Extends.added known k (apart_from known k xs apart) (subst (λ all. Extends (known ++ k ∷ []) xs all) same (extends_rest (known ++ k ∷ []) xs (subst AreDistinct (sym same) apart)))

-- each item of such a list is taken
extends_itself : {K : Type 0} (xs : List K) → AreDistinct xs → Extends [] xs xs
extends_itself xs apart = extends_rest [] xs apart

extends_is : {K : Type 0} {known xs all : List K} → AreDistinct (known ++ xs) → Extends known xs all → all ≡ known ++ xs
extends_is apart (Extends.done known) = sym (append-nil known)
extends_is apart (Extends.held known k {more = more} has e) = absurd (apart_from known k more apart has)
extends_is apart (Extends.added known k {more = more} new e) = let same = append_assoc known (k ∷ []) more in extends_is (subst AreDistinct (sym same) apart) e ∙ same

-- ---- the automatic mode

-- what is asked, each once, are the own predicates
pub are_own : (ex : Exceptions) (params : List GenericParam) (self : List ℕ) (bound : List Lexeme) (types : List Ty) (asked : List Asked) (all : List Key) → AddsAll ex params self types [] asked
    → Extends [] (needs.keys_of bound asked) all → AreOwn ex params self bound types all
are_own ex params self bound types asked all adds e = let a = adds.keys bound in (a.0, a.1, subst (λ (ks : List Key). Extends [] ks all) a.2 e)

-- ---- type parameters

abbrev first_spelling : List Lexeme → List ℕ
first_spelling [] = []
first_spelling (l ∷ ls) = l.spelling

module _ (bound : List Lexeme) where
  -- a name that is apart from those of the others is asked by none of them
  not_asked : (params : List GenericParam) (text : List ℕ) → AllByRecursion (λ (later : Named). unraw text ≡ unraw later.text → ⊥) (filter_map type_named params)
      → Has (map (param_of bound) (filter_map type_name params)) (param_of bound text) → ⊥
  not_asked [] text apart h = h
  not_asked (param.Lifetime p ∷ params) text apart h = not_asked params text apart h
  not_asked (param.Const p ∷ params) text apart h = not_asked params text apart.1 h
  not_asked (param.TypeParam p ∷ params) text apart (inl same) =
      let texts : p.ident.text ≡ text = ap first_spelling same in apart.0 (ap unraw (sym texts))
  not_asked (param.TypeParam p ∷ params) text apart (inr h) = not_asked params text apart.1 h

  params_distinct : (params : List GenericParam) → AreApart (filter_map type_named params) → AreDistinct (map (param_of bound) (filter_map type_name params))
  params_distinct [] apart = tt
  params_distinct (param.Lifetime p ∷ params) apart = params_distinct params apart
  params_distinct (param.Const p ∷ params) apart = params_distinct params apart.1
  params_distinct (param.TypeParam p ∷ params) apart = (not_asked params p.ident.text apart.0, params_distinct params apart.1)

on_each_param_distinct : (d : DeriveInput) (which : Trait) → AreNamesApart d → AreDistinct (on_each_param d.generics.params which)
on_each_param_distinct d which apart = params_distinct (asks_for which) d.generics.params apart.1.0

-- ---- bounds

-- a list that the bound asks for, each once
pub once_if : (bound : Bound) (ex : Exceptions) (params : List GenericParam) (self : List ℕ) (which : Trait) (types : List Ty) (own : List Key) {E : Type 0} (r : Result (List WherePredicate) E)
    → AreByBound bound ex params self which types own → IfOk r (λ set. Extends [] own (keys_of set)) → IfOk r (λ set. AreOnceByBound bound ex params self which types (keys_of set))
once_if bound ex params self which types own (Ok set) by e = (own, by, e)
once_if bound ex params self which types own (Err e) by none = tt

-- own predicates are there once already
pub own_once : (ex : Exceptions) (params : List GenericParam) (self : List ℕ) (which : Trait) (types : List Ty) (own : List Key) → AreOwn ex params self (asks_for which) types own
    → AreOnceByBound Auto ex params self which types own
own_once ex params self which types own is = (own, is, extends_itself own (always_distinct ex params self (asks_for which) types own is))

-- and so are those of type parameters
pub auto_is : (ex : Exceptions) (params : List GenericParam) (self : List ℕ) (which : Trait) (types : List Ty) (all : List Key) → AreOnceByBound Auto ex params self which types all
    → AreByBound Auto ex params self which types all
auto_is ex params self which types all (own, by, e) =
    subst (AreOwn ex params self (asks_for which) types) (sym (extends_is (always_distinct ex params self (asks_for which) types own by) e)) by

pub all_is : (d : DeriveInput) (ex : Exceptions) (which : Trait) (types : List Ty) (all : List Key) → AreNamesApart d → AreOnceByBound All ex d.generics.params d.ident.text which types all
    → AreByBound All ex d.generics.params d.ident.text which types all
all_is d ex which types all apart (own, by, e) = extends_is (subst AreDistinct (sym by) (on_each_param_distinct d which apart)) e ∙ by
