-- What is added behind what was asked.
use Rattle.std.proofs.Common.{◌≡◌, ℕ, ◌+◌, ◌<◌, Bool, true, false, List, [], ◌∷◌, ◌++◌, map, take, get_or, length, refl, ap, sym, subst, ◌∙◌, append_assoc, append-nil, Option, Some, None, Bor}
use Rattle.std.specs.Prelude.{Result, Ok, Err, OnOk, if◌then◌else◌}
use Rattle.std.specs.List.{filter_map, cons_option}
use Rattle.std.proofs.lemmas.List.{take_more, map-append}
use Rattle.educe_tree.specs.declared.generics.GenericParam.{GenericParam}
use Rattle.educe_tree.specs.declared.ty.Ty.{Ty}
use Rattle.educe_tree.specs.declared.ty.TypeForm.{TypeForm}
use Rattle.educe_tree.specs.declared.ty.TypeForm as form
use Rattle.educe_tree.specs.declared.ty.TypeForm.TheVariants as made_form
use Rattle.educe_tree.specs.declared.path.Args as args
use Rattle.educe_tree.specs.declared.path.Args.{view-Args-Round-1, backs-Args-Round-1}
use Rattle.educe_tree.specs.declared.path.AngleArg.{AngleArg}
use Rattle.educe_tree.specs.declared.path.Path.{Path}
use Rattle.educe_grammar.specs.Parsed.{depth_limit}
use Rattle.educe_grammar.specs.Readings.{IsName, IsReadType}
use Rattle.educe_grammar.proofs.Each.{all_front, all_behind, all_append}
use Rattle.educe_bound_classes.specs.Exceptions.{Exceptions}
use Rattle.educe_bound_classes.specs.declared.needs.Asked.{Asked}
use Rattle.educe_bound_classes.specs.declared.needs.Asked.TheVariants.{Itself}
use Rattle.educe_bound_classes.specs.Deriving.{Class, forwarding, mentioning, other, AsksNothing, Needs, AllNeed}
use Rattle.educe_bound_classes.specs.Questions.{uses_params}
use Rattle.educe_bound_classes.specs.Classes.{plain_of, types_behind, last_types, path_of_form, is_unconditional, forwards_at, is_forwarding, parts_by, mentions_named, names_in, class_by, class_of}
use Rattle.educe_bound_classes.specs.Needs.{own_of, param_of}
use Rattle.educe_bound_classes.specs.Asked.{key_of, keys_of, IsAskedRead, AreAskedRead, Adds, AddsAll, AddsNames}
use Rattle.educe_bound_classes.proofs.ByText.{names_named}
use Rattle.educe_bound_classes.proofs.Inside.{parts_read}

-- ---- lists

-- what one more type needs behind the others
all_need_last : {X N K : Type 0} {class : X → Class X N} {own : X → K} {param : N → K} {xs : List X} {x : X} {ks ls : List K}
    → AllNeed class own param xs ks → Needs class own param x ls → AllNeed class own param (xs ++ x ∷ []) (ks ++ ls)
all_need_last {class = class} {own = own} {param = param} {x = x} {ls = ls} AllNeed.none needs = subst (AllNeed class own param (x ∷ [])) (append-nil ls) (AllNeed.more needs AllNeed.none)
all_need_last {class = class} {own = own} {param = param} {x = x} {ls = ls} (AllNeed.more {x = y} {xs = xs} {ks = js} {ls = ks} first others) needs =
    subst (AllNeed class own param (y ∷ (xs ++ x ∷ []))) (sym (append_assoc js ks ls)) (AllNeed.more first (all_need_last others needs))

cons_behind : {B : Type 0} (o : Option B) (us vs ws : List B) → us ≡ vs ++ ws → cons_option o us ≡ cons_option o vs ++ ws
cons_behind None us vs ws e = e
cons_behind (Some z) us vs ws e = ap (λ xs. z ∷ xs) e

filter_map-last : {A B : Type 0} (f : A → Option B) (xs : List A) (x : A) → filter_map f (xs ++ x ∷ []) ≡ filter_map f xs ++ cons_option (f x) []
filter_map-last f [] x = refl
filter_map-last f (y ∷ ys) x = cons_behind (f y) _ _ _ (filter_map-last f ys x)

-- what is kept of a front with one more item
pub filter_map-take : {A B : Type 0} (f : A → Option B) (xs : List A) (i : ℕ) (x : A) → i < length xs → x ≡ get_or xs i x → filter_map f (take (i + 1) xs) ≡ filter_map f (take i xs) ++ cons_option (f x) []
filter_map-take f xs i x within is =
    ap (filter_map f) (take_more xs i x within ∙ ap (λ y. take i xs ++ y ∷ []) (sym is)) ∙ filter_map-last f (take i xs) x

-- what holds on `Ok` in another form
pub into_ok : {A E : Type 0} (r : Result A E) (P Q : Type 0) → (P → Q) → OnOk r P → OnOk r Q
into_ok (Ok x) P Q into h = into h
into_ok (Err e) P Q into h = h

module _ (ex : Exceptions) (params : List GenericParam) (self : List ℕ) where
  -- ---- one more argument

  pub adds_none : (old : List Asked) → AddsAll ex params self [] old old
  adds_none old = record { keys = λ bound. ([], AllNeed.none, sym (append-nil (keys_of bound old))); read = λ names read asked. asked }

  -- of a type that was added behind others
  pub adds_type : (types : List Ty) (ty : Ty) (old mid new : List Asked) → AddsAll ex params self types old mid → Adds ex params self ty mid new → AddsAll ex params self (types ++ ty ∷ []) old new
  adds_type types ty old mid new all one = record {
    keys = λ bound.
        (let a = all.keys bound in
        let b = one.keys bound in
        (a.0 ++ b.0, all_need_last a.1 b.1, b.2 ∙ ap (λ ks. ks ++ b.0) a.2 ∙ append_assoc (keys_of bound old) a.0 b.0));
    read = λ names read asked. one.read names (all_behind IsReadType types (ty ∷ []) read).0 (all.read names (all_front IsReadType types (ty ∷ []) read) asked);
  }

  pub step_type : (items : List AngleArg) (i : ℕ) (a : AngleArg) (ty : Ty) (old mid new : List Asked) → i < length items → a ≡ get_or items i a → plain_of a ≡ Some ty
      → AddsAll ex params self (filter_map plain_of (take i items)) old mid → Adds ex params self ty mid new → AddsAll ex params self (filter_map plain_of (take (i + 1) items)) old new
  step_type items i a ty old mid new within item is all one =
      subst (λ ts. AddsAll ex params self ts old new)
      (sym (filter_map-take plain_of items i a within item ∙ ap (λ o. filter_map plain_of (take i items) ++ cons_option o []) is))
      (adds_type (filter_map plain_of (take i items)) ty old mid new all one)

  pub step_other : (items : List AngleArg) (i : ℕ) (a : AngleArg) (old mid : List Asked) → i < length items → a ≡ get_or items i a → plain_of a ≡ None
      → AddsAll ex params self (filter_map plain_of (take i items)) old mid → AddsAll ex params self (filter_map plain_of (take (i + 1) items)) old mid
  step_other items i a old mid within item is all =
      subst (λ ts. AddsAll ex params self ts old mid)
      (sym (filter_map-take plain_of items i a within item ∙ ap (λ o. filter_map plain_of (take i items) ++ cons_option o []) is ∙ append-nil (filter_map plain_of (take i items)))) all

  -- ---- classes

  nothing_if : (a b c : Bool) (o : Option (List Ty)) (names : List (List ℕ)) → a ≡ true → AsksNothing (class_by params ex self a b o c names)
  nothing_if true b c o names h = tt
  nothing_if false b c o names h = absurd (cc)

  nothing_unless : (a b c : Bool) (o : Option (List Ty)) (names : List (List ℕ)) → b ≡ false → AsksNothing (class_by params ex self a b o c names)
  nothing_unless true b c o names h = tt
  nothing_unless false true c o names h = absurd (cc)
  nothing_unless false false c o names h = tt

  -- of a type that asks nothing
  adds_nothing : (ty : Ty) (old : List Asked) → AsksNothing (class_of params ex self ty) → Adds ex params self ty old old
  adds_nothing ty old nothing = record { keys = λ bound. ([], Needs.nothing ty nothing, sym (append-nil (keys_of bound old))); read = λ names read asked. asked }

  pub adds_unconditional : (ty : Ty) (old : List Asked) → is_unconditional params ex ty ≡ true → Adds ex params self ty old old
  adds_unconditional ty old h = adds_nothing ty old (nothing_if (is_unconditional params ex ty) _ _ _ _ h)

  pub adds_without : (ty : Ty) (old : List Asked) → uses_params params ty ≡ false → Adds ex params self ty old old
  adds_without ty old h = adds_nothing ty old (nothing_unless _ (uses_params params ty) _ _ _ h)

  class_forwarding : (a b c : Bool) (o : Option (List Ty)) (names : List (List ℕ)) (ts : List Ty) → a ≡ false → b ≡ true → o ≡ Some ts → class_by params ex self a b o c names ≡ forwarding ts
  class_forwarding a b c o names ts h k e = λ i. class_by params ex self (h i) (k i) (e i) c names

  class_mentioning : (a b c : Bool) (o : Option (List Ty)) (names : List (List ℕ)) → a ≡ false → b ≡ true → o ≡ None → c ≡ true → class_by params ex self a b o c names ≡ mentioning names
  class_mentioning a b c o names h k e m = λ i. class_by params ex self (h i) (k i) (e i) (m i) names

  class_other : (a b c : Bool) (o : Option (List Ty)) (names : List (List ℕ)) → a ≡ false → b ≡ true → o ≡ None → c ≡ false → class_by params ex self a b o c names ≡ other
  class_other a b c o names h k e m = λ i. class_by params ex self (h i) (k i) (e i) (m i) names

  -- ---- parts

  -- a form that is no path has none
  pub behind_none : (f : TypeForm) → ((o : Option Ty) (p : Path) → f ≡ made_form.Path o p → ⊥) → types_behind f ≡ []
  behind_none (form.Path' held p) none = absurd (none (view-Args-Round-1 held) p (ap (λ h. form.Path' h p) (sym (backs-Args-Round-1 held))))
  behind_none (form.Paren' s ty) none = refl
  behind_none (form.Tuple' s types) none = refl
  behind_none form.Never none = refl
  behind_none (form.Reference' mutable s ty) none = refl
  behind_none (form.Pointer' s ty) none = refl
  behind_none (form.Slice' s ty) none = refl
  behind_none (form.Array' s ty length) none = refl
  behind_none (form.FnPtr' s inputs output) none = refl
  behind_none (form.TraitObject' s paths) none = refl

  parts_if : (f : TypeForm) → forwards_at params ex (path_of_form f) ≡ true → parts_by params ex (path_of_form f) ≡ Some (types_behind f)
  parts_if (form.Path' args.Args-Round-1-None' p) h = ap (λ b. if b then Some (last_types p) else None) h
  parts_if (form.Path' (args.Some' s ty) p) h = absurd (cc)
  parts_if (form.Paren' s ty) h = absurd (cc)
  parts_if (form.Tuple' s types) h = absurd (cc)
  parts_if form.Never h = absurd (cc)
  parts_if (form.Reference' mutable s ty) h = absurd (cc)
  parts_if (form.Pointer' s ty) h = absurd (cc)
  parts_if (form.Slice' s ty) h = absurd (cc)
  parts_if (form.Array' s ty length) h = absurd (cc)
  parts_if (form.FnPtr' s inputs output) h = absurd (cc)
  parts_if (form.TraitObject' s paths) h = absurd (cc)

  no_parts_if : (o : Option Path) → forwards_at params ex o ≡ false → parts_by params ex o ≡ None
  no_parts_if None h = refl
  no_parts_if (Some p) h = ap (λ b. if b then Some (last_types p) else None) h

  pub adds_parts : (ty : Ty) (old new : List Asked) → is_unconditional params ex ty ≡ false → uses_params params ty ≡ true → is_forwarding params ex ty ≡ true → AddsAll ex params self (types_behind ty.form) old new
      → Adds ex params self ty old new
  adds_parts ty old new a b f all =
      let parts = parts_if ty.form f in
      record {
        keys = λ bound.
            (let m = all.keys bound in
            (m.0, Needs.forwards ty (types_behind ty.form) (class_forwarding _ _ (mentions_named params self ty) _ (names_in params ex ty) (types_behind ty.form) a b parts) m.1, m.2));
        read = λ names read asked. all.read names (parts_read depth_limit params ex ty (types_behind ty.form) read parts) asked;
      }

  pub adds_names : (ty : Ty) (old new : List Asked) → is_unconditional params ex ty ≡ false → uses_params params ty ≡ true → is_forwarding params ex ty ≡ false → mentions_named params self ty ≡ true
      → AddsNames (names_in params ex ty) old new → Adds ex params self ty old new
  adds_names ty old new a b f m added = record {
    keys = λ bound. (
      map (param_of bound) (names_in params ex ty),
      Needs.mentions ty (names_in params ex ty) (class_mentioning _ _ _ _ (names_in params ex ty) a b (no_parts_if (path_of_form ty.form) f) m),
      added.keys bound,
    );
    read = λ names read asked. added.read ex params self (names_named ex params self ty names) asked;
  }

  pub adds_itself : (ty : Bor Ty) (old new : List Asked) → is_unconditional params ex ty.now ≡ false → uses_params params ty.now ≡ true → is_forwarding params ex ty.now ≡ false → mentions_named params self ty.now ≡ false
      → new ≡ old ++ Itself ty ∷ [] → Adds ex params self ty.now old new
  adds_itself ty old new a b f m is =
      let class = class_other _ _ _ _ (names_in params ex ty.now) a b (no_parts_if (path_of_form ty.now.form) f) m in
      record {
        keys = λ bound. (own_of bound ty.now ∷ [], Needs.itself ty.now class, ap (keys_of bound) is ∙ map-append (key_of bound) old (Itself ty ∷ []));
        read = λ names read asked.
            subst (AreAskedRead params ex self) (sym is) (all_append (IsAskedRead params ex self) old (Itself ty ∷ []) asked (record { reads = read; class = class }, tt));
      }

-- ---- names

pub adds_no_names : (old : List Asked) → AddsNames [] old old
adds_no_names old = record { keys = λ bound. sym (append-nil (keys_of bound old)); read = λ ex params self names asked. asked }

-- names that are added after others
pub adds_more_names : (names more : List (List ℕ)) (old mid new : List Asked) → AddsNames names old mid → AddsNames more mid new → AddsNames (names ++ more) old new
adds_more_names names more old mid new first second = record {
  keys = λ bound.
      second.keys bound ∙ ap (λ ks. ks ++ map (param_of bound) more) (first.keys bound) ∙ append_assoc (keys_of bound old) (map (param_of bound) names) (map (param_of bound) more)
      ∙ ap (λ ks. keys_of bound old ++ ks) (sym (map-append (param_of bound) names more));
  read = λ ex params self are asked. second.read ex params self (all_behind IsName names more are) (first.read ex params self (all_front IsName names more are) asked);
}
