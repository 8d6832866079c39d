-- Type parameters that a type names, collected in one walk.
use Rattle.std.proofs.Common.{◌≡◌, ℕ, ◌+◌, ◌<◌, Bool, true, false, not, ◌&&◌, ◌||◌, cond, List, [], ◌∷◌, ◌++◌, take, get_or, length, filter, refl, ap, sym, ◌∙◌, Some}
use Rattle.std.specs.Prelude.{slice_get}
use Rattle.std.specs.List.{list_any, filter_map}
use Rattle.std.specs.Str.{bytes_eq}
use Rattle.std.proofs.lemmas.List.{take_more}
use Rattle.std.proofs.lemmas.List.Folds.{list_any-append}
use Rattle.std.proofs.lemmas.Slice.Eq.{bytes_eq-Decides}
use Rattle.educe_tree.specs.declared.generics.GenericParam.{GenericParam}
use Rattle.educe_tree.specs.declared.generics.GenericParam.TheVariants.{Lifetime, TypeParam, Const}
use Rattle.educe_tree.specs.declared.path.Path.{Path, out-Path}
use Rattle.educe_tree.specs.declared.path.Segment.{Segment}
use Rattle.educe_tree.specs.declared.ty.Ty.{Ty}
use Rattle.educe_bound_classes.specs.Exceptions.{Exceptions}
use Rattle.educe_bound_classes.specs.Params.{is_type_param}
use Rattle.educe_bound_classes.specs.Paths.{name_passes, begins_with}
use Rattle.educe_bound_classes.specs.Texts.{has_text, AddsTexts, IsSetOf}
use Rattle.educe_bound_classes.specs.Walk.{Question, in_type, in_path, in_segments}
use Rattle.educe_bound_classes.specs.Classes.{type_name, name_of, names_in, is_unconditional_path}
use Rattle.educe_bound_classes.specs.Collects.{AddsWhere, Collects}
use Rattle.educe_bound_classes.proofs.Walks.{in_path-out}

-- ---- booleans

or_false : (b : Bool) → (b || false) ≡ b
or_false true = refl
or_false false = refl

and_false : (b : Bool) → (b && false) ≡ false
and_false true = refl
and_false false = refl

or_and_false : (h p : Bool) → (h || (p && false)) ≡ h
or_and_false h p = ap (λ b. h || b) (and_false p) ∙ or_false h

or_shared : (h p a b : Bool) → ((h || (p && a)) || (p && b)) ≡ (h || (p && (a || b)))
or_shared true p a b = refl
or_shared false true a b = refl
or_shared false false a b = refl

and_by : (h t : Bool) → false ≡ t → (h && t) ≡ t
and_by true t is = refl
and_by false t is = is

or_second : (a b : Bool) → b ≡ true → (a || b) ≡ true
or_second true b is = refl
or_second false b is = is

-- ---- one walk

pub any_take : {A : Type 0} (test : A → Bool) (xs : List A) (i : ℕ) (x : A) → i < length xs → x ≡ get_or xs i x → list_any test (take (i + 1) xs) ≡ (list_any test (take i xs) || test x)
any_take test xs i x within is =
    ap (list_any test) (take_more xs i x within ∙ ap (λ y. take i xs ++ y ∷ []) (sym is)) ∙ list_any-append test (take i xs) (x ∷ []) ∙ ap (λ b. list_any test (take i xs) || b) (or_false (test x))

-- the texts of one more item of a list
pub set_more : {A : Type 0} (test : List ℕ → A → Bool) (items : List A) (i : ℕ) (x : A) (old new : List (List ℕ)) → i < length items → x ≡ get_or items i x
    → IsSetOf (λ text. list_any (test text) (take i items)) old → AddsWhere (λ text. test text x) old new → IsSetOf (λ text. list_any (test text) (take (i + 1) items)) new
set_more test items i x old new within is set adds text = adds text ∙ ap (λ b. b || test text x) (set text) ∙ sym (any_take (test text) items i x within is)

module _ (params : List GenericParam) (ex : Exceptions) where
  -- where the answer is no, none is added
  pub collects_none : (answer : Question → Bool) (old : List (List ℕ)) → ((text : List ℕ) → answer (name_of params ex text) ≡ false) → Collects params ex answer old old
  collects_none answer old none text = sym (ap (λ b. has_text old text || (is_type_param params text && b)) (none text) ∙ or_and_false (has_text old text) (is_type_param params text))

  -- two questions with the same answers
  pub collects_as : (a b : Question → Bool) (old new : List (List ℕ)) → ((text : List ℕ) → a (name_of params ex text) ≡ b (name_of params ex text)) → Collects params ex a old new → Collects params ex b old new
  collects_as a b old new same adds text = adds text ∙ ap (λ x. has_text old text || (is_type_param params text && x)) (same text)

  -- one place behind the other
  pub collects_both : (a b : Question → Bool) (old mid new : List (List ℕ)) → Collects params ex a old mid → Collects params ex b mid new → Collects params ex (λ q. a q || b q) old new
  collects_both a b old mid new first second text =
      let q = name_of params ex text in
      second text ∙ ap (λ x. x || (is_type_param params text && b q)) (first text) ∙ or_shared (has_text old text) (is_type_param params text) (a q) (b q)

  -- ---- paths

  -- what stands before a path changes nothing
  pub path_behind : (b : Bool) (p : Path) (text : List ℕ) → in_path (name_of params ex text) false p ≡ in_path (name_of params ex text) b p
  path_behind b p text = in_path-out (name_of params ex text) false p ∙ sym (in_path-out (name_of params ex text) b p)

  pub path_passed : (p : Path) → is_unconditional_path params ex p ≡ true → (text : List ℕ) → in_path (name_of params ex text) false p ≡ false
  path_passed p passes text =
      let q = name_of params ex text in
      in_path-out q false p ∙ ap (λ b. not b && (q.at_path false p || in_segments q (out-Path p).segments)) passes

  pub path_walked : (p : Path) (segments : List Segment) → segments ≡ (out-Path p).segments → is_unconditional_path params ex p ≡ false
      → (text : List ℕ) → ((name_of params ex text).at_path false p || in_segments (name_of params ex text) segments) ≡ in_path (name_of params ex text) false p
  path_walked p segments is passes text =
      let q = name_of params ex text in
      ap (λ (found : List Segment). q.at_path false p || in_segments q found) is
      ∙ sym (in_path-out q false p ∙ ap (λ b. not b && (q.at_path false p || in_segments q (out-Path p).segments)) passes)

-- ---- the name of a first segment

same_param : (params : List GenericParam) (text name : List ℕ) (b : Bool) → bytes_eq text name ≡ b → (is_type_param params text && b) ≡ (is_type_param params name && b)
same_param params text name true is = ap (λ x. is_type_param params x && true) ((bytes_eq-Decides text name).0 is)
same_param params text name false is = and_false (is_type_param params text) ∙ sym (and_false (is_type_param params name))

-- a name is a type parameter where the text that it is is one
param_named : (params : List GenericParam) (text name : List ℕ) → (is_type_param params text && bytes_eq text name) ≡ (is_type_param params name && bytes_eq text name)
param_named params text name = same_param params text name (bytes_eq text name) refl

first_is : (p : Path) (s : Segment) → Some s ≡ slice_get (out-Path p).segments 0 → (out-Path p).leading ≡ false → (text : List ℕ) → bytes_eq text s.ident.text ≡ begins_with (λ name. bytes_eq text name) p
first_is p s is plain text = λ i. not (sym plain i) && name_passes (λ name. bytes_eq text name) (is i)

-- the name that is added is the type parameter with which the path begins
pub first_added : (params : List GenericParam) (p : Path) (s : Segment) → Some s ≡ slice_get (out-Path p).segments 0 → (out-Path p).leading ≡ false → is_type_param params s.ident.text ≡ true
    → (text : List ℕ) → (bytes_eq text s.ident.text || false) ≡ (is_type_param params text && begins_with (λ name. bytes_eq text name) p)
first_added params p s is plain param text =
    or_false (bytes_eq text s.ident.text) ∙ ap (λ b. b && bytes_eq text s.ident.text) (sym param) ∙ sym (param_named params text s.ident.text)
    ∙ ap (λ b. is_type_param params text && b) (first_is p s is plain text)

-- ---- names of parameters

has_head : (x text : List ℕ) (ys : List (List ℕ)) (h t e b : Bool) → bytes_eq text x ≡ e → (e ≡ true → b ≡ t) → has_text ys text ≡ (h && t) → has_text (cond b (x ∷ ys) ys) text ≡ ((e || h) && t)
has_head x text ys h t true true is same more = ap (λ c. c || has_text ys text) is ∙ same refl
has_head x text ys h t false true is same more = ap (λ c. c || has_text ys text) is ∙ more
has_head x text ys h t true false is same more = more ∙ and_by h t (same refl)
has_head x text ys h t false false is same more = more

has_filter : (test : List ℕ → Bool) (xs : List (List ℕ)) (text : List ℕ) → has_text (filter test xs) text ≡ (has_text xs text && test text)
has_filter test [] text = refl
has_filter test (x ∷ xs) text =
    has_head x text (filter test xs) (has_text xs text) (test text) (bytes_eq text x) (test x) refl (λ same. ap test (sym ((bytes_eq-Decides text x).0 same))) (has_filter test xs text)

has_names : (params : List GenericParam) (text : List ℕ) → has_text (filter_map type_name params) text ≡ is_type_param params text
has_names [] text = refl
has_names (Lifetime p ∷ params) text = has_names params text
has_names (TypeParam p ∷ params) text = ap (λ b. bytes_eq text p.ident.text || b) (has_names params text)
has_names (Const p ∷ params) text = has_names params text

-- what is collected in a type are its names
pub adds_names_in : (params : List GenericParam) (ex : Exceptions) (ty : Ty) (old new : List (List ℕ)) → Collects params ex (λ q. in_type q ty) old new → AddsTexts (names_in params ex ty) old new
adds_names_in params ex ty old new adds text =
    adds text
    ∙ ap (λ b. has_text old text || b) (sym (has_filter (λ name. in_type (name_of params ex name) ty) (filter_map type_name params) text ∙ ap (λ b. b && in_type (name_of params ex text) ty) (has_names params text)))

filter_alike : (one two : List ℕ → Bool) (xs : List (List ℕ)) → ((text : List ℕ) → has_text xs text ≡ true → one text ≡ two text) → filter one xs ≡ filter two xs
filter_alike one two [] alike = refl
filter_alike one two (x ∷ xs) alike =
    let here = alike x (ap (λ b. b || has_text xs x) ((bytes_eq-Decides x x).1 refl)) in
    let more = filter_alike one two xs (λ text h. alike text (or_second (bytes_eq text x) (has_text xs text) h)) in
    λ i. cond (here i) (x ∷ more i) (more i)

-- of all texts those that were added to none are those that pass
pub filter_found : (test : List ℕ → Bool) (xs found : List (List ℕ)) → AddsTexts (filter test xs) [] found → filter (has_text found) xs ≡ filter test xs
filter_found test xs found adds = filter_alike (has_text found) test xs (λ text h. adds text ∙ has_filter test xs text ∙ ap (λ b. b && test text) h)
