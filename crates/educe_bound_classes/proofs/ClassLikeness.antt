-- Types that are alike have the same class.
use Rattle.std.proofs.Common.{◌≡◌, ℕ, zero, suc, ◌-◌, ◌+◌, nat_lt, Bool, true, false, not, ◌&&◌, ◌||◌, List, [], ◌∷◌, length, refl, ap, sym, subst, ◌∙◌, cond, Option, Some, None, codes, count_by}
use Rattle.std.specs.Prelude.{is_some, slice_get, if◌then◌else◌}
use Rattle.std.specs.List.{list_any, fold}
use Rattle.std.specs.Str.{bytes_eq}
use Rattle.educe_tokens.specs.TokenKind.{TokenKind}
use Rattle.educe_tokens.specs.TokenKind.TheVariants as kind
use Rattle.educe_tokens.specs.declared.token.Token.{Token}
use Rattle.educe_tokens.specs.Lexes.{Lexeme}
use Rattle.educe_tree.specs.declared.generics.GenericParam.{GenericParam}
use Rattle.educe_tree.specs.declared.ty.Ty.{Ty}
use Rattle.educe_tree.specs.declared.ty.TypeForm.{TypeForm}
use Rattle.educe_tree.specs.declared.path.Path.{Path, out-Path, out-roll-Path}
use Rattle.educe_tree.specs.declared.path.Segment.{Segment}
use Rattle.educe_tree.specs.declared.path.Args.{Args}
use Rattle.educe_tree.specs.declared.path.AngleArg.{AngleArg}
use Rattle.educe_grammar.specs.Types.{path_of}
use Rattle.educe_grammar.specs.Alike.{kind_aside, lexeme_aside, AreEqualAside, AlikeTypes, AlikeForms, AlikeOptions, AlikePaths, AlikeSegments, AllSegmentsAlike, AlikeArgs, AlikeAngleArgs, AllArgsAlike}
use Rattle.educe_grammar.proofs.Aside.{aside_first, aside_rest, aside_empty}
use Rattle.educe_bound_classes.specs.Exceptions.{Exceptions}
use Rattle.educe_bound_classes.specs.Deriving.{other}
use Rattle.educe_bound_classes.specs.Params.{is_param, is_type_param}
use Rattle.educe_bound_classes.specs.Paths.{name_passes, begins_with}
use Rattle.educe_bound_classes.specs.Questions.{mention_of, is_param_at, is_param_word, use_of, uses_params}
use Rattle.educe_bound_classes.specs.Classes.{is_one_of, is_plain, has_angle, type_count, last_segment, args_at, is_named_at, is_overfull, matches_at, path_of_form, matches, is_unconditional_path, is_unconditional_form, is_unconditional, forwards, parts_by, parts_of, mentions, names_in, class_by, class_of}
use Rattle.educe_bound_classes.proofs.ClassLaws.{angle_of-Angle}
use Rattle.educe_bound_classes.proofs.Likeness.{IsByLikeness, segments_are, types_answer}

-- ---- words

-- whether a word is a parameter rests on its kind, jointness aside, and its spelling
param_aside : (params : List GenericParam) (k : TokenKind) (text : List ℕ) → is_param_at params k text ≡ is_param_at params (kind_aside k) text
param_aside params kind.Ident text = refl
param_aside params kind.Lifetime text = refl
param_aside params (kind.Literal l) text = refl
param_aside params (kind.Punct c joint) text = refl
param_aside params (kind.Start b) text = refl
param_aside params (kind.Stop b) text = refl
param_aside params kind.Doc text = refl

word_same : (params : List GenericParam) (t u : Token) → lexeme_aside t ≡ lexeme_aside u → is_param_word params t ≡ is_param_word params u
word_same params t u same =
    param_aside params t.kind t.spelling ∙ ap (λ (l : Lexeme). is_param_at params l.kind l.spelling) same ∙ sym (param_aside params u.kind u.spelling)

words_same : (params : List GenericParam) (ts us : List Token) → AreEqualAside ts us → list_any (λ t. is_param_word params t) ts ≡ list_any (λ t. is_param_word params t) us
words_same params [] [] same = refl
words_same params [] (u ∷ us) same = absurd (aside_empty u us same)
words_same params (t ∷ ts) [] same = absurd (aside_empty t ts (sym same))
words_same params (t ∷ ts) (u ∷ us) same = λ i. word_same params t u (aside_first t u ts us same) i || words_same params ts us (aside_rest t u ts us same) i

-- ---- segments

-- both are there and alike, or neither is
abbrev BothAlike : Option Segment → Option Segment → Type 0
BothAlike None None = Unit {0}
BothAlike None (Some y) = ⊥
BothAlike (Some x) None = ⊥
BothAlike (Some x) (Some y) = AlikeSegments x y

at_index : {xs ys : List Segment} (k : ℕ) → AllSegmentsAlike xs ys → BothAlike (slice_get xs k) (slice_get ys k)
at_index k AllSegmentsAlike.no_segments = tt
at_index zero (AllSegmentsAlike.more_segments is all) = is
at_index (suc k) (AllSegmentsAlike.more_segments is all) = at_index k all

lengths_same : {xs ys : List Segment} → AllSegmentsAlike xs ys → length xs ≡ length ys
lengths_same AllSegmentsAlike.no_segments = refl
lengths_same (AllSegmentsAlike.more_segments is all) = ap suc (lengths_same all)

names_same : {x y : Segment} → AlikeSegments x y → x.ident.text ≡ y.ident.text
names_same (AlikeSegments.of_args i j same is) = same

args_alike : {x y : Segment} → AlikeSegments x y → AlikeArgs x.args y.args
args_alike (AlikeSegments.of_args i j same is) = is

passes_same : (test : List ℕ → Bool) (o r : Option Segment) → BothAlike o r → name_passes test o ≡ name_passes test r
passes_same test None None is = refl
passes_same test None (Some y) is = absurd is
passes_same test (Some x) None is = absurd is
passes_same test (Some x) (Some y) is = ap test (names_same is)

any_name_same : (test : List ℕ → Bool) {xs ys : List Segment} → AllSegmentsAlike xs ys → list_any (λ s. test s.ident.text) xs ≡ list_any (λ s. test s.ident.text) ys
any_name_same test AllSegmentsAlike.no_segments = refl
any_name_same test (AllSegmentsAlike.more_segments is all) = λ i. test (names_same is i) || any_name_same test all i

-- ---- arguments

plain_same : {a b : AngleArg} → AlikeAngleArgs a b → is_plain a ≡ is_plain b
unfolding is_plain
plain_same (AlikeAngleArgs.lifetimes l m same) = refl
plain_same (AlikeAngleArgs.plain_types is) = refl
plain_same (AlikeAngleArgs.bindings i j same is) = refl
plain_same (AlikeAngleArgs.constants v w same) = refl

-- how many types are counted, and those of more arguments
abbrev counted : ℕ → List AngleArg → ℕ
counted n xs = fold (λ a x. a + cond (is_plain x) 1 0) n xs

counted_same : (n : ℕ) {xs ys : List AngleArg} → AllArgsAlike xs ys → counted n xs ≡ counted n ys
counted_same n AllArgsAlike.no_more = refl
counted_same n (AllArgsAlike.more_args {x = x} {y = y} {xs = xs} {ys = ys} is all) =
    ap (λ b. counted (n + cond b 1 0) xs) (plain_same is) ∙ counted_same (n + cond (is_plain y) 1 0) all

counts_same : {xs ys : List AngleArg} → AllArgsAlike xs ys → count_by is_plain xs ≡ count_by is_plain ys
counts_same all = counted_same 0 all

type_counts_same : {a b : Args} → AlikeArgs a b → type_count a ≡ type_count b
type_counts_same AlikeArgs.no_args = refl
type_counts_same (AlikeArgs.in_angles {xs = xs} {ys = ys} all) = ap (count_by is_plain) (angle_of-Angle xs) ∙ counts_same all ∙ sym (ap (count_by is_plain) (angle_of-Angle ys))
type_counts_same (AlikeArgs.in_round all output) = refl

has_angle_same : {a b : Args} → AlikeArgs a b → has_angle a ≡ has_angle b
has_angle_same AlikeArgs.no_args = refl
has_angle_same (AlikeArgs.in_angles all) = refl
has_angle_same (AlikeArgs.in_round all output) = refl

-- ---- paths

-- the parts of paths that are alike
record Parts (x y : Path) : Type 0 where
  leading : (out-Path x).leading ≡ (out-Path y).leading
  first : BothAlike (slice_get (out-Path x).segments 0) (slice_get (out-Path y).segments 0)
  last : BothAlike (last_segment x) (last_segment y)
  any : (test : List ℕ → Bool) → list_any (λ s. test s.ident.text) (out-Path x).segments ≡ list_any (λ s. test s.ident.text) (out-Path y).segments

pub leading_is : (leading : Bool) (xs : List Segment) → (out-Path (path_of leading xs)).leading ≡ leading
leading_is leading xs = ap (λ r. r.leading) (out-roll-Path _)

-- other lists
moved : {A : Type 0} (Q : A → A → Type 0) {us vs xs ys : A} → us ≡ xs → vs ≡ ys → Q xs ys → Q us vs
moved Q {us = us} {ys = ys} e f is = subst (λ v. Q us v) (sym f) (subst (λ u. Q u ys) (sym e) is)

last_alike : {xs ys : List Segment} → AllSegmentsAlike xs ys → BothAlike (slice_get xs (length xs - 1)) (slice_get ys (length ys - 1))
last_alike {xs = xs} {ys = ys} all = subst (λ n. BothAlike (slice_get xs (length xs - 1)) (slice_get ys (n - 1))) (lengths_same all) (at_index (length xs - 1) all)

parts_alike : {x y : Path} → AlikePaths x y → Parts x y
parts_alike (AlikePaths.of_segments leading {xs = xs} {ys = ys} all) =
    let e = segments_are leading xs in
    let f = segments_are leading ys in
    record {
      leading = leading_is leading xs ∙ sym (leading_is leading ys);
      first = moved (λ us vs. BothAlike (slice_get us 0) (slice_get vs 0)) e f (at_index 0 all);
      last = moved (λ us vs. BothAlike (slice_get us (length us - 1)) (slice_get vs (length vs - 1))) e f (last_alike all);
      any = λ test. ap (list_any (λ s. test s.ident.text)) e ∙ any_name_same test all ∙ sym (ap (list_any (λ s. test s.ident.text)) f);
    }

-- paths that are alike begin alike
begins_same : (test : List ℕ → Bool) {x y : Path} → AlikePaths x y → begins_with test x ≡ begins_with test y
begins_same test {x = x} {y = y} is =
    let p = parts_alike is in
    λ i. not (p.leading i) && passes_same test (slice_get (out-Path x).segments 0) (slice_get (out-Path y).segments 0) p.first i

-- the last segments of paths that are alike are alike
overfull_same : {x y : Segment} → AlikeSegments x y → is_overfull x ≡ is_overfull y
overfull_same is = λ i.
    (bytes_eq (codes "HashMap") (names_same is i) && nat_lt 2 (type_counts_same (args_alike is) i))
    || (bytes_eq (codes "HashSet") (names_same is i) && nat_lt 1 (type_counts_same (args_alike is) i))

named_same : (name : List ℕ) (o r : Option Segment) → BothAlike o r → is_named_at name o ≡ is_named_at name r
named_same name None None is = refl
named_same name None (Some y) is = absurd is
named_same name (Some x) None is = absurd is
named_same name (Some x) (Some y) is = ap (bytes_eq name) (names_same is)

match_same : (names : List (List ℕ)) (o r : Option Segment) → BothAlike o r → matches_at names o ≡ matches_at names r
match_same names None None is = refl
match_same names None (Some y) is = absurd is
match_same names (Some x) None is = absurd is
match_same names (Some x) (Some y) is = λ i. not (overfull_same is i) && is_one_of names (names_same is i)

angle_same : (o r : Option Segment) → BothAlike o r → has_angle (args_at o) ≡ has_angle (args_at r)
angle_same None None is = refl
angle_same None (Some y) is = absurd is
angle_same (Some x) None is = absurd is
angle_same (Some x) (Some y) is = has_angle_same (args_alike is)

module _ (params : List GenericParam) where
  matches_same : (names : List (List ℕ)) {x y : Path} → AlikePaths x y → matches params names x ≡ matches params names y
  matches_same names {x = x} {y = y} is =
      let p = parts_alike is in λ i. not (begins_same (is_type_param params) is i) && match_same names (last_segment x) (last_segment y) p.last i

  -- the question whether a type uses parameters
  pub use_by : IsByLikeness (use_of params)
  use_by = record {
    paths = λ behind x y is. begins_same (is_param params) is;
    words = words_same params;
    passes = λ x y is. refl;
  }

  module _ (ex : Exceptions) where
    unconditional_path_same : {x y : Path} → AlikePaths x y → is_unconditional_path params ex x ≡ is_unconditional_path params ex y
    unconditional_path_same {x = x} {y = y} is =
        let p = parts_alike is in
        λ i. (not (begins_same (is_type_param params) is i) && named_same (codes "PhantomData") (last_segment x) (last_segment y) p.last i)
        || matches_same ex.unconditional is i

    unconditional_form_same : {f g : TypeForm} → AlikeForms f g → is_unconditional_form params ex f ≡ is_unconditional_form params ex g
    unconditional_form_same (AlikeForms.parens is) = refl
    unconditional_form_same (AlikeForms.tuples all) = refl
    unconditional_form_same AlikeForms.nevers = refl
    unconditional_form_same (AlikeForms.references mutable is) = refl
    unconditional_form_same (AlikeForms.pointers is) = refl
    unconditional_form_same (AlikeForms.slices is) = refl
    unconditional_form_same (AlikeForms.arrays v w same is) = refl
    unconditional_form_same (AlikeForms.paths AlikeOptions.neither is) = unconditional_path_same is
    unconditional_form_same (AlikeForms.paths (AlikeOptions.both_some self) is) = refl
    unconditional_form_same (AlikeForms.functions all output) = refl
    unconditional_form_same (AlikeForms.objects all) = refl

    forwards_same : {x y : Path} → AlikePaths x y → forwards params ex x ≡ forwards params ex y
    forwards_same {x = x} {y = y} is =
        let p = parts_alike is in λ i. matches_same ex.forwarding is i && angle_same (last_segment x) (last_segment y) p.last i

    -- whether there are parts rests on the path
    some_parts : (p : Path) → is_some (parts_by params ex (Some p)) ≡ forwards params ex p
    some_parts p = some_if (forwards params ex p) _
      where
        some_if : (b : Bool) (types : List Ty) → is_some (if b then Some types else None) ≡ b
        some_if true types = refl
        some_if false types = refl

    parts_same : {f g : TypeForm} → AlikeForms f g → is_some (parts_by params ex (path_of_form f)) ≡ is_some (parts_by params ex (path_of_form g))
    parts_same (AlikeForms.parens is) = refl
    parts_same (AlikeForms.tuples all) = refl
    parts_same AlikeForms.nevers = refl
    parts_same (AlikeForms.references mutable is) = refl
    parts_same (AlikeForms.pointers is) = refl
    parts_same (AlikeForms.slices is) = refl
    parts_same (AlikeForms.arrays v w same is) = refl
    parts_same (AlikeForms.paths {p = p} {q = q} AlikeOptions.neither is) = some_parts p ∙ forwards_same is ∙ sym (some_parts q)
    parts_same (AlikeForms.paths (AlikeOptions.both_some self) is) = refl
    parts_same (AlikeForms.functions all output) = refl
    parts_same (AlikeForms.objects all) = refl

    module _ (self : List ℕ) where
      -- the question whether a type mentions the derived type
      pub mention_by : IsByLikeness (mention_of params self)
      mention_by = record {
        paths = λ behind x y is.
            let p = parts_alike is in
            λ i. not behind && (not (begins_same (is_type_param params) is i)
            && (p.any (λ text. bytes_eq self text) i || begins_same (λ text. bytes_eq (codes "Self") text) is i));
        words = λ ts us same. refl;
        passes = λ x y is. refl;
      }

      -- the class `other` rests on these alone
      other_by : (a b c : Bool) (o : Option (List Ty)) (names : List (List ℕ)) (d e f : Bool) (r : Option (List Ty)) (others : List (List ℕ)) → a ≡ d → b ≡ e → is_some o ≡ is_some r → c ≡ f
          → class_by params ex self d e r f others ≡ other → class_by params ex self a b o c names ≡ other
      other_by a b c o names true e f r others p q s t is = absurd (cc)
      other_by a b c o names false false f r others p q s t is = absurd (cc)
      other_by a b c o names false true f (Some parts) others p q s t is = absurd (cc)
      other_by a b c o names false true true None others p q s t is = absurd (cc)
      other_by true b c o names false true false None others p q s t is = absurd (cc)
      other_by false false c o names false true false None others p q s t is = absurd (cc)
      other_by false true c (Some parts) names false true false None others p q s t is = absurd (cc)
      other_by false true true None names false true false None others p q s t is = absurd (cc)
      other_by false true false None names false true false None others p q s t is = refl

      -- Of types that are alike both are of the class `other`, or neither is.
      pub other_alike : {x y : Ty} → AlikeTypes x y → class_of params ex self y ≡ other → class_of params ex self x ≡ other
      other_alike {x = x} {y = y} (AlikeTypes.of_forms v w same is) h =
          other_by _ _ _ _ _ (is_unconditional params ex y) (uses_params params y) (mentions params ex self y) (parts_of params ex y) (names_in params ex y)
          (unconditional_form_same is) (types_answer (use_of params) use_by (AlikeTypes.of_forms v w same is)) (parts_same is)
          (types_answer (mention_of params self) mention_by (AlikeTypes.of_forms v w same is)) h
