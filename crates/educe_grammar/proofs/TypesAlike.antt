-- Types that are read of lists that are equal aside are alike.
use Rattle.std.proofs.Common.{◌≡◌, ℕ, Bool, true, false, List, [], ◌++◌, map, refl, ap, sym, subst, ◌∙◌, inl, inr, Option, Some, None}
use Rattle.std.specs.List.{cons_option}
use Rattle.educe_tokens.specs.Bracket.{Bracket}
use Rattle.educe_tree.specs.declared.ident.Ident.{Ident}
use Rattle.educe_tree.specs.declared.lifetime.Lifetime.{Lifetime}
use Rattle.educe_tree.specs.declared.expr.Expr.{Expr}
use Rattle.educe_tree.specs.declared.ty.Ty.{Ty}
use Rattle.educe_tree.specs.declared.ty.TypeForm.TheVariants as form
use Rattle.educe_tree.specs.declared.path.Path.{Path, out-Path, out-roll-Path}
use Rattle.educe_tree.specs.declared.path.Segment.{Segment}
use Rattle.educe_tree.specs.declared.path.Args.TheVariants as args
use Rattle.educe_tree.specs.declared.path.AngleArg.{AngleArg}
use Rattle.educe_tree.specs.declared.path.AngleArg.TheVariants as arg
use Rattle.educe_tokens.specs.Lexes.{Lexeme}
use Rattle.educe_grammar.specs.declared.ending.Ending.{Ending}
use Rattle.educe_grammar.specs.declared.ending.Ending.TheVariants.{Closed, Arguments, Name}
use Rattle.educe_grammar.specs.declared.terminal.Terminal.{Terminal}
use Rattle.educe_grammar.specs.Ahead.{Look}
use Rattle.educe_grammar.specs.Rules.{Rule, Typed, Part, TreeOf, empty, both, made, checked, either, nest, angles, under, arrow, list, lone, path, written, part, types, plains, exprs, trees}
use Rattle.educe_grammar.specs.Combining.{skipping, optional, flag}
use Rattle.educe_grammar.specs.Names.{name, segment_name, lifetime}
use Rattle.educe_grammar.specs.Types as grammar
use Rattle.educe_grammar.specs.Types.{constant_of, constant, binding_of, angle_arg, angle_args, ArgsRead, angle_read, returned, round_read, round_args, type_args, SegmentRead, segment_read, type_segment, type_segments, path_read, type_path, qualified_self, qualified_path, qualified_read, qualified, BoundRead, bound_path, bound, bounds, bound_paths, FormRead, round_of, round_form, never_of, reference_of, reference, pointer_of, pointer, square_of, square_form, fn_param, fn_of, fn_pointer, path_form, plain_form, bound_form, bounds_form, one_bound_form, any_bounds_form, typed_of, untyped_of, plain_type, any_type, path_of}
use Rattle.educe_grammar.specs.Alike.{AreEqualAside, AlikeTypes, AlikeForms, AlikeOptions, AllTypesAlike, AlikePaths, AllPathsAlike, AlikeSegments, AllSegmentsAlike, AlikeArgs, AlikeAngleArgs, AllArgsAlike}
use Rattle.educe_grammar.proofs.ReadAlike.{Pairwise, ReadAlike, related_as}

-- how parts that are read alike are related
abbrev pub Kin : (p : Part) → TreeOf p → TreeOf p → Type 0
Kin types x y = AlikeTypes x y
Kin plains x y = AlikeTypes x.0 y.0
Kin exprs x y = AreEqualAside x.written.tokens y.written.tokens
Kin trees x y = Unit {0}

-- What is read alike is so related.
record Relates {A : Type 0} (g : Rule A) (Q : A → A → Type 0) : Type 0 where
  relates : (x y : A) → ReadAlike Kin g x y → Q x y

-- ---- rules

-- of any values this can be said
any_related : {A : Type 0} (g : Rule A) → Relates g (λ _ _. Unit {0})
any_related g = record { relates = λ x y is. tt }

-- other values
made_related : {A B : Type 0} (f : A → B) (g : Rule A) (R : A → A → Type 0) (Q : B → B → Type 0) → ((x y : A) → R x y → Q (f x) (f y)) → Relates g R → Relates (made f g) Q
unfolding ReadAlike
made_related f g R Q into p = record { relates = λ x y is. related_as Q (sym is.2) (sym is.3) (into is.0 is.1 (p.relates is.0 is.1 is.4)) }

-- one rule and then another
both_related : {A B : Type 0} (g : Rule A) (h : Rule B) (Q : A → A → Type 0) (R : B → B → Type 0) → Relates g Q → Relates h R → Relates (both g h) (λ x y. Q x.0 y.0 × R x.1 y.1)
unfolding ReadAlike
both_related g h Q R p q = record { relates = λ x y is. (p.relates x.0 y.0 is.0, q.relates x.1 y.1 is.1) }

-- with the second's value
skipping_related : {A B : Type 0} (g : Rule A) (h : Rule B) (R : B → B → Type 0) → Relates h R → Relates (skipping g h) R
skipping_related g h R q = made_related (λ p. p.1) (both g h) (λ x y. Unit {0} × R x.1 y.1) R (λ x y is. is.1) (both_related g h (λ _ _. Unit {0}) R (any_related g) q)

-- no tokens
empty_related : {A : Type 0} (z : A) (Q : A → A → Type 0) → Q z z → Relates (empty z) Q
unfolding ReadAlike
empty_related z Q is = record { relates = λ x y same. related_as Q (sym same.0) (sym same.1) is }

-- one of two
either_related : {A : Type 0} (look : Look) (g h : Rule A) (Q : A → A → Type 0) → Relates g Q → Relates h Q → Relates (either look g h) Q
unfolding ReadAlike
either_related look g h Q p q = record { relates = λ x y is. elim is [ inl r ↦ p.relates x y r | inr r ↦ q.relates x y r ] }

-- values that pass a test
checked_related : {A : Type 0} (test : A → Bool) (g : Rule A) (Q : A → A → Type 0) → Relates g Q → Relates (checked test g) Q
unfolding ReadAlike
checked_related test g Q p = record { relates = p.relates }

-- inside of a bracket pair
nest_related : {A : Type 0} (b : Bracket) (g : Rule A) (Q : A → A → Type 0) → Relates g Q → Relates (nest b g) Q
unfolding ReadAlike
nest_related b g Q p = record { relates = p.relates }

-- inside of `<` and `>`
angles_related : {A : Type 0} (g : Rule A) (Q : A → A → Type 0) → Relates g Q → Relates (angles g) Q
unfolding ReadAlike
angles_related g Q p = record { relates = p.relates }

-- behind a token
under_related : {A : Type 0} (asked : Terminal) (g : Rule A) (Q : A → A → Type 0) → Relates g Q → Relates (under asked g) Q
unfolding ReadAlike
under_related asked g Q p = record { relates = p.relates }

-- behind `->`
arrow_related : {A : Type 0} (g : Rule A) (Q : A → A → Type 0) → Relates g Q → Relates (arrow g) Q
unfolding ReadAlike
arrow_related g Q p = record { relates = p.relates }

-- behind a punct
lone_related : {A : Type 0} (c d : ℕ) (g : Rule A) (Q : A → A → Type 0) → Relates g Q → Relates (lone c d g) Q
unfolding ReadAlike
lone_related c d g Q p = record { relates = p.relates }

-- with the tokens as they were written, which are equal aside
written_related : {A : Type 0} (g : Rule A) (Q : A → A → Type 0) → Relates g Q → Relates (written g) (λ x y. Q x.0 y.0 × AreEqualAside x.1.tokens y.1.tokens)
unfolding ReadAlike
written_related g Q p = record { relates = λ x y is. (p.relates x.0 y.0 is.0, is.1) }

-- a part
part_related : (p : Part) → Relates (part p) (Kin p)
unfolding ReadAlike
part_related p = record { relates = λ x y is. is }

-- items in their order
pairwise_into : {A : Type 0} (R Q : A → A → Type 0) → ((x y : A) → R x y → Q x y) → {xs ys : List A} → Pairwise R xs ys → Pairwise Q xs ys
pairwise_into R Q into Pairwise.nothing = Pairwise.nothing
pairwise_into R Q into (Pairwise.another {x = x} {y = y} is more) = Pairwise.another (into x y is) (pairwise_into R Q into more)

-- items with separators between
list_related : {A : Type 0} (separator : Terminal) (closing : Look) (g : Rule A) (Q : A → A → Type 0) → Relates g Q → Relates (list separator closing g) (Pairwise Q)
unfolding ReadAlike
list_related separator closing g Q p = record { relates = λ xs ys is. pairwise_into (ReadAlike Kin g) Q p.relates is }

-- items with `::` between
path_related : {A : Type 0} (g : Rule A) (Q : A → A → Type 0) → Relates g Q → Relates (path g) (Pairwise Q)
unfolding ReadAlike
path_related g Q p = record { relates = λ xs ys is. pairwise_into (ReadAlike Kin g) Q p.relates is }

-- both are there and so related, or neither is
abbrev Optional : {A : Type 0} → (A → A → Type 0) → Option A → Option A → Type 0
Optional R None None = Unit {0}
Optional R None (Some y) = ⊥
Optional R (Some x) None = ⊥
Optional R (Some x) (Some y) = R x y

-- what may be left out
optional_related : {A : Type 0} (look : Look) (g : Rule A) (Q : A → A → Type 0) → Relates g Q → Relates (optional look g) (Optional Q)
optional_related look g Q p = either_related look (made Some g) (empty None) (Optional Q) (made_related Some g Q (Optional Q) (λ x y is. is) p) (empty_related None (Optional Q) tt)

-- whether it is there
flag_related : {A : Type 0} (look : Look) (g : Rule A) → Relates (flag look g) (λ b c. b ≡ c)
flag_related look g = either_related look (made (λ _. true) g) (empty false) (λ b c. b ≡ c) (made_related (λ _. true) g (λ _ _. Unit {0}) (λ b c. b ≡ c) (λ x y is. refl) (any_related g)) (empty_related false (λ b c. b ≡ c) refl)

-- ---- names

-- names of the same text
abbrev SameName : Ident → Ident → Type 0
SameName i j = i.text ≡ j.text

-- a name
name_related : Relates name SameName
unfolding name ReadAlike
name_related = record { relates = λ x y is. related_as SameName (sym is.2) (sym is.3) (ap (λ (l : Lexeme). l.spelling) is.4) }

-- the name of a segment
segment_name_related : Relates segment_name SameName
unfolding segment_name ReadAlike
segment_name_related = record { relates = λ x y is. related_as SameName (sym is.2) (sym is.3) (ap (λ (l : Lexeme). l.spelling) is.4) }

-- lifetimes of the same text
abbrev SameLifetime : Lifetime → Lifetime → Type 0
SameLifetime l m = l.text ≡ m.text

-- a lifetime
lifetime_related : Relates lifetime SameLifetime
unfolding lifetime ReadAlike
lifetime_related = record { relates = λ x y is. related_as SameLifetime (sym is.2) (sym is.3) (ap (λ (l : Lexeme). l.spelling) is.4) }

-- ---- lists

-- types in their order
all_types : {xs ys : List Ty} → Pairwise AlikeTypes xs ys → AllTypesAlike xs ys
all_types Pairwise.nothing = AllTypesAlike.no_types
all_types (Pairwise.another is more) = AllTypesAlike.more_types is (all_types more)

-- arguments in their order
all_args : {xs ys : List AngleArg} → Pairwise AlikeAngleArgs xs ys → AllArgsAlike xs ys
all_args Pairwise.nothing = AllArgsAlike.no_more
all_args (Pairwise.another is more) = AllArgsAlike.more_args is (all_args more)

-- segments that are alike
abbrev SegmentKin : SegmentRead → SegmentRead → Type 0
SegmentKin s t = AlikeSegments s.0 t.0

-- segments in their order
all_segments : {xs ys : List SegmentRead} → Pairwise SegmentKin xs ys → AllSegmentsAlike (map (λ s. s.0) xs) (map (λ s. s.0) ys)
all_segments Pairwise.nothing = AllSegmentsAlike.no_segments
all_segments (Pairwise.another is more) = AllSegmentsAlike.more_segments is (all_segments more)

-- segments behind segments
more_segments : {xs ys vs ws : List Segment} → AllSegmentsAlike xs ys → AllSegmentsAlike vs ws → AllSegmentsAlike (xs ++ vs) (ys ++ ws)
more_segments AllSegmentsAlike.no_segments others = others
more_segments (AllSegmentsAlike.more_segments is more) others = AllSegmentsAlike.more_segments is (more_segments more others)

-- bounds whose traits are alike; lifetimes are not compared
abbrev BoundKin : BoundRead → BoundRead → Type 0
BoundKin b c = Optional AlikePaths b.0 c.0

-- one more path, where there is one
path_before : (o r : Option Path) (ps qs : List Path) → Optional AlikePaths o r → AllPathsAlike ps qs → AllPathsAlike (cons_option o ps) (cons_option r qs)
path_before None None ps qs is more = more
path_before None (Some q) ps qs is more = absurd is
path_before (Some p) None ps qs is more = absurd is
path_before (Some p) (Some q) ps qs is more = AllPathsAlike.more_paths is more

-- the traits of bounds
all_paths : {xs ys : List BoundRead} → Pairwise BoundKin xs ys → AllPathsAlike (bound_paths xs) (bound_paths ys)
all_paths Pairwise.nothing = AllPathsAlike.no_paths
all_paths (Pairwise.another {x = x} {y = y} {xs = xs} {ys = ys} is more) = path_before x.0 y.0 (bound_paths xs) (bound_paths ys) is (all_paths more)

-- types that are alike, however they end
abbrev TypedKin : Typed → Typed → Type 0
TypedKin t u = AlikeTypes t.0 u.0

-- ---- arguments

-- an argument in angle brackets
angle_arg_related : Relates angle_arg AlikeAngleArgs
unfolding angle_arg
angle_arg_related =
    either_related _ _ _ AlikeAngleArgs (made_related arg.Lifetime lifetime SameLifetime AlikeAngleArgs (λ x y is. AlikeAngleArgs.lifetimes x y is) lifetime_related)
    (either_related _ _ _ AlikeAngleArgs (made_related constant_of (written constant) (λ x y. Unit {0} × AreEqualAside x.1.tokens y.1.tokens) AlikeAngleArgs (λ x y is. AlikeAngleArgs.constants x.1 y.1 is.1) (written_related constant (λ _ _. Unit {0}) (any_related constant)))
    (either_related _ _ _ AlikeAngleArgs
    (made_related binding_of (both name (lone 61 61 (part types))) (λ x y. SameName x.0 y.0 × AlikeTypes x.1 y.1) AlikeAngleArgs (λ x y is. AlikeAngleArgs.bindings x.0 y.0 is.0 is.1)
    (both_related name (lone 61 61 (part types)) SameName AlikeTypes name_related (lone_related 61 61 (part types) AlikeTypes (part_related types))))
    (made_related arg.Plain (part types) AlikeTypes AlikeAngleArgs (λ x y is. AlikeAngleArgs.plain_types is) (part_related types))))

-- arguments in angle brackets
angle_args_related : Relates angle_args (Pairwise AlikeAngleArgs)
unfolding angle_args
angle_args_related = angles_related _ (Pairwise AlikeAngleArgs) (list_related _ _ angle_arg AlikeAngleArgs angle_arg_related)

-- arguments of segments that are alike
abbrev ArgsKin : ArgsRead → ArgsRead → Type 0
ArgsKin a b = AlikeArgs a.0 b.0

-- the arguments with a result, however they end
returned_args : (inputs : List Ty) (output : Ty) (ending : Ending) → (returned inputs output ending).0 ≡ args.Round inputs (Some output)
returned_args inputs output Closed = refl
returned_args inputs output Arguments = refl
returned_args inputs output Name = refl

-- arguments in round brackets
round_alike : (xs ys : List Ty) (o r : Option Typed) → AllTypesAlike xs ys → Optional TypedKin o r → ArgsKin (round_read (xs, o)) (round_read (ys, r))
round_alike xs ys None None inputs is = AlikeArgs.in_round inputs AlikeOptions.neither
round_alike xs ys None (Some u) inputs is = absurd is
round_alike xs ys (Some t) None inputs is = absurd is
round_alike xs ys (Some t) (Some u) inputs is =
    related_as AlikeArgs (sym (returned_args xs t.0 t.1)) (sym (returned_args ys u.0 u.1)) (AlikeArgs.in_round inputs (AlikeOptions.both_some is))

-- as they are read
round_args_related : Relates round_args (λ x y. Pairwise AlikeTypes x.0 y.0 × Optional TypedKin x.1 y.1)
unfolding round_args
round_args_related =
    both_related _ _ (Pairwise AlikeTypes) (Optional TypedKin) (nest_related _ _ (Pairwise AlikeTypes) (list_related _ _ (part types) AlikeTypes (part_related types)))
    (optional_related _ _ TypedKin (arrow_related (part plains) TypedKin (part_related plains)))

-- the arguments of a segment
type_args_related : Relates type_args ArgsKin
unfolding type_args
type_args_related =
    either_related _ _ _ ArgsKin
    (made_related angle_read _ (Pairwise AlikeAngleArgs) ArgsKin (λ x y is. AlikeArgs.in_angles (all_args is)) (skipping_related _ angle_args (Pairwise AlikeAngleArgs) angle_args_related))
    (either_related _ _ _ ArgsKin
    (made_related round_read round_args (λ x y. Pairwise AlikeTypes x.0 y.0 × Optional TypedKin x.1 y.1) ArgsKin (λ x y is. round_alike x.0 y.0 x.1 y.1 (all_types is.0) is.1) round_args_related)
    (empty_related grammar.no_args ArgsKin AlikeArgs.no_args))

-- ---- paths

-- a segment
type_segment_related : Relates type_segment SegmentKin
unfolding type_segment
type_segment_related =
    made_related segment_read (both segment_name type_args) (λ x y. SameName x.0 y.0 × ArgsKin x.1 y.1) SegmentKin (λ x y is. AlikeSegments.of_args x.0 y.0 is.0 is.1)
    (both_related segment_name type_args SameName ArgsKin segment_name_related type_args_related)

-- the segments of a path
type_segments_related : Relates type_segments (Pairwise SegmentKin)
unfolding type_segments
type_segments_related = checked_related _ _ (Pairwise SegmentKin) (path_related type_segment SegmentKin type_segment_related)

-- paths that are alike, however they end
abbrev PathKin : Path × Ending → Path × Ending → Type 0
PathKin p q = AlikePaths p.0 q.0

-- paths of the same beginning
paths_alike : (b c : Bool) (xs ys : List Segment) → b ≡ c → AllSegmentsAlike xs ys → AlikePaths (path_of b xs) (path_of c ys)
paths_alike b c xs ys same all = subst (λ d. AlikePaths (path_of b xs) (path_of d ys)) same (AlikePaths.of_segments b all)

-- a path
type_path_related : Relates type_path PathKin
unfolding type_path
type_path_related =
    checked_related _ _ PathKin
    (made_related path_read _ (λ x y. (x.0 ≡ y.0) × Pairwise SegmentKin x.1 y.1) PathKin (λ x y is. paths_alike x.0 y.0 _ _ is.0 (all_segments is.1))
    (both_related _ type_segments (λ b c. b ≡ c) (Pairwise SegmentKin) (flag_related _ _) type_segments_related))

-- the parts of paths that are alike
path_parts : {p q : Path} → AlikePaths p q → ((out-Path p).leading ≡ (out-Path q).leading) × AllSegmentsAlike (out-Path p).segments (out-Path q).segments
path_parts (AlikePaths.of_segments leading {xs = xs} {ys = ys} all) =
    let first : (out-Path (path_of leading xs)).leading ≡ leading = ap (λ r. r.leading) (out-roll-Path _) in
    let second : (out-Path (path_of leading ys)).leading ≡ leading = ap (λ r. r.leading) (out-roll-Path _) in
    let front : (out-Path (path_of leading xs)).segments ≡ xs = ap (λ r. r.segments) (out-roll-Path _) in
    let others : (out-Path (path_of leading ys)).segments ≡ ys = ap (λ r. r.segments) (out-roll-Path _) in
    (first ∙ sym second, related_as AllSegmentsAlike (sym front) (sym others) all)

-- segments behind a trait, or behind none
qualified_alike : (o r : Option (Path × Ending)) (xs ys : List Segment) → Optional PathKin o r → AllSegmentsAlike xs ys → AlikePaths (qualified_path o xs) (qualified_path r ys)
qualified_alike None None xs ys is all = AlikePaths.of_segments true all
qualified_alike None (Some q) xs ys is all = absurd is
qualified_alike (Some p) None xs ys is all = absurd is
qualified_alike (Some p) (Some q) xs ys is all = let w = path_parts is in paths_alike _ _ _ _ w.0 (more_segments w.1 all)

-- the type of a qualified path, and its trait
qualified_self_related : Relates qualified_self (λ x y. AlikeTypes x.0 y.0 × Optional PathKin x.1 y.1)
unfolding qualified_self
qualified_self_related =
    angles_related _ (λ x y. AlikeTypes x.0 y.0 × Optional PathKin x.1 y.1)
    (both_related (part types) _ AlikeTypes (Optional PathKin) (part_related types) (optional_related _ _ PathKin (skipping_related _ type_path PathKin type_path_related)))

-- forms that are alike, however they end
abbrev FormKin : FormRead → FormRead → Type 0
FormKin f g = AlikeForms f.0 g.0

-- a qualified path
qualified_related : Relates qualified FormKin
unfolding qualified
qualified_related =
    made_related qualified_read _ (λ x y. (AlikeTypes x.0.0 y.0.0 × Optional PathKin x.0.1 y.0.1) × Pairwise SegmentKin x.1 y.1) FormKin
    (λ x y is. AlikeForms.paths (AlikeOptions.both_some is.0.0) (qualified_alike x.0.1 y.0.1 _ _ is.0.1 (all_segments is.1)))
    (both_related qualified_self _ (λ x y. AlikeTypes x.0 y.0 × Optional PathKin x.1 y.1) (Pairwise SegmentKin) qualified_self_related (skipping_related _ type_segments (Pairwise SegmentKin) type_segments_related))

-- ---- bounds

-- the path of a bound
bound_path_related : Relates bound_path PathKin
unfolding bound_path
bound_path_related = skipping_related _ _ PathKin (skipping_related _ type_path PathKin type_path_related)

-- a bound
bound_related : Relates bound BoundKin
unfolding bound
bound_related =
    either_related _ _ _ BoundKin (made_related (λ _. (None, Closed)) lifetime (λ _ _. Unit {0}) BoundKin (λ x y is. tt) (any_related lifetime))
    (either_related _ _ _ BoundKin
    (made_related (λ p. (Some p.0, Closed)) _ PathKin BoundKin (λ x y is. is) (nest_related _ bound_path PathKin bound_path_related))
    (made_related (λ p. (Some p.0, p.1)) bound_path PathKin BoundKin (λ x y is. is) bound_path_related))

-- bounds
bounds_related : Relates bounds (Pairwise BoundKin)
unfolding bounds
bounds_related = list_related _ _ bound BoundKin bound_related

-- ---- forms

-- one type in round brackets is a parenthesis, others are a tuple
round_of_alike : (x y : Ty) (o r : Option (List Ty)) → AlikeTypes x y → Optional (Pairwise AlikeTypes) o r → FormKin (round_of (x, o)) (round_of (y, r))
round_of_alike x y None None first is = AlikeForms.parens first
round_of_alike x y None (Some ys) first is = absurd is
round_of_alike x y (Some xs) None first is = absurd is
round_of_alike x y (Some xs) (Some ys) first is = AlikeForms.tuples (AllTypesAlike.more_types first (all_types is))

-- a parenthesis or a tuple
round_form_related : Relates round_form FormKin
unfolding round_form
round_form_related =
    nest_related _ _ FormKin
    (either_related _ _ _ FormKin (empty_related _ FormKin (AlikeForms.tuples AllTypesAlike.no_types))
    (made_related round_of _ (λ x y. AlikeTypes x.0 y.0 × Optional (Pairwise AlikeTypes) x.1 y.1) FormKin (λ x y is. round_of_alike x.0 y.0 x.1 y.1 is.0 is.1)
    (both_related (part types) _ AlikeTypes (Optional (Pairwise AlikeTypes)) (part_related types)
    (optional_related _ _ (Pairwise AlikeTypes) (skipping_related _ _ (Pairwise AlikeTypes) (list_related _ _ (part types) AlikeTypes (part_related types)))))))

-- references, both with `mut` or both without
reference_alike : (b c : Bool) (x y : Ty) → b ≡ c → AlikeTypes x y → AlikeForms (form.Reference b x) (form.Reference c y)
reference_alike b c x y same is = subst (λ d. AlikeForms (form.Reference b x) (form.Reference d y)) same (AlikeForms.references b is)

-- a reference
reference_related : Relates reference FormKin
unfolding reference
reference_related =
    made_related reference_of _ (λ x y. (x.0 ≡ y.0) × TypedKin x.1 y.1) FormKin (λ x y is. reference_alike x.0 y.0 x.1.0 y.1.0 is.0 is.1)
    (under_related _ _ (λ x y. (x.0 ≡ y.0) × TypedKin x.1 y.1) (skipping_related _ _ (λ x y. (x.0 ≡ y.0) × TypedKin x.1 y.1) (both_related _ (part plains) (λ b c. b ≡ c) TypedKin (flag_related _ _) (part_related plains))))

-- a pointer
pointer_related : Relates pointer FormKin
unfolding pointer
pointer_related = made_related pointer_of _ TypedKin FormKin (λ x y is. AlikeForms.pointers is) (under_related _ _ TypedKin (skipping_related _ (part plains) TypedKin (part_related plains)))

-- slices, or arrays whose lengths have equal tokens
square_alike : (x y : Ty) (o r : Option Expr) → AlikeTypes x y → Optional (Kin exprs) o r → FormKin (square_of (x, o)) (square_of (y, r))
square_alike x y None None first is = AlikeForms.slices first
square_alike x y None (Some n) first is = absurd is
square_alike x y (Some m) None first is = absurd is
square_alike x y (Some m) (Some n) first is = AlikeForms.arrays m.written n.written is first

-- a slice or an array
square_form_related : Relates square_form FormKin
unfolding square_form
square_form_related =
    made_related square_of _ (λ x y. AlikeTypes x.0 y.0 × Optional (Kin exprs) x.1 y.1) FormKin (λ x y is. square_alike x.0 y.0 x.1 y.1 is.0 is.1)
    (nest_related _ _ (λ x y. AlikeTypes x.0 y.0 × Optional (Kin exprs) x.1 y.1)
    (both_related (part types) _ AlikeTypes (Optional (Kin exprs)) (part_related types) (optional_related _ _ (Kin exprs) (skipping_related _ _ (Kin exprs) (part_related exprs)))))

-- a parameter of a function pointer
fn_param_related : Relates fn_param AlikeTypes
unfolding fn_param
fn_param_related =
    either_related _ _ _ AlikeTypes (skipping_related _ _ AlikeTypes (lone_related 58 58 (part types) AlikeTypes (part_related types))) (part_related types)

-- function pointers, both with a result or both without
fn_alike : (xs ys : List Ty) (o r : Option Typed) → AllTypesAlike xs ys → Optional TypedKin o r → FormKin (fn_of (xs, o)) (fn_of (ys, r))
fn_alike xs ys None None inputs is = AlikeForms.functions inputs AlikeOptions.neither
fn_alike xs ys None (Some u) inputs is = absurd is
fn_alike xs ys (Some t) None inputs is = absurd is
fn_alike xs ys (Some t) (Some u) inputs is = AlikeForms.functions inputs (AlikeOptions.both_some is)

-- a function pointer
fn_pointer_related : Relates fn_pointer FormKin
unfolding fn_pointer
fn_pointer_related =
    made_related fn_of _ (λ x y. Pairwise AlikeTypes x.0 y.0 × Optional TypedKin x.1 y.1) FormKin (λ x y is. fn_alike x.0 y.0 x.1 y.1 (all_types is.0) is.1)
    (skipping_related _ _ (λ x y. Pairwise AlikeTypes x.0 y.0 × Optional TypedKin x.1 y.1) (skipping_related _ _ (λ x y. Pairwise AlikeTypes x.0 y.0 × Optional TypedKin x.1 y.1)
    (both_related _ _ (Pairwise AlikeTypes) (Optional TypedKin) (nest_related _ _ (Pairwise AlikeTypes) (list_related _ _ fn_param AlikeTypes fn_param_related))
    (optional_related _ _ TypedKin (arrow_related (part plains) TypedKin (part_related plains))))))

-- the form of a type that isn't `dyn`
plain_form_related : Relates plain_form FormKin
unfolding plain_form
plain_form_related =
    either_related _ _ _ FormKin round_form_related
    (either_related _ _ _ FormKin (made_related never_of _ (λ _ _. Unit {0}) FormKin (λ x y is. AlikeForms.nevers) (any_related _))
    (either_related _ _ _ FormKin reference_related
    (either_related _ _ _ FormKin pointer_related
    (either_related _ _ _ FormKin square_form_related
    (either_related _ _ _ FormKin qualified_related
    (either_related _ _ _ FormKin fn_pointer_related
    (made_related path_form type_path PathKin FormKin (λ x y is. AlikeForms.paths AlikeOptions.neither is) type_path_related)))))))

-- the form of a type, where `dyn` has one bound
one_bound_form_related : Relates one_bound_form FormKin
unfolding one_bound_form
one_bound_form_related =
    either_related _ _ _ FormKin
    (made_related bound_form _ BoundKin FormKin (λ x y is. AlikeForms.objects (path_before x.0 y.0 [] [] is AllPathsAlike.no_paths)) (under_related _ bound BoundKin bound_related))
    plain_form_related

-- the form of a type, where `dyn` has any bounds
any_bounds_form_related : Relates any_bounds_form FormKin
unfolding any_bounds_form
any_bounds_form_related =
    either_related _ _ _ FormKin
    (made_related bounds_form _ (Pairwise BoundKin) FormKin (λ x y is. AlikeForms.objects (all_paths is)) (under_related _ _ (Pairwise BoundKin) (checked_related _ bounds (Pairwise BoundKin) bounds_related)))
    plain_form_related

-- a type in which `dyn` has one bound
plain_type_related : Relates plain_type TypedKin
unfolding plain_type
plain_type_related =
    made_related typed_of _ (λ x y. FormKin x.0 y.0 × AreEqualAside x.1.tokens y.1.tokens) TypedKin (λ x y is. AlikeTypes.of_forms x.1 y.1 is.1 is.0) (written_related one_bound_form FormKin one_bound_form_related)

-- a type
any_type_related : Relates any_type AlikeTypes
unfolding any_type
any_type_related =
    made_related untyped_of _ (λ x y. FormKin x.0 y.0 × AreEqualAside x.1.tokens y.1.tokens) AlikeTypes (λ x y is. AlikeTypes.of_forms x.1 y.1 is.1 is.0) (written_related any_bounds_form FormKin any_bounds_form_related)

-- Types that are read alike are alike.
pub types_related : (x y : Ty) → ReadAlike Kin any_type x y → AlikeTypes x y
types_related x y is = any_type_related.relates x y is

-- types in which `dyn` has one bound that are read alike are alike
pub plains_related : (x y : Typed) → ReadAlike Kin plain_type x y → AlikeTypes x.0 y.0
plains_related x y is = plain_type_related.relates x y is
