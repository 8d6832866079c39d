-- In types that are alike the same stands, where the question is answered alike at paths and words that are alike.
use Rattle.std.proofs.Common.{◌≡◌, Bool, false, not, ◌&&◌, ◌||◌, List, refl, ap, sym, ◌∙◌, Option}
use Rattle.std.specs.Prelude.{is_some}
use Rattle.educe_tokens.specs.declared.token.Token.{Token}
use Rattle.educe_tree.specs.declared.ty.Ty.{Ty}
use Rattle.educe_tree.specs.declared.ty.TypeForm.{TypeForm}
use Rattle.educe_tree.specs.declared.path.Path.{Path, out-Path, out-roll-Path}
use Rattle.educe_tree.specs.declared.path.Segment.{Segment}
use Rattle.educe_tree.specs.declared.path.Args.{Args}
use Rattle.educe_tree.specs.declared.path.AngleArg.{AngleArg}
use Rattle.educe_grammar.specs.Types.{path_of}
use Rattle.educe_grammar.specs.Alike.{AreEqualAside, AlikeTypes, AlikeForms, AlikeOptions, AllTypesAlike, AlikePaths, AllPathsAlike, AlikeSegments, AllSegmentsAlike, AlikeArgs, AlikeAngleArgs, AllArgsAlike}
use Rattle.educe_bound_classes.specs.Walk.{Question, in_form, in_path, in_args, in_arg, in_type, in_types, in_optional, in_paths, in_segments, in_angle}
use Rattle.educe_bound_classes.proofs.Walks.{in_form-Paren, in_form-Tuple, in_form-Reference, in_form-Pointer, in_form-Slice, in_form-Array, in_form-Path, in_form-FnPtr, in_form-TraitObject, in_path-out, in_args-Angle, in_args-Round}

-- The question is answered alike at paths and words that are alike.
pub record IsByLikeness (q : Question) : Type 0 where
  pub paths : (behind : Bool) (x y : Path) → AlikePaths x y → q.at_path behind x ≡ q.at_path behind y
  pub words : (ts us : List Token) → AreEqualAside ts us → q.at_words ts ≡ q.at_words us
  pub passes : (x y : Path) → AlikePaths x y → q.passes_path x ≡ q.passes_path y

-- the segments that a path is made of
pub segments_are : (leading : Bool) (xs : List Segment) → (out-Path (path_of leading xs)).segments ≡ xs
segments_are leading xs = ap (λ r. r.segments) (out-roll-Path _)

module _ (q : Question) (by : IsByLikeness q) where
  mutual
    -- in types that are alike the same stands
    pub types_answer : {x y : Ty} → AlikeTypes x y → in_type q x ≡ in_type q y
    types_answer (AlikeTypes.of_forms v w same is) = forms_answer is

    pub forms_answer : {f g : TypeForm} → AlikeForms f g → in_form q f ≡ in_form q g
    forms_answer (AlikeForms.parens {x = x} {y = y} is) = in_form-Paren q x ∙ types_answer is ∙ sym (in_form-Paren q y)
    forms_answer (AlikeForms.tuples {xs = xs} {ys = ys} all) = in_form-Tuple q xs ∙ all_types_answer all ∙ sym (in_form-Tuple q ys)
    forms_answer AlikeForms.nevers = refl
    forms_answer (AlikeForms.references mutable {x = x} {y = y} is) =
        in_form-Reference q mutable x ∙ ap (λ b. not (q.passes_references mutable) && b) (types_answer is) ∙ sym (in_form-Reference q mutable y)
    forms_answer (AlikeForms.pointers {x = x} {y = y} is) = in_form-Pointer q x ∙ ap (λ b. not q.passes_pointers && b) (types_answer is) ∙ sym (in_form-Pointer q y)
    forms_answer (AlikeForms.slices {x = x} {y = y} is) = in_form-Slice q x ∙ types_answer is ∙ sym (in_form-Slice q y)
    forms_answer (AlikeForms.arrays {x = x} {y = y} v w same is) =
        in_form-Array q x v ∙ (λ i. by.words v.tokens w.tokens same i || types_answer is i) ∙ sym (in_form-Array q y w)
    forms_answer (AlikeForms.paths {s = s} {t = t} {p = p} {q = r} self is) =
        in_form-Path q s p ∙ (λ i. options_answer self i || in_path q (option_side self i) p) ∙ ap (λ b. in_optional q t || b) (path_answers (is_some t) is) ∙ sym (in_form-Path q t r)
    forms_answer (AlikeForms.functions {xs = xs} {ys = ys} {s = s} {t = t} all output) =
        in_form-FnPtr q xs s ∙ (λ i. not q.passes_pointers && (all_types_answer all i || options_answer output i)) ∙ sym (in_form-FnPtr q ys t)
    forms_answer (AlikeForms.objects {ps = ps} {qs = qs} all) = in_form-TraitObject q ps ∙ all_paths_answer all ∙ sym (in_form-TraitObject q qs)

    option_side : {s t : Option Ty} → AlikeOptions s t → is_some s ≡ is_some t
    option_side AlikeOptions.neither = refl
    option_side (AlikeOptions.both_some is) = refl

    options_answer : {s t : Option Ty} → AlikeOptions s t → in_optional q s ≡ in_optional q t
    options_answer AlikeOptions.neither = refl
    options_answer (AlikeOptions.both_some is) = types_answer is

    all_types_answer : {xs ys : List Ty} → AllTypesAlike xs ys → in_types q xs ≡ in_types q ys
    all_types_answer AllTypesAlike.no_types = refl
    all_types_answer (AllTypesAlike.more_types is all) = λ i. types_answer is i || all_types_answer all i

    path_answers : (behind : Bool) {x y : Path} → AlikePaths x y → in_path q behind x ≡ in_path q behind y
    path_answers behind (AlikePaths.of_segments leading {xs = xs} {ys = ys} all) =
        let first = ap (in_segments q) (segments_are leading xs) in
        let second = ap (in_segments q) (segments_are leading ys) in
        in_path-out q behind (path_of leading xs)
        ∙ (λ i. not (by.passes (path_of leading xs) (path_of leading ys) (AlikePaths.of_segments leading all) i)
        && (by.paths behind (path_of leading xs) (path_of leading ys) (AlikePaths.of_segments leading all) i || (first ∙ all_segments_answer all ∙ sym second) i))
        ∙ sym (in_path-out q behind (path_of leading ys))

    all_paths_answer : {ps qs : List Path} → AllPathsAlike ps qs → in_paths q ps ≡ in_paths q qs
    all_paths_answer AllPathsAlike.no_paths = refl
    all_paths_answer (AllPathsAlike.more_paths is all) = λ i. path_answers false is i || all_paths_answer all i

    segments_answer : {x y : Segment} → AlikeSegments x y → in_args q x.args ≡ in_args q y.args
    segments_answer (AlikeSegments.of_args i j same is) = args_answer is

    all_segments_answer : {xs ys : List Segment} → AllSegmentsAlike xs ys → in_segments q xs ≡ in_segments q ys
    all_segments_answer AllSegmentsAlike.no_segments = refl
    all_segments_answer (AllSegmentsAlike.more_segments is all) = λ i. segments_answer is i || all_segments_answer all i

    args_answer : {a b : Args} → AlikeArgs a b → in_args q a ≡ in_args q b
    args_answer AlikeArgs.no_args = refl
    args_answer (AlikeArgs.in_angles {xs = xs} {ys = ys} all) = in_args-Angle q xs ∙ all_args_answer all ∙ sym (in_args-Angle q ys)
    args_answer (AlikeArgs.in_round {xs = xs} {ys = ys} {s = s} {t = t} all output) =
        in_args-Round q xs s ∙ (λ i. all_types_answer all i || options_answer output i) ∙ sym (in_args-Round q ys t)

    angle_arg_answers : {a b : AngleArg} → AlikeAngleArgs a b → in_arg q a ≡ in_arg q b
    angle_arg_answers (AlikeAngleArgs.lifetimes l m same) = refl
    angle_arg_answers (AlikeAngleArgs.plain_types is) = types_answer is
    angle_arg_answers (AlikeAngleArgs.bindings i j same is) = types_answer is
    angle_arg_answers (AlikeAngleArgs.constants v w same) = by.words v.tokens w.tokens same

    all_args_answer : {xs ys : List AngleArg} → AllArgsAlike xs ys → in_angle q xs ≡ in_angle q ys
    all_args_answer AllArgsAlike.no_more = refl
    all_args_answer (AllArgsAlike.more_args is all) = λ i. angle_arg_answers is i || all_args_answer all i
