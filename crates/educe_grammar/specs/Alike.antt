-- Equality of tokens without spans and jointness, and similarity of types.
use Rattle.std.specs.Prelude.{◌≡◌, Bool, false, List, [], ◌∷◌, Option, Some, None}
use Rattle.educe_tokens.specs.declared.written.Written.{Written}
use Rattle.educe_tree.specs.declared.ident.Ident.{Ident}
use Rattle.educe_tree.specs.declared.lifetime.Lifetime.{Lifetime}
use Rattle.educe_tree.specs.declared.ty.Ty.{Ty}
use Rattle.educe_tree.specs.declared.ty.TypeForm.{TypeForm}
use Rattle.educe_tree.specs.declared.ty.TypeForm.TheVariants as form
use Rattle.educe_tree.specs.declared.path.Path.{Path}
use Rattle.educe_tree.specs.declared.path.Segment.{Segment}
use Rattle.educe_tree.specs.declared.path.Args.{Args}
use Rattle.educe_tree.specs.declared.path.Args.TheVariants as args
use Rattle.educe_tree.specs.declared.path.AngleArg.{AngleArg}
use Rattle.educe_tree.specs.declared.path.AngleArg.TheVariants as arg
use Rattle.educe_grammar.specs.Types.{type_of, path_of, segment_of}
-- ---- equality of tokens

-- Equality of tokens, where spans and jointness are ignored.
pub use Rattle.educe_tokens.specs.Copied.{unjoined as kind_aside}
pub use Rattle.educe_tokens.specs.Same.{lexeme_aside, lexemes_aside, AreSameTokens as AreEqualAside}

-- ---- similarity of types

-- Two types are alike: their tokens are equal, spans and jointness aside, and so are those of each nested type, array
-- length and constant; and their trees have the same form, names, arguments, leading `::` and `mut` of references.
-- Places are not compared.
mutual
  pub data AlikeTypes : Ty → Ty → Type 0 where
    of_forms : {f g : TypeForm} (v w : Written) → AreEqualAside v.tokens w.tokens → AlikeForms f g → AlikeTypes (type_of f v) (type_of g w)

  -- Two forms of types are alike.
  pub data AlikeForms : TypeForm → TypeForm → Type 0 where
    parens : {x y : Ty} → AlikeTypes x y → AlikeForms (form.Paren x) (form.Paren y)
    tuples : {xs ys : List Ty} → AllTypesAlike xs ys → AlikeForms (form.Tuple xs) (form.Tuple ys)
    nevers : AlikeForms form.Never form.Never
    references : (mutable : Bool) {x y : Ty} → AlikeTypes x y → AlikeForms (form.Reference mutable x) (form.Reference mutable y)
    pointers : {x y : Ty} → AlikeTypes x y → AlikeForms (form.Pointer x) (form.Pointer y)
    slices : {x y : Ty} → AlikeTypes x y → AlikeForms (form.Slice x) (form.Slice y)
    arrays : {x y : Ty} (v w : Written) → AreEqualAside v.tokens w.tokens → AlikeTypes x y → AlikeForms (form.Array x v) (form.Array y w)
    paths : {s t : Option Ty} {p q : Path} → AlikeOptions s t → AlikePaths p q → AlikeForms (form.Path s p) (form.Path t q)
    functions : {xs ys : List Ty} {s t : Option Ty} → AllTypesAlike xs ys → AlikeOptions s t → AlikeForms (form.FnPtr xs s) (form.FnPtr ys t)
    objects : {ps qs : List Path} → AllPathsAlike ps qs → AlikeForms (form.TraitObject ps) (form.TraitObject qs)

  -- Two optional types are alike: both are absent, or both are there and alike.
  pub data AlikeOptions : Option Ty → Option Ty → Type 0 where
    neither : AlikeOptions None None
    both_some : {x y : Ty} → AlikeTypes x y → AlikeOptions (Some x) (Some y)

  -- Two lists of types are alike, item by item.
  pub data AllTypesAlike : List Ty → List Ty → Type 0 where
    no_types : AllTypesAlike [] []
    more_types : {x y : Ty} {xs ys : List Ty} → AlikeTypes x y → AllTypesAlike xs ys → AllTypesAlike (x ∷ xs) (y ∷ ys)

  -- Two paths are alike.
  pub data AlikePaths : Path → Path → Type 0 where
    of_segments : (leading : Bool) {xs ys : List Segment} → AllSegmentsAlike xs ys → AlikePaths (path_of leading xs) (path_of leading ys)

  -- Two lists of paths are alike, item by item.
  pub data AllPathsAlike : List Path → List Path → Type 0 where
    no_paths : AllPathsAlike [] []
    more_paths : {p q : Path} {ps qs : List Path} → AlikePaths p q → AllPathsAlike ps qs → AllPathsAlike (p ∷ ps) (q ∷ qs)

  -- Two segments of paths are alike.
  pub data AlikeSegments : Segment → Segment → Type 0 where
    of_args : (i j : Ident) {a b : Args} → i.text ≡ j.text → AlikeArgs a b → AlikeSegments (segment_of i a) (segment_of j b)

  -- Two lists of segments are alike, item by item.
  pub data AllSegmentsAlike : List Segment → List Segment → Type 0 where
    no_segments : AllSegmentsAlike [] []
    more_segments : {x y : Segment} {xs ys : List Segment} → AlikeSegments x y → AllSegmentsAlike xs ys → AllSegmentsAlike (x ∷ xs) (y ∷ ys)

  -- The arguments of two segments are alike.
  pub data AlikeArgs : Args → Args → Type 0 where
    no_args : AlikeArgs args.None args.None
    in_angles : {xs ys : List AngleArg} → AllArgsAlike xs ys → AlikeArgs (args.Angle xs) (args.Angle ys)
    in_round : {xs ys : List Ty} {s t : Option Ty} → AllTypesAlike xs ys → AlikeOptions s t → AlikeArgs (args.Round xs s) (args.Round ys t)

  -- Two generic arguments are alike.
  pub data AlikeAngleArgs : AngleArg → AngleArg → Type 0 where
    lifetimes : (l m : Lifetime) → l.text ≡ m.text → AlikeAngleArgs (arg.Lifetime l) (arg.Lifetime m)
    plain_types : {x y : Ty} → AlikeTypes x y → AlikeAngleArgs (arg.Plain x) (arg.Plain y)
    bindings : (i j : Ident) {x y : Ty} → i.text ≡ j.text → AlikeTypes x y → AlikeAngleArgs (arg.Binding i x) (arg.Binding j y)
    constants : (v w : Written) → AreEqualAside v.tokens w.tokens → AlikeAngleArgs (arg.Constant v) (arg.Constant w)

  -- Two lists of generic arguments are alike, item by item.
  pub data AllArgsAlike : List AngleArg → List AngleArg → Type 0 where
    no_more : AllArgsAlike [] []
    more_args : {x y : AngleArg} {xs ys : List AngleArg} → AlikeAngleArgs x y → AllArgsAlike xs ys → AllArgsAlike (x ∷ xs) (y ∷ ys)
