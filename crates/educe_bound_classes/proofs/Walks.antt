-- Whether something stands in a type, as equations on the lists, boxes and options that trees are made of.
use denote.Hole.Carrier.{hidden, shown, out}
use mathlib.Core.Former.{Count}
use Rattle.std.specs.Prelude.{is_some}
use Rattle.std.proofs.Common.{◌≡◌, Bool, true, false, not, ◌&&◌, ◌||◌, List, refl, ap, sym, ◌∙◌, Option, Some, None}
use Rattle.educe_tokens.specs.declared.written.Written.{Written}
use Rattle.educe_tree.specs.declared.ident.Ident.{Ident}
use Rattle.educe_tree.specs.declared.lifetime.Lifetime.{Lifetime}
use Rattle.educe_tree.specs.declared.ty.Ty.{Ty}
use Rattle.educe_tree.specs.declared.ty.TypeForm.{TypeForm, Row_of-Path, items-the_row-Path, items_hidden-the_row-Path-3}
use Rattle.educe_tree.specs.declared.ty.TypeForm as form
use Rattle.educe_tree.specs.declared.ty.TypeForm.TheVariants as made
use Rattle.educe_tree.specs.declared.path.Path.{Path, Row_of-Segment, items-the_row-Segment, items_hidden-the_row-Segment-4, items_shown-the_row-Segment-4, out-Path}
use Rattle.educe_tree.specs.declared.path.Path as path
use Rattle.educe_tree.specs.declared.path.Segment.{Segment}
use Rattle.educe_tree.specs.declared.path.Args.{Args, Row_of-Ty, Row_of-AngleArg, Held-Args-Round-1, items-the_row-Ty, items-the_row-AngleArg, items_hidden-the_row-Ty-1, items_hidden-the_row-AngleArg-0, back-Args-Round-1}
use Rattle.educe_tree.specs.declared.path.AngleArg.TheBlock.{hidden-the_row-Ty-2}
use Rattle.educe_tree.specs.declared.path.Args as args
use Rattle.educe_tree.specs.declared.path.Args.TheVariants as made_args
use Rattle.educe_tree.specs.declared.path.AngleArg.{AngleArg}
use Rattle.educe_tree.specs.declared.path.AngleArg.TheVariants as made_arg
use Rattle.educe_bound_classes.specs.Walk.{Question, in_form, in_path, in_args, in_arg, in_type, in_types, in_optional, in_paths, in_segments, in_angle, in_type_row, in_held, in_path_row, in_segment_row, in_arg_row, is_held}

module _ (q : Question) where
  -- ---- rows

  type_row-items : (n : Count) (row : Row_of-Ty n) → in_type_row q row ≡ in_types q (items-the_row-Ty n row)
  type_row-items n args.end_of-Ty = refl
  type_row-items n (args.more_of-Ty f w rest) = ap (λ b. in_form q f || b) (type_row-items _ rest)

  path_row-items : (n : Count) (row : Row_of-Path n) → in_path_row q row ≡ in_paths q (items-the_row-Path n row)
  path_row-items n form.end_of-Path = refl
  path_row-items n (form.more_of-Path p rest) = ap (λ b. in_path q false p || b) (path_row-items _ rest)

  segment_row-items : (n : Count) (row : Row_of-Segment n) → in_segment_row q row ≡ in_segments q (items-the_row-Segment n row)
  segment_row-items n path.end_of-Segment = refl
  segment_row-items n (path.more_of-Segment i a rest) = ap (λ b. in_args q a || b) (segment_row-items _ rest)

  arg_row-items : (n : Count) (row : Row_of-AngleArg n) → in_arg_row q row ≡ in_angle q (items-the_row-AngleArg n row)
  arg_row-items n args.end_of-AngleArg = refl
  arg_row-items n (args.more_of-AngleArg a rest) = ap (λ b. in_arg q a || b) (arg_row-items _ rest)

  -- ---- forms

  -- the types that a form holds in a list
  abbrev types_of : TypeForm → (n : Count) × Row_of-Ty n
  types_of (form.Tuple' s row) = (_, row)
  types_of (form.FnPtr' s row held) = (_, row)
  types_of _ = (_, args.end_of-Ty)

  abbrev paths_of : TypeForm → (n : Count) × Row_of-Path n
  paths_of (form.TraitObject' s row) = (_, row)
  paths_of _ = (_, form.end_of-Path)

  or_false : (b : Bool) → (b || false) ≡ b
  or_false true = refl
  or_false false = refl

  or_true : (b : Bool) → (b || true) ≡ true
  or_true true = refl
  or_true false = refl

  -- a type behind an option
  held-optional : (o : Option Ty) → in_held q (back-Args-Round-1 o) ≡ in_optional q o
  unfolding hidden-the_row-Ty-2 hidden
  held-optional None = refl
  held-optional (Some ty) = or_false (in_form q ty.form)

  pub in_form-Paren : (ty : Ty) → in_form q (made.Paren ty) ≡ in_type q ty
  unfolding hidden-the_row-Ty-2 hidden
  in_form-Paren ty = or_false (in_form q ty.form)

  pub in_form-Tuple : (types : List Ty) → in_form q (made.Tuple types) ≡ in_types q types
  in_form-Tuple types = let row = types_of (made.Tuple types) in type_row-items row.0 row.1 ∙ ap (in_types q) (items_hidden-the_row-Ty-1 types)

  pub in_form-Never : in_form q made.Never ≡ false
  in_form-Never = refl

  pub in_form-Reference : (mutable : Bool) (ty : Ty) → in_form q (made.Reference mutable ty) ≡ (not (q.passes_references mutable) && in_type q ty)
  unfolding hidden-the_row-Ty-2 hidden
  in_form-Reference mutable ty = ap (λ b. not (q.passes_references mutable) && b) (or_false (in_form q ty.form))

  pub in_form-Pointer : (ty : Ty) → in_form q (made.Pointer ty) ≡ (not q.passes_pointers && in_type q ty)
  unfolding hidden-the_row-Ty-2 hidden
  in_form-Pointer ty = ap (λ b. not q.passes_pointers && b) (or_false (in_form q ty.form))

  pub in_form-Slice : (ty : Ty) → in_form q (made.Slice ty) ≡ in_type q ty
  unfolding hidden-the_row-Ty-2 hidden
  in_form-Slice ty = or_false (in_form q ty.form)

  pub in_form-Array : (ty : Ty) (length : Written) → in_form q (made.Array ty length) ≡ (q.at_words length.tokens || in_type q ty)
  unfolding hidden-the_row-Ty-2 hidden
  in_form-Array ty length = ap (λ b. q.at_words length.tokens || b) (or_false (in_form q ty.form))

  held-some : (o : Option Ty) → is_held (back-Args-Round-1 o) ≡ is_some o
  held-some None = refl
  held-some (Some ty) = refl

  pub in_form-Path : (self_type : Option Ty) (p : Path) → in_form q (made.Path self_type p) ≡ (in_optional q self_type || in_path q (is_some self_type) p)
  in_form-Path self_type p = λ i. held-optional self_type i || in_path q (held-some self_type i) p

  pub in_form-FnPtr : (inputs : List Ty) (output : Option Ty) → in_form q (made.FnPtr inputs output) ≡ (not q.passes_pointers && (in_types q inputs || in_optional q output))
  in_form-FnPtr inputs output =
      let row = types_of (made.FnPtr inputs output) in
      let first = type_row-items row.0 row.1 ∙ ap (in_types q) (items_hidden-the_row-Ty-1 inputs) in
      λ i. not q.passes_pointers && (first i || held-optional output i)

  pub in_form-TraitObject : (paths : List Path) → in_form q (made.TraitObject paths) ≡ in_paths q paths
  in_form-TraitObject paths = let row = paths_of (made.TraitObject paths) in path_row-items row.0 row.1 ∙ ap (in_paths q) (items_hidden-the_row-Path-3 paths)

  -- ---- paths

  pub in_path-out : (behind : Bool) (p : Path) → in_path q behind p ≡ (not (q.passes_path p) && (q.at_path behind p || in_segments q (out-Path p).segments))
  unfolding out-Path out shown
  in_path-out behind (path.Path' leading s row) =
      ap (λ b. not (q.passes_path (path.Path' leading s row)) && (q.at_path behind (path.Path' leading s row) || b)) (segment_row-items _ row ∙ ap (in_segments q) (sym (items_shown-the_row-Segment-4 s row)))

  -- the answer is yes at the path, or in the arguments of a segment, or it is no
  pub in_path-here : (behind : Bool) (p : Path) → q.passes_path p ≡ false → q.at_path behind p ≡ true → in_path q behind p ≡ true
  in_path-here behind p passes here = in_path-out behind p ∙ (λ i. not (passes i) && (here i || in_segments q (out-Path p).segments))

  pub in_path-inside : (behind : Bool) (p : Path) (segments : List Segment) → segments ≡ (out-Path p).segments → q.passes_path p ≡ false → in_segments q segments ≡ true → in_path q behind p ≡ true
  in_path-inside behind p segments is passes inside =
      in_path-out behind p ∙ (λ i. not (passes i) && (q.at_path behind p || (sym (ap (in_segments q) is) ∙ inside) i)) ∙ or_true (q.at_path behind p)

  pub in_path-nowhere : (behind : Bool) (p : Path) (segments : List Segment) → segments ≡ (out-Path p).segments → q.passes_path p ≡ false → q.at_path behind p ≡ false → in_segments q segments ≡ false → in_path q behind p ≡ false
  in_path-nowhere behind p segments is passes here inside =
      in_path-out behind p ∙ (λ i. not (passes i) && (here i || (sym (ap (in_segments q) is) ∙ inside) i))

  -- ---- arguments

  abbrev inputs_of : Args → (n : Count) × Row_of-Ty n
  inputs_of (args.Round' s row held) = (_, row)
  inputs_of _ = (_, args.end_of-Ty)

  abbrev angle_of : Args → (n : Count) × Row_of-AngleArg n
  angle_of (args.Angle' s row) = (_, row)
  angle_of _ = (_, args.end_of-AngleArg)

  pub in_args-None : in_args q made_args.None ≡ false
  in_args-None = refl

  pub in_args-Angle : (angle : List AngleArg) → in_args q (made_args.Angle angle) ≡ in_angle q angle
  in_args-Angle angle = let row = angle_of (made_args.Angle angle) in arg_row-items row.0 row.1 ∙ ap (in_angle q) (items_hidden-the_row-AngleArg-0 angle)

  pub in_args-Round : (inputs : List Ty) (output : Option Ty) → in_args q (made_args.Round inputs output) ≡ (in_types q inputs || in_optional q output)
  in_args-Round inputs output =
      let row = inputs_of (made_args.Round inputs output) in
      let first = type_row-items row.0 row.1 ∙ ap (in_types q) (items_hidden-the_row-Ty-1 inputs) in
      λ i. first i || held-optional output i

  pub in_arg-Lifetime : (l : Lifetime) → in_arg q (made_arg.Lifetime l) ≡ false
  in_arg-Lifetime l = refl

  pub in_arg-Plain : (ty : Ty) → in_arg q (made_arg.Plain ty) ≡ in_type q ty
  in_arg-Plain ty = refl

  pub in_arg-Binding : (name : Ident) (ty : Ty) → in_arg q (made_arg.Binding name ty) ≡ in_type q ty
  in_arg-Binding name ty = refl

  pub in_arg-Constant : (w : Written) → in_arg q (made_arg.Constant w) ≡ q.at_words w.tokens
  in_arg-Constant w = refl

-- what stands in a type, by what it is made of
pub ruleset walk_laws = (in_form-Paren, in_form-Tuple, in_form-Never, in_form-Reference, in_form-Pointer, in_form-Slice, in_form-Array, in_form-Path, in_form-FnPtr, in_form-TraitObject, in_path-out, in_args-None, in_args-Angle, in_args-Round, in_arg-Lifetime, in_arg-Plain, in_arg-Binding, in_arg-Constant)
