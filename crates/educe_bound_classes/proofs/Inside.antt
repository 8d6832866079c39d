-- The types to which a type that is read hands on what is asked are read themselves, within the same limit.
use Rattle.std.proofs.Common.{◌≡◌, ℕ, zero, suc, ◌-◌, Bool, true, false, List, [], ◌∷◌, length, map, sym, subst, Option, Some, None, arith}
use Rattle.std.specs.Prelude.{IfSome, slice_get, if◌then◌else◌}
use Rattle.std.specs.List.{AllByRecursion}
use Rattle.educe_tree.specs.declared.generics.GenericParam.{GenericParam}
use Rattle.educe_tree.specs.declared.expr.Expr.{Expr}
use Rattle.educe_tree.specs.declared.ty.Ty.{Ty}
use Rattle.educe_tree.specs.declared.ty.TypeForm.{TypeForm}
use Rattle.educe_tree.specs.declared.path.Path.{Path, out-Path}
use Rattle.educe_tree.specs.declared.path.Segment.{Segment}
use Rattle.educe_tree.specs.declared.path.Args.{Args}
use Rattle.educe_tree.specs.declared.path.AngleArg.{AngleArg}
use Rattle.educe_grammar.specs.declared.ending.Ending.{Ending}
use Rattle.educe_grammar.specs.declared.ending.Ending.TheVariants.{Closed, Arguments, Name}
use Rattle.educe_grammar.specs.Rules.{Rule, Typed, part, types}
use Rattle.educe_grammar.specs.Reading.{Parses}
use Rattle.educe_grammar.specs.Reads.{Reads}
use Rattle.educe_grammar.specs.Types.{binding_of, constant_of, angle_arg, angle_args, angle_read, returned, round_read, no_args, type_args, segment_read, type_segment, type_segments, path_read, type_path, FormRead, round_form, never_of, reference, pointer, square_form, qualified, fn_pointer, qualified_read, round_of, square_of, fn_of, reference_of, pointer_of, path_form, plain_form, bounds_form, any_bounds_form, untyped_of, any_type}
use Rattle.educe_grammar.proofs.Each.{all_found, all_made, all_more}
use Rattle.educe_grammar.proofs.MoreBudget.{read_within}
use Rattle.educe_grammar.proofs.OfDefinitions.{type_tokens}
use Rattle.educe_grammar.proofs.Unrolling.{parts_unroll}
use Rattle.educe_grammar.proofs.Within.{Has as HasWithin, has_any, has_empty, has_made, has_second, has_skipping, has_either, has_nest, has_checked, has_angles, has_written, has_list, has_path}
use Rattle.educe_bound_classes.specs.Exceptions.{Exceptions}
use Rattle.educe_bound_classes.specs.Classes.{plain_of, angle_of, args_at, last_segment, path_of_form, forwards, parts_by, parts_of}
use Rattle.educe_bound_classes.specs.Needs.{IsReading}
use Rattle.educe_bound_classes.proofs.ClassLaws.{angle_of-Angle}
use Rattle.educe_bound_classes.proofs.Likeness.{segments_are}

-- an item of a list has what each has
all_at : {A : Type 0} (P : A → Type 0) (xs : List A) (k : ℕ) → AllByRecursion P xs → IfSome (slice_get xs k) P
all_at P [] k all = tt
all_at P (x ∷ xs) zero all = all.0
all_at P (x ∷ xs) (suc k) all = all_at P xs k all.1

module _ (limit : ℕ) where
  -- What is read by the rule within the limit has this.
  abbrev Has : {A : Type 0} → Rule A → (A → Type 0) → Type 0
  Has g Q = HasWithin limit g Q

  -- the type is the reading of its tokens within the limit
  abbrev pub IsReadWithin : Ty → Type 0
  IsReadWithin ty = Reads limit any_type ty.written.tokens ty

  -- a part that is a type is one
  part_has : Has (part types) IsReadWithin
  unfolding Parses
  part_has = record {
    has = λ budget room tokens x is.
        (let r = parts_unroll budget types tokens x is in
        subst (λ ts. Reads limit any_type ts x) (sym (type_tokens budget tokens x r)) (read_within any_type budget limit tokens x room r));
  }

  -- ---- arguments

  -- where the argument is a type, it is the reading of its tokens
  abbrev ArgRead : AngleArg → Type 0
  ArgRead a = IfSome (plain_of a) IsReadWithin

  angle_arg_has : Has angle_arg ArgRead
  unfolding angle_arg
  angle_arg_has =
      has_either _ _ _ ArgRead (has_made _ _ (λ _. Unit {0}) ArgRead (λ x _. tt) (has_any _))
      (has_either _ _ _ ArgRead (has_made constant_of _ (λ _. Unit {0}) ArgRead (λ x _. tt) (has_any _))
      (has_either _ _ _ ArgRead (has_made binding_of _ (λ _. Unit {0}) ArgRead (λ x _. tt) (has_any _))
      (has_made _ (part types) IsReadWithin ArgRead (λ x is. is) part_has)))

  -- each type among the arguments is
  abbrev ArgsAre : Args → Type 0
  ArgsAre a = AllByRecursion ArgRead (angle_of a)

  angle_are : (found : List AngleArg) → AllByRecursion ArgRead found → ArgsAre (angle_read found).0
  angle_are found all = subst (AllByRecursion ArgRead) (sym (angle_of-Angle found)) all

  returned_are : (inputs : List Ty) (output : Ty) (ending : Ending) → ArgsAre (returned inputs output ending).0
  returned_are inputs output Closed = tt
  returned_are inputs output Arguments = tt
  returned_are inputs output Name = tt

  round_are : (xs : List Ty) (o : Option Typed) → ArgsAre (round_read (xs, o)).0
  round_are xs None = tt
  round_are xs (Some t) = returned_are xs t.0 t.1

  type_args_has : Has type_args (λ a. ArgsAre a.0)
  unfolding type_args angle_args
  type_args_has =
      has_either _ _ _ (λ a. ArgsAre a.0)
      (has_made angle_read _ (AllByRecursion ArgRead) (λ a. ArgsAre a.0) angle_are
      (has_skipping _ _ (AllByRecursion ArgRead) (has_angles _ (AllByRecursion ArgRead) (has_list _ _ angle_arg ArgRead angle_arg_has))))
      (has_either _ _ _ (λ a. ArgsAre a.0)
      (has_made round_read _ (λ _. Unit {0}) (λ a. ArgsAre a.0) (λ x _. round_are x.0 x.1) (has_any _))
      (has_empty no_args (λ a. ArgsAre a.0) tt))

  -- ---- paths

  abbrev SegmentIs : Segment → Type 0
  SegmentIs s = ArgsAre s.args

  segment_has : Has type_segment (λ s. SegmentIs s.0)
  unfolding type_segment
  segment_has = has_made segment_read _ (λ x. ArgsAre x.1.0) (λ s. SegmentIs s.0) (λ x is. is) (has_second _ type_args (λ a. ArgsAre a.0) type_args_has)

  segments_have : Has type_segments (AllByRecursion (λ s. SegmentIs s.0))
  unfolding type_segments
  segments_have = has_checked _ _ (AllByRecursion (λ s. SegmentIs s.0)) (has_path type_segment (λ s. SegmentIs s.0) segment_has)

  abbrev PathIs : Path → Type 0
  PathIs p = AllByRecursion SegmentIs (out-Path p).segments

  path_has : Has type_path (λ p. PathIs p.0)
  unfolding type_path
  path_has =
      has_checked _ _ (λ p. PathIs p.0)
      (has_made path_read _ (λ x. AllByRecursion (λ s. SegmentIs s.0) x.1) (λ p. PathIs p.0)
      (λ x all. subst (AllByRecursion SegmentIs) (sym (segments_are x.0 (map (λ s. s.0) x.1))) (all_made (λ s. s.0) (λ s. SegmentIs s.0) SegmentIs (λ s is. is) x.1 all))
      (has_second _ type_segments (AllByRecursion (λ s. SegmentIs s.0)) segments_have))

  -- ---- forms

  -- the path that a form is, without a self type
  abbrev FormIs : TypeForm → Type 0
  FormIs f = IfSome (path_of_form f) PathIs

  round_is : (x : Ty) (o : Option (List Ty)) → FormIs (round_of (x, o)).0
  round_is x None = tt
  round_is x (Some xs) = tt

  square_is : (x : Ty) (o : Option Expr) → FormIs (square_of (x, o)).0
  square_is x None = tt
  square_is x (Some n) = tt

  fn_is : (xs : List Ty) (o : Option Typed) → FormIs (fn_of (xs, o)).0
  fn_is xs None = tt
  fn_is xs (Some t) = tt

  -- what is read has such a form
  abbrev ReadIs : FormRead → Type 0
  ReadIs f = FormIs f.0

  plain_has : Has plain_form ReadIs
  unfolding plain_form round_form reference pointer square_form qualified fn_pointer
  plain_has =
      has_either _ _ _ ReadIs
      (has_nest _ _ ReadIs
      (has_either _ _ _ ReadIs (has_empty _ ReadIs tt) (has_made round_of _ (λ _. Unit {0}) ReadIs (λ x _. round_is x.0 x.1) (has_any _))))
      (has_either _ _ _ ReadIs (has_made never_of _ (λ _. Unit {0}) ReadIs (λ x _. tt) (has_any _))
      (has_either _ _ _ ReadIs (has_made reference_of _ (λ _. Unit {0}) ReadIs (λ x _. tt) (has_any _))
      (has_either _ _ _ ReadIs (has_made pointer_of _ (λ _. Unit {0}) ReadIs (λ x _. tt) (has_any _))
      (has_either _ _ _ ReadIs (has_made square_of _ (λ _. Unit {0}) ReadIs (λ x _. square_is x.0 x.1) (has_any _))
      (has_either _ _ _ ReadIs (has_made qualified_read _ (λ _. Unit {0}) ReadIs (λ x _. tt) (has_any _))
      (has_either _ _ _ ReadIs (has_made fn_of _ (λ _. Unit {0}) ReadIs (λ x _. fn_is x.0 x.1) (has_any _))
      (has_made path_form type_path (λ p. PathIs p.0) ReadIs (λ x is. is) path_has)))))))

  form_has : Has any_bounds_form ReadIs
  unfolding any_bounds_form
  form_has = has_either _ _ _ ReadIs (has_made bounds_form _ (λ _. Unit {0}) ReadIs (λ x _. tt) (has_any _)) plain_has

  type_has : Has any_type (λ x. FormIs x.form)
  unfolding any_type
  type_has = has_made untyped_of _ (λ x. ReadIs x.0) (λ x. FormIs x.form) (λ x is. is) (has_written any_bounds_form ReadIs form_has)

  -- ---- parts

  args_are : (o : Option Segment) → IfSome o SegmentIs → ArgsAre (args_at o)
  args_are None is = tt
  args_are (Some s) is = is

  module _ (params : List GenericParam) (ex : Exceptions) where
    if_read : (b : Bool) (ts us : List Ty) → AllByRecursion IsReadWithin ts → ◌≡◌ {A = Option (List Ty)} (if b then Some ts else None) (Some us) → AllByRecursion IsReadWithin us
    if_read true ts us all is = subst (AllByRecursion IsReadWithin) (let e : ts ≡ us = cc in e) all
    if_read false ts us all is = absurd (cc)

    parts_by_read : (o : Option Path) (ts : List Ty) → IfSome o PathIs → parts_by params ex o ≡ Some ts → AllByRecursion IsReadWithin ts
    parts_by_read None ts is h = absurd (cc)
    parts_by_read (Some p) ts is h =
        if_read (forwards params ex p) _ ts
        (all_found plain_of ArgRead IsReadWithin (λ a read. read) _ (args_are (last_segment p) (all_at SegmentIs (out-Path p).segments (length (out-Path p).segments - 1) is))) h

    -- The parts of a type that is read within the limit are, too.
    pub parts_read : (x : Ty) (ts : List Ty) → IsReadWithin x → parts_of params ex x ≡ Some ts → AllByRecursion IsReadWithin ts
    parts_read x ts is h = parts_by_read (path_of_form x.form) ts (type_has.has limit (omega arith) x.written.tokens x is) h

-- The parts of a type that is read are read.
pub parts_reading : (params : List GenericParam) (ex : Exceptions) (x : Ty) (ts : List Ty) → IsReading x → parts_of params ex x ≡ Some ts → AllByRecursion IsReading ts
parts_reading params ex x ts is h = all_more (IsReadWithin is.0) IsReading (λ y read. (is.0, read)) ts (parts_read is.0 params ex x ts is.1 h)
