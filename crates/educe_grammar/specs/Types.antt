-- Types, paths and bounds (Rust Reference, Types; Paths; Trait and lifetime bounds).
use Rattle.std.specs.Prelude.{ℕ, Bool, true, false, not, ◌&&◌, if◌then◌else◌, List, [], ◌∷◌, ◌++◌, map, Option, Some, None, codes}
use Rattle.std.specs.List.{filter_map}
use Rattle.std.specs.Str.{bytes_eq}
use Rattle.educe_tokens.specs.Bracket.TheVariants.{Round, Square, Curly}
use Rattle.educe_tokens.specs.declared.written.Written.{Written}
use Rattle.educe_tree.specs.declared.ident.Ident.{Ident}
use Rattle.educe_tree.specs.declared.expr.Expr.{Expr}
use Rattle.educe_tree.specs.declared.ty.Ty.{Ty, roll-Ty}
use Rattle.educe_tree.specs.declared.ty.TypeForm.{TypeForm}
use Rattle.educe_tree.specs.declared.ty.TypeForm.TheVariants as form
use Rattle.educe_tree.specs.declared.path.Path.{Path, roll-Path, out-Path}
use Rattle.educe_tree.specs.declared.path.Segment.{Segment, roll-Segment, out-Segment}
use Rattle.educe_tree.specs.declared.path.Args.{Args}
use Rattle.educe_tree.specs.declared.path.Args.TheVariants as args
use Rattle.educe_tree.specs.declared.path.AngleArg.{AngleArg}
use Rattle.educe_tree.specs.declared.path.AngleArg.TheVariants as arg
use Rattle.educe_grammar.specs.declared.ending.Ending.{Ending}
use Rattle.educe_grammar.specs.declared.ending.Ending.TheVariants.{Closed, Arguments, Name}
use Rattle.educe_grammar.specs.declared.terminal.Keyword.TheVariants as keyword
use Rattle.educe_grammar.specs.declared.terminal.Terminal.TheVariants as terminal
use Rattle.educe_grammar.specs.Ahead.{one, start, stop, lone, pair, finish, Look}
use Rattle.educe_grammar.specs.Rules.{Rule, token, empty, both, made, checked, either, nest, angles, under, arrow, list, written, part, types, plains, exprs, Typed}
use Rattle.educe_grammar.specs.Rules as rule
use Rattle.educe_grammar.specs.Combining.{at, at_sign, at_word, at_colons, at_colon, at_arrow, at_angle, unit, skipping, optional, flag, sign, word, colons, behind_colon, commas, in_round, in_angles}
use Rattle.educe_grammar.specs.Names.{name, segment_name, lifetime}

-- ---- trees

-- The tree of a form and its tokens.
abbrev pub type_of : TypeForm → Written → Ty
type_of form tokens = roll-Ty (record { form = form; written = tokens })

-- The path of segments, behind a `::` or not.
abbrev pub path_of : Bool → List Segment → Path
path_of leading segments = roll-Path (record { leading = leading; segments = segments })

-- The segment of a name and its arguments.
abbrev pub segment_of : Ident → Args → Segment
segment_of ident args = roll-Segment (record { ident = ident; args = args })

-- ---- bounds

-- A lookahead: what follows a type or bounds.
abbrev pub behind_type : Look
behind_type =
    (one (terminal.Sign 44) ∷ []) ∷ (one (terminal.Sign 59) ∷ []) ∷ (one (terminal.Sign 61) ∷ []) ∷ (one (terminal.Sign 62) ∷ [])
    ∷ (lone 58 58 ∷ []) ∷ (start Curly ∷ []) ∷ (stop Round ∷ []) ∷ (stop Square ∷ []) ∷ (stop Curly ∷ [])
    ∷ (one (terminal.Word keyword.As) ∷ []) ∷ (finish ∷ []) ∷ []

-- Items separated by `+`, with an optional trailing one.
abbrev pub pluses : {A : Type 0} → Rule A → Rule (List A)
pluses g = list (terminal.Sign 43) behind_type g

-- Rule for the optional bounds of a lifetime.
unfoldable pub lifetime_bounds : Rule (Unit {0})
lifetime_bounds = unit (pluses lifetime)

-- Rule for a lifetime with its bounds, in `for<'a>`.
unfoldable pub for_lifetime : Rule (Unit {0})
for_lifetime = unit (both lifetime (flag at_colon (behind_colon lifetime_bounds)))

-- Rule for the binder `for<'a, 'b: 'a>`.
unfoldable pub for_all : Rule (Unit {0})
for_all = unit (both (word keyword.For) (in_angles for_lifetime))

-- ---- arguments of paths

-- Lookahead for a constant argument that is no name.
abbrev pub at_constant : Look
at_constant =
    (one terminal.Literal ∷ []) ∷ (one (terminal.Sign 45) ∷ []) ∷ (one terminal.Truth ∷ []) ∷ (start Curly ∷ []) ∷ []

-- Rule for a constant argument that is no name.
unfoldable pub constant : Rule (Unit {0})
constant =
    either (at (one terminal.Literal)) (unit (token terminal.Literal))
    (either (at_sign 45) (unit (both (sign 45) (token terminal.Int)))
    (either (at (one terminal.Truth)) (unit (token terminal.Truth))
    (unit (nest Curly (part exprs)))))

-- The argument in angle brackets that a constant is.
abbrev pub constant_of : Unit {0} × Written → AngleArg
constant_of p = arg.Constant p.1

-- The argument of a name and the type behind its `=`.
abbrev pub binding_of : Ident × Ty → AngleArg
binding_of p = arg.Binding p.0 p.1

-- A lookahead: a name with a `=` that is no half of `==`.
abbrev pub at_binding : Look
at_binding = (one terminal.Name ∷ lone 61 61 ∷ []) ∷ []

-- Rule for an argument in angle brackets.
unfoldable pub angle_arg : Rule AngleArg
angle_arg =
    either (at (one terminal.Lifetime)) (made arg.Lifetime lifetime)
    (either at_constant (made constant_of (written constant))
    (either at_binding (made binding_of (both name (rule.lone 61 61 (part types))))
    (made arg.Plain (part types))))

-- Rule for arguments in angle brackets.
unfoldable pub angle_args : Rule (List AngleArg)
angle_args = in_angles angle_arg

-- The arguments of a segment, with the ending that they give it, and whether another segment may follow.
abbrev pub ArgsRead : Type 0
ArgsRead = Args × Ending × Bool

-- What is read where there are no arguments.
abbrev pub no_args : ArgsRead
no_args = (args.None, Name, true)

-- What is read of arguments in angle brackets.
abbrev pub angle_read : List AngleArg → ArgsRead
angle_read found = (args.Angle found, Arguments, true)

-- What is read of arguments in round brackets with a type behind `->`: if that ends with a path, a `::` behind it continues that
-- path, so no segment may follow.
abbrev pub returned : List Ty → Ty → Ending → ArgsRead
returned inputs output Closed = (args.Round inputs (Some output), Arguments, true)
returned inputs output Arguments = (args.Round inputs (Some output), Arguments, false)
returned inputs output Name = (args.Round inputs (Some output), Name, false)

-- What is read of arguments in round brackets.
abbrev pub round_read : List Ty × Option Typed → ArgsRead
round_read p = elim p.1 [ None ↦ (args.Round p.0 None, Arguments, true) | Some output ↦ returned p.0 output.0 output.1 ]

-- Rule for arguments in round brackets, as `(A, B) -> C`.
unfoldable pub round_args : Rule (List Ty × Option Typed)
round_args = both (in_round (part types)) (optional at_arrow (arrow (part plains)))

-- A lookahead: arguments in angle brackets, `<A>` or `::<A>`.
abbrev pub at_angle_args : Look
at_angle_args = (lone 60 61 ∷ []) ∷ (pair 58 58 ∷ lone 60 61 ∷ []) ∷ []

-- Rule for the optional arguments of a segment in a type.
unfoldable pub type_args : Rule ArgsRead
type_args =
    either at_angle_args (made angle_read (skipping (flag at_colons colons) angle_args))
    (either (at (start Round)) (made round_read round_args)
    (empty no_args))

-- ---- paths

-- A segment, how it ends, and whether another may follow.
abbrev pub SegmentRead : Type 0
SegmentRead = Segment × Ending × Bool

-- What is read of a name and its arguments.
abbrev pub segment_read : Ident × ArgsRead → SegmentRead
segment_read p = (segment_of p.0 p.1.0, p.1.1, p.1.2)

-- Rule for a segment of a path in a type.
unfoldable pub type_segment : Rule SegmentRead
type_segment = made segment_read (both segment_name type_args)

-- Each segment but the last may be followed by another.
unfoldable pub may_follow : List SegmentRead → Bool
may_follow [] = true
may_follow (s ∷ []) = true
may_follow (s ∷ t ∷ more) = s.2 && may_follow (t ∷ more)

-- The ending of the last segment.
unfoldable pub last_ending : List SegmentRead → Ending
last_ending [] = Closed
last_ending (s ∷ []) = s.1
last_ending (s ∷ t ∷ more) = last_ending (t ∷ more)

-- The segments of a path in a type, where another may follow each but the last.
unfoldable pub type_segments : Rule (List SegmentRead)
type_segments = checked may_follow (rule.path type_segment)

-- The word is `self`, `super` or `crate`.
abbrev pub is_scope_word : List ℕ → Bool
is_scope_word text = if bytes_eq text (codes "self") then true else if bytes_eq text (codes "super") then true else bytes_eq text (codes "crate")

-- There are no arguments.
abbrev pub has_no_args : Args → Bool
has_no_args args.None = true
has_no_args (args.Angle' s found) = false
has_no_args (args.Round' s inputs output) = false

-- A segment that is the word `self`, `super` or `crate` without arguments.
abbrev pub is_scope_segment : Segment → Bool
is_scope_segment s = is_scope_word (out-Segment s).ident.text && has_no_args (out-Segment s).args

-- A single such segment without a leading `::`.
abbrev pub are_scope : Bool → List Segment → Bool
are_scope true found = false
are_scope false [] = false
are_scope false (s ∷ []) = is_scope_segment s
are_scope false (s ∷ t ∷ more) = false

-- The path is not `self`, `super` or `crate` alone.
abbrev pub is_path : Path → Bool
is_path p = not (are_scope (out-Path p).leading (out-Path p).segments)

-- The segments are one `Self`, with arguments or without, without a leading `::`.
abbrev pub are_self : Bool → List Segment → Bool
are_self true found = false
are_self false [] = false
are_self false (s ∷ []) = bytes_eq (out-Segment s).ident.text (codes "Self")
are_self false (s ∷ t ∷ more) = false

-- The ending of a path: a name, the arguments of its last segment, or the type after the `->` of its last segment. The
-- arguments of a lone `Self` count as a name.
abbrev pub path_ending : Bool → List SegmentRead → Ending
path_ending leading found = if are_self leading (map (λ s. s.0) found) then Name else last_ending found

-- A path of the segments that were read, and how it ends.
abbrev pub path_read : Bool × List SegmentRead → Path × Ending
path_read p = (path_of p.0 (map (λ s. s.0) p.1), path_ending p.0 p.1)

-- This is a path, and no word of a scope.
abbrev pub is_path_read : Path × Ending → Bool
is_path_read p = is_path p.0

-- Rule for a path in a type.
unfoldable pub type_path : Rule (Path × Ending)
type_path = checked is_path_read (made path_read (both (flag at_colons colons) type_segments))

-- Rule for the type of a qualified path, and its trait.
unfoldable pub qualified_self : Rule (Ty × Option (Path × Ending))
qualified_self = angles (both (part types) (optional (at_word keyword.As) (skipping (word keyword.As) type_path)))

-- The path of the trait's segments and those after `>`; without a trait it counts as one that begins with `::`.
abbrev pub qualified_path : Option (Path × Ending) → List Segment → Path
qualified_path None found = path_of true found
qualified_path (Some p) found = path_of (out-Path p.0).leading ((out-Path p.0).segments ++ found)

-- The form of a qualified path, and how it ends.
abbrev pub qualified_read : (Ty × Option (Path × Ending)) × List SegmentRead → TypeForm × Ending
qualified_read p = (form.Path (Some p.0.0) (qualified_path p.0.1 (map (λ s. s.0) p.1)), last_ending p.1)

-- Rule for a qualified path.
unfoldable pub qualified : Rule (TypeForm × Ending)
qualified = made qualified_read (both qualified_self (skipping colons type_segments))

-- ---- bounds of types

-- The path of a bound, none for a lifetime, and how the bound ends.
abbrev pub BoundRead : Type 0
BoundRead = Option Path × Ending

-- Rule for the path of a bound, as `?Sized` or `for<'a> F<'a>`.
unfoldable pub bound_path : Rule (Path × Ending)
bound_path = skipping (flag (at_sign 63) (sign 63)) (skipping (flag (at_word keyword.For) for_all) type_path)

-- Rule for a bound.
unfoldable pub bound : Rule BoundRead
bound =
    either (at (one terminal.Lifetime)) (made (λ _. (None, Closed)) lifetime)
    (either (at (start Round)) (made (λ p. (Some p.0, Closed)) (nest Round bound_path))
    (made (λ p. (Some p.0, p.1)) bound_path))

-- Rule for optional bounds.
unfoldable pub bounds : Rule (List BoundRead)
bounds = pluses bound

-- The paths of bounds.
abbrev pub bound_paths : List BoundRead → List Path
bound_paths found = filter_map (λ b. b.0) found

-- There is at least one bound.
abbrev pub some_bounds : List BoundRead → Bool
some_bounds [] = false
some_bounds (b ∷ more) = true

-- ---- types

-- The form of a type, and how it ends.
abbrev pub FormRead : Type 0
FormRead = TypeForm × Ending

-- The form of what stands in round brackets.
abbrev pub round_of : Ty × Option (List Ty) → FormRead
round_of p = elim p.1 [ None ↦ (form.Paren p.0, Closed) | Some more ↦ (form.Tuple (p.0 ∷ more), Closed) ]

-- Rule for a type in parentheses or a tuple.
unfoldable pub round_form : Rule FormRead
round_form = nest Round
    (either (at (stop Round)) (empty (form.Tuple [], Closed))
    (made round_of (both (part types) (optional (at_sign 44) (skipping (sign 44) (commas (at (stop Round)) (part types)))))))

-- The form of `!`.
abbrev pub never_of : Unit {0} → FormRead
never_of _ = (form.Never, Closed)

-- The form of a reference.
abbrev pub reference_of : Bool × Typed → FormRead
reference_of p = (form.Reference p.0 p.1.0, p.1.1)

-- Rule for a reference, as `&'a mut T`.
unfoldable pub reference : Rule FormRead
reference = made reference_of
    (under (terminal.Sign 38) (skipping (flag (at (one terminal.Lifetime)) lifetime) (both (flag (at_word keyword.Mut) (word keyword.Mut)) (part plains))))

-- The form of a pointer.
abbrev pub pointer_of : Typed → FormRead
pointer_of t = (form.Pointer t.0, t.1)

-- Rule for a raw pointer, as `*const T` or `*mut T`.
unfoldable pub pointer : Rule FormRead
pointer = made pointer_of (under (terminal.Sign 42) (skipping (token terminal.PointerWord) (part plains)))

-- The form of what stands in square brackets.
abbrev pub square_of : Ty × Option Expr → FormRead
square_of p = elim p.1 [ None ↦ (form.Slice p.0, Closed) | Some length ↦ (form.Array p.0 length.written, Closed) ]

-- Rule for a slice or an array.
unfoldable pub square_form : Rule FormRead
square_form = made square_of (nest Square (both (part types) (optional (at_sign 59) (skipping (sign 59) (part exprs)))))

-- Rule for a parameter of a function pointer.
unfoldable pub fn_param : Rule Ty
fn_param =
    either ((one terminal.NameOrUnderscore ∷ lone 58 58 ∷ []) ∷ []) (skipping (token terminal.NameOrUnderscore) (behind_colon (part types)))
    (part types)

-- The form of a function pointer.
abbrev pub fn_of : List Ty × Option Typed → FormRead
fn_of p = elim p.1 [ None ↦ (form.FnPtr p.0 None, Closed) | Some output ↦ (form.FnPtr p.0 (Some output.0), output.1) ]

-- Rule for the qualifiers of a function pointer, as `for<'a> unsafe extern "C"`.
unfoldable pub fn_qualifiers : Rule (Unit {0})
fn_qualifiers = unit
    (both (flag (at_word keyword.For) for_all)
    (both (flag (at_word keyword.Unsafe) (word keyword.Unsafe))
    (flag (at_word keyword.Extern) (both (word keyword.Extern) (flag (at (one terminal.Str)) (token terminal.Str))))))

-- Lookahead for a function pointer.
abbrev pub at_fn : Look
at_fn =
    (one (terminal.Word keyword.For) ∷ []) ∷ (one (terminal.Word keyword.Unsafe) ∷ []) ∷ (one (terminal.Word keyword.Extern) ∷ [])
    ∷ (one (terminal.Word keyword.Fn) ∷ []) ∷ []

-- Rule for a function pointer.
unfoldable pub fn_pointer : Rule FormRead
fn_pointer = made fn_of
    (skipping fn_qualifiers (skipping (word keyword.Fn) (both (in_round fn_param) (optional at_arrow (arrow (part plains))))))

-- The form of a type that is a path.
abbrev pub path_form : Path × Ending → FormRead
path_form p = (form.Path None p.0, p.1)

-- Rule for the form of a type other than `dyn`.
unfoldable pub plain_form : Rule FormRead
plain_form =
    either (at (start Round)) round_form
    (either (at_sign 33) (made never_of (sign 33))
    (either (at_sign 38) reference
    (either (at_sign 42) pointer
    (either (at (start Square)) square_form
    (either at_angle qualified
    (either at_fn fn_pointer
    (made path_form type_path)))))))

-- The form of `dyn` and one bound.
abbrev pub bound_form : BoundRead → FormRead
bound_form b = (form.TraitObject (bound_paths (b ∷ [])), b.1)

-- The form of `dyn` and any bounds.
abbrev pub bounds_form : List BoundRead → FormRead
bounds_form found = (form.TraitObject (bound_paths found), Closed)

-- Rule for the form of a type in which `dyn` has one bound.
unfoldable pub one_bound_form : Rule FormRead
one_bound_form = either (at_word keyword.Dyn) (made bound_form (under (terminal.Word keyword.Dyn) bound)) plain_form

-- Rule for the form of a type in which `dyn` has any number of bounds.
unfoldable pub any_bounds_form : Rule FormRead
any_bounds_form = either (at_word keyword.Dyn) (made bounds_form (under (terminal.Word keyword.Dyn) (checked some_bounds bounds))) plain_form

-- The type of a form and its tokens, with how it ends.
abbrev pub typed_of : FormRead × Written → Typed
typed_of p = (type_of p.0.0 p.1, p.0.1)

-- The type of a form and its tokens, alone.
abbrev pub untyped_of : FormRead × Written → Ty
untyped_of p = type_of p.0.0 p.1

-- Rule for a type in which `dyn` has one bound.
unfoldable pub plain_type : Rule Typed
plain_type = made typed_of (written one_bound_form)

-- Rule for a type.
unfoldable pub any_type : Rule Ty
any_type = made untyped_of (written any_bounds_form)
