-- The classes of types: what a trait asks for a type.
use Rattle.std.specs.Prelude.{ℕ, ◌-◌, nat_lt, Bool, true, false, not, ◌&&◌, ◌||◌, if◌then◌else◌, List, [], length, filter, count_by, Option, Some, None, is_some, slice_get, codes}
use Rattle.std.specs.List.{list_any, filter_map}
use Rattle.std.specs.Str.{bytes_eq}
use Rattle.educe_tree.specs.declared.generics.GenericParam.{GenericParam}
use Rattle.educe_tree.specs.declared.generics.GenericParam.TheVariants as param
use Rattle.educe_tree.specs.declared.ty.Ty.{Ty}
use Rattle.educe_tree.specs.declared.ty.TypeForm.{TypeForm}
use Rattle.educe_tree.specs.declared.ty.TypeForm as form
use Rattle.educe_tree.specs.declared.path.Path.{Path, out-Path}
use Rattle.educe_tree.specs.declared.path.Segment.{Segment}
use Rattle.educe_tree.specs.declared.path.Args.{Args, items-the_row-AngleArg}
use Rattle.educe_tree.specs.declared.path.Args as args
use Rattle.educe_tree.specs.declared.path.AngleArg.{AngleArg}
use Rattle.educe_tree.specs.declared.path.AngleArg as arg
use Rattle.educe_bound_classes.specs.Exceptions.{Exceptions}
use Rattle.educe_bound_classes.specs.Deriving.{Class, unconditional, without_parameters, forwarding, mentioning, other}
use Rattle.educe_bound_classes.specs.Params.{is_type_param}
use Rattle.educe_bound_classes.specs.Paths.{begins_with}
use Rattle.educe_bound_classes.specs.Walk.{Question, in_type}
use Rattle.educe_bound_classes.specs.Questions.{uses_params, mention_of}

-- ---- arguments

-- The text is in the list of names.
abbrev pub is_one_of : List (List ℕ) → List ℕ → Bool
is_one_of names text = list_any (λ name. bytes_eq name text) names

-- The type that a generic argument is, if it is one.
abbrev pub plain_of : AngleArg → Option Ty
plain_of (arg.Plain' f w) = Some (record { form = f; written = w })
plain_of (arg.Lifetime l) = None
plain_of (arg.Binding' i f w) = None
plain_of (arg.Constant w) = None

-- The generic argument is a type.
unfoldable pub is_plain : AngleArg → Bool
is_plain a = is_some (plain_of a)

-- The arguments in angle brackets; none where there are no angle brackets.
abbrev pub angle_of : Args → List AngleArg
angle_of args.None = []
angle_of (args.Angle' s row) = items-the_row-AngleArg _ row
angle_of (args.Round' s inputs output) = []

-- The arguments are in angle brackets.
abbrev pub has_angle : Args → Bool
has_angle args.None = false
has_angle (args.Angle' s row) = true
has_angle (args.Round' s inputs output) = false

-- The number of types among the arguments in angle brackets.
abbrev pub type_count : Args → ℕ
type_count a = count_by is_plain (angle_of a)

-- ---- paths

-- The last segment of a path.
abbrev pub last_segment : Path → Option Segment
last_segment p = slice_get (out-Path p).segments (length (out-Path p).segments - 1)

-- The arguments of a segment, if there is one.
abbrev pub args_at : Option Segment → Args
args_at None = args.None
args_at (Some s) = s.args

-- There is a segment, and it has this name.
abbrev pub is_named_at : List ℕ → Option Segment → Bool
is_named_at name None = false
is_named_at name (Some s) = bytes_eq name s.ident.text

-- The segment is `HashMap` with more than two types, or `HashSet` with more than one.
abbrev pub is_overfull : Segment → Bool
is_overfull s = (bytes_eq (codes "HashMap") s.ident.text && nat_lt 2 (type_count s.args)) || (bytes_eq (codes "HashSet") s.ident.text && nat_lt 1 (type_count s.args))

-- There is a segment, and its name is in the list.
abbrev pub matches_at : List (List ℕ) → Option Segment → Bool
matches_at names None = false
matches_at names (Some s) = not (is_overfull s) && is_one_of names s.ident.text

-- The types among the arguments of the last segment of a path.
abbrev pub last_types : Path → List Ty
last_types p = filter_map plain_of (angle_of (args_at (last_segment p)))

-- The types among the arguments of the last segment of the path that a form is.
abbrev pub types_behind : TypeForm → List Ty
types_behind (form.Path' self_type p) = last_types p
types_behind _ = []

-- The path that a form is, if it has no self type.
abbrev pub path_of_form : TypeForm → Option Path
path_of_form (form.Path' args.Args-Round-1-None' p) = Some p
path_of_form _ = None

-- The name of a type parameter; other parameters have none here.
abbrev pub type_name : GenericParam → Option (List ℕ)
type_name (param.Lifetime p) = None
type_name (param.TypeParam p) = Some p.ident.text
type_name (param.Const p) = None

-- The type mentions the derived type of this name.
abbrev pub mentions_named : List GenericParam → List ℕ → Ty → Bool
mentions_named params self ty = in_type (mention_of params self) ty

module _ (params : List GenericParam) where
  -- The path matches one of the names: it does not begin with a type parameter, its last name is one of them, and it is neither
  -- `HashMap` with more than two types nor `HashSet` with more than one.
  abbrev pub matches : List (List ℕ) → Path → Bool
  matches names p = not (begins_with (is_type_param params) p) && matches_at names (last_segment p)

  module _ (ex : Exceptions) where
    -- The path is of a type for which nothing is asked.
    abbrev pub is_unconditional_path : Path → Bool
    is_unconditional_path p =
        (not (begins_with (is_type_param params) p) && is_named_at (codes "PhantomData") (last_segment p)) || matches ex.unconditional p

    -- Nothing is asked for a type of this form: a pointer, a reference that is an exception, or the path of such a type
    -- without a self type.
    abbrev pub is_unconditional_form : TypeForm → Bool
    is_unconditional_form (form.Pointer' s ty) = true
    is_unconditional_form (form.FnPtr' s inputs output) = true
    is_unconditional_form (form.Reference' mutable s ty) = not mutable && ex.shared_references
    is_unconditional_form (form.Path' args.Args-Round-1-None' p) = is_unconditional_path p
    is_unconditional_form _ = false

    -- Nothing is asked for the type, whatever its arguments are.
    abbrev pub is_unconditional : Ty → Bool
    is_unconditional ty = is_unconditional_form ty.form

    -- ---- forwarding

    -- The path is of a type that forwards to its arguments what is asked.
    abbrev pub forwards : Path → Bool
    forwards p = matches ex.forwarding p && has_angle (args_at (last_segment p))

    -- The types to which a path forwards, if there is a path and it forwards.
    abbrev pub parts_by : Option Path → Option (List Ty)
    parts_by None = None
    parts_by (Some p) = if forwards p then Some (last_types p) else None

    -- There is a path, and it forwards to its arguments.
    abbrev pub forwards_at : Option Path → Bool
    forwards_at None = false
    forwards_at (Some p) = forwards p

    -- The type forwards to its arguments.
    abbrev pub is_forwarding : Ty → Bool
    is_forwarding ty = forwards_at (path_of_form ty.form)

    -- The types to which a type forwards; none where it does not forward.
    abbrev pub parts_of : Ty → Option (List Ty)
    parts_of ty = parts_by (path_of_form ty.form)

    -- ---- names

    -- The question whether a path begins with the parameter of this name.
    abbrev pub name_of : List ℕ → Question
    name_of name = record {
      at_path = λ behind p. begins_with (λ text. bytes_eq name text) p;
      at_words = λ tokens. false;
      passes_references = λ mutable. not mutable && ex.shared_references;
      passes_pointers = true;
      passes_path = is_unconditional_path;
    }

    -- The type parameters that begin a path in the type, in declared order; what is unconditional is passed over.
    abbrev pub names_in : Ty → List (List ℕ)
    names_in ty = filter (λ name. in_type (name_of name) ty) (filter_map type_name params)

    -- ---- classes

    module _ (self : List ℕ) where
      -- The type mentions the derived type.
      abbrev pub mentions : Ty → Bool
      mentions ty = mentions_named params self ty

      -- The first class that applies, given which apply.
      abbrev pub class_by : Bool → Bool → Option (List Ty) → Bool → List (List ℕ) → Class Ty (List ℕ)
      class_by true uses parts mentions names = unconditional
      class_by false false parts mentions names = without_parameters
      class_by false true (Some parts) mentions names = forwarding parts
      class_by false true None true names = mentioning names
      class_by false true None false names = other

      -- The class of a type: the first that applies.
      abbrev pub class_of : Ty → Class Ty (List ℕ)
      class_of ty = class_by (is_unconditional ty) (uses_params params ty) (parts_of ty) (mentions ty) (names_in ty)
