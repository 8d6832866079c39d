-- What classes rest on, as equations on the lists, boxes and options that trees are made of.
use Rattle.std.proofs.Common.{◌≡◌, Bool, true, false, not, ◌&&◌, List, [], refl, Option, Some, None, codes}
use Rattle.std.specs.Str.{chars}
use Rattle.educe_tree.specs.declared.generics.GenericParam.{GenericParam}
use Rattle.educe_tree.specs.declared.ty.Ty.{Ty}
use Rattle.educe_tree.specs.declared.ty.TypeForm.TheVariants as made
use Rattle.educe_tree.specs.declared.path.Path.{Path}
use Rattle.educe_tree.specs.declared.path.Args.{items_hidden-the_row-AngleArg-0}
use Rattle.educe_tree.specs.declared.path.Args.TheVariants as made_args
use Rattle.educe_tree.specs.declared.path.AngleArg.{AngleArg}
use Rattle.educe_bound_classes.specs.Exceptions.{Exceptions}
use Rattle.educe_bound_classes.specs.Classes.{types_behind, last_types, path_of_form, angle_of, is_unconditional_form, is_unconditional_path}

pub chars_HashMap : chars (codes "HashMap") ≡ codes "HashMap"
unfolding chars
chars_HashMap = refl

pub chars_HashSet : chars (codes "HashSet") ≡ codes "HashSet"
unfolding chars
chars_HashSet = refl

pub chars_PhantomData : chars (codes "PhantomData") ≡ codes "PhantomData"
unfolding chars
chars_PhantomData = refl

pub chars_Self : chars (codes "Self") ≡ codes "Self"
unfolding chars
chars_Self = refl

pub angle_of-Angle : (angle : List AngleArg) → angle_of (made_args.Angle angle) ≡ angle
angle_of-Angle angle = items_hidden-the_row-AngleArg-0 angle

pub angle_of-Round : (inputs : List Ty) (output : Option Ty) → angle_of (made_args.Round inputs output) ≡ []
angle_of-Round inputs output = refl

pub angle_of-None : angle_of made_args.None ≡ []
angle_of-None = refl

module _ (params : List GenericParam) (ex : Exceptions) where
  pub unconditional-Pointer : (ty : Ty) → is_unconditional_form params ex (made.Pointer ty) ≡ true
  unconditional-Pointer ty = refl

  pub unconditional-FnPtr : (inputs : List Ty) (output : Option Ty) → is_unconditional_form params ex (made.FnPtr inputs output) ≡ true
  unconditional-FnPtr inputs output = refl

  pub unconditional-Reference : (mutable : Bool) (ty : Ty) → is_unconditional_form params ex (made.Reference mutable ty) ≡ (not mutable && ex.shared_references)
  unconditional-Reference mutable ty = refl

  pub unconditional-Path : (p : Path) → is_unconditional_form params ex (made.Path None p) ≡ is_unconditional_path params ex p
  unconditional-Path p = refl

  pub unconditional-qualified : (ty : Ty) (p : Path) → is_unconditional_form params ex (made.Path (Some ty) p) ≡ false
  unconditional-qualified ty p = refl

  pub unconditional-Paren : (ty : Ty) → is_unconditional_form params ex (made.Paren ty) ≡ false
  unconditional-Paren ty = refl

  pub unconditional-Tuple : (types : List Ty) → is_unconditional_form params ex (made.Tuple types) ≡ false
  unconditional-Tuple types = refl

  pub unconditional-Slice : (ty : Ty) → is_unconditional_form params ex (made.Slice ty) ≡ false
  unconditional-Slice ty = refl

pub behind-Path : (o : Option Ty) (p : Path) → types_behind (made.Path o p) ≡ last_types p
behind-Path o p = refl

pub without-Path : (p : Path) → path_of_form (made.Path None p) ≡ Some p
without-Path p = refl

pub without-qualified : (ty : Ty) (p : Path) → path_of_form (made.Path (Some ty) p) ≡ None
without-qualified ty p = refl

pub ruleset class_laws = (angle_of-Angle, angle_of-Round, angle_of-None, unconditional-Pointer, unconditional-FnPtr, unconditional-Reference, unconditional-Path, unconditional-qualified, unconditional-Paren, unconditional-Tuple, unconditional-Slice, behind-Path, without-Path, without-qualified)
