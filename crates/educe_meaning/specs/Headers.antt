-- The headers of impls: their generic parameters, and the predicates of their where clauses (documentation of `educe`, Bounds).
use Rattle.std.specs.Prelude.{◌≡◌, Bool, true, false, ◌&&◌, List, [], ◌∷◌, ◌++◌}
use Rattle.educe_syntax.specs.DeriveInput.{DeriveInput}
use Rattle.educe_syntax.specs.Generics.{Generics}
use Rattle.educe_syntax.specs.Ty.{Ty}
use Rattle.educe_syntax.specs.WherePredicate.{WherePredicate}
use Rattle.educe_bound_classes.specs.Deriving.{Extends}
use Rattle.educe_bound_classes.specs.Needs.{Suffices, AreMinimal}
use Rattle.educe_bound.specs.declared.bound.Bound.{Bound}
use Rattle.educe_bound.specs.declared.bound.Bound.TheVariants.{Disabled, Auto, All, Custom}
use Rattle.educe_bound_traits.specs.declared.traits.Trait.{Trait}
use Rattle.educe_bound_traits.specs.declared.traits.Trait.TheVariants as trait
use Rattle.educe_bound.specs.Predicates.{Key, keys_of, AreRead, exceptions_of, asks_for, AreByBound, AreCopies, lifetimes_first}
use Rattle.educe_bound_traits.specs.Traits.{is_listed}
use Rattle.educe_settings.specs.Listed.{listed}
use Rattle.educe_settings.specs.Packed.{AreCopied}
use Rattle.educe_settings.specs.Rows.{reads_fields}
use Rattle.educe_settings.specs.Settings.{bound_for}
use Rattle.educe_settings.specs.Types.{AreTypes}

-- ---- the predicates that are added

-- The predicates for copies, where fields are read by copies.
abbrev pub ArePacked : Bool → Bound → DeriveInput → List Ty → List Key → Type 0
ArePacked false bound definition types found = found ≡ []
ArePacked true bound definition types found = AreCopies bound definition.generics.params definition.ident.text types found

-- Inherited predicates are added, where they are not there yet, under the automatic bound alone.
abbrev pub Inherits : Bound → List Key → List Key → List Key → Type 0
Inherits Disabled own inherited all = all ≡ own
Inherits Auto own inherited all = Extends own inherited all
Inherits All own inherited all = all ≡ own
Inherits (Custom predicates) own inherited all = all ≡ own

-- The predicates that the impl of a trait adds to those of the definition: what its bound asks for by itself, which are its own;
-- what copies ask for, where the trait reads fields and they are not there yet; and then what it inherits.
pub record AreAdded (which : Trait) (definition : DeriveInput) (inherited own all : List Key) : Type 0 where
  pub read : List Ty
  pub touched : List Ty
  pub types_are : AreTypes which definition read touched
  pub own_are : AreByBound (bound_for which definition) (exceptions_of which) definition.generics.params definition.ident.text which touched own
  pub copied : Bool
  pub copied_are : AreCopied definition copied
  pub copies : List Key
  pub copies_are : ArePacked (reads_fields which && copied) (bound_for which definition) definition read copies
  pub with_copies : List Key
  pub copies_added : Extends own copies with_copies
  pub inherited_added : Inherits (bound_for which definition) with_copies inherited all

-- ---- inheritance

-- The traits whose added predicates an impl inherits, where they are listed: `PartialOrd` and `Eq` from `PartialEq`, `Ord` from
-- `Eq` and `PartialOrd`, `Copy` from `Clone`.
abbrev pub prerequisites : Trait → List Trait
prerequisites trait.Copy = trait.Clone ∷ []
prerequisites trait.Eq = trait.PartialEq ∷ []
prerequisites trait.PartialOrd = trait.PartialEq ∷ []
prerequisites trait.Ord = trait.Eq ∷ trait.PartialOrd ∷ []
prerequisites _ = []

mutual
  -- The predicates that the impl of a trait adds, by their tokens.
  pub data AreOf (definition : DeriveInput) : Trait → List Key → Type 0 where
    added : (which : Trait) (inherited own : List Key) {all : List Key} → AreInherited definition (prerequisites which) inherited
        → AreAdded which definition inherited own all → AreOf definition which all

  -- The predicates that an impl inherits of these traits: those that the impls of the listed ones add, one trait behind the
  -- other.
  pub data AreInherited (definition : DeriveInput) : List Trait → List Key → Type 0 where
    from_none : AreInherited definition [] []
    unlisted : (which : Trait) {traits : List Trait} {more : List Key} → is_listed (listed definition) which ≡ false → AreInherited definition traits more
        → AreInherited definition (which ∷ traits) more
    from_listed : (which : Trait) {traits : List Trait} (own : List Key) {more : List Key} → is_listed (listed definition) which ≡ true
        → AreOf definition which own → AreInherited definition traits more → AreInherited definition (which ∷ traits) (own ++ more)

-- The impl of a trait adds these predicates, and each is the reading of its tokens.
pub record ImplAdds (definition : DeriveInput) (which : Trait) (predicates : List WherePredicate) : Type 0 where
  pub are : AreOf definition which (keys_of predicates)
  pub read : AreRead predicates

-- ---- headers

-- The header of the impl of a trait: the parameters without their defaults, lifetimes first; and the predicates of the definition as
-- they were written, behind which stand those that the impl adds, each the reading of its tokens.
pub record IsHeader (which : Trait) (definition : DeriveInput) (generics : Generics) : Type 0 where
  pub params_are : generics.params ≡ lifetimes_first definition.generics.params
  pub inherited : List Key
  pub own : List Key
  pub added : List WherePredicate
  pub inherited_are : AreInherited definition (prerequisites which) inherited
  pub added_are : AreAdded which definition inherited own (keys_of added)
  pub added_read : AreRead added
  pub predicates_are : generics.predicates ≡ definition.generics.predicates ++ added

-- ---- automatic bounds

-- The predicates of the header of a trait are those of the definition, then its own, and then others. From its own ones the trait
-- can be derived of each type that has to have it; and once any one of them is dropped, of one of these types it can't.
pub record AreTight (which : Trait) (definition : DeriveInput) (header : List Key) : Type 0 where
  pub read : List Ty
  pub touched : List Ty
  pub types_are : AreTypes which definition read touched
  pub own : List Key
  pub others : List Key
  pub header_is : header ≡ keys_of definition.generics.predicates ++ (own ++ others)
  pub suffices : Suffices (exceptions_of which) definition.generics.params definition.ident.text (asks_for which) touched own
  pub minimal : AreMinimal (exceptions_of which) definition.generics.params definition.ident.text (asks_for which) touched own
