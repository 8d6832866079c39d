-- Predicates that are added under a bound.
use Rattle.std.proofs.Common.{◌≡◌, ◌&&◌, Bool, true, false, List, [], refl, subst}
use Rattle.educe_syntax.specs.DeriveInput.{DeriveInput}
use Rattle.educe_syntax.specs.Ty.{Ty}
use Rattle.educe_syntax.specs.Naming.{AreNamesApart}
use Rattle.educe_bound_classes.specs.Deriving.{Extends}
use Rattle.educe_bound_classes.specs.Exceptions.{Exceptions}
use Rattle.educe_bound_traits.specs.declared.traits.Trait.{Trait}
use Rattle.educe_bound.specs.declared.bound.Bound.{Bound}
use Rattle.educe_bound.specs.declared.bound.Bound.TheVariants.{Disabled, Auto, All, Custom}
use Rattle.educe_bound.specs.Predicates.{Key, exceptions_of, AreByBound}
use Rattle.educe_bound.specs.Sets.{AreOnceByBound}
use Rattle.educe_bound.proofs.Once.{auto_is, all_is}
use Rattle.educe_meaning.specs.Headers.{ArePacked, Inherits}
use Rattle.educe_settings.specs.Packed.{AreCopied}
use Rattle.educe_settings.specs.Rows.{reads_fields}
use Rattle.educe_settings.specs.Settings.{bound_for}
use Rattle.educe_settings.specs.Types.{AreTypes}
use Rattle.educe_handlers.specs.Adding.{Adds, IsByRule}

-- under a rule, taking each predicate once changes nothing
pub own_is : (bound : Bound) (d : DeriveInput) (ex : Exceptions) (which : Trait) (types : List Ty) (all : List Key) → IsByRule bound → AreNamesApart d
    → AreOnceByBound bound ex d.generics.params d.ident.text which types all → AreByBound bound ex d.generics.params d.ident.text which types all
own_is Auto d ex which types all rule apart once = auto_is ex d.generics.params d.ident.text which types all once
own_is All d ex which types all rule apart once = all_is d ex which types all apart once
own_is Disabled d ex which types all rule apart once = absurd rule
own_is (Custom predicates) d ex which types all rule apart once = absurd rule

-- without a rule nothing is copied or inherited
none_packed : (copied : Bool) (bound : Bound) (d : DeriveInput) (types : List Ty) → (IsByRule bound → ⊥) → ArePacked copied bound d types []
none_packed false bound d types none = refl
none_packed true Disabled d types none = refl
none_packed true (Custom predicates) d types none = refl
none_packed true Auto d types none = absurd (none tt)
none_packed true All d types none = absurd (none tt)

none_inherited : (bound : Bound) (own inherited : List Key) → (IsByRule bound → ⊥) → Inherits bound own inherited own
none_inherited Disabled own inherited none = refl
none_inherited (Custom predicates) own inherited none = refl
none_inherited Auto own inherited none = absurd (none tt)
none_inherited All own inherited none = absurd (none tt)

-- without a rule an impl adds its own predicates alone
pub adds_alone : (which : Trait) (d : DeriveInput) (inherited : List Key) (read touched : List Ty) (copied : Bool) (bound : Bound) (own : List Key) → bound ≡ bound_for which d → (IsByRule bound → ⊥)
    → AreTypes which d read touched → AreCopied d copied → AreByBound bound (exceptions_of which) d.generics.params d.ident.text which touched own → Adds which d inherited own
adds_alone which d inherited read touched copied bound own is none types copies by = record {
  own = own;
  are = record {
    read = read;
    touched = touched;
    types_are = types;
    own_are = subst (λ bound. AreByBound bound (exceptions_of which) d.generics.params d.ident.text which touched own) is by;
    copied = copied;
    copied_are = copies;
    copies = [];
    copies_are = subst (λ bound. ArePacked (reads_fields which && copied) bound d read []) is (none_packed (reads_fields which && copied) bound d read none);
    with_copies = own;
    copies_added = Extends.done own;
    inherited_added = subst (λ bound. Inherits bound own inherited own) is (none_inherited bound own inherited none);
  };
}
