-- How a `Boxed` stores its value, so that a type may hold itself through it: it is the value.
use mathlib.Core.Path.{refl}
use mathlib.Core.Former.{Former, this, const, pair, via}
use base.Stored.{gnil}
use base.Fml.{ftrue}
use denote.RattleType.{RattleType}
use denote.Memory.{part_of}
use denote.RawPtr.{Ptr}
use denote.Sharing.{nothing}
use denote.HoleLaws.{Alike}
use denote.HolePlaces.{Recodes, struct_places, laid, one_value}
use denote.Hole.Fix.{over}
use denote.Param.Weighed.{Weighed}
use denote.Model.Placed.{view_places}
use Rattle.std.specs.declared.boxed.Box.{Box}
use Rattle.std.specs.contracts.boxed.Box as box
use Rattle.std.specs.declared.alloc.Global.{Global}
use Rattle.std.specs.contracts.alloc.Global as heap
use Rattle.std.specs.contracts.impls.GlobalAllocator.TheImpl.{ghosts}
use Rattle.educe_tokens.specs.declared.boxed.Boxed.TheInside.{Inside}
use Rattle.educe_tokens.specs.declared.boxed.Boxed.TheView.{view, invariant}
use Rattle.educe_tokens.specs.contracts.boxed.Boxed as boxed
use Rattle.educe_tokens.specs.contracts.boxed.Boxed.TheInside as inside

-- A `Boxed` is stored as its value.
abbrev pub the_former : Former {0} → Former {0}
the_former value = value

-- Its weight, by that of its value.
abbrev pub the_weighed : {value : Former {0}} → Weighed value → Weighed (the_former value)
the_weighed weight = weight

-- The fields of a box: one `Box`, which is a pointer, its allocator, and the value.
abbrev the_fields : Former {0}
the_fields =
    via (pair (const (Ptr × Global)) this) Inside (λ Value b. ((b.inner.ptr, b.inner.alloc), b.inner.value))
    (λ Value v. record { inner = record { ptr = v.0.0; alloc = v.0.1; value = v.1 } }) (λ Value b. refl) (λ Value v. refl)

abbrev holding : {X Y : Type 0} → Box X Global → Y → Box Y Global
holding b value = record { ptr = b.ptr; alloc = b.alloc; value = value }

abbrev box_row : RattleType → RattleType
box_row A = box.the_row A heap.the_row ghosts

module _ (A B : RattleType) (to : A.Denot → B.Denot) where
  box_places : Alike A B to → Alike (box_row A) (box_row B) (λ b. holding b (to b.value))
  unfolding part_of
  box_places alike = record {
    mir_same = λ i. (box_row (one_value A (alike.mir_same i) (λ _. ftrue) (λ _ _. nothing) gnil)).mir;
    own_same = λ b i. (box_row (one_value A (alike.mir_same i) (alike.own_same b.value i) (alike.shr_same b.value i) gnil)).own_val (holding b tt);
    shr_same = λ b i. (box_row (one_value A (alike.mir_same i) (alike.own_same b.value i) (alike.shr_same b.value i) gnil)).shr_at (holding b tt);
  }

  -- If values lie alike in memory, so do boxes of them.
  pub the_places : Alike A B to → Alike (boxed.the_row A) (boxed.the_row B) ((the_former this).map A.Denot B.Denot to)
  the_places alike =
      let stored = laid _ _ _ (box_places alike) in
      let fields = struct_places (inside.the_type A) (inside.the_type B) ((λ b. holding b (to b.value)), tt) _ (λ _. refl) refl (stored, tt) in
      view_places the_fields this view (λ X Y k b. refl) (λ X b. refl) A.Denot B.Denot to (boxed.the_row A).coded (boxed.the_row B).coded
      (invariant A.Denot) (invariant B.Denot) (λ b p q. refl) (λ b p q. refl) (λ b e. tt) (λ b e. tt)
      (over (inside.the_row A)) (over (inside.the_row B)) fields

  -- If values have one code, so do boxes of them.
  pub the_codes_placed : Recodes A B to → Recodes (boxed.the_row A) (boxed.the_row B) ((the_former this).map A.Denot B.Denot to)
  the_codes_placed same value = same value
