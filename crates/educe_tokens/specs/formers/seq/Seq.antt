-- How a `Seq` stores its items, so that a type may hold itself through it: it is the list of its items.
use mathlib.Core.Path.{◌≡◌, refl, sym}
use mathlib.Core.List.{List, []}
use mathlib.Core.Former.{Former, this, list, via, children}
use base.Stored.{code_map}
use denote.RattleType.{RattleType}
use denote.HoleLaws.{Alike}
use denote.HolePlaces.{Recodes, struct_places, laid}
use denote.Hole.Carrier.{listed, list-listed}
use denote.Hole.Fix.{over}
use denote.Param.Weighed.{Weighed, w_list}
use denote.Model.Placed.{view_places}
use Rattle.std.specs.formers.vec.Vec as vec
use Rattle.std.specs.declared.alloc.Global.{Global}
use Rattle.std.specs.contracts.alloc.Global as heap
use Rattle.std.specs.contracts.impls.GlobalAllocator.TheImpl.{ghosts}
use Rattle.educe_tokens.specs.declared.seq.Seq.TheInside.{Inside}
use Rattle.educe_tokens.specs.declared.seq.Seq.TheView.{view, invariant}
use Rattle.educe_tokens.specs.contracts.seq.Seq as seq
use Rattle.educe_tokens.specs.contracts.seq.Seq.TheInside as inside

-- A `Seq` is stored as the list of its items.
abbrev pub the_former : Former {0} → Former {0}
the_former item = list item

-- Its weight, by that of its items.
abbrev pub the_weighed : {item : Former {0}} → Weighed item → Weighed (the_former item)
the_weighed weight = w_list weight

-- The empty `Seq`.
pub the_empty : List ⊥
the_empty = []

-- The items of a `Seq`.
abbrev pub the_items : (Item : Type 0) → List Item → List Item
the_items Item items = items

-- These are the list as which it is stored.
pub the_items_listed : (Item : Type 0) (items : List Item) → listed _ (children (the_former this) Item items) ≡ the_items Item items
the_items_listed Item items = list-listed Item items

-- The fields of a `Seq`: one `Vec` of the items.
abbrev the_fields : Former {0}
the_fields = via (vec.the_former this Global) Inside (λ Item s. s.items) (λ Item v. record { items = v }) (λ Item s. refl) (λ Item v. refl)

module _ (A B : RattleType) (to : A.Denot → B.Denot) where
  -- If items lie alike in memory, so do lists of them.
  pub the_places : Alike A B to → Alike (seq.the_row A) (seq.the_row B) ((the_former this).map A.Denot B.Denot to)
  the_places alike =
      let stored = laid _ _ _ (vec.the_places heap.the_row ghosts A B to alike) in
      let fields = struct_places (inside.the_type A) (inside.the_type B) (vec.mapped to, tt) _ (λ _. refl) refl (stored, tt) in
      view_places the_fields (list this) view (λ X Y k s. refl) (λ X s. refl) A.Denot B.Denot to (seq.the_row A).coded (seq.the_row B).coded
      (invariant A.Denot) (invariant B.Denot) (λ s p q. refl) (λ s p q. refl) (λ s e. tt) (λ s e. tt)
      (over (inside.the_row A)) (over (inside.the_row B)) fields

  -- If items have one code, so do lists of them.
  pub the_codes_placed : Recodes A B to → Recodes (seq.the_row A) (seq.the_row B) ((the_former this).map A.Denot B.Denot to)
  the_codes_placed same items = sym (code_map A.coded.code B.coded.code to (λ x. sym (same x)) items)
