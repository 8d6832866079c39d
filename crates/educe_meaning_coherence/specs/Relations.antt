-- What makes comparisons coherent, whatever is compared: field values by what a field says, or whole values by what a derived function
-- evaluates to (documentation of `std`, `Eq`, `PartialOrd`, `Ord` and `Hash`).
use Rattle.std.specs.Prelude.{◌≡◌, ◌⊎◌, ◌↔◌, Bool, true, Option, Some}
use Rattle.std.specs.declared.cmp.Ordering.{Ordering}
use Rattle.std.specs.declared.cmp.Ordering.TheVariants.{Less, Equal}
use Rattle.std.specs.Option.{option_map}
use Rattle.std.specs.Ordering.{ordering_reverse}

-- Equality is an equivalence among these: each two are answered true or false; each is equal to itself; and equality is symmetric
-- and transitive.
pub record IsEquivalenceAmong {X A : Type 0} (In : X → Type 0) (answer : X → X → A) (truth : Bool → A) : Type 0 where
  pub decided : (x y : X) → In x → In y → (b : Bool) × (answer x y ≡ truth b)
  pub reflexive : (x : X) → In x → answer x x ≡ truth true
  pub symmetric : (x y : X) → In x → In y → answer x y ≡ truth true → answer y x ≡ truth true
  pub transitive : (x y z : X) → In x → In y → In z → answer x y ≡ truth true → answer y z ≡ truth true → answer x z ≡ truth true

-- The answer is Less or Equal.
abbrev pub IsLessOrEqual : {A : Type 0} → (Ordering → A) → A → Type 0
IsLessOrEqual order answer = (answer ≡ order Less) ⊎ (answer ≡ order Equal)

-- The answers are a total order among these: each two are answered Less, Equal or Greater; the answer is reversed when the two are
-- exchanged; and Less or Equal is transitive, from which it follows that each of the three answers is.
pub record IsTotalOrderAmong {X A : Type 0} (In : X → Type 0) (answer : X → X → A) (order : Ordering → A) : Type 0 where
  pub decided : (x y : X) → In x → In y → (o : Ordering) × (answer x y ≡ order o)
  pub reversed : (x y : X) (o : Ordering) → In x → In y → answer x y ≡ order o → answer y x ≡ order (ordering_reverse o)
  pub transitive : (x y z : X) → In x → In y → In z
      → IsLessOrEqual order (answer x y) → IsLessOrEqual order (answer y z) → IsLessOrEqual order (answer x z)

-- The answer is Some(Less) or Some(Equal).
abbrev pub IsSomeLessOrEqual : {A : Type 0} → (Option Ordering → A) → A → Type 0
IsSomeLessOrEqual partial answer = IsLessOrEqual (λ o. partial (Some o)) answer

-- The answers are a partial order among these: each two are answered `Some` of an order, or `None`; the order in `Some` is reversed when
-- the two are exchanged, and `None` stays; and Less or Equal is transitive, from which it follows that each of the three orders is.
pub record IsPartialOrderAmong {X A : Type 0} (In : X → Type 0) (answer : X → X → A) (partial : Option Ordering → A) : Type 0 where
  pub decided : (x y : X) → In x → In y → (p : Option Ordering) × (answer x y ≡ partial p)
  pub reversed : (x y : X) (p : Option Ordering)
      → In x → In y → answer x y ≡ partial p → answer y x ≡ partial (option_map ordering_reverse p)
  pub transitive : (x y z : X) → In x → In y → In z
      → IsSomeLessOrEqual partial (answer x y) → IsSomeLessOrEqual partial (answer y z) → IsSomeLessOrEqual partial (answer x z)

-- Among these, two are answered Equal exactly where they are equal.
abbrev pub IsEqualWhereTrue : {X A B : Type 0} → (X → Type 0) → (X → X → A) → (Ordering → A) → (X → X → B) → (Bool → B) → Type 0
IsEqualWhereTrue {X} In compare order equals truth = (x y : X) → In x → In y → (compare x y ≡ order Equal) ↔ (equals x y ≡ truth true)

-- Among these, the partial order of two is `Some` of their order.
abbrev pub IsSomeOf : {X A B : Type 0} → (X → Type 0) → (X → X → A) → (Option Ordering → A) → (X → X → B) → (Ordering → B) → Type 0
IsSomeOf {X} In partial_compare partial compare order =
    (x y : X) (o : Ordering) → In x → In y → compare x y ≡ order o → partial_compare x y ≡ partial (Some o)

-- Among these, two that are equal feed a hasher something, and the same.
abbrev pub FeedsAlike : {X A B P : Type 0} → (X → Type 0) → (X → A) → (P → A) → (X → X → B) → (Bool → B) → Type 0
FeedsAlike {X} {A} {B} {P} In feed parts equals truth =
    (x y : X) → In x → In y → equals x y ≡ truth true → (p : P) × (feed x ≡ parts p) × (feed y ≡ parts p)
