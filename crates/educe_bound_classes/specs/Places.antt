-- The places of type parameters in their list, found by name.
use Rattle.std.specs.Prelude.{◌≡◌, ℕ, Bool, true, false, List, [], Option, Some, None, slice_get, chars, filter}
use Rattle.std.specs.Borrow.{Bor}
use Rattle.std.specs.List.{list_any, cons_option, AllByRecursion}
use Rattle.std.specs.Str.{bytes_eq, IsUtf8}
use Rattle.std.specs.Ordering.{nat_cmp, is_eq}
use Rattle.std.specs.Cmp.Lexicographic.{slice_cmp}
use Rattle.std.specs.BTreeMap.{BTreeMap, get_by}
use Rattle.std.specs.BTreeSet.{BTreeSet, contains}
use Rattle.std.specs.declared.vec.Vec.{Vec}
use Rattle.std.specs.declared.alloc.Global.{Global}
use Rattle.educe_tree.specs.declared.generics.GenericParam.{GenericParam}
use Rattle.educe_bound_classes.specs.Classes.{type_name}
use Rattle.educe_bound_classes.specs.Params.{is_type_named}

-- The number is in the list.
abbrev pub is_among : List ℕ → ℕ → Bool
is_among places place = list_any (λ known. is_eq (nat_cmp place known)) places

-- There is a list, and the number is in it.
abbrev pub is_listed : Option (Vec ℕ Global) → ℕ → Bool
is_listed None place = false
is_listed (Some places) place = is_among places.items place

-- The map has the place under the name.
abbrev pub has_place : BTreeMap (Bor (List ℕ)) (Vec ℕ Global) → List ℕ → ℕ → Bool
has_place map name place = is_listed (get_by (λ known. slice_cmp nat_cmp name known.now) map) place

-- The second map has all places of the first.
abbrev pub KeepsPlaces : BTreeMap (Bor (List ℕ)) (Vec ℕ Global) → BTreeMap (Bor (List ℕ)) (Vec ℕ Global) → Type 0
KeepsPlaces old new = (name : Bor (List ℕ)) (place : ℕ) → has_place old name.now place ≡ true → has_place new name.now place ≡ true

-- The map has the place under this name.
abbrev pub IsPlacedAs : List ℕ → ℕ → BTreeMap (Bor (List ℕ)) (Vec ℕ Global) → Type 0
IsPlacedAs text place map = (name : Bor (List ℕ)) → IsUtf8 name.now → bytes_eq (chars name.now) text ≡ true → has_place map name.now place ≡ true

-- The map has the place of the parameter under its name, if it is a type parameter.
abbrev pub IsPlaced : GenericParam → ℕ → BTreeMap (Bor (List ℕ)) (Vec ℕ Global) → Type 0
IsPlaced param place map = (name : Bor (List ℕ)) → IsUtf8 name.now → is_type_named (chars name.now) param ≡ true → has_place map name.now place ≡ true

-- The map has the places of all type parameters of the list.
abbrev pub ArePlaced : List GenericParam → BTreeMap (Bor (List ℕ)) (Vec ℕ Global) → Type 0
ArePlaced params map = (place : ℕ) (param : GenericParam) → slice_get params place ≡ Some param → IsPlaced param place map

-- The second set has the places of the first and those of the name.
abbrev pub AddsPlaces : BTreeMap (Bor (List ℕ)) (Vec ℕ Global) → List ℕ → BTreeSet ℕ → BTreeSet ℕ → Type 0
AddsPlaces map name old new = (place : ℕ) → (contains nat_cmp old place ≡ true → contains nat_cmp new place ≡ true) × (has_place map name place ≡ true → contains nat_cmp new place ≡ true)

-- The set has the places of each of the names.
abbrev pub HaveTheirPlaces : BTreeMap (Bor (List ℕ)) (Vec ℕ Global) → List (Bor (List ℕ)) → BTreeSet ℕ → Type 0
HaveTheirPlaces map names found = AllByRecursion (λ name. (place : ℕ) → has_place map name.now place ≡ true → contains nat_cmp found place ≡ true) names

-- The name of the type parameter, if there is one.
abbrev pub name_list : Option GenericParam → List (List ℕ)
name_list None = []
name_list (Some param) = cons_option (type_name param) []

-- The name of the type parameter at the place, if there is one.
abbrev pub names_at : List GenericParam → ℕ → List (List ℕ)
names_at params place = name_list (slice_get params place)

-- Every type parameter whose name was found has its place in the set.
abbrev pub HasFound : List GenericParam → (List ℕ → Bool) → BTreeSet ℕ → Type 0
HasFound params test places = (place : ℕ) → contains nat_cmp places place ≡ false → filter test (names_at params place) ≡ []
