-- The type of a name.
use Rattle.std.proofs.Common.{◌≡◌, ℕ, ◌+◌, ◌<◌, ◌≤◌, List, ◌∷◌, length, drop, get_or, sym, ap, ◌∙◌, refl, drop-cons, add-one, chars}
use Rattle.std.specs.Prelude.{Some, None, if◌then◌else◌, IsUtf8}
use Rattle.std.specs.Str.{bytes_eq}
use Rattle.std.proofs.lemmas.List.{at_drop_all}
use Rattle.std.proofs.lemmas.Bool.{false_from_ne_true}
use Rattle.std.proofs.lemmas.Slice.Eq.{bytes_eq-Decides}
use Rattle.std.proofs.lemmas.Str.{encodes-chars}
use Rattle.educe_discriminants.specs.declared.discriminant_type.DiscriminantType.{DiscriminantType}
use Rattle.educe_discriminants.specs.declared.discriminant_type.DiscriminantType.TheVariants.{ISize, I8, I16, I32, I64, I128, USize, U8, U16, U32, U64, U128}
use Rattle.educe_discriminants.specs.Types.{name_of, first_named, type_named}

-- the first of these types that has the name is the one at the front, or is among those behind it
first_named-drop : (tys : List DiscriminantType) (i : ℕ) (d : DiscriminantType) (name : List ℕ) → i < length tys
    → first_named (drop i tys) name ≡ (if bytes_eq name (name_of (get_or tys i d)) then Some (get_or tys i d) else first_named (drop (i + 1) tys) name)
first_named-drop tys i d name within =
    let e : drop i tys ≡ get_or tys i d ∷ drop (i + 1) tys = rw add-one (drop-cons tys i d within) in
    ap (λ more. first_named more name) e

-- it is the one at the front, whose name this is
pub named_here : (tys : List DiscriminantType) (i : ℕ) (d : DiscriminantType) (name : List ℕ) → first_named (drop i tys) name ≡ type_named name → i < length tys
    → name ≡ name_of (get_or tys i d) → Some (get_or tys i d) ≡ type_named name
named_here tys i d name rest within is =
    let test = (bytes_eq-Decides name (name_of (get_or tys i d))).1 is in
    sym (sym rest ∙ first_named-drop tys i d name within ∙ rw test refl)

-- it is among those behind, where the name is another
pub named_behind : (tys : List DiscriminantType) (i : ℕ) (d : DiscriminantType) (name : List ℕ) → first_named (drop i tys) name ≡ type_named name → i < length tys
    → (name ≡ name_of (get_or tys i d) → ⊥) → first_named (drop (i + 1) tys) name ≡ type_named name
named_behind tys i d name rest within other =
    let test = false_from_ne_true _ (λ same. other ((bytes_eq-Decides name (name_of (get_or tys i d))).0 same)) in
    sym (sym rest ∙ first_named-drop tys i d name within ∙ rw test refl)

-- it is none, where none is left
pub named_none : (tys : List DiscriminantType) (i : ℕ) (name : List ℕ) → first_named (drop i tys) name ≡ type_named name → length tys ≤ i → None ≡ type_named name
named_none tys i name rest past = sym (at_drop_all (λ more. first_named more name) tys i past) ∙ rest

-- each type is the one of its name
type_named-name_of : (ty : DiscriminantType) → type_named (name_of ty) ≡ Some ty
unfolding type_named
type_named-name_of ISize = refl
type_named-name_of I8 = refl
type_named-name_of I16 = refl
type_named-name_of I32 = refl
type_named-name_of I64 = refl
type_named-name_of I128 = refl
type_named-name_of USize = refl
type_named-name_of U8 = refl
type_named-name_of U16 = refl
type_named-name_of U32 = refl
type_named-name_of U64 = refl
type_named-name_of U128 = refl

-- a name of one type is the name of no other
pub named_only : (ty : DiscriminantType) (name : List ℕ) → name ≡ name_of ty → type_named name ≡ Some ty
named_only ty name is = ap type_named is ∙ type_named-name_of ty

-- texts of the same characters are the same
pub same_bytes : (a b : List ℕ) → IsUtf8 a → IsUtf8 b → chars a ≡ chars b → a ≡ b
same_bytes a b first second same = sym (encodes-chars a first) ∙ rw same (encodes-chars b second)
