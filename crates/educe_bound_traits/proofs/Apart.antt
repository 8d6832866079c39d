-- Traits differ in their places and in their names.
use Rattle.std.proofs.Common.{◌≡◌, ℕ, Bool, true, false, cond, ◌||◌, IsTrue, List, [], ◌∷◌, refl, sym, ap, ◌∙◌, subst, Option, Some}
use Rattle.std.specs.Prelude.{◌↔◌, find, slice_index_or, IfSome}
use Rattle.std.specs.List.{list_any}
use Rattle.std.specs.Str.{bytes_eq}
use Rattle.std.proofs.lemmas.Bool.{eqb-true, eq-eqb, false≢true}
use Rattle.educe_tree.specs.declared.attr.MetaPath.{MetaPath}
use Rattle.educe_tree.specs.Words.{IsOneWord}
use Rattle.educe_bound_traits.proofs.OneWord.{one_word_to, one_word_from, one_text}
use Rattle.educe_bound_traits.specs.declared.traits.Trait.{Trait}
use Rattle.educe_bound_traits.specs.declared.traits.Trait.TheVariants.{Debug, Clone, Copy, PartialEq, Eq, PartialOrd, Ord, Hash, Default}
use Rattle.educe_bound_traits.specs.Traits.{variants, place, text_of, same_trait}
use Rattle.educe_bound_traits.specs.Named.{names_trait, trait_named}

-- ---- places

-- a trait stands at its place
at_place : (which : Trait) → slice_index_or variants (place which) Debug ≡ which
at_place Debug = refl
at_place Clone = refl
at_place Copy = refl
at_place PartialEq = refl
at_place Eq = refl
at_place PartialOrd = refl
at_place Ord = refl
at_place Hash = refl
at_place Default = refl

-- traits at one place are one
pub same_is : (a b : Trait) → IsTrue (same_trait a b) ↔ (a ≡ b)
same_is a b = (
  (λ h. sym (at_place a) ∙ ap (λ n. slice_index_or variants n Debug) (eqb-true (place a) (place b) h) ∙ at_place b),
  (λ e. eq-eqb (place a) (place b) (ap place e)),
)

-- ---- names

-- the trait of a name
abbrev trait_of : List ℕ → Option Trait
trait_of text = find (λ which. bytes_eq (text_of which) text) variants

-- a trait is that of its name
of_name : (which : Trait) → trait_of (text_of which) ≡ Some which
of_name Debug = refl
of_name Clone = refl
of_name Copy = refl
of_name PartialEq = refl
of_name Eq = refl
of_name PartialOrd = refl
of_name Ord = refl
of_name Hash = refl
of_name Default = refl

-- traits of one name are one
names_apart : (a b : Trait) → text_of a ≡ text_of b → a ≡ b
names_apart a b e = let same : Some a ≡ Some b = sym (of_name a) ∙ ap trait_of e ∙ of_name b in cc

-- ---- the trait that a path names

-- what holds of each item that passes holds of the one that is found
find_has : {X : Type 0} (p : X → Bool) (P : X → Type 0) → ((x : X) → p x ≡ true → P x) → (xs : List X) → IfSome (find p xs) P
find_has p P h [] = tt
find_has {X = X} p P h (x ∷ xs) =
    let Q : Bool → Type 0 = λ b. p x ≡ b → IfSome (cond b (Some x) (find p xs)) P in
    let split : (b : Bool) → Q b = λ b. elim b as Q [ true ↦ λ e. h x e | false ↦ λ e. find_has p P h xs ] in
    split (p x) refl

-- the only trait that passes is found where it stands
find_only : (p : Trait → Bool) (which : Trait) → ((other : Trait) → p other ≡ true → other ≡ which) → p which ≡ true
    → (xs : List Trait) → list_any (same_trait which) xs ≡ true → find p xs ≡ Some which
find_only p which only here [] stands = absurd (false≢true stands)
find_only p which only here (x ∷ xs) stands =
    let Q : Bool → Type 0 = λ b. p x ≡ b → cond b (Some x) (find p xs) ≡ Some which in
    let later : p x ≡ false → (b : Bool) → same_trait which x ≡ b → (b || list_any (same_trait which) xs) ≡ true → find p xs ≡ Some which =
    λ e b. elim b as (λ b. same_trait which x ≡ b → (b || list_any (same_trait which) xs) ≡ true → find p xs ≡ Some which) [
      | true ↦ λ same more. absurd (false≢true (sym e ∙ subst (λ w. p w ≡ true) ((same_is which x).0 same) here))
      | false ↦ λ apart more. find_only p which only here xs more
    ] in
    let split : (b : Bool) → Q b = λ b. elim b as Q [ true ↦ λ e. ap Some (only x e) | false ↦ λ e. later e (same_trait which x) refl stands ] in
    split (p x) refl

-- a trait is one of those in the fixed order
is_variant : (which : Trait) → list_any (same_trait which) variants ≡ true
is_variant Debug = refl
is_variant Clone = refl
is_variant Copy = refl
is_variant PartialEq = refl
is_variant Eq = refl
is_variant PartialOrd = refl
is_variant Ord = refl
is_variant Hash = refl
is_variant Default = refl

-- the path is the name of the trait that is found
pub named_is : (path : MetaPath) → IfSome (trait_named path) (λ which. IsOneWord path.written.tokens (text_of which))
named_is path =
    find_has (names_trait path) (λ which. IsOneWord path.written.tokens (text_of which)) (λ which h. one_word_to (text_of which) path.written.tokens h) variants

-- a path that is the name of a trait names that trait and no other
pub named_only : (path : MetaPath) (which : Trait) → IsOneWord path.written.tokens (text_of which) → trait_named path ≡ Some which
named_only path which h =
    find_only (names_trait path) which
    (λ other passes. names_apart other which (one_text path.written.tokens (text_of other) (text_of which) (one_word_to (text_of other) path.written.tokens passes) h))
    (one_word_from (text_of which) path.written.tokens h) variants (is_variant which)
