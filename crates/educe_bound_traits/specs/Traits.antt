-- The traits that can be derived, and lists of them.
use Rattle.std.specs.Prelude.{ℕ, ◌==◌, Bool, List, [], ◌∷◌, nat_le, count_by, codes}
use Rattle.std.specs.List.{list_any, list_all}
use Rattle.educe_bound_traits.specs.declared.traits.Trait.{Trait}
use Rattle.educe_bound_traits.specs.declared.traits.Trait.TheVariants.{Debug, Clone, Copy, PartialEq, Eq, PartialOrd, Ord, Hash, Default}

-- The nine traits in their fixed order.
abbrev pub variants : List Trait
variants = Debug ∷ Clone ∷ Copy ∷ PartialEq ∷ Eq ∷ PartialOrd ∷ Ord ∷ Hash ∷ Default ∷ []

-- The place of the trait in the fixed order, counted from 0.
abbrev pub place : Trait → ℕ
place Debug = 0
place Clone = 1
place Copy = 2
place PartialEq = 3
place Eq = 4
place PartialOrd = 5
place Ord = 6
place Hash = 7
place Default = 8

-- The name of the trait.
abbrev pub text_of : Trait → List ℕ
text_of Debug = codes "Debug"
text_of Clone = codes "Clone"
text_of Copy = codes "Copy"
text_of PartialEq = codes "PartialEq"
text_of Eq = codes "Eq"
text_of PartialOrd = codes "PartialOrd"
text_of Ord = codes "Ord"
text_of Hash = codes "Hash"
text_of Default = codes "Default"

-- Both are the same trait.
abbrev pub same_trait : Trait → Trait → Bool
same_trait a b = place a == place b

-- The number of times that the trait occurs in the list.
abbrev pub count_of : Trait → List Trait → ℕ
count_of which names = count_by (λ name. same_trait which name) names

-- No trait occurs twice in the list.
abbrev pub each_once : List Trait → Bool
each_once names = list_all (λ which. nat_le (count_of which names) 1) variants

-- The trait occurs in the list.
abbrev pub is_listed : List Trait → Trait → Bool
is_listed listed which = list_any (λ name. same_trait which name) listed

-- Each of the traits occurs in the list.
abbrev pub all_listed : List Trait → List Trait → Bool
all_listed listed names = list_all (λ name. is_listed listed name) names
