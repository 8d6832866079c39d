-- Collections of the names for which a question about a type has the answer yes.
use Rattle.std.specs.Prelude.{◌≡◌, ℕ, Bool, ◌&&◌, ◌||◌, List}
use Rattle.educe_tree.specs.declared.generics.GenericParam.{GenericParam}
use Rattle.educe_bound_classes.specs.Exceptions.{Exceptions}
use Rattle.educe_bound_classes.specs.Params.{is_type_param}
use Rattle.educe_bound_classes.specs.Texts.{has_text}
use Rattle.educe_bound_classes.specs.Walk.{Question}
use Rattle.educe_bound_classes.specs.Classes.{name_of}

-- The texts that pass the test are added to the list, and no others.
abbrev pub AddsWhere : (List ℕ → Bool) → List (List ℕ) → List (List ℕ) → Type 0
AddsWhere test old new = (text : List ℕ) → has_text new text ≡ (has_text old text || test text)

-- The type parameters for whose names the answer is yes are added to the list.
abbrev pub Collects : List GenericParam → Exceptions → (Question → Bool) → List (List ℕ) → List (List ℕ) → Type 0
Collects params ex answer old new = AddsWhere (λ text. is_type_param params text && answer (name_of params ex text)) old new
