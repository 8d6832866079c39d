-- The plain text of what `fmt` shows (documentation of `std`, `fmt::Formatter`).
use Rattle.std.specs.Prelude.{ℕ, Bool, true, false, List, [], ◌∷◌, ◌++◌, codes}
use Rattle.educe_body_values.specs.declared.shape.DebugShape.{DebugShape}
use Rattle.educe_body_values.specs.declared.shape.Entry.{Entry}
use Rattle.educe_body_values.specs.declared.shape.ShapeForm.{ShapeForm}
use Rattle.educe_body_values.specs.declared.shape.ShapeForm.TheVariants.{Word, Struct, Tuple, Map}

-- What stands before a text that is joined to others: nothing before the first, and a comma and a blank before any other.
abbrev pub separator : Bool → List ℕ
separator true = []
separator false = codes ", "

-- What stands before the text of the value of an entry: its key, but none in a tuple.
abbrev pub before_value : ShapeForm → Entry → List ℕ
before_value Tuple entry = []
before_value Word entry = []
before_value Struct entry = entry.key ++ codes ": "
before_value Map entry = entry.key ++ codes ": "

-- The entries and their texts, as many as there are of both, with a comma and a blank between any two; whether the next one is the first.
abbrev pub joined : ShapeForm → Bool → List Entry → List (List ℕ) → List ℕ
joined form first [] texts = []
joined form first (e ∷ es) [] = []
joined form first (e ∷ es) (t ∷ texts) = separator first ++ before_value form e ++ t ++ joined form false es texts

-- The comma of a tuple that has no name and one entry.
abbrev pub single_comma : List ℕ → List Entry → List ℕ
single_comma [] [] = []
single_comma [] (e ∷ []) = codes ","
single_comma [] (e ∷ d ∷ es) = []
single_comma (c ∷ name) es = []

-- A word; `N { a: .., b: .. }`; `N(.., ..)`; `{a: .., b: ..}`; a struct or a tuple without entries is its name.
abbrev pub text_in_form : ShapeForm → List ℕ → List Entry → List (List ℕ) → List ℕ
text_in_form Word name es texts = name
text_in_form Struct name [] texts = name
text_in_form Struct name (e ∷ es) texts = name ++ codes " { " ++ joined Struct true (e ∷ es) texts ++ codes " }"
text_in_form Tuple name [] texts = name
text_in_form Tuple name (e ∷ es) texts = name ++ codes "(" ++ joined Tuple true (e ∷ es) texts ++ single_comma name (e ∷ es) ++ codes ")"
text_in_form Map name es texts = codes "{" ++ joined Map true es texts ++ codes "}"

-- The text that `{:?}` prints of what is shown, where the values of its entries have these texts.
abbrev pub plain_text : DebugShape → List (List ℕ) → List ℕ
plain_text shown texts = text_in_form shown.form shown.name shown.entries texts
