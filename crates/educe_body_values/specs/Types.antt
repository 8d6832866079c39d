-- The types of fields, distinguished by their tokens, and default values of these types.
use Rattle.std.specs.Prelude.{◌≡◌, ℕ, ◌+◌, ◌^◌, ◌≤◌, nat_lt, Bool, List, [], ◌∷◌, ◌++◌, Option, Some, None, if◌then◌else◌, codes}
use Rattle.std.specs.Cmp.Lexicographic.{pointwise}
use Rattle.std.specs.Str.{bytes_eq}
use Rattle.educe_tokens.specs.Text.{text_of}
use Rattle.educe_tokens.specs.WrittenLexemes.{written_lexemes}
use Rattle.educe_tokens.specs.declared.written.Written.{Written}
use Rattle.educe_tree.specs.declared.data.Field.{Field}
use Rattle.educe_tree.specs.declared.derive.DeriveInput.{DeriveInput}
use Rattle.educe_tree.specs.declared.ty.Ty.{out-Ty}
use Rattle.educe_grammar.specs.Few.{all_fields}
use Rattle.educe_body_values.specs.declared.callee.Callee.{Callee}
use Rattle.educe_body_values.specs.declared.callee.Callee.TheVariants.{Default, Written as WrittenText}
use Rattle.educe_body_values.specs.declared.environment.Binding.{Binding}
use Rattle.educe_body_values.specs.Callees.{spellings, path_of}
use Rattle.educe_body_values.specs.Scoping.{names_bound}

-- ---- the places of types

-- The spellings of a field's type.
abbrev pub type_spellings : Field → List (List ℕ)
type_spellings field = spellings (out-Ty field.ty).written.tokens

-- The place of the first of these fields whose type has these tokens.
abbrev pub first_place : List Field → List (List ℕ) → ℕ
first_place [] type = 0
first_place (f ∷ fs) type = if pointwise bytes_eq (type_spellings f) type then 0 else first_place fs type + 1

-- The place of the first field of a definition, counted over all its fields, whose type has these tokens.
abbrev pub type_place : DeriveInput → List (List ℕ) → ℕ
type_place definition type = first_place (all_fields definition) type

-- The place is the one that is found; if none is, it is 2^64 or more.
abbrev pub IsPlace : ℕ → Option ℕ → Type 0
IsPlace place None = 2 ^ 64 ≤ place
IsPlace place (Some found) = found ≡ place

-- ---- default values

-- What stands behind the type in `< T as :: core :: default :: Default > :: default ( )`.
abbrev pub behind_type : List (List ℕ)
behind_type =
    codes "as" ∷ (path_of (codes "core" ∷ codes "default" ∷ codes "Default" ∷ [])
    ++ (codes ">" ∷ (path_of (codes "default" ∷ [])
    ++ (codes "(" ∷ codes ")" ∷ []))))

-- The spellings of the call of `Default::default` for the type of these.
abbrev pub default_call : List (List ℕ) → List (List ℕ)
default_call type = codes "<" ∷ (type ++ behind_type)

-- The tokens call `Default::default` for the field's type.
abbrev pub calls_default : Written → Field → Bool
calls_default written field = pointwise bytes_eq (spellings written.tokens) (default_call (type_spellings field))

-- `Default::default` of the type at a place; a table knows places below 2^32.
abbrev pub default_of : ℕ → Option Callee
default_of place = if nat_lt place (2 ^ 32) then Some (Default place) else None

-- The text of tokens, as what is called.
abbrev pub written_callee : Written → Option Callee
written_callee written = Some (WrittenText (text_of (written_lexemes written)))

-- What tokens call that stand in a field's initializer, or in none: `Default::default` of the field's type where they
-- are spelled so, else their text.
abbrev pub text_callee : DeriveInput → Option Field → Written → Option Callee
text_callee definition None written = written_callee written
text_callee definition (Some field) written =
    if calls_default written field then default_of (type_place definition (type_spellings field)) else written_callee written

-- What tokens call where these names are in scope: tokens that have one of them among their identifiers call nothing.
abbrev pub pasted_callee : DeriveInput → Option Field → List Binding → Written → Option Callee
pasted_callee definition field names written = if names_bound names written.tokens then None else text_callee definition field written
