-- The check that the types of fields implement `Eq`.
use Rattle.std.specs.Prelude.{◌≡◌, ℕ, List, [], ◌∷◌, map, codes}
use Rattle.std.specs.List.{AllZip}
use Rattle.educe_tokens.specs.declared.word.Word.{Word}
use Rattle.educe_tokens.specs.Appends.{LieNowhere}
use Rattle.educe_tokens.specs.Lexes.{lexemes}
use Rattle.educe_tokens.specs.WrittenLexemes.{written_lexemes}
use Rattle.educe_syntax.specs.DeriveInput.{DeriveInput}
use Rattle.educe_syntax.specs.Generics.{Generics}
use Rattle.educe_syntax.specs.Steps.{Tokens}
use Rattle.educe_syntax.specs.Ty.{Ty}
use Rattle.educe_syntax_self.specs.Heads.{head_for}
use Rattle.educe_syntax_self.specs.Visits.{IsVisitedType, AreVisitedGenerics}
use Rattle.educe_attrs.specs.Lints.{lints}
use Rattle.educe_body_items.specs.declared.items.CheckItem.{CheckItem}
use Rattle.educe_meaning.specs.Arms.{AreChosenFor}

-- ---- names

-- The names that a check declares, as they are written where nothing is in their way: its function, the inner one, and the
-- parameter of that.
abbrev pub plain_names : List (List ℕ)
plain_names = codes "__educe_eq_fields" ∷ codes "__educe_assert_eq" ∷ codes "T" ∷ []

-- The texts of words.
abbrev pub texts_of : List Word → List (List ℕ)
texts_of words = map (λ (w : Word). w.text) words

-- ---- in place of `Self`

-- The name of the definition with its parameters as arguments, at no place.
pub record IsHeadFor (definition : DeriveInput) (head : Tokens) : Type 0 where
  pub is : lexemes head ≡ head_for definition
  pub nowhere : LieNowhere head

-- ---- checks

-- A check of these types, with these generics, and with the head of the definition in place of each `Self` that a path of them begins
-- with: its attributes are the lints alone, and its names are chosen, in their order, apart from the words of the definition and from
-- each other.
pub record IsCheck (definition : DeriveInput) (generics : Generics) (types : List Ty) (check : CheckItem) : Type 0 where
  pub attributes_are : written_lexemes check.attributes ≡ lints definition.attrs
  pub head : Tokens
  pub head_is : IsHeadFor definition head
  pub generics_are : AreVisitedGenerics head generics check.generics
  pub types_are : AllZip (IsVisitedType head) types check.types
  pub names_are : AreChosenFor definition plain_names (texts_of check.names)
