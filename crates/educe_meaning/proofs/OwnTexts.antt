-- The identifiers in the methods and in the discriminants of a definition are words of its tokens.
use Rattle.std.proofs.Common.{◌≡◌, ℕ, ◌+◌, Bool, true, false, inl, inr, List, [], ◌∷◌, Option, Some, None, map, refl, sym, subst}
use Rattle.std.specs.Prelude.{if◌then◌else◌, Contains}
use Rattle.std.specs.List.{AllByRecursion}
use Rattle.std.proofs.lemmas.Bool.{false≢true}
use Rattle.educe_tokens.specs.TokenKind.{TokenKind}
use Rattle.educe_tokens.specs.TokenKind.TheVariants.{Ident, Lifetime, Literal, Punct, Start, Stop, Doc}
use Rattle.educe_tokens.specs.declared.token.Token.{Token}
use Rattle.educe_tokens.specs.Lexes.{lexeme_of}
use Rattle.educe_syntax.specs.Definitions as grammar
use Rattle.educe_syntax.specs.DeriveInput.{DeriveInput}
use Rattle.educe_syntax.specs.Expr.{Expr}
use Rattle.educe_syntax.specs.ExprPath.{ExprPath}
use Rattle.educe_syntax.specs.Few.{shape_variants, variants_of, shape_fields, all_fields}
use Rattle.educe_syntax.specs.Field.{Field}
use Rattle.educe_syntax.specs.Laws.{lawful_parts}
use Rattle.educe_syntax.specs.Keywords.{unraw}
use Rattle.educe_syntax.specs.Parsed.{IsWhole}
use Rattle.educe_syntax.specs.Shape.{Shape}
use Rattle.educe_syntax.specs.Shape.TheVariants.{Struct, Enum}
use Rattle.educe_syntax.specs.Variant.{Variant}
use Rattle.educe_syntax.specs.Within.{FieldWithin, WrittenWithin, VariantWithin, ShapeWithin}
use Rattle.educe_attrs.specs.Causes.{NoCause}
use Rattle.educe_attrs.specs.Fields.{HaveNoCauses, settings_at}
use Rattle.educe_attrs.specs.Places.{OfField}
use Rattle.educe_attrs.specs.Laws.{lawful_settings}
use Rattle.educe_attrs.specs.Methods.{IsTextOf, standing, quoted}
use Rattle.educe_attrs.specs.Row.{Row}
use Rattle.educe_bound_traits.specs.declared.traits.Trait.{Trait}
use Rattle.educe_body.specs.NameLaws.{lawful_names}
use Rattle.educe_body_values.specs.Scoping.{is_ident, AreOwnNames}
use Rattle.educe_body.specs.Words.{IsWordOf, ident, HasWord}
use Rattle.educe_settings.specs.Cases.{fields_in, shape_cases, cases_of}
use Rattle.educe_settings.specs.Listed.{listed}
use Rattle.educe_settings.specs.Rows.{field_row}
use Rattle.educe_settings.specs.Settings.{Kept, keeps, how_with, kept_with, kept_by}
use Rattle.educe_meaning.proofs.Structs.{HaveOwnMethods}
use Rattle.educe_settings.proofs.Elements.{In, In-from_Contains, Contains-from_In, each_in, each_weaker, each_mapped, each_apart}
use Rattle.educe_meaning.proofs.Stepping.{HasOwnPath}

-- ---- the identifiers of a text

-- an identifier is, without `r#`, a word of its own token
own_word : (kind : TokenKind) (spelling : List ℕ) → is_ident kind ≡ true → IsWordOf (unraw spelling) (record { kind = kind; spelling = spelling })
own_word Ident spelling is = ident spelling
own_word Lifetime spelling is = absurd (false≢true is)
own_word (Literal l) spelling is = absurd (false≢true is)
own_word (Punct c joint) spelling is = absurd (false≢true is)
own_word (Start b) spelling is = absurd (false≢true is)
own_word (Stop b) spelling is = absurd (false≢true is)
own_word Doc spelling is = absurd (false≢true is)

is_ident-kind : (kind : TokenKind) → is_ident kind ≡ true → kind ≡ Ident
is_ident-kind Ident is = refl
is_ident-kind Lifetime is = absurd (false≢true is)
is_ident-kind (Literal l) is = absurd (false≢true is)
is_ident-kind (Punct c joint) is = absurd (false≢true is)
is_ident-kind (Start b) is = absurd (false≢true is)
is_ident-kind (Stop b) is = absurd (false≢true is)
is_ident-kind Doc is = absurd (false≢true is)

-- the word of one of the tokens is a word of all
word_among : (all : List Token) (t : Token) (word : List ℕ) → In t all → IsWordOf word (lexeme_of t) → HasWord all word
word_among [] t word among is = absurd among
word_among (own ∷ all) t word (inl same) is = inl (subst (λ (t : Token). IsWordOf word (lexeme_of t)) (sym same) is)
word_among (own ∷ all) t word (inr later) is = inr (word_among all t word later is)

-- the identifiers of tokens among all, or of those of the text of a string among all, are words of all
pub text_own : (all found : List Token) → IsTextOf all found → AreOwnNames all found
text_own all found (standing among) =
    each_weaker (λ t. Contains all t) (λ t. is_ident t.kind ≡ true → HasWord all (unraw t.spelling))
    (λ t stands is. word_among all t (unraw t.spelling) (In-from_Contains all t stands) (own_word t.kind t.spelling is)) found among
text_own all found (quoted string value stands is_value reading) =
    each_weaker (λ t. In t found) (λ t. is_ident t.kind ≡ true → HasWord all (unraw t.spelling))
    (λ t among is. lawful_names.idents_in_values all string value found t stands is_value reading.lexes (Contains-from_In found t among) (is_ident-kind t.kind is)) found (each_in found)

-- ---- the methods of fields

own_how : (tokens : List Token) (ordering : Bool) (method : Option ExprPath) → ((path : ExprPath) → method ≡ Some path → AreOwnNames tokens path.written.tokens)
    → HasOwnPath tokens (how_with ordering method)
own_how tokens ordering None own = tt
own_how tokens false (Some path) own = own path refl
own_how tokens true (Some path) own = own path refl

-- ---- the methods of a definition

module _ (which : Trait) (row : Row) (d : DeriveInput) where
  abbrev HasOwn : Kept → Type 0
  HasOwn k = HasOwnPath d.tokens k.how

  own_step : (k : Kept) (rest : List Kept) (keeps : Bool) → HasOwn k → AllByRecursion HasOwn rest → AllByRecursion HasOwn (if keeps then k ∷ rest else rest)
  own_step k rest true own later = (own, later)
  own_step k rest false own later = later

  -- the methods of fields that take part by what this form of their attributes says have names of the definition alone
  pub own_from : (place : ℕ) (fs : List Field) → AllByRecursion (FieldWithin (λ t. Contains d.tokens t)) fs → HaveNoCauses which row (listed d) fs
      → AllByRecursion HasOwn (kept_by place fs (map (settings_at which row (listed d)) fs))
  own_from place [] within uncaused = tt
  own_from place (f ∷ fs) within uncaused =
      let settings = settings_at which row (listed d) f in
      let said = lawful_settings.field_said which row (listed d) f.attrs uncaused.0 in
      let own : (path : ExprPath) → settings.values.method ≡ Some path → AreOwnNames d.tokens path.written.tokens =
      λ path is. text_own d.tokens path.written.tokens (lawful_settings.methods d.tokens which row (listed d) f.attrs settings path within.0 said is) in
      own_step (kept_with settings place f) (kept_by (place + 1) fs (map (settings_at which row (listed d)) fs)) (keeps settings)
      (own_how d.tokens settings.method_returns_ordering settings.values.method own) (own_from (place + 1) fs within.1 uncaused.1)

module _ (which : Trait) (d : DeriveInput) where
  -- what holds of the fields of a variant
  abbrev NoCauses : List Field → Type 0
  NoCauses fields = HaveNoCauses which (field_row which) (listed d) fields

  variants_own : (variants : List Variant) → AllByRecursion (VariantWithin (λ t. Contains d.tokens t)) variants → AllByRecursion (λ v. NoCauses (fields_in v)) variants
      → AllByRecursion (λ v. HaveOwnMethods which d (fields_in v)) variants
  variants_own [] within uncaused = tt
  variants_own (v ∷ vs) within uncaused = (own_from which (field_row which) d 0 (fields_in v) within.0.1 uncaused.0, variants_own vs within.1 uncaused.1)

  cases_own : (shape : Shape) → ShapeWithin (λ t. Contains d.tokens t) shape → NoCauses (shape_fields shape) → AllByRecursion (HaveOwnMethods which d) (shape_cases shape)
  cases_own (Struct shape) within uncaused = (own_from which (field_row which) d 0 shape.fields within uncaused, tt)
  cases_own (Enum variants) within uncaused =
      each_mapped (HaveOwnMethods which d) fields_in variants (variants_own variants within (each_apart (λ (f : Field). NoCause (OfField which (field_row which) (listed d) f.attrs)) fields_in variants uncaused))

  -- the methods of the fields that take part, in each case, have names of the definition alone
  pub own_methods : IsWhole grammar.definition d.tokens d → NoCauses (all_fields d) → AllByRecursion (HaveOwnMethods which d) (cases_of d)
  own_methods whole uncaused = cases_own d.shape (lawful_parts.definition d.tokens d whole) uncaused

-- ---- the discriminants of variants

-- the identifiers of the expression, if there is one, are words of the tokens
abbrev pub HasOwnNumber : List Token → Option Expr → Type 0
HasOwnNumber tokens None = Unit {0}
HasOwnNumber tokens (Some value) = AreOwnNames tokens value.written.tokens

own_number : (tokens : List Token) (written : Option Expr) → WrittenWithin (λ t. Contains tokens t) written → HasOwnNumber tokens written
own_number tokens None within = tt
own_number tokens (Some value) within = text_own tokens value.written.tokens (standing within)

numbers_own : (tokens : List Token) (variants : List Variant) → AllByRecursion (VariantWithin (λ t. Contains tokens t)) variants → AllByRecursion (λ (v : Variant). HasOwnNumber tokens v.discriminant) variants
numbers_own tokens [] within = tt
numbers_own tokens (v ∷ vs) within = (own_number tokens v.discriminant within.0.2, numbers_own tokens vs within.1)

-- the discriminants that are written have names of the definition alone
pub own_numbers : (d : DeriveInput) → IsWhole grammar.definition d.tokens d → AllByRecursion (λ (v : Variant). HasOwnNumber d.tokens v.discriminant) (variants_of d)
own_numbers d whole = by_shape d.shape (lawful_parts.definition d.tokens d whole)
  where
    by_shape : (shape : Shape) → ShapeWithin (λ t. Contains d.tokens t) shape → AllByRecursion (λ (v : Variant). HasOwnNumber d.tokens v.discriminant) (shape_variants shape)
    by_shape (Struct shape) within = tt
    by_shape (Enum variants) within = numbers_own d.tokens variants within
