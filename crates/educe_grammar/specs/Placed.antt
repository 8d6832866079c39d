-- The places of tokens, and that the parts of a tree lie at places of its tokens.
use Rattle.std.specs.Prelude.{◌≡◌, ◌∷◌, ◌++◌, ◌⊎◌, List, IfSome}
use Rattle.std.specs.List.{AllByRecursion}
use Rattle.educe_tokens.specs.declared.span.Span.{Span}
use Rattle.educe_tokens.specs.declared.token.Token.{Token}
use Rattle.educe_tree.specs.declared.attr.Attribute.{Attribute}
use Rattle.educe_tree.specs.declared.attr.Meta.{Meta}
use Rattle.educe_tree.specs.declared.attr.Meta.TheVariants as said
use Rattle.educe_tree.specs.declared.data.Field.{Field}
use Rattle.educe_tree.specs.declared.data.Variant.{Variant}
use Rattle.educe_tree.specs.declared.derive.DeriveInput.{DeriveInput}
use Rattle.educe_grammar.specs.Steps.{Tokens}
use Rattle.educe_grammar.specs.Parsed.{end_place}
use Rattle.educe_grammar.specs.Few.{variants_of, all_fields}
use Rattle.educe_grammar.specs.Naming.{Named, scopes}

-- ---- spans of tokens

-- A token of the list has this span.
pub record HasPlace (tokens : Tokens) (place : Span) : Type 0 where
  pub front : Tokens
  pub found : Token
  pub rest : Tokens
  pub is : tokens ≡ front ++ found ∷ rest
  pub at_place : found.span ≡ place

-- The span is that of a token, or the empty span at the end of the tokens.
abbrev pub IsPlace : Tokens → Span → Type 0
IsPlace tokens place = HasPlace tokens place ⊎ (place ≡ end_place tokens)

-- ---- parts of trees

-- Each token of the second list has the span of a token of the first.
abbrev pub AreWithin : Tokens → Tokens → Type 0
AreWithin tokens part = AllByRecursion (λ (t : Token). HasPlace tokens t.span) part

-- The span starts where a token of the list starts, and ends where a token of the list ends.
pub record IsSpan (tokens : Tokens) (span : Span) : Type 0 where
  pub first : Span
  pub last : Span
  pub first_stands : HasPlace tokens first
  pub last_stands : HasPlace tokens last
  pub is : span ≡ record { start = first.start; end = last.end }

-- The parts of the meta lie at the tokens: its path, its list or value, and its span.
abbrev pub IsMetaPlaced : Tokens → Meta → Type 0
IsMetaPlaced tokens (said.Word path) = AreWithin tokens path.written.tokens
IsMetaPlaced tokens (said.List path group span) = AreWithin tokens path.written.tokens × AreWithin tokens group.tokens × IsSpan tokens span
IsMetaPlaced tokens (said.NameValue path value span) = AreWithin tokens path.written.tokens × AreWithin tokens value.written.tokens × IsSpan tokens span
IsMetaPlaced tokens (said.Doc t) = HasPlace tokens t.span
IsMetaPlaced tokens (said.Unread path value span) = AreWithin tokens path.written.tokens × AreWithin tokens value.tokens × IsSpan tokens span

-- The parts of each of the metas lie at the tokens.
abbrev pub AreMetasPlaced : Tokens → List Meta → Type 0
AreMetasPlaced tokens found = AllByRecursion (IsMetaPlaced tokens) found

-- The parts of each attribute lie at the tokens.
abbrev pub AreAttributesPlaced : Tokens → List Attribute → Type 0
AreAttributesPlaced tokens attrs = AllByRecursion (λ (a : Attribute). IsMetaPlaced tokens a.meta) attrs

-- The parts of the field lie at the tokens: its span, its name and its attributes.
pub record IsFieldPlaced (tokens : Tokens) (field : Field) : Type 0 where
  pub span : IsSpan tokens field.span
  pub name : IfSome field.ident (λ ident. HasPlace tokens ident.span)
  pub attrs : AreAttributesPlaced tokens field.attrs

-- The parts of each of the fields lie at the tokens.
abbrev pub AreFieldsPlaced : Tokens → List Field → Type 0
AreFieldsPlaced tokens fields = AllByRecursion (IsFieldPlaced tokens) fields

-- The parts of the variant lie at the tokens: its span, its name, its attributes and its fields.
pub record IsVariantPlaced (tokens : Tokens) (variant : Variant) : Type 0 where
  pub span : IsSpan tokens variant.span
  pub name : HasPlace tokens variant.ident.span
  pub attrs : AreAttributesPlaced tokens variant.attrs
  pub fields : AreFieldsPlaced tokens variant.fields.fields

-- The parts of the definition lie at the tokens: its name, the names of its scopes, its attributes, its variants, and
-- its fields, those of all variants together.
pub record IsDefinitionPlaced (tokens : Tokens) (definition : DeriveInput) : Type 0 where
  pub name : HasPlace tokens definition.ident.span
  pub names : AllByRecursion (AllByRecursion (λ (n : Named). HasPlace tokens n.span)) (scopes definition)
  pub attrs : AreAttributesPlaced tokens definition.attrs
  pub variants : AllByRecursion (IsVariantPlaced tokens) (variants_of definition)
  pub fields : AreFieldsPlaced tokens (all_fields definition)
