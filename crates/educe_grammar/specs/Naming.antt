-- Duplicate names: in a definition names are distinct, a leading `r#` aside (Rust Reference, Names).
use Rattle.std.specs.Prelude.{◌≡◌, ◌≢◌, ℕ, ◌<◌, ◌≤◌, List, [], ◌∷◌, ◌++◌, map, Option, Some, None}
use Rattle.std.specs.List.{AllByRecursion, filter_map}
use Rattle.educe_tokens.specs.declared.span.Span.{Span}
use Rattle.educe_tokens.specs.declared.error.EduceError.{EduceError}
use Rattle.educe_tokens.specs.declared.error.Kind.TheVariants.{DuplicateName}
use Rattle.educe_tokens.specs.Refusals.{citing_at}
use Rattle.educe_tree.specs.declared.ident.Ident.{Ident}
use Rattle.educe_tree.specs.declared.data.Field.{Field}
use Rattle.educe_tree.specs.declared.data.Variant.{Variant}
use Rattle.educe_tree.specs.declared.derive.DeriveInput.{DeriveInput}
use Rattle.educe_tree.specs.declared.derive.Shape.{Shape}
use Rattle.educe_tree.specs.declared.derive.Shape.TheVariants.{Struct, Enum}
use Rattle.educe_tree.specs.declared.generics.GenericParam.{GenericParam}
use Rattle.educe_tree.specs.declared.generics.GenericParam.TheVariants as param
use Rattle.educe_tree.specs.Names.{unraw}

-- A name as it was written, with its place.
pub record Named : Type 0 where
  pub text : List ℕ
  pub span : Span

-- The name of an identifier, with its place.
abbrev pub ident_named : Ident → Named
ident_named ident = record { text = ident.text; span = ident.span }

-- The name of a lifetime parameter; other parameters have none here.
abbrev pub lifetime_named : GenericParam → Option Named
lifetime_named (param.Lifetime p) = Some (record { text = p.lifetime.text; span = p.lifetime.span })
lifetime_named (param.TypeParam p) = None
lifetime_named (param.Const p) = None

-- The name of a type or const parameter, and none of a lifetime.
abbrev pub type_named : GenericParam → Option Named
type_named (param.Lifetime p) = None
type_named (param.TypeParam p) = Some (ident_named p.ident)
type_named (param.Const p) = Some (ident_named p.ident)

-- The name of a field, if it has one.
abbrev pub field_named : Field → Option Named
field_named field = elim field.ident [ None ↦ None | Some ident ↦ Some (ident_named ident) ]

-- The names of fields.
abbrev pub field_names : List Field → List Named
field_names fields = filter_map field_named fields

-- The names of variants.
abbrev pub variant_names : List Variant → List Named
variant_names variants = map (λ v. ident_named v.ident) variants

-- The scopes of a shape, in each of which names are distinct: the fields of a struct, or the variants of an enum and
-- the fields of each.
abbrev pub shape_scopes : Shape → List (List Named)
shape_scopes (Struct shape) = field_names shape.fields ∷ []
shape_scopes (Enum variants) = variant_names variants ∷ map (λ v. field_names v.fields.fields) variants

-- The lists of names of a definition, in each of which names must be distinct: its lifetime parameters; its type and const
-- parameters; the fields of a struct, or the variants of an enum and the fields of each.
abbrev pub scopes : DeriveInput → List (List Named)
scopes definition =
    filter_map lifetime_named definition.generics.params ∷ filter_map type_named definition.generics.params ∷ shape_scopes definition.shape

-- The names are pairwise distinct, a leading `r#` aside.
abbrev pub AreApart : List Named → Type 0
AreApart [] = Unit {0}
AreApart (name ∷ names) = AllByRecursion (λ later. unraw name.text ≢ unraw later.text) names × AreApart names

-- An earlier name of the list equals this one, a leading `r#` aside; the names before this one are distinct.
pub record IsRepeated (found : Named) (names : List Named) : Type 0 where
  pub before : List Named
  pub first : Named
  pub between : List Named
  pub after : List Named
  pub is : names ≡ before ++ first ∷ (between ++ found ∷ after)
  pub same : unraw first.text ≡ unraw found.text
  pub apart : AreApart (before ++ first ∷ between)

-- In each of the lists the names are distinct.
abbrev pub AllApart : List (List Named) → Type 0
AllApart lists = AllByRecursion AreApart lists

-- Each repeated name of the lists stands after this offset.
abbrev pub AreBehind : ℕ → List (List Named) → Type 0
AreBehind start lists = AllByRecursion (λ names. (other : Named) → IsRepeated other names → start < other.span.start) lists

-- Each repeated name of the lists stands at this offset or after it.
abbrev pub AreNotBefore : ℕ → List (List Named) → Type 0
AreNotBefore start lists = AllByRecursion (λ names. (other : Named) → IsRepeated other names → start ≤ other.span.start) lists

-- The name is repeated in one of the lists, and no repeated name of any list is written before it.
pub record IsRepeatedIn (found : Named) (lists : List (List Named)) : Type 0 where
  pub before : List (List Named)
  pub names : List Named
  pub after : List (List Named)
  pub is : lists ≡ before ++ names ∷ after
  pub repeated : IsRepeated found names
  pub behind : AreBehind found.span.start before
  pub not_before : AreNotBefore found.span.start after

-- The name is the first repeated one of the lists; or there is none, and in each list the names are distinct.
abbrev pub IsEarliest : Option Named → List (List Named) → Type 0
IsEarliest (Some found) lists = IsRepeatedIn found lists
IsEarliest None lists = AllApart lists

-- The names of each list of a definition are distinct, ignoring a leading `r#`.
abbrev pub AreNamesApart : DeriveInput → Type 0
AreNamesApart definition = AllApart (scopes definition)

-- The rejection for a duplicate name, at its later place.
abbrev pub duplicate_of : Named → EduceError
duplicate_of found = citing_at DuplicateName found.span found.text
