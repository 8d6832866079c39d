-- What the derived `Hash` means.
use Rattle.std.specs.Prelude.{ℕ, ℤ, pos, ◌+◌, List, [], ◌∷◌, ◌++◌, map, Option, Some, None, IsSome, unwrap_or, if◌then◌else◌}
use Rattle.std.specs.List.{AllByRecursion}
use Rattle.educe_syntax.specs.DeriveInput.{DeriveInput}
use Rattle.educe_syntax.specs.Field.{Field}
use Rattle.educe_syntax.specs.Shape.{Shape}
use Rattle.educe_syntax.specs.Shape.TheVariants.{Struct, Enum}
use Rattle.educe_bound_traits.specs.declared.traits.Trait.{Trait}
use Rattle.educe_bound_traits.specs.declared.traits.Trait.TheVariants as trait
use Rattle.educe_body_values.specs.Answering.{answer_of}
use Rattle.educe_body_values.specs.declared.answers.Answer.{Answer}
use Rattle.educe_body_values.specs.declared.answers.Answer.TheVariants.{Part}
use Rattle.educe_body_values.specs.declared.answers.Answers.{Answers}
use Rattle.educe_body_values.specs.declared.callee.BuiltIn.TheVariants.{Hash}
use Rattle.educe_body_values.specs.declared.value.FieldValue.{FieldValue}
use Rattle.educe_body_values.specs.declared.value.Value.{Value}
use Rattle.educe_meaning.specs.Comparing.{case_of, HasShape, asked}
use Rattle.educe_settings.specs.Settings.{Kept, is_kept, kept_at}

-- ---- the fields of one value

-- A field that takes part, with its value.
pub record Valued : Type 0 where
  pub kept : Kept
  pub value : FieldValue

-- The fields that take part, with their values, in written order; the first field has this place.
abbrev pub valued_from : Trait → DeriveInput → ℕ → List Field → List FieldValue → List Valued
valued_from which definition place [] xs = []
valued_from which definition place (f ∷ fs) [] = []
valued_from which definition place (f ∷ fs) (x ∷ xs) =
    if is_kept which definition f then record { kept = kept_at which definition place f; value = x } ∷ valued_from which definition (place + 1) fs xs
    else valued_from which definition (place + 1) fs xs

-- The fields of a value that take part in what a trait does, with their values.
abbrev pub valued : Trait → DeriveInput → Value → List Valued
valued which definition a = valued_from which definition 0 (case_of definition a) a.fields

-- ---- what a field feeds to a hasher

-- The part for a hasher that a call answers.
abbrev pub part_said : Option Answer → Option ℤ
part_said (Some (Part n)) = Some n
part_said answer = None

-- What a field feeds, if it feeds something: the part that `Hash::hash`, or the field's method, answers on its value.
abbrev pub feeds : Answers → Valued → Option ℤ
feeds table v = part_said (answer_of table (asked Hash v.kept.how) (Some v.value) None)

-- By the table each of these fields feeds something to the hasher.
abbrev pub AllFeed : Answers → List Valued → Type 0
AllFeed table vs = AllByRecursion (λ v. IsSome (feeds table v)) vs

-- What these fields feed to the hasher, in their order.
abbrev pub fed_by : Answers → List Valued → List ℤ
fed_by table vs = map (λ v. unwrap_or (feeds table v) (pos 0)) vs

-- ---- what the derived function means

-- What stands before the fields: of a value of an enum the place of its variant.
abbrev pub variant_parts : Shape → Value → List ℤ
variant_parts (Struct shape) a = []
variant_parts (Enum variants) a = pos a.variant ∷ []

-- What a value feeds to a hasher: the place of its variant, if it is one of an enum; and then what its fields feed that take part, in
-- written order.
abbrev pub hash_of : Answers → DeriveInput → Value → List ℤ
hash_of table definition a = variant_parts definition.shape a ++ fed_by table (valued trait.Hash definition a)

-- The value has the definition's shape, and by the table each of its fields that take part feeds something.
pub record HashCovers (table : Answers) (definition : DeriveInput) (a : Value) : Type 0 where
  pub shape : HasShape definition a
  pub each : AllFeed table (valued trait.Hash definition a)
