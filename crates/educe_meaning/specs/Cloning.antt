-- What the derived `clone` and `clone_from` mean.
use Rattle.std.specs.Prelude.{◌==◌, Bool, true, false, List, [], ◌∷◌, Option, Some, None, if◌then◌else◌}
use Rattle.educe_syntax.specs.DeriveInput.{DeriveInput}
use Rattle.educe_bound_traits.specs.declared.traits.Trait.TheVariants as trait
use Rattle.educe_body_values.specs.Answering.{answer_of}
use Rattle.educe_body_values.specs.Callees.{callee_of}
use Rattle.educe_body_values.specs.Meaning.{whole_value}
use Rattle.educe_body_values.specs.declared.answers.Answers.{Answers}
use Rattle.educe_body_values.specs.declared.callee.BuiltIn.TheVariants.{Clone}
use Rattle.educe_body_values.specs.declared.callee.Callee.TheVariants as callee
use Rattle.educe_body_values.specs.declared.outcome.Outcome.{Outcome}
use Rattle.educe_body_values.specs.declared.outcome.Outcome.TheVariants.{Made}
use Rattle.educe_body_values.specs.declared.value.FieldValue.{FieldValue}
use Rattle.educe_body_values.specs.declared.value.Value.{Value}
use Rattle.educe_meaning.specs.Comparing.{Compared, asked, paired}
use Rattle.educe_settings.specs.Copying.{copies_whole}
use Rattle.educe_meaning.specs.Hashing.{Valued, valued}
use Rattle.educe_meaning.specs.Making.{value_made, made_with, value_of, placed_value, whole_of}
use Rattle.educe_settings.specs.Settings.{How, plainly, by_method, by_order}

-- ---- `clone`

-- What `clone` makes of a field, if it makes something: what `Clone::clone`, or the field's method, answers on its value.
abbrev pub cloned : Answers → Valued → Option FieldValue
cloned table v = value_made (answer_of table (asked Clone v.kept.how) (Some v.value) None)

-- What `clone` makes of several fields, in their order, where it makes something of each.
abbrev pub fields_cloned : Answers → List Valued → Option (List FieldValue)
fields_cloned table [] = Some []
fields_cloned table (v ∷ vs) = made_with (cloned table v) (fields_cloned table vs)

-- What `clone` means of a value: the value itself, where it is copied as a whole; else the value of the same variant that has what
-- is made of each field, where the variant's place is below 2^32.
abbrev pub clone_of : Answers → DeriveInput → Value → Option Outcome
clone_of table definition a =
    if copies_whole definition then Some (Made a) else placed_value a.variant (fields_cloned table (valued trait.Clone definition a))

-- ---- `clone_from`

-- What `clone_from` makes of a field of `self` and that of the source, if it makes something: what the field's method answers on
-- the source's; and without a method what `Clone::clone_from` answers on both, or, with true, where fields are read by copies, what
-- `Clone::clone` answers on the source's.
abbrev pub cloned_from : Answers → Bool → How → FieldValue → FieldValue → Option FieldValue
cloned_from table false plainly x y = value_made (answer_of table callee.CloneFrom (Some x) (Some y))
cloned_from table true plainly x y = value_made (answer_of table callee.Clone (Some y) None)
cloned_from table copied (by_method path) x y = value_made (answer_of table (callee_of path) (Some y) None)
cloned_from table copied (by_order path) x y = value_made (answer_of table (callee_of path) (Some y) None)

-- What `clone_from` makes of several fields, in their order, where it makes something of each.
abbrev pub fields_cloned_from : Answers → Bool → List Compared → Option (List FieldValue)
fields_cloned_from table copied [] = Some []
fields_cloned_from table copied (c ∷ cs) = made_with (cloned_from table copied c.kept.how c.first c.second) (fields_cloned_from table copied cs)

-- What `self` becomes: where both values are of one variant, the value of this variant that has what is made of each field; else
-- what `Clone::clone` answers on the source as a whole.
abbrev pub clone_from_of : Answers → Bool → DeriveInput → Value → Value → Option Outcome
clone_from_of table copied definition a b =
    if a.variant == b.variant then value_of a.variant (fields_cloned_from table copied (paired trait.Clone definition a b))
    else whole_of (value_made (answer_of table callee.Clone (whole_value (Some b)) None))
