-- How the derived orders fit together with no call (documentation of `std`, `Ord`: consistency with `PartialOrd`).
use Rattle.std.specs.Prelude.{◌≡◌, true, Some}
use Rattle.std.specs.List.{AllByRecursion}
use Rattle.std.specs.declared.cmp.Ordering.{Ordering}
use Rattle.educe_syntax.specs.DeriveInput.{DeriveInput}
use Rattle.educe_syntax.specs.Few.{all_fields}
use Rattle.educe_syntax.specs.Field.{Field}
use Rattle.educe_bound_traits.specs.declared.traits.Trait.TheVariants as trait
use Rattle.educe_bound_traits.specs.Traits.{is_listed}
use Rattle.educe_attrs.specs.Fields.{HaveNoCauses}
use Rattle.educe_attrs.specs.Said.{IsUnsaid}
use Rattle.educe_body_forms.specs.declared.comparison.Comparison.TheVariants.{PartialOrd, Ord}
use Rattle.educe_body_values.specs.declared.answers.Answer.TheVariants.{Order as AnswerOrder, PartialOrder as AnswerPartialOrder}
use Rattle.educe_body_values.specs.declared.answers.Answers.{Answers}
use Rattle.educe_body_values.specs.declared.callee.BuiltIn.TheVariants.{Cmp, PartialCmp}
use Rattle.educe_body_values.specs.declared.outcome.Outcome.{Outcome}
use Rattle.educe_body_values.specs.declared.outcome.Outcome.TheVariants.{Order as OutcomeOrder, PartialOrder as OutcomePartialOrder}
use Rattle.educe_body_values.specs.declared.value.Value.{Value}
use Rattle.educe_body_values.specs.Answering.{answer_of}
use Rattle.educe_body_values.specs.Callees.{as_callee}
use Rattle.educe_meaning.specs.Comparing.{Compared, compared, Covers, meaning}
use Rattle.educe_settings.specs.Listed.{listed}
use Rattle.educe_settings.specs.Rows.{field_row}
use Rattle.educe_settings.specs.Settings.{plainly}

-- Both orders are listed, no field has an attribute of `PartialOrd`, and none says something wrong of one of them: so `PartialOrd` takes
-- what the fields say of `Ord`.
pub record TakesFromOrd (definition : DeriveInput) : Type 0 where
  pub partial_listed : is_listed (listed definition) trait.PartialOrd ≡ true
  pub ord_listed : is_listed (listed definition) trait.Ord ≡ true
  pub unsaid : AllByRecursion (λ (field : Field). IsUnsaid trait.PartialOrd field.attrs) (all_fields definition)
  pub partial_uncaused : HaveNoCauses trait.PartialOrd (field_row trait.PartialOrd) (listed definition) (all_fields definition)
  pub ord_uncaused : HaveNoCauses trait.Ord (field_row trait.Ord) (listed definition) (all_fields definition)

-- If the field has no method, the table answers to `partial_cmp` of its two values in `Some` what it answers to `cmp`.
abbrev pub IsAnsweredAlike : Answers → Compared → Type 0
IsAnsweredAlike table c =
    c.kept.how ≡ plainly → (o : Ordering) → answer_of table (as_callee Cmp) (Some c.first) (Some c.second) ≡ Some (AnswerOrder o)
    → answer_of table (as_callee PartialCmp) (Some c.first) (Some c.second) ≡ Some (AnswerPartialOrder (Some o))

-- The table covers two values for `Ord`; and if they are of one case, it answers alike for each field that takes part.
pub record CoversAlike (table : Answers) (definition : DeriveInput) (a b : Value) : Type 0 where
  pub covers : Covers Ord table definition a b
  pub alike : a.variant ≡ b.variant → AllByRecursion (IsAnsweredAlike table) (compared Ord definition a b)

-- An order as `partial_cmp` answers it: in `Some`.
abbrev pub in_some : Outcome → Outcome
in_some (OutcomeOrder o) = OutcomePartialOrder (Some o)
in_some outcome = outcome

-- What holds of both orders of a definition.
pub record OrderLaws : Type 0 where
  -- Where `PartialOrd` takes what fields say of `Ord`, each table that covers two values for `Ord` and answers alike covers them for
  -- `PartialOrd`.
  pub covers : (table : Answers) (definition : DeriveInput) (a b : Value) → TakesFromOrd definition → CoversAlike table definition a b → Covers PartialOrd table definition a b
  -- Where `PartialOrd` takes what fields say of `Ord`, and a table covers two values for `Ord` and answers alike, `partial_cmp`
  -- means in `Some` what `cmp` means.
  pub agree : (table : Answers) (definition : DeriveInput) (a b : Value) → TakesFromOrd definition → CoversAlike table definition a b
      → meaning PartialOrd table definition a b ≡ in_some (meaning Ord table definition a b)
