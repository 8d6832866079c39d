-- What holds of the block of `Eq`, and of the names that its check declares.
use Rattle.std.proofs.Common.{Bool, true, false, List, ℕ, refl, sym, subst}
use Rattle.std.specs.List.{AllByRecursion}
use Rattle.educe_syntax.specs.DeriveInput.{DeriveInput}
use Rattle.educe_syntax.specs.Laws.{lawful_definitions}
use Rattle.educe_syntax.specs.Readings.{IsReadType}
use Rattle.educe_syntax.specs.Refusal.{IsDefinition}
use Rattle.educe_bound_traits.specs.declared.traits.Trait.TheVariants as trait
use Rattle.educe_bound_traits.specs.Traits.{is_listed}
use Rattle.educe_body_items.specs.declared.items.Item.{Item}
use Rattle.educe_meaning.specs.Arms.{AreChosenFor, AreScoped}
use Rattle.educe_meaning.specs.Blocks.{has_check, IsEqBlockWith, EachEvaluates}
use Rattle.educe_meaning.specs.Checks.{plain_names}
use Rattle.educe_meaning.specs.EqLaws.{EqLaws}
use Rattle.educe_settings.specs.Listed.{listed}
use Rattle.educe_settings.specs.Settings.{bound_for}
use Rattle.educe_settings.specs.Types.{checked_types}
use Rattle.educe_meaning.proofs.Facts.{ArePlain}
use Rattle.educe_meaning.proofs.Fitting.{none_evaluate}
use Rattle.educe_meaning.proofs.TraitTypes.{checked_hold}
use Rattle.educe_meaning.proofs.Variables.{chosen_scoped}

-- the names of a check, where nothing is in their way, have no `r#`, and none of them is `self`
are_plain : ArePlain plain_names
are_plain = record { raw = (refl, (refl, (refl, tt))); others = (refl, (refl, (refl, tt))) }

-- no two of the names of a check are the same, and none is a word of the definition
names_scoped : (d : DeriveInput) (names : List (List ℕ)) → AreChosenFor d plain_names names → AreScoped d names
names_scoped d names are = chosen_scoped d plain_names names are are_plain

module _ (d : DeriveInput) where
  -- the block of `Eq` has no function to evaluate
  block_evaluates : (checks : Bool) (items : List Item) → IsEqBlockWith checks d items → AllByRecursion (EachEvaluates d) items
  block_evaluates true items k = subst (AllByRecursion (EachEvaluates d)) (sym k.are) (tt, (none_evaluate trait.Eq d k.item k.impl_is, tt))
  block_evaluates false items k = subst (AllByRecursion (EachEvaluates d)) (sym k.are) (none_evaluate trait.Eq d k.item k.impl_is, tt)

-- ---- types that are checked

-- the types that are checked are readings of their tokens
types_read : (d : DeriveInput) → IsDefinition d.tokens d → AllByRecursion IsReadType (checked_types d)
types_read d is = checked_hold IsReadType d (lawful_definitions.parts d.tokens d is.whole).fields (is_listed (listed d) trait.PartialEq)

-- the laws of `Eq` hold
pub lawful_checks : EqLaws
lawful_checks = record {
  scope = names_scoped;
  named = λ d is. (lawful_definitions.parts d.tokens d is.whole).named;
  visits = types_read;
  evaluates = λ d items block. block_evaluates d (has_check (bound_for trait.Eq d) (checked_types d)) items block;
}
