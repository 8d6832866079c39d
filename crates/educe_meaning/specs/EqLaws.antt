-- What holds of the derived `Eq` with no call.
use Rattle.std.specs.Prelude.{ℕ, List}
use Rattle.std.specs.List.{AllByRecursion}
use Rattle.educe_syntax.specs.DeriveInput.{DeriveInput}
use Rattle.educe_syntax.specs.Readings.{AreNamed, IsReadType}
use Rattle.educe_syntax.specs.Refusal.{IsDefinition}
use Rattle.educe_body_items.specs.declared.items.Item.{Item}
use Rattle.educe_meaning.specs.Arms.{AreChosenFor, AreScoped}
use Rattle.educe_meaning.specs.Blocks.{IsEqBlock, EachEvaluates}
use Rattle.educe_meaning.specs.Checks.{plain_names}
use Rattle.educe_settings.specs.Types.{checked_types}

-- What holds of the block of `Eq`.
pub record EqLaws : Type 0 where
  -- Of the names that a check declares no two are the same, and none is a word of the input, such as the name of a parameter.
  pub scope : (definition : DeriveInput) (names : List (List ℕ)) → AreChosenFor definition plain_names names → AreScoped definition names
  -- The name of a definition and those of its parameters are names, which may stand in place of `Self`.
  pub named : (definition : DeriveInput) → IsDefinition definition.tokens definition → AreNamed definition
  -- The types that are checked are readings of their tokens, so that `Self` may be replaced in them.
  pub visits : (definition : DeriveInput) → IsDefinition definition.tokens definition → AllByRecursion IsReadType (checked_types definition)
  -- No function of the block is called, so that there is nothing to evaluate.
  pub evaluates : (definition : DeriveInput) (items : List Item) → IsEqBlock definition items → AllByRecursion (EachEvaluates definition) items
