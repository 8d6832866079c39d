-- What holds of the derived `Default` with no call.
use Rattle.std.specs.Prelude.{List}
use Rattle.std.specs.List.{AllByRecursion}
use Rattle.educe_syntax.specs.DeriveInput.{DeriveInput}
use Rattle.educe_syntax.specs.Refusal.{IsDefinition}
use Rattle.educe_body_items.specs.declared.items.Item.{Item}
use Rattle.educe_meaning.specs.Blocks.{IsDefaultBlock, EachEvaluates}

-- What holds of the block of `Default`.
pub record DefaultLaws : Type 0 where
  -- Over each table by which each of its calls makes a value, `default` evaluates to the value that the attributes determine, and
  -- `new` to what the call of `default` makes.
  pub evaluates : (definition : DeriveInput) (items : List Item) → IsDefinition definition.tokens definition → IsDefaultBlock definition items
      → AllByRecursion (EachEvaluates definition) items
