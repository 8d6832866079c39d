-- The functions of the blocks of comparisons evaluate to what the comparisons mean.
use Rattle.std.proofs.Common.{◌≡◌, ◌≤◌, ◌^◌, List, length, refl}
use Rattle.std.specs.List.{AllByRecursion}
use Rattle.educe_syntax.specs.DeriveInput.{DeriveInput}
use Rattle.educe_syntax.specs.Few.{all_fields}
use Rattle.educe_syntax.specs.Refusal.{IsDefinition}
use Rattle.educe_syntax.specs.Shape.{Shape}
use Rattle.educe_syntax.specs.Shape.TheVariants.{Struct, Enum}
use Rattle.educe_attrs.specs.Fields.{HaveNoCauses}
use Rattle.educe_body_forms.specs.declared.comparison.Comparison.{Comparison}
use Rattle.educe_body_forms.specs.declared.comparison.Comparison.TheVariants.{PartialEq, PartialOrd, Ord}
use Rattle.educe_body_forms.specs.declared.body.Body.{Body}
use Rattle.educe_body_items.specs.declared.items.Function.{Function}
use Rattle.educe_body_items.specs.declared.items.Item.{Item}
use Rattle.educe_meaning.specs.Blocks.{IsBodyFor, IsBody, function_name, IsComparisonBlock, Compares, Evaluates, EachEvaluates}
use Rattle.educe_meaning.specs.Comparisons.{trait_of}
use Rattle.educe_meaning.specs.Laws.{ComparisonLaws}
use Rattle.educe_settings.specs.Listed.{listed}
use Rattle.educe_settings.specs.Rows.{field_row}
use Rattle.educe_meaning.proofs.Enums.{enum_evaluates}
use Rattle.educe_meaning.proofs.Fitting.{struct_fits, are_fit, impl_evaluates}
use Rattle.educe_meaning.proofs.KeyFunctions.{constants_are}
use Rattle.educe_meaning.proofs.Structs.{scope_apart, struct_evaluates}
use Rattle.educe_meaning.proofs.Variables.{arm_scope, key_scope}

-- what a function of a comparison evaluates to is what its trait means
of_comparison : (which : Comparison) (d : DeriveInput) (f : Function) → Compares which d f.body → Evaluates (trait_of which) d f
of_comparison PartialEq d f compares = compares
of_comparison PartialOrd d f compares = compares
of_comparison Ord d f compares = compares

module _ (which : Comparison) (d : DeriveInput) (is : IsDefinition d.tokens d) (small : length d.tokens ≤ 2 ^ 64)
    (uncaused : HaveNoCauses (trait_of which) (field_row (trait_of which)) (listed d) (all_fields d)) where
  -- the body of a comparison evaluates to what it means
  body_evaluates : (body : Body) → IsBody which d body → Compares which d body
  body_evaluates body k = by_shape d.shape refl k
    where
      by_shape : (shape : Shape) → d.shape ≡ shape → IsBodyFor which d shape body → Compares which d body
      by_shape (Struct shape) same k =
          let fits = struct_fits (trait_of which) d is small uncaused shape same in
          struct_evaluates which d shape body same fits.differ fits.methods k
      by_shape (Enum variants) same k = enum_evaluates which d variants body (are_fit (trait_of which) d is small uncaused variants same) k

  -- the functions of the block of a comparison evaluate to what it means
  pub block_evaluates : (items : List Item) → IsComparisonBlock which d items → AllByRecursion (EachEvaluates d) items
  block_evaluates = impl_evaluates (trait_of which) d (function_name which) (IsBody which d) (λ f named k. of_comparison which d f (body_evaluates f.body k))

-- the laws of comparisons hold
pub lawful_comparisons : ComparisonLaws
lawful_comparisons = record {
  scope = scope_apart;
  arm_scope = arm_scope;
  key_scope = key_scope;
  constants = constants_are;
  evaluates = λ which d items is small uncaused block. block_evaluates which d is small uncaused items block;
}
