-- The block of a comparison.
use Rattle.std.proofs.Common.{◌≡◌, List, subst}
use Rattle.educe_syntax.specs.DeriveInput.{DeriveInput}
use Rattle.educe_bound_traits.specs.declared.traits.Trait.{Trait}
use Rattle.educe_body_forms.specs.declared.body.Body.{Body}
use Rattle.educe_body_forms.specs.declared.comparison.Comparison.{Comparison}
use Rattle.educe_body_items.specs.declared.items.Function.{Function}
use Rattle.educe_body_items.specs.declared.items.Item.{Item}
use Rattle.educe_handlers.proofs.Formed.{function_block}
use Rattle.educe_meaning.specs.Blocks.{IsBody, IsComparisonBlock, IsFunction, IsImplBlock, function_name}
use Rattle.educe_meaning.specs.Comparisons.{trait_of}

-- an impl whose one function has the name and the body of a comparison is the block of it
pub block_is : (which : Comparison) (own : Trait) (d : DeriveInput) (body : Body) (functions : List Function) (items : List Item) → own ≡ trait_of which
    → IsFunction (function_name which) (λ x. x ≡ body) functions → IsBody which d body → IsImplBlock own d (λ x. x ≡ functions) items → IsComparisonBlock which d items
block_is which own d body functions items same named right block =
    function_block (trait_of which) d (function_name which) (IsBody which d) body functions items named right (subst (λ own. IsImplBlock own d (λ x. x ≡ functions) items) same block)
