-- Functions and impls of which more is known.
use Rattle.std.proofs.Common.{◌≡◌, ℕ, List, subst, sym}
use Rattle.educe_syntax.specs.DeriveInput.{DeriveInput}
use Rattle.educe_bound_traits.specs.declared.traits.Trait.{Trait}
use Rattle.educe_body_forms.specs.declared.body.Body.{Body}
use Rattle.educe_body_items.specs.declared.items.Function.{Function}
use Rattle.educe_body_items.specs.declared.items.ImplItem.{ImplItem}
use Rattle.educe_body_items.specs.declared.items.Item.{Item}
use Rattle.educe_meaning.specs.Blocks.{IsFunction, IsImpl, IsImplBlock}

-- the one function with this body, where the body is as it is to be
pub function_with : (name : List ℕ) (IsRight : Body → Type 0) (body : Body) (functions : List Function) → IsFunction name (λ own. own ≡ body) functions → IsRight body
    → IsFunction name IsRight functions
function_with name IsRight body functions is right = record {
  own = is.own;
  body = is.body;
  are = is.are;
  name_is = is.name_is;
  body_is = subst IsRight (sym is.body_is) right;
}

-- the impl with these functions, where they are as they are to be
pub impl_with : (which : Trait) (d : DeriveInput) (AreRight : List Function → Type 0) (functions : List Function) (item : ImplItem) → IsImpl which d (λ own. own ≡ functions) item
    → AreRight functions → IsImpl which d AreRight item
impl_with which d AreRight functions item is right = record {
  which_is = is.which_is;
  attributes_are = is.attributes_are;
  header_is = is.header_is;
  ident_is = is.ident_is;
  functions_are = subst AreRight (sym is.functions_are) right;
}

-- the block that is the impl with these functions alone, where they are as they are to be
pub block_with : (which : Trait) (d : DeriveInput) (AreRight : List Function → Type 0) (functions : List Function) (items : List Item) → IsImplBlock which d (λ own. own ≡ functions) items
    → AreRight functions → IsImplBlock which d AreRight items
block_with which d AreRight functions items is right = record { item = is.item; are = is.are; impl_is = impl_with which d AreRight functions is.item is.impl_is right }

-- the block that is the impl with one function, where the function has a body that is as it is to be
pub function_block : (which : Trait) (d : DeriveInput) (name : List ℕ) (IsRight : Body → Type 0) (body : Body) (functions : List Function) (items : List Item)
    → IsFunction name (λ own. own ≡ body) functions → IsRight body → IsImplBlock which d (λ own. own ≡ functions) items → IsImplBlock which d (IsFunction name IsRight) items
function_block which d name IsRight body functions items named right is =
    block_with which d (IsFunction name IsRight) functions items is (function_with name IsRight body functions named right)
