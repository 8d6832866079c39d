-- What the functions of a trait rest on holds of a definition whose fields say nothing wrong of the trait.
use Rattle.std.proofs.Common.{◌≡◌, ◌≤◌, ◌^◌, ℕ, List, [], ◌∷◌, map, length, sym, ap, ◌∙◌, subst, arith, length-append}
use Rattle.std.specs.List.{AllByRecursion, flat_map}
use Rattle.educe_grammar.proofs.FewNames.{few}
use Rattle.educe_syntax.specs.DeriveInput.{DeriveInput}
use Rattle.educe_syntax.specs.Few.{shape_variants, shape_fields, all_fields}
use Rattle.educe_syntax.specs.Field.{Field}
use Rattle.educe_syntax.specs.FieldShape.{FieldShape}
use Rattle.educe_syntax.specs.Naming.{AreApart, AllApart, field_names, shape_scopes}
use Rattle.educe_syntax.specs.Refusal.{IsDefinition}
use Rattle.educe_syntax.specs.Shape.{Shape}
use Rattle.educe_syntax.specs.Shape.TheVariants.{Struct, Enum}
use Rattle.educe_syntax.specs.Variant.{Variant}
use Rattle.educe_bound_traits.specs.declared.traits.Trait.{Trait}
use Rattle.educe_attrs.specs.Fields.{HaveNoCauses}
use Rattle.educe_body_forms.specs.declared.body.Body.{Body}
use Rattle.educe_body_items.specs.declared.items.Function.{Function}
use Rattle.educe_body_items.specs.declared.items.ImplItem.{ImplItem}
use Rattle.educe_body_items.specs.declared.items.Item.{Item}
use Rattle.educe_body_items.specs.declared.items.Item.TheVariants.{Impl, Marker}
use Rattle.educe_body_items.specs.declared.items.MarkerItem.{MarkerItem}
use Rattle.educe_body_forms.specs.Keys.{AreDifferent, fields_of, keys_of}
use Rattle.educe_body_forms.specs.Keys as keys
use Rattle.educe_meaning.specs.Blocks.{IsFunction, IsImpl, IsImplBlock, AreNone, Evaluates, EachEvaluates}
use Rattle.educe_meaning.specs.BodyLaws.{lawful_keys}
use Rattle.educe_settings.specs.Cases.{fields_in, shape_cases}
use Rattle.educe_settings.specs.Listed.{listed}
use Rattle.educe_settings.specs.Rows.{field_row}
use Rattle.educe_settings.proofs.Elements.{each_map}
use Rattle.educe_meaning.proofs.Facts.{IsEnumOf, AreFit}
use Rattle.educe_meaning.proofs.OwnTexts.{HasOwnNumber, own_methods, own_numbers}
use Rattle.educe_meaning.proofs.Structs.{HaveOwnMethods}

-- ---- the names of a definition

-- the fields of each variant are no more than all
each_few : (count : ℕ) (variants : List Variant) → length (flat_map fields_in variants) ≤ count → AllByRecursion (λ v. length (fields_in v) ≤ count) variants
each_few count [] less = tt
each_few count (v ∷ vs) less =
    let whole = length-append (fields_in v) (flat_map fields_in vs) in
    (omega (arith, whole), each_few count vs (omega (arith, whole)))

-- the keys of the fields of a struct differ, and the identifiers of their methods are words of the definition
pub record IsStructFit (which : Trait) (d : DeriveInput) (shape : FieldShape) : Type 0 where
  pub differ : AreDifferent (keys_of d)
  pub methods : HaveOwnMethods which d shape.fields

module _ (d : DeriveInput) (is : IsDefinition d.tokens d) (small : length d.tokens ≤ 2 ^ 64) where
  fields_few : length (all_fields d) ≤ 2 ^ 64
  fields_few = let own = (few d.tokens d is.whole).fields in omega arith

  -- the keys of the fields of a struct differ
  pub keys_differ : (shape : FieldShape) → d.shape ≡ Struct shape → AreDifferent (keys_of d)
  keys_differ shape same =
      let own : fields_of d ≡ shape.fields = ap keys.shape_fields same in
      let all : all_fields d ≡ shape.fields = ap shape_fields same in
      let few_own : length (fields_of d) ≤ 2 ^ 64 = subst (λ (fs : List Field). length fs ≤ 2 ^ 64) (all ∙ sym own) fields_few in
      lawful_keys.differ d is.apart few_own

  -- the names of an enum are apart
  pub enum_of : (variants : List Variant) → d.shape ≡ Enum variants → IsEnumOf d variants
  enum_of variants shape =
      let scopes : AllApart (shape_scopes (Enum variants)) = subst (λ s. AllApart (shape_scopes s)) shape is.apart.1.1 in
      let fields : all_fields d ≡ flat_map fields_in variants = ap shape_fields shape in
      record {
        is = shape;
        names = scopes.0;
        fields = each_map AreApart (λ (v : Variant). field_names (fields_in v)) variants scopes.1;
        few = each_few (2 ^ 64) variants (subst (λ (fs : List Field). length fs ≤ 2 ^ 64) fields fields_few);
      }

module _ (which : Trait) (d : DeriveInput) (is : IsDefinition d.tokens d) (small : length d.tokens ≤ 2 ^ 64) (uncaused : HaveNoCauses which (field_row which) (listed d) (all_fields d)) where
  -- what a struct rests on holds
  pub struct_fits : (shape : FieldShape) → d.shape ≡ Struct shape → IsStructFit which d shape
  struct_fits shape same =
      let methods : AllByRecursion (HaveOwnMethods which d) (shape.fields ∷ []) =
      subst (λ (s : Shape). AllByRecursion (HaveOwnMethods which d) (shape_cases s)) same (own_methods which d is.whole uncaused) in
      record { differ = keys_differ d is small shape same; methods = methods.0 }

  -- what an enum rests on holds
  pub are_fit : (variants : List Variant) → d.shape ≡ Enum variants → AreFit which d variants
  are_fit variants shape =
      let methods : AllByRecursion (HaveOwnMethods which d) (map fields_in variants) =
      subst (λ (s : Shape). AllByRecursion (HaveOwnMethods which d) (shape_cases s)) shape (own_methods which d is.whole uncaused) in
      record {
        enum = enum_of d is small variants shape;
        methods = each_map (HaveOwnMethods which d) fields_in variants methods;
        numbers = subst (λ (vs : List Variant). AllByRecursion (λ (v : Variant). HasOwnNumber d.tokens v.discriminant) vs) (ap shape_variants shape) (own_numbers d is.whole);
      }

-- ---- blocks of one impl

-- where a function of this name that is right means something, each function of a list does that is one such
pub function_means : (Means : Function → Type 0) (name : List ℕ) (IsRight : Body → Type 0) → ((f : Function) → f.name.text ≡ name → IsRight f.body → Means f)
    → (functions : List Function) → IsFunction name IsRight functions → AllByRecursion Means functions
function_means Means name IsRight each functions k = subst (AllByRecursion Means) (sym k.are) (each (record { name = k.own; body = k.body }) k.name_is k.body_is, tt)

-- where functions that are right evaluate to what the trait means, so do the functions of its impl
pub item_evaluates : (which : Trait) (d : DeriveInput) (name : List ℕ) (IsRight : Body → Type 0) → ((f : Function) → f.name.text ≡ name → IsRight f.body → Evaluates which d f) → (item : ImplItem)
    → IsImpl which d (IsFunction name IsRight) item → EachEvaluates d (Impl item)
item_evaluates which d name IsRight each item k =
    let EachOf : Trait → Type 0 = λ which. AllByRecursion (Evaluates which d) item.functions in
    subst EachOf (sym k.which_is) (function_means (Evaluates which d) name IsRight each item.functions k.functions_are)

-- an impl without functions has none to evaluate
pub none_evaluate : (which : Trait) (d : DeriveInput) (item : ImplItem) → IsImpl which d AreNone item → EachEvaluates d (Impl item)
none_evaluate which d item is = subst (AllByRecursion (Evaluates item.which d)) (sym is.functions_are) tt

-- where functions that are right evaluate to what the trait means, so do the functions of a block that is this impl
pub impl_evaluates : (which : Trait) (d : DeriveInput) (name : List ℕ) (IsRight : Body → Type 0) → ((f : Function) → f.name.text ≡ name → IsRight f.body → Evaluates which d f) → (items : List Item)
    → IsImplBlock which d (IsFunction name IsRight) items → AllByRecursion (EachEvaluates d) items
impl_evaluates which d name IsRight each items k = subst (AllByRecursion (EachEvaluates d)) (sym k.are) (item_evaluates which d name IsRight each k.item k.impl_is, tt)

-- the functions of markers are never called
pub markers_evaluate : (d : DeriveInput) (markers : List MarkerItem) → AllByRecursion (EachEvaluates d) (map Marker markers)
markers_evaluate d [] = tt
markers_evaluate d (m ∷ markers) = (tt, markers_evaluate d markers)
