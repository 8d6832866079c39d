-- What is read stands where its tokens do, and the tokens inside of it are tokens of the whole: names, metas, fields and variants.
use Rattle.std.proofs.Common.{◌≡◌, ℕ, zero, suc, ◌-◌, ◌<◌, ◌≤◌, true, List, [], ◌∷◌, ◌++◌, length, take, drop, refl, ap, sym, subst, ◌∙◌, arith, Option, Some, None}
use Rattle.std.specs.Prelude.{IfSome, slice_get}
use Rattle.std.specs.List.{AllByRecursion, Contains}
use Rattle.std.proofs.Math.Seq.{drop-cons}
use Rattle.std.proofs.lemmas.List.{take-append-drop}
use Rattle.std.proofs.lemmas.List.Elements.{All-contains_itself, recursion_from_All}
use Rattle.educe_tokens.specs.declared.token.Token.{Token}
use Rattle.educe_tree.specs.declared.attr.Attribute.{Attribute}
use Rattle.educe_tree.specs.declared.attr.Meta.{Meta}
use Rattle.educe_tree.specs.declared.attr.MetaPath.{MetaPath}
use Rattle.educe_tree.specs.declared.data.Field.{Field}
use Rattle.educe_tree.specs.declared.data.FieldShape.{FieldShape}
use Rattle.educe_tree.specs.declared.data.Variant.{Variant}
use Rattle.educe_tree.specs.declared.derive.DeriveInput.{DeriveInput}
use Rattle.educe_tree.specs.declared.derive.Shape.{Shape}
use Rattle.educe_tree.specs.declared.derive.Shape.TheVariants.{Struct, Enum}
use Rattle.educe_tree.specs.declared.expr.Expr.{Expr}
use Rattle.educe_tree.specs.declared.expr.ExprPath.{ExprPath}
use Rattle.educe_tree.specs.declared.generics.GenericParam.{GenericParam}
use Rattle.educe_tree.specs.declared.ident.Ident.{Ident}
use Rattle.educe_tree.specs.declared.lifetime.Lifetime.{Lifetime}
use Rattle.educe_grammar.specs.declared.terminal.Terminal.{Terminal}
use Rattle.educe_grammar.specs.Steps.{Tokens}
use Rattle.educe_grammar.specs.Ahead.{Look, finish}
use Rattle.educe_grammar.specs.Rules.{Rule, both, made, list, sliced, written, part, exprs}
use Rattle.educe_grammar.specs.Combining.{at, leaving}
use Rattle.educe_grammar.specs.Reading.{Parses}
use Rattle.educe_grammar.specs.Reads.{parts, parts_below}
use Rattle.educe_grammar.specs.Names.{name_of, name, lifetime_of, lifetime}
use Rattle.educe_grammar.specs.Expressions.{expression, expr_path, group}
use Rattle.educe_grammar.specs.Attributes.{MetaTail, no_tail, group_tail, value_tail, unread_tail, between, span_of, meta_path_of, meta_path, written_group, unread, meta_of, meta, metas, outer_meta, documented, attribute_of, attribute, attributes}
use Rattle.educe_grammar.specs.Generics.{bounded_lifetime, lifetime_param_of, lifetime_param, bounded_name, type_param_of, type_param, typed_const, const_param_of, const_param, generic_param, generic_params}
use Rattle.educe_grammar.specs.Definitions.{flat, named_field_of, named_field, tuple_field_of, tuple_field, named_shape, named_fields, tuple_shape, tuple_fields, unit_shape, variant_fields, variant_of, variant, Body, struct_body_of, swapped, struct_body, enum_body_of, enum_body, Item, struct_item, enum_item, definition_of, definition}
use Rattle.educe_grammar.specs.Few.{shape_variants, shape_fields}
use Rattle.educe_grammar.specs.Parsed.{depth_limit, IsWhole}
use Rattle.educe_grammar.specs.Naming.{Named, ident_named, lifetime_named, type_named, field_named, field_names, shape_scopes}
use Rattle.educe_grammar.specs.Placed.{HasPlace, AreWithin, IsSpan, IsMetaPlaced, AreMetasPlaced, AreAttributesPlaced, IsFieldPlaced, AreFieldsPlaced, IsVariantPlaced, IsDefinitionPlaced}
use Rattle.educe_grammar.specs.Within.{MetaWithin, AttributesWithin, FieldWithin, WrittenWithin, VariantWithin, ShapeWithin}
use Rattle.educe_grammar.proofs.Computed.{computed, more_computed}
use Rattle.educe_grammar.proofs.Deciding.{is_filled}
use Rattle.educe_grammar.proofs.Each.{all_more, all_parted, all_found, all_made, all_flat}
use Rattle.educe_grammar.proofs.Fronts.{fronts_seen, at_end_only, end_is_seen}
use Rattle.educe_grammar.proofs.Inherited.{Each, Inherits, inherits_any, inherits_more, inherits_token, inherits_documentation, inherits_empty, inherits_made, inherits_both, inherits_first, inherits_second, inherits_skipping, inherits_leaving, inherits_either, inherits_sliced, inherits_written, inherits_tokens, inherits_list, inherits_many, inherits_nest, inherits_angles}
use Rattle.educe_grammar.proofs.PartFronts.{part_fronts, whole_seen}

-- ---- spans

-- a token that is found by its number stands where one does
number_within : (all ts : Tokens) (n : ℕ) → n < length ts → AreWithin all ts → (t : Token) × (slice_get ts n ≡ Some t) × HasPlace all t.span
number_within all [] n less within = absurd (omega arith)
number_within all (t ∷ ts) zero less within = (t, refl, within.0)
number_within all (t ∷ ts) (suc n) less within = number_within all ts n (omega arith) within.1

-- the span of tokens that stand so, of which there is one
span_within : (all ts : Tokens) → 1 ≤ length ts → AreWithin all ts → IsSpan all (span_of ts)
unfolding span_of
span_within all [] some within = absurd (omega arith)
span_within all (t ∷ ts) some within =
    let last = number_within all (t ∷ ts) (length (t ∷ ts) - 1) (omega arith) within in
    record { first = t.span; last = last.0.span; first_stands = within.0; last_stands = last.2; is = ap (λ o. between (Some t) o) last.1 }

-- what is read is not empty
filled : {A : Type 0} (g : Rule A) → is_filled 2 (part_fronts 2) g ≡ true → (budget : ℕ) (tokens : Tokens) (x : A) → Parses parts budget g tokens x → 1 ≤ length tokens
filled g full budget [] x is = absurd (at_end_only _ full (fronts_seen parts 2 (part_fronts 2) (whole_seen 2) g budget [] [] x (at finish) is end_is_seen))
filled g full budget (t ∷ ts) x is = omega arith

-- Where P holds of each token that is read, and such a token stands where one of the whole does: what is read stands where
-- tokens of the whole do, and P holds of the tokens inside of it. One walk over the productions shows both.
module _ (P : Token → Type 0) (all : Tokens) (stands : (t : Token) → P t → HasPlace all t.span) where
  -- tokens stand so
  are_within : (ts : Tokens) → Each P ts → AreWithin all ts
  are_within ts each = all_more P (λ (t : Token). HasPlace all t.span) stands ts each

  -- with the tokens that were read, of which there is one
  spanned : {A : Type 0} (g : Rule A) (Q : A → Type 0) → is_filled 2 (part_fronts 2) g ≡ true → Inherits P g Q → Inherits P (sliced g) (λ x. Q x.0 × IsSpan all (span_of x.1))
  unfolding Parses
  spanned g Q full p = record {
    inherits = λ budget tokens x each is. (
      p.inherits budget tokens x.0 each is.0,
      subst (λ ts. IsSpan all (span_of ts)) (sym is.1) (span_within all tokens (filled g full budget tokens x.0 is.0) (are_within tokens each)),
    );
  }

  -- ---- names

  -- the name stands so
  abbrev IdentPlaced : Ident → Type 0
  IdentPlaced i = HasPlace all i.span

  name_placed : Inherits P name IdentPlaced
  unfolding name
  name_placed = inherits_made name_of _ (λ found. P found.token) IdentPlaced (λ found has. stands found.token has) (inherits_token _)

  -- the lifetime does
  abbrev LifetimePlaced : Lifetime → Type 0
  LifetimePlaced l = HasPlace all l.span

  lifetime_placed : Inherits P lifetime LifetimePlaced
  unfolding lifetime
  lifetime_placed = inherits_made lifetime_of _ (λ found. P found.token) LifetimePlaced (λ found has. stands found.token has) (inherits_token _)

  -- ---- metas

  -- the tokens of an expression are those that it is read from
  value_kept : Inherits P (part exprs) (λ (e : Expr). Each P e.written.tokens)
  unfolding parts_below Parses expression
  value_kept = record { inherits = λ budget tokens x each is. subst (Each P) (sym (ap (λ (e : Expr). e.written.tokens) is.1 ∙ is.2.1)) each }

  -- what stands behind the path of a meta has such tokens
  abbrev TailKept : MetaTail → Type 0
  TailKept no_tail = Unit {0}
  TailKept (group_tail tokens) = Each P tokens.tokens
  TailKept (value_tail value) = Each P value.written.tokens
  TailKept (unread_tail tokens) = Each P tokens.tokens

  -- the meta stands so, with such tokens
  abbrev MetaKept : Meta → Type 0
  MetaKept m = IsMetaPlaced all m × MetaWithin P m

  meta_has : (x : (MetaPath × MetaTail) × Tokens) → Each P x.0.0.written.tokens → TailKept x.0.1 → IsSpan all (span_of x.1) → MetaKept (meta_of x)
  meta_has ((path, no_tail), tokens) named has spans = (are_within path.written.tokens named, tt)
  meta_has ((path, group_tail inner), tokens) named has spans = ((are_within path.written.tokens named, are_within inner.tokens has, spans), has)
  meta_has ((path, value_tail value), tokens) named has spans = ((are_within path.written.tokens named, are_within value.written.tokens has, spans), has)
  meta_has ((path, unread_tail inner), tokens) named has spans = ((are_within path.written.tokens named, are_within inner.tokens has, spans), tt)

  path_kept : Inherits P meta_path (λ (path : MetaPath). Each P path.written.tokens)
  unfolding meta_path
  path_kept = inherits_made meta_path_of _ (λ x. Each P x.1.tokens) _ (λ x has. has) (inherits_tokens _)

  group_kept : Inherits P written_group TailKept
  unfolding written_group
  group_kept = inherits_made (λ p. group_tail p.1) _ (λ x. Each P x.1.tokens) TailKept (λ x has. has) (inherits_tokens group)

  unread_kept : Inherits P unread TailKept
  unfolding unread
  unread_kept = inherits_made (λ p. unread_tail p.1) _ (λ x. Each P x.1.tokens) TailKept (λ x has. has) (inherits_tokens _)

  -- a path and what stands behind it
  meta_kept_by : (tail : Rule MetaTail) → is_filled 2 (part_fronts 2) (both meta_path tail) ≡ true → Inherits P tail TailKept → Inherits P (made meta_of (sliced (both meta_path tail))) MetaKept
  meta_kept_by tail full p =
      inherits_made meta_of _ (λ x. (Each P x.0.0.written.tokens × TailKept x.0.1) × IsSpan all (span_of x.1)) MetaKept (λ x has. meta_has x has.0.0 has.0.1 has.1)
      (spanned _ (λ x. Each P x.0.written.tokens × TailKept x.1) full (inherits_both meta_path tail (λ path. Each P path.written.tokens) TailKept path_kept p))

  meta_kept : Inherits P meta MetaKept
  unfolding meta computed more_computed
  meta_kept =
      meta_kept_by _ refl
      (inherits_either _ written_group _ TailKept group_kept
      (inherits_either _ _ _ TailKept
      (inherits_made value_tail _ (λ (e : Expr). Each P e.written.tokens) TailKept (λ x has. has) (inherits_skipping _ (part exprs) _ value_kept))
      (inherits_empty no_tail TailKept tt)))

  metas_kept : Inherits P metas (λ found. AreMetasPlaced all found × AllByRecursion (MetaWithin P) found)
  unfolding metas
  metas_kept = inherits_more _ _ _ (all_parted (IsMetaPlaced all) (MetaWithin P)) (inherits_list _ _ meta MetaKept meta_kept)

  outer_kept : Inherits P outer_meta MetaKept
  unfolding outer_meta computed more_computed
  outer_kept =
      meta_kept_by _ refl (inherits_either _ written_group _ TailKept group_kept (inherits_either _ unread _ TailKept unread_kept (inherits_empty no_tail TailKept tt)))

  -- ---- attributes

  -- what an attribute says is such a meta
  abbrev AttributeKept : Attribute → Type 0
  AttributeKept a = MetaKept a.meta

  attribute_kept : Inherits P attribute AttributeKept
  unfolding attribute
  attribute_kept =
      inherits_either _ _ _ AttributeKept
      (inherits_made documented _ (λ found. P found.token) AttributeKept (λ found has. (stands found.token has, tt)) inherits_documentation)
      (inherits_made attribute_of _ MetaKept AttributeKept (λ x has. has) (inherits_skipping _ _ MetaKept (inherits_nest _ outer_meta MetaKept outer_kept)))

  abbrev AttributesKept : List Attribute → Type 0
  AttributesKept attrs = AreAttributesPlaced all attrs × AttributesWithin P attrs

  attributes_kept : Inherits P attributes AttributesKept
  unfolding attributes
  attributes_kept =
      inherits_more _ _ AttributesKept (all_parted (λ (a : Attribute). IsMetaPlaced all a.meta) (λ (a : Attribute). MetaWithin P a.meta))
      (inherits_many _ attribute AttributeKept attribute_kept)

  -- ---- generic parameters

  -- a name that is found stands so
  abbrev NamePlaced : Named → Type 0
  NamePlaced found = HasPlace all found.span

  -- the name of a parameter does
  abbrev ParamPlaced : GenericParam → Type 0
  ParamPlaced p = IfSome (lifetime_named p) NamePlaced × IfSome (type_named p) NamePlaced

  lifetime_param_placed : Inherits P lifetime_param ParamPlaced
  unfolding lifetime_param bounded_lifetime
  lifetime_param_placed =
      inherits_made lifetime_param_of _ (λ x. LifetimePlaced x.0.0 × Each P x.1.tokens) ParamPlaced (λ x has. (has.0, tt))
      (inherits_written bounded_lifetime (λ x. LifetimePlaced x.0) (inherits_first lifetime _ LifetimePlaced lifetime_placed))

  type_param_placed : Inherits P type_param ParamPlaced
  unfolding type_param bounded_name
  type_param_placed =
      inherits_leaving (made type_param_of (written bounded_name)) _ ParamPlaced
      (inherits_made type_param_of _ (λ x. IdentPlaced x.0.0 × Each P x.1.tokens) ParamPlaced (λ x has. (tt, has.0))
      (inherits_written bounded_name (λ x. IdentPlaced x.0) (inherits_first name _ IdentPlaced name_placed)))

  const_param_placed : Inherits P const_param ParamPlaced
  unfolding const_param typed_const
  const_param_placed =
      inherits_leaving (made const_param_of (written typed_const)) _ ParamPlaced
      (inherits_made const_param_of _ (λ x. IdentPlaced x.0 × Each P x.1.tokens) ParamPlaced (λ x has. (tt, has.0))
      (inherits_written typed_const IdentPlaced (inherits_skipping _ (leaving name _) IdentPlaced (inherits_leaving name _ IdentPlaced name_placed))))

  generic_param_placed : Inherits P generic_param ParamPlaced
  unfolding generic_param
  generic_param_placed = inherits_either _ lifetime_param _ ParamPlaced lifetime_param_placed (inherits_either _ const_param type_param ParamPlaced const_param_placed type_param_placed)

  generic_params_placed : Inherits P generic_params (AllByRecursion ParamPlaced)
  unfolding generic_params
  generic_params_placed =
      inherits_either _ _ _ (AllByRecursion ParamPlaced)
      (inherits_angles _ (AllByRecursion ParamPlaced) (inherits_list _ _ generic_param ParamPlaced generic_param_placed))
      (inherits_empty [] (AllByRecursion ParamPlaced) tt)

  -- ---- fields

  -- the field stands so, with such tokens
  abbrev FieldKept : Field → Type 0
  FieldKept f = IsFieldPlaced all f × FieldWithin P f

  named_field_kept : Inherits P named_field FieldKept
  unfolding named_field computed more_computed
  named_field_kept =
      inherits_made named_field_of _ (λ x. (AttributesKept x.0.0 × IdentPlaced x.0.1) × IsSpan all (span_of x.1)) FieldKept
      (λ x has. (record { span = has.1; name = has.0.1; attrs = has.0.0.0 }, has.0.0.1))
      (spanned _ (λ x. AttributesKept x.0 × IdentPlaced x.1) refl
      (inherits_made flat _ (λ x. AttributesKept x.0 × IdentPlaced x.1.0) (λ x. AttributesKept x.0 × IdentPlaced x.1) (λ x has. has)
      (inherits_both attributes _ AttributesKept (λ x. IdentPlaced x.0) attributes_kept
      (inherits_skipping _ _ (λ x. IdentPlaced x.0) (inherits_first name _ IdentPlaced name_placed)))))

  tuple_field_kept : Inherits P tuple_field FieldKept
  unfolding tuple_field computed more_computed
  tuple_field_kept =
      inherits_made tuple_field_of _ (λ x. AttributesKept x.0.0 × IsSpan all (span_of x.1)) FieldKept
      (λ x has. (record { span = has.1; name = tt; attrs = has.0.0 }, has.0.1))
      (spanned _ (λ x. AttributesKept x.0) refl (inherits_first attributes _ AttributesKept attributes_kept))

  -- each of the fields is placed, with such tokens in its attributes
  abbrev FieldsKept : List Field → Type 0
  FieldsKept fields = AreFieldsPlaced all fields × AllByRecursion (FieldWithin P) fields

  fields_kept : (separator : Terminal) (stop : Look) (field : Rule Field) → Inherits P field FieldKept → Inherits P (list separator stop field) FieldsKept
  fields_kept separator stop field p = inherits_more _ _ FieldsKept (all_parted (IsFieldPlaced all) (FieldWithin P)) (inherits_list separator stop field FieldKept p)

  abbrev FieldShapeKept : FieldShape → Type 0
  FieldShapeKept shape = FieldsKept shape.fields

  named_fields_kept : Inherits P named_fields FieldShapeKept
  unfolding named_fields
  named_fields_kept = inherits_made named_shape _ FieldsKept FieldShapeKept (λ x has. has) (inherits_nest _ _ FieldsKept (fields_kept _ _ named_field named_field_kept))

  tuple_fields_kept : Inherits P tuple_fields FieldShapeKept
  unfolding tuple_fields
  tuple_fields_kept = inherits_made tuple_shape _ FieldsKept FieldShapeKept (λ x has. has) (inherits_nest _ _ FieldsKept (fields_kept _ _ tuple_field tuple_field_kept))

  -- ---- variants

  variant_fields_kept : Inherits P variant_fields FieldShapeKept
  unfolding variant_fields
  variant_fields_kept =
      inherits_either _ named_fields _ FieldShapeKept named_fields_kept
      (inherits_either _ tuple_fields _ FieldShapeKept tuple_fields_kept (inherits_empty unit_shape FieldShapeKept (tt, tt)))

  -- the variant stands so, with such tokens
  abbrev VariantKept : Variant → Type 0
  VariantKept v = IsVariantPlaced all v × VariantWithin P v

  variant_kept : Inherits P variant VariantKept
  unfolding variant computed more_computed
  variant_kept =
      inherits_made variant_of _ (λ x. (AttributesKept x.0.0 × (IdentPlaced x.0.1.0 × (FieldShapeKept x.0.1.1.0 × WrittenWithin P x.0.1.1.1))) × IsSpan all (span_of x.1)) VariantKept
      (λ x has. let (attrs, (named, (fields, value))) = has.0 in (record { span = has.1; name = named; attrs = attrs.0; fields = fields.0 }, (attrs.1, fields.1, value)))
      (spanned _ (λ x. AttributesKept x.0 × (IdentPlaced x.1.0 × (FieldShapeKept x.1.1.0 × WrittenWithin P x.1.1.1))) refl
      (inherits_both attributes _ AttributesKept (λ x. IdentPlaced x.0 × (FieldShapeKept x.1.0 × WrittenWithin P x.1.1)) attributes_kept
      (inherits_both name _ IdentPlaced (λ x. FieldShapeKept x.0 × WrittenWithin P x.1) name_placed
      (inherits_both variant_fields _ FieldShapeKept (WrittenWithin P) variant_fields_kept
      (inherits_either _ _ _ (WrittenWithin P)
      (inherits_made Some _ (λ (e : Expr). Each P e.written.tokens) (WrittenWithin P) (λ x has. has) (inherits_skipping _ (part exprs) _ value_kept))
      (inherits_empty None (WrittenWithin P) tt))))))

  -- each of the variants is placed, with such tokens in its attributes
  abbrev VariantsKept : List Variant → Type 0
  VariantsKept variants = AllByRecursion (IsVariantPlaced all) variants × AllByRecursion (VariantWithin P) variants

  variants_kept : (separator : Terminal) (stop : Look) → Inherits P (list separator stop variant) VariantsKept
  variants_kept separator stop = inherits_more _ _ VariantsKept (all_parted (IsVariantPlaced all) (VariantWithin P)) (inherits_list separator stop variant VariantKept variant_kept)

  -- ---- definitions

  -- variants and fields stand so
  record ShapePlaced (shape : Shape) : Type 0 where
    variants : AllByRecursion (IsVariantPlaced all) (shape_variants shape)
    fields : AreFieldsPlaced all (shape_fields shape)

  -- with such tokens
  abbrev BodyKept : Body → Type 0
  BodyKept b = ShapePlaced b.0 × ShapeWithin P b.0

  struct_body_kept : Inherits P struct_body BodyKept
  unfolding struct_body
  struct_body_kept =
      inherits_made struct_body_of _ (λ x. FieldShapeKept x.0) BodyKept (λ x has. (record { variants = tt; fields = has.0 }, has.1))
      (inherits_either _ _ _ (λ x. FieldShapeKept x.0)
      (inherits_leaving _ _ (λ x. FieldShapeKept x.0) (inherits_first tuple_fields _ FieldShapeKept tuple_fields_kept))
      (inherits_made swapped _ (λ x. FieldShapeKept x.1) (λ x. FieldShapeKept x.0) (λ x has. has)
      (inherits_second _ _ FieldShapeKept
      (inherits_either _ named_fields _ FieldShapeKept named_fields_kept (inherits_made (λ _. unit_shape) _ (λ _. Unit {0}) FieldShapeKept (λ x has. (tt, tt)) (inherits_any _))))))

  enum_body_kept : Inherits P enum_body BodyKept
  unfolding enum_body
  enum_body_kept =
      inherits_made enum_body_of _ (λ x. VariantsKept x.1) BodyKept
      (λ x has. (record { variants = has.0; fields = all_flat (λ (v : Variant). v.fields.fields) (IsVariantPlaced all) (IsFieldPlaced all) (λ v placed. placed.fields) x.1 has.0 }, has.1))
      (inherits_second _ _ VariantsKept (inherits_nest _ _ VariantsKept (variants_kept _ _)))

  -- the name and the parameters stand so, and the body, with such tokens
  abbrev ItemKept : Item → Type 0
  ItemKept i = IdentPlaced i.0 × (AllByRecursion ParamPlaced i.1.0 × BodyKept i.1.1)

  item_kept : (body : Rule Body) → Inherits P body BodyKept → Inherits P (both name (both generic_params body)) ItemKept
  item_kept body p =
      inherits_both name _ IdentPlaced (λ x. AllByRecursion ParamPlaced x.0 × BodyKept x.1) name_placed (inherits_both generic_params body (AllByRecursion ParamPlaced) BodyKept generic_params_placed p)

  struct_item_kept : Inherits P struct_item ItemKept
  unfolding struct_item
  struct_item_kept = inherits_skipping _ _ ItemKept (item_kept struct_body struct_body_kept)

  enum_item_kept : Inherits P enum_item ItemKept
  unfolding enum_item
  enum_item_kept = inherits_skipping _ _ ItemKept (item_kept enum_body enum_body_kept)

  -- the name of a field, where it has one
  field_has : (o : Option Ident) → IfSome o (λ ident. HasPlace all ident.span) → IfSome (elim o [ None ↦ None | Some ident ↦ Some (ident_named ident) ]) NamePlaced
  field_has None has = tt
  field_has (Some ident) has = has

  -- the names of fields
  fields_named : (fields : List Field) → AreFieldsPlaced all fields → AllByRecursion NamePlaced (field_names fields)
  fields_named fields has = all_found field_named (IsFieldPlaced all) NamePlaced (λ f placed. field_has f.ident placed.name) fields has

  -- the lists of names of a shape
  shape_named : (shape : Shape) → ShapePlaced shape → AllByRecursion (AllByRecursion NamePlaced) (shape_scopes shape)
  shape_named (Struct shape) has = (fields_named shape.fields has.fields, tt)
  shape_named (Enum variants) has = (
    all_made (λ (v : Variant). ident_named v.ident) (IsVariantPlaced all) NamePlaced (λ v placed. placed.name) variants has.variants,
    all_made (λ (v : Variant). field_names v.fields.fields) (IsVariantPlaced all) (AllByRecursion NamePlaced) (λ v placed. fields_named v.fields.fields placed.fields) variants has.variants,
  )

  -- the definition stands so, with such tokens
  abbrev DefinitionKept : DeriveInput → Type 0
  DefinitionKept d = IsDefinitionPlaced all d × ShapeWithin P d.shape × AttributesWithin P d.attrs

  definition_has : (x : (List Attribute × Item) × Tokens) → AttributesKept x.0.0 → ItemKept x.0.1 → DefinitionKept (definition_of x)
  definition_has x attrs has =
      let params = x.0.1.1.0 in
      let placed = has.1.1.0 in (
        record {
          name = has.0;
          names = (
            all_found lifetime_named ParamPlaced NamePlaced (λ p named. named.0) params has.1.0,
            (all_found type_named ParamPlaced NamePlaced (λ p named. named.1) params has.1.0, shape_named x.0.1.1.1.0 placed),
          );
          attrs = attrs.0;
          variants = placed.variants;
          fields = placed.fields;
        },
        has.1.1.1,
        attrs.1,
      )

  definition_kept : Inherits P definition DefinitionKept
  unfolding definition
  definition_kept =
      inherits_made definition_of _ (λ x. AttributesKept x.0.0 × ItemKept x.0.1) DefinitionKept (λ x has. definition_has x has.0 has.1)
      (inherits_sliced _ (λ x. AttributesKept x.0 × ItemKept x.1)
      (inherits_both attributes _ AttributesKept ItemKept attributes_kept
      (inherits_skipping _ _ ItemKept (inherits_either _ enum_item struct_item ItemKept enum_item_kept struct_item_kept))))

-- ---- whole lists

-- a token of a list stands where it does
has_place : (tokens : Tokens) (t : Token) → Contains tokens t → HasPlace tokens t.span
has_place tokens t has =
    let there = drop-cons tokens has.0 t has.1 ∙ ap (λ found. found ∷ drop (suc has.0) tokens) has.2 in record {
      front = take has.0 tokens;
      found = t;
      rest = drop (suc has.0) tokens;
      is = sym (take-append-drop has.0 tokens) ∙ ap (λ behind. take has.0 tokens ++ behind) there;
      at_place = refl;
    }

-- each token of a list is one of it
each_own : (tokens : Tokens) → Each (Contains tokens) tokens
each_own tokens = recursion_from_All (Contains tokens) tokens (All-contains_itself tokens)

-- a definition stands among the tokens that it is read from, and the tokens inside of it are some of these
definition_whole : (tokens : Tokens) (d : DeriveInput) → IsWhole definition tokens d → DefinitionKept (Contains tokens) tokens (has_place tokens) d
definition_whole tokens d whole = (definition_kept (Contains tokens) tokens (has_place tokens)).inherits depth_limit tokens d (each_own tokens) whole

-- A definition stands among the tokens that it is read from.
pub definition_stands : (tokens : Tokens) (found : DeriveInput) → IsWhole definition tokens found → IsDefinitionPlaced tokens found
definition_stands tokens found whole = (definition_whole tokens found whole).0

-- The tokens inside of its fields and variants are some of these.
pub shape_within : (tokens : Tokens) (d : DeriveInput) → IsWhole definition tokens d → ShapeWithin (Contains tokens) d.shape
shape_within tokens d whole = (definition_whole tokens d whole).1

-- the tokens inside of the definition's own attributes are some of its tokens
pub attrs_within : (tokens : Tokens) (d : DeriveInput) → IsWhole definition tokens d → AttributesWithin (Contains tokens) d.attrs
attrs_within tokens d whole = (definition_whole tokens d whole).2

-- Metas stand among the tokens that they are read from.
pub metas_stand : (tokens : Tokens) (found : List Meta) → IsWhole metas tokens found → AreMetasPlaced tokens found
metas_stand tokens found whole = ((metas_kept (Contains tokens) tokens (has_place tokens)).inherits depth_limit tokens found (each_own tokens) whole).0

-- Where these are tokens of a list, so are the tokens inside of the metas.
pub metas_within : (all tokens : Tokens) (found : List Meta) → Each (Contains all) tokens → IsWhole metas tokens found → AllByRecursion (MetaWithin (Contains all)) found
metas_within all tokens found each whole = ((metas_kept (Contains all) all (has_place all)).inherits depth_limit tokens found each whole).1

-- A definition keeps the tokens that it is read from.
pub definition_tokens : (tokens : Tokens) (d : DeriveInput) → IsWhole definition tokens d → d.tokens ≡ tokens
unfolding Parses definition
definition_tokens tokens d whole = ap (λ (d : DeriveInput). d.tokens) whole.1 ∙ whole.2.1

-- a path keeps the tokens that it is read from
pub path_tokens : (tokens : Tokens) (path : ExprPath) → IsWhole expr_path tokens path → path.written.tokens ≡ tokens
unfolding Parses expr_path
path_tokens tokens path whole = ap (λ (path : ExprPath). path.written.tokens) whole.1 ∙ whole.2.1
