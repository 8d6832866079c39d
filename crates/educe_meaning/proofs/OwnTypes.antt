-- The tokens of the types of fields are tokens of the definition, so that their identifiers are words of it.
use Rattle.std.proofs.Common.{ℕ, List, [], ◌∷◌, sym, subst}
use Rattle.std.specs.Prelude.{Contains}
use Rattle.std.specs.List.{AllByRecursion, flat_map}
use Rattle.std.proofs.lemmas.List.Elements.{recursion_from_All, All-contains_itself}
use Rattle.educe_tokens.specs.declared.token.Token.{Token}
use Rattle.educe_tree.specs.declared.ty.Ty.{Ty, out-Ty}
use Rattle.educe_grammar.specs.Definitions.{flat, named_field_of, named_field, tuple_field_of, tuple_field, named_shape, named_fields, tuple_shape, tuple_fields, unit_shape, variant_fields, variant_of, variant, Body, struct_body_of, swapped, struct_body, enum_body_of, enum_body, Item, struct_item, enum_item, definition_of, definition}
use Rattle.educe_grammar.specs.Names.{name}
use Rattle.educe_grammar.specs.Parsed.{depth_limit, IsWhole}
use Rattle.educe_grammar.specs.Reading.{Parses}
use Rattle.educe_grammar.specs.Rules.{Rule, lone, types, part}
use Rattle.educe_grammar.proofs.Inherited.{Each, Inherits, inherits_any, inherits_empty, inherits_made, inherits_first, inherits_second, inherits_skipping, inherits_leaving, inherits_either, inherits_sliced, inherits_list, inherits_nest}
use Rattle.educe_grammar.proofs.OfDefinitions.{type_tokens}
use Rattle.educe_grammar.proofs.Unrolling.{parts_unroll}
use Rattle.educe_syntax.specs.DeriveInput.{DeriveInput}
use Rattle.educe_syntax.specs.Few.{shape_fields, all_fields}
use Rattle.educe_syntax.specs.Field.{Field}
use Rattle.educe_syntax.specs.FieldShape.{FieldShape}
use Rattle.educe_syntax.specs.Variant.{Variant}
use Rattle.educe_attrs.specs.Methods.{standing}
use Rattle.educe_body_values.specs.Scoping.{AreOwnNames}
use Rattle.educe_settings.specs.Cases.{fields_in}
use Rattle.educe_settings.proofs.Elements.{each_joined, each_weaker}
use Rattle.educe_meaning.proofs.OwnTexts.{text_own}

-- what holds of each element of lists holds of those of all, one behind the other
each_flat : {X Y : Type 0} (P : Y → Type 0) (f : X → List Y) (xs : List X) → AllByRecursion (λ x. AllByRecursion P (f x)) xs → AllByRecursion P (flat_map f xs)
each_flat P f [] each = tt
each_flat P f (x ∷ xs) each = each_joined P (f x) (flat_map f xs) each.0 (each_flat P f xs each.1)

module _ (P : Token → Type 0) where
  -- behind one token that stands alone
  inherits_lone : {A : Type 0} (c d : ℕ) (g : Rule A) (Q : A → Type 0) → Inherits P g Q → Inherits P (lone c d g) Q
  unfolding Parses
  inherits_lone c d g Q p = record { inherits = λ budget tokens x each is. p.inherits budget is.1 x (subst (Each P) is.2 each).1 is.4 }

  -- P holds of each token of the type
  abbrev TypeWithin : Ty → Type 0
  TypeWithin ty = Each P (out-Ty ty).written.tokens

  type_within : Inherits P (part types) TypeWithin
  unfolding Parses
  type_within = record { inherits = λ budget tokens x each is. subst (Each P) (sym (type_tokens budget tokens x (parts_unroll budget types tokens x is))) each }

  -- P holds of each token of the type of the field
  abbrev FieldTyped : Field → Type 0
  FieldTyped f = TypeWithin f.ty

  named_field_typed : Inherits P named_field FieldTyped
  unfolding named_field
  named_field_typed =
      inherits_made named_field_of _ (λ x. TypeWithin x.0.2) FieldTyped (λ x is. is)
      (inherits_sliced _ (λ x. TypeWithin x.2)
      (inherits_made flat _ (λ x. TypeWithin x.1.1) (λ x. TypeWithin x.2) (λ x is. is)
      (inherits_second _ _ (λ x. TypeWithin x.1) (inherits_skipping _ _ (λ x. TypeWithin x.1) (inherits_second name _ TypeWithin (inherits_lone 58 58 (part types) TypeWithin type_within))))))

  tuple_field_typed : Inherits P tuple_field FieldTyped
  unfolding tuple_field
  tuple_field_typed =
      inherits_made tuple_field_of _ (λ x. TypeWithin x.0.1) FieldTyped (λ x is. is)
      (inherits_sliced _ (λ x. TypeWithin x.1) (inherits_second _ _ TypeWithin (inherits_skipping _ _ TypeWithin type_within)))

  -- P holds of each token of the types of all fields
  abbrev ShapeTyped : FieldShape → Type 0
  ShapeTyped s = AllByRecursion FieldTyped s.fields

  named_fields_typed : Inherits P named_fields ShapeTyped
  unfolding named_fields
  named_fields_typed =
      inherits_made named_shape _ (AllByRecursion FieldTyped) ShapeTyped (λ x is. is)
      (inherits_nest _ _ (AllByRecursion FieldTyped) (inherits_list _ _ named_field FieldTyped named_field_typed))

  tuple_fields_typed : Inherits P tuple_fields ShapeTyped
  unfolding tuple_fields
  tuple_fields_typed =
      inherits_made tuple_shape _ (AllByRecursion FieldTyped) ShapeTyped (λ x is. is)
      (inherits_nest _ _ (AllByRecursion FieldTyped) (inherits_list _ _ tuple_field FieldTyped tuple_field_typed))

  variant_fields_typed : Inherits P variant_fields ShapeTyped
  unfolding variant_fields
  variant_fields_typed =
      inherits_either _ named_fields _ ShapeTyped named_fields_typed (inherits_either _ tuple_fields _ ShapeTyped tuple_fields_typed (inherits_empty unit_shape ShapeTyped tt))

  abbrev VariantTyped : Variant → Type 0
  VariantTyped v = ShapeTyped v.fields

  variant_typed : Inherits P variant VariantTyped
  unfolding variant
  variant_typed =
      inherits_made variant_of _ (λ x. ShapeTyped x.0.1.1.0) VariantTyped (λ x is. is)
      (inherits_sliced _ (λ x. ShapeTyped x.1.1.0)
      (inherits_second _ _ (λ x. ShapeTyped x.1.0) (inherits_second name _ (λ x. ShapeTyped x.0) (inherits_first variant_fields _ ShapeTyped variant_fields_typed))))

  -- ---- definitions

  abbrev BodyTyped : Body → Type 0
  BodyTyped b = AllByRecursion FieldTyped (shape_fields b.0)

  struct_body_typed : Inherits P struct_body BodyTyped
  unfolding struct_body
  struct_body_typed =
      inherits_made struct_body_of _ (λ x. ShapeTyped x.0) BodyTyped (λ x is. is)
      (inherits_either _ _ _ (λ x. ShapeTyped x.0)
      (inherits_leaving _ _ (λ x. ShapeTyped x.0) (inherits_first tuple_fields _ ShapeTyped tuple_fields_typed))
      (inherits_made swapped _ (λ x. ShapeTyped x.1) (λ x. ShapeTyped x.0) (λ x is. is)
      (inherits_second _ _ ShapeTyped
      (inherits_either _ named_fields _ ShapeTyped named_fields_typed (inherits_made (λ _. unit_shape) _ (λ _. Unit {0}) ShapeTyped (λ x _. tt) (inherits_any _))))))

  enum_body_typed : Inherits P enum_body BodyTyped
  unfolding enum_body
  enum_body_typed =
      inherits_made enum_body_of _ (λ x. AllByRecursion VariantTyped x.1) BodyTyped (λ x is. each_flat FieldTyped fields_in x.1 is)
      (inherits_second _ _ (AllByRecursion VariantTyped) (inherits_nest _ _ (AllByRecursion VariantTyped) (inherits_list _ _ variant VariantTyped variant_typed)))

  abbrev ItemTyped : Item → Type 0
  ItemTyped i = BodyTyped i.1.1

  struct_item_typed : Inherits P struct_item ItemTyped
  unfolding struct_item
  struct_item_typed = inherits_skipping _ _ ItemTyped (inherits_second name _ (λ x. BodyTyped x.1) (inherits_second _ struct_body BodyTyped struct_body_typed))

  enum_item_typed : Inherits P enum_item ItemTyped
  unfolding enum_item
  enum_item_typed = inherits_skipping _ _ ItemTyped (inherits_second name _ (λ x. BodyTyped x.1) (inherits_second _ enum_body BodyTyped enum_body_typed))

  abbrev DefinitionTyped : DeriveInput → Type 0
  DefinitionTyped d = AllByRecursion FieldTyped (all_fields d)

  definition_typed : Inherits P definition DefinitionTyped
  unfolding definition
  definition_typed =
      inherits_made definition_of _ (λ x. ItemTyped x.0.1) DefinitionTyped (λ x is. is)
      (inherits_sliced _ (λ x. ItemTyped x.1)
      (inherits_second _ _ ItemTyped (inherits_skipping _ _ ItemTyped (inherits_either _ enum_item struct_item ItemTyped enum_item_typed struct_item_typed))))

-- each token of a list is one of it
each_own : (tokens : List Token) → AllByRecursion (Contains tokens) tokens
each_own tokens = recursion_from_All (Contains tokens) tokens (All-contains_itself tokens)

-- the identifiers of the type of a field are words of the tokens
abbrev pub HasOwnType : List Token → Field → Type 0
HasOwnType tokens f = AreOwnNames tokens f.ty.written.tokens

-- the identifiers of the types of the fields of a definition are words of it
pub own_types : (d : DeriveInput) → IsWhole definition d.tokens d → AllByRecursion (HasOwnType d.tokens) (all_fields d)
own_types d whole =
    each_weaker (FieldTyped (Contains d.tokens)) (HasOwnType d.tokens) (λ f among. text_own d.tokens f.ty.written.tokens (standing among)) (all_fields d)
    ((definition_typed (Contains d.tokens)).inherits depth_limit d.tokens d (each_own d.tokens) whole)
