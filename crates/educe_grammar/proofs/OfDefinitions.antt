-- The parts of a definition that is read are readings of their tokens, and its names are names.
use Rattle.std.proofs.Common.{◌≡◌, ℕ, ◌≤◌, Bool, true, false, ◌||◌, List, [], refl, ap, sym, subst, ◌∙◌, inl, inr, append-nil, arith}
use Rattle.std.specs.List.{AllByRecursion}
use Rattle.educe_tokens.specs.TokenKind.TheVariants as kind
use Rattle.educe_tree.specs.Names.{is_name}
use Rattle.educe_tree.specs.Params.{written_of}
use Rattle.educe_tree.specs.declared.ident.Ident.{Ident}
use Rattle.educe_tree.specs.declared.generics.GenericParam.{GenericParam}
use Rattle.educe_tree.specs.declared.generics.WherePredicate.{WherePredicate}
use Rattle.educe_tree.specs.declared.data.FieldShape.{FieldShape}
use Rattle.educe_tree.specs.declared.data.Variant.{Variant}
use Rattle.educe_tree.specs.declared.derive.DeriveInput.{DeriveInput}
use Rattle.educe_tree.specs.declared.ty.Ty.{Ty, out-Ty, out-roll-Ty}
use Rattle.educe_grammar.specs.declared.terminal.Terminal.TheVariants as terminal
use Rattle.educe_grammar.specs.Terminals.{accepts, only_words, some_words, token_in}
use Rattle.educe_grammar.specs.Steps.{Tokens, Found}
use Rattle.educe_grammar.specs.Rules.{Rule, made, types, part}
use Rattle.educe_grammar.specs.Reading.{Parses}
use Rattle.educe_grammar.specs.Reads.{Reads, parts}
use Rattle.educe_grammar.specs.Names.{name, word_kind, accepted}
use Rattle.educe_grammar.specs.Generics.{lifetime_param_of, lifetime_param, bounded_name, type_param_of, type_param, typed_const, const_param_of, const_param, generic_param, generic_params, predicate, predicates, where_clause}
use Rattle.educe_grammar.specs.Definitions.{flat, named_field_of, named_field, tuple_field_of, tuple_field, named_shape, named_fields, tuple_shape, tuple_fields, unit_shape, variant_fields, variant_of, variant, Body, struct_body_of, swapped, struct_body, enum_body_of, enum_body, Item, struct_item, enum_item, definition_of, definition}
use Rattle.educe_grammar.specs.Parsed.{depth_limit, IsWhole}
use Rattle.educe_grammar.specs.Types.{any_type}
use Rattle.educe_grammar.proofs.Unrolling.{parts_unroll}
use Rattle.educe_grammar.specs.Few.{shape_fields, all_fields}
use Rattle.educe_grammar.specs.Readings.{IsName, IsNamed, IsReadType, IsReadParam, IsReadPredicate, IsReadField, HasReadParts}
use Rattle.educe_grammar.proofs.Each.{all_flat, all_parted}
use Rattle.educe_grammar.proofs.MoreBudget.{read_within}
use Rattle.educe_grammar.proofs.Within.{Has as HasWithin, has_any, has_empty, has_made, has_both, has_first, has_second, has_skipping, has_leaving, has_either, has_lone, has_nest, has_angles, has_sliced, has_written, has_list}

-- What is read by the rule within the limits has this.
abbrev Has : {A : Type 0} → Rule A → (A → Type 0) → Type 0
Has g Q = HasWithin depth_limit g Q

-- ---- names

or_false : (b : Bool) → (b || false) ≡ b
or_false true = refl
or_false false = refl

name_is : (found : Found (accepts terminal.Name)) → is_name kind.Ident found.token.spelling ≡ true
name_is found =
    let h = accepted terminal.Name found.token found.passes in
    let e = word_kind (some_words true []) found.token.kind found.token.spelling h in
    sym (or_false (is_name kind.Ident found.token.spelling)) ∙ sym (ap (λ k. token_in (only_words (some_words true [])) k found.token.spelling) e) ∙ h

-- a name is one
name_has : Has name (λ i. IsName i.text)
unfolding name Parses
name_has = record { has = λ budget room tokens x is. subst (λ (i : Ident). IsName i.text) (sym is.1) (name_is is.0) }

lifetime_named : Has lifetime_param IsNamed
unfolding lifetime_param
lifetime_named = has_made lifetime_param_of _ (λ _. Unit {0}) IsNamed (λ x _. tt) (has_any _)

type_named : Has type_param IsNamed
unfolding type_param bounded_name
type_named = has_leaving (made type_param_of _) _ IsNamed (has_made type_param_of _ (λ x. IsName x.0.0.text) IsNamed (λ x is. is) (has_written _ (λ x. IsName x.0.text) (has_first name _ (λ i. IsName i.text) name_has)))

const_named : Has const_param IsNamed
unfolding const_param typed_const
const_named =
    has_leaving (made const_param_of _) _ IsNamed
    (has_made const_param_of _ (λ x. IsName x.0.text) IsNamed (λ x is. is) (has_written _ (λ i. IsName i.text) (has_skipping _ _ (λ i. IsName i.text) (has_leaving name _ (λ i. IsName i.text) name_has))))

param_named : Has generic_param IsNamed
unfolding generic_param
param_named = has_either _ lifetime_param _ IsNamed lifetime_named (has_either _ const_param type_param IsNamed const_named type_named)

-- ---- parameters

-- a value of these tokens, within the limits
within : {A : Type 0} (g : Rule A) (budget : ℕ) (own tokens : Tokens) (x : A) → budget ≤ depth_limit → own ≡ tokens → Reads budget g tokens x → IsWhole g own x
within g budget own tokens x room is reads = subst (λ (ts : Tokens). IsWhole g ts x) (sym is) (read_within g budget depth_limit tokens x room reads)

-- a parameter without its default is one
param_read : (budget : ℕ) → budget ≤ depth_limit → (tokens : Tokens) (x : GenericParam) → Parses parts budget generic_param tokens x → IsWhole generic_param (written_of x).tokens x
unfolding Parses generic_param lifetime_param const_param type_param
param_read budget room tokens x (inl is) = within generic_param budget (written_of x).tokens tokens x room (ap (λ (p : GenericParam). (written_of p).tokens) is.1 ∙ is.2.1) (inl is)
param_read budget room tokens x (inr (inl is)) =
    let q = is.0.0 in
    let front = is.2.0 in
    let own : (written_of q).tokens ≡ front = ap (λ (p : GenericParam). (written_of p).tokens) is.2.3.1 ∙ is.2.3.2.1 in
    subst (λ (p : GenericParam). IsWhole generic_param (written_of p).tokens p) (sym is.1)
    (within generic_param budget (written_of q).tokens front q room own (inr (inl ((q, false), refl, (front, [], sym (append-nil front), is.2.3, inr (refl, refl))))))
param_read budget room tokens x (inr (inr is)) =
    let q = is.0.0 in
    let front = is.2.0 in
    let own : (written_of q).tokens ≡ front = ap (λ (p : GenericParam). (written_of p).tokens) is.2.3.1 ∙ is.2.3.2.1 in
    subst (λ (p : GenericParam). IsWhole generic_param (written_of p).tokens p) (sym is.1)
    (within generic_param budget (written_of q).tokens front q room own (inr (inr ((q, false), refl, (front, [], sym (append-nil front), is.2.3, inr (refl, refl))))))

-- it is named, and the reading of its tokens
abbrev OwnParam : GenericParam → Type 0
OwnParam p = IsNamed p × IsReadParam p

param_has : Has generic_param OwnParam
param_has = record { has = λ budget room tokens x is. (param_named.has budget room tokens x is, param_read budget room tokens x is) }

params_have : Has generic_params (AllByRecursion OwnParam)
unfolding generic_params
params_have =
    has_either _ _ _ (AllByRecursion OwnParam) (has_angles _ (AllByRecursion OwnParam) (has_list _ _ generic_param OwnParam param_has)) (has_empty [] (AllByRecursion OwnParam) tt)

-- ---- predicates

predicate_has : Has predicate IsReadPredicate
unfolding Parses predicate
predicate_has = record {
  has = λ budget room tokens x is. within predicate budget x.written.tokens tokens x room (ap (λ (p : WherePredicate). p.written.tokens) is.1 ∙ is.2.1) is;
}

where_has : Has where_clause (AllByRecursion IsReadPredicate)
unfolding where_clause predicates
where_has =
    has_either _ _ _ (AllByRecursion IsReadPredicate) (has_skipping _ _ (AllByRecursion IsReadPredicate) (has_list _ _ predicate IsReadPredicate predicate_has)) (has_empty [] (AllByRecursion IsReadPredicate) tt)

-- ---- fields

-- a type has the tokens that it was read from
pub type_tokens : (budget : ℕ) (ts : Tokens) (y : Ty) → Reads budget any_type ts y → (out-Ty y).written.tokens ≡ ts
unfolding Parses any_type
type_tokens budget ts y is = ap (λ (t : Ty). (out-Ty t).written.tokens) is.1 ∙ ap (λ r. r.written.tokens) (out-roll-Ty (record { form = is.0.0.0; written = is.0.1 })) ∙ is.2.1

-- a part that is a type is the reading of its tokens

type_has : Has (part types) IsReadType
unfolding Parses
type_has = record {
  has = λ budget room tokens x is. (let reads = parts_unroll budget types tokens x is in within any_type budget (out-Ty x).written.tokens tokens x room (type_tokens budget tokens x reads) reads);
}

named_field_has : Has named_field IsReadField
unfolding named_field
named_field_has =
    has_made named_field_of _ (λ x. IsReadType x.0.2) IsReadField (λ x is. is)
    (has_sliced _ (λ x. IsReadType x.2)
    (has_made flat _ (λ x. IsReadType x.1.1) (λ x. IsReadType x.2) (λ x is. is)
    (has_second _ _ (λ x. IsReadType x.1) (has_skipping _ _ (λ x. IsReadType x.1) (has_second name _ IsReadType (has_lone 58 58 (part types) IsReadType type_has))))))

tuple_field_has : Has tuple_field IsReadField
unfolding tuple_field
tuple_field_has =
    has_made tuple_field_of _ (λ x. IsReadType x.0.1) IsReadField (λ x is. is)
    (has_sliced _ (λ x. IsReadType x.1) (has_second _ _ IsReadType (has_skipping _ _ IsReadType type_has)))

abbrev ShapeIs : FieldShape → Type 0
ShapeIs s = AllByRecursion IsReadField s.fields

named_fields_has : Has named_fields ShapeIs
unfolding named_fields
named_fields_has = has_made named_shape _ (AllByRecursion IsReadField) ShapeIs (λ x is. is) (has_nest _ _ (AllByRecursion IsReadField) (has_list _ _ named_field IsReadField named_field_has))

tuple_fields_has : Has tuple_fields ShapeIs
unfolding tuple_fields
tuple_fields_has = has_made tuple_shape _ (AllByRecursion IsReadField) ShapeIs (λ x is. is) (has_nest _ _ (AllByRecursion IsReadField) (has_list _ _ tuple_field IsReadField tuple_field_has))

variant_fields_has : Has variant_fields ShapeIs
unfolding variant_fields
variant_fields_has = has_either _ named_fields _ ShapeIs named_fields_has (has_either _ tuple_fields _ ShapeIs tuple_fields_has (has_empty unit_shape ShapeIs tt))

abbrev VariantIs : Variant → Type 0
VariantIs v = ShapeIs v.fields

variant_has : Has variant VariantIs
unfolding variant
variant_has =
    has_made variant_of _ (λ x. ShapeIs x.0.1.1.0) VariantIs (λ x is. is)
    (has_sliced _ (λ x. ShapeIs x.1.1.0)
    (has_second _ _ (λ x. ShapeIs x.1.0) (has_second name _ (λ x. ShapeIs x.0) (has_first variant_fields _ ShapeIs variant_fields_has))))

-- ---- definitions

abbrev BodyIs : Body → Type 0
BodyIs b = AllByRecursion IsReadField (shape_fields b.0) × AllByRecursion IsReadPredicate b.1

abbrev PairIs : FieldShape × List WherePredicate → Type 0
PairIs x = ShapeIs x.0 × AllByRecursion IsReadPredicate x.1

struct_body_has : Has struct_body BodyIs
unfolding struct_body
struct_body_has =
    has_made struct_body_of _ PairIs BodyIs (λ x is. is)
    (has_either _ _ _ PairIs
    (has_leaving _ _ PairIs (has_both tuple_fields where_clause ShapeIs (AllByRecursion IsReadPredicate) tuple_fields_has where_has))
    (has_made swapped _ (λ x. AllByRecursion IsReadPredicate x.0 × ShapeIs x.1) PairIs (λ x is. (is.1, is.0))
    (has_both where_clause _ (AllByRecursion IsReadPredicate) ShapeIs where_has (has_either _ named_fields _ ShapeIs named_fields_has (has_made (λ _. unit_shape) _ (λ _. Unit {0}) ShapeIs (λ x _. tt) (has_any _))))))

enum_body_has : Has enum_body BodyIs
unfolding enum_body
enum_body_has =
    has_made enum_body_of _ (λ x. AllByRecursion IsReadPredicate x.0 × AllByRecursion VariantIs x.1) BodyIs
    (λ x is. (all_flat (λ (v : Variant). v.fields.fields) VariantIs IsReadField (λ v are. are) x.1 is.1, is.0))
    (has_both where_clause _ (AllByRecursion IsReadPredicate) (AllByRecursion VariantIs) where_has (has_nest _ _ (AllByRecursion VariantIs) (has_list _ _ variant VariantIs variant_has)))

abbrev ItemIs : Item → Type 0
ItemIs i = IsName i.0.text × (AllByRecursion OwnParam i.1.0 × BodyIs i.1.1)

struct_item_has : Has struct_item ItemIs
unfolding struct_item
struct_item_has =
    has_skipping _ _ ItemIs (has_both name _ (λ i. IsName i.text) (λ x. AllByRecursion OwnParam x.0 × BodyIs x.1) name_has (has_both generic_params struct_body (AllByRecursion OwnParam) BodyIs params_have struct_body_has))

enum_item_has : Has enum_item ItemIs
unfolding enum_item
enum_item_has =
    has_skipping _ _ ItemIs (has_both name _ (λ i. IsName i.text) (λ x. AllByRecursion OwnParam x.0 × BodyIs x.1) name_has (has_both generic_params enum_body (AllByRecursion OwnParam) BodyIs params_have enum_body_has))

-- the parts of an item are those of the definition
parts_of : (d : DeriveInput) → IsName d.ident.text → AllByRecursion OwnParam d.generics.params → AllByRecursion IsReadPredicate d.generics.predicates → AllByRecursion IsReadField (all_fields d) → HasReadParts d
parts_of d name params predicates fields =
    let (named, read) = all_parted IsNamed IsReadParam d.generics.params params in record { named = (name, named); generics = (read, predicates); fields = fields }

definition_has : Has definition HasReadParts
unfolding definition
definition_has =
    has_made definition_of _ (λ x. ItemIs x.0.1) HasReadParts (λ x is. parts_of (definition_of x) is.0 is.1.0 is.1.1.1 is.1.1.0)
    (has_sliced _ (λ x. ItemIs x.1) (has_second _ _ ItemIs (has_skipping _ _ ItemIs (has_either _ enum_item struct_item ItemIs enum_item_has struct_item_has))))

-- The parts of a definition that is read are readings of their tokens.
pub definition_parts : (tokens : Tokens) (d : DeriveInput) → IsWhole definition tokens d → HasReadParts d
definition_parts tokens d is = definition_has.has depth_limit (omega arith) tokens d is
