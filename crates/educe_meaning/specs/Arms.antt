-- The arms of an enum's functions, the names that these declare, and the functions that give the keys of values.
use Rattle.std.specs.Prelude.{ℕ, ℤ, zero, suc, ◌+◌, ◌≡◌, Bool, true, false, List, [], ◌∷◌, ◌++◌, map, Option, Some, None, codes}
use Rattle.std.specs.List.{AllByRecursion, AllZip, list_all}
use Rattle.std.specs.declared.cmp.Ordering.TheVariants.{Less, Greater}
use Rattle.educe_tokens.specs.declared.word.Word.{Word}
use Rattle.educe_tokens.specs.Appends.{no_place}
use Rattle.educe_tokens.specs.Lexes.{lexemes}
use Rattle.educe_tokens.specs.Quote.{word_lexeme}
use Rattle.educe_syntax.specs.DeriveInput.{DeriveInput}
use Rattle.educe_syntax.specs.Expr.{Expr}
use Rattle.educe_syntax.specs.ExprPath.{ExprPath}
use Rattle.educe_syntax.specs.Field.{Field}
use Rattle.educe_syntax.specs.Ident.{Ident}
use Rattle.educe_syntax.specs.Variant.{Variant}
use Rattle.educe_discriminants.specs.declared.discriminant_type.DiscriminantType.{DiscriminantType}
use Rattle.educe_bound_traits.specs.declared.traits.Trait.{Trait}
use Rattle.educe_attrs.specs.FieldSettings.{FieldSettings}
use Rattle.educe_attrs.specs.Represented.{IsDiscriminantType}
use Rattle.educe_body_values.specs.BuiltIn.{IsBuiltIn}
use Rattle.educe_body_values.specs.Constants.{constant_number}
use Rattle.educe_body_values.specs.declared.answers.Answers.{Answers}
use Rattle.educe_body.specs.Chosen.{is_held, IsPrefix, AreChosen, AreApart}
use Rattle.educe_body.specs.Held.{AreWordsOf}
use Rattle.educe_body_forms.specs.Keys.{binding_key}
use Rattle.educe_body.specs.Words.{HasWord}
use Rattle.educe_body_values.specs.declared.callee.BuiltIn.TheVariants.{Cmp}
use Rattle.educe_body_forms.specs.declared.comparison.Comparison.{Comparison}
use Rattle.educe_body_forms.specs.declared.comparison.Comparison.TheVariants.{PartialEq, PartialOrd, Ord}
use Rattle.educe_body_forms.specs.declared.form.Arm.{Arm}
use Rattle.educe_body_forms.specs.declared.form.Form.{Form, Key, Call, SomeOf, Return, MatchOrdering, MatchValue, IfLet, KeyFunction}
use Rattle.educe_body_forms.specs.declared.form.Form as form
use Rattle.educe_body_forms.specs.declared.form.Known.TheVariants.{Truth}
use Rattle.educe_body_forms.specs.declared.key_function.Constant.{Constant}
use Rattle.educe_body_forms.specs.declared.key_function.Distance.{Distance}
use Rattle.educe_body_forms.specs.declared.key_function.KeyArm.{KeyArm}
use Rattle.educe_body_forms.specs.declared.pattern.Pattern.{Pattern}
use Rattle.educe_body_forms.specs.declared.pattern.PatternField.{PatternField}
use Rattle.educe_settings.specs.Cases.{fields_in, has_brackets, is_unit}
use Rattle.educe_meaning.specs.Comparing.{neutral}
use Rattle.educe_meaning.specs.Comparisons.{trait_of}
use Rattle.educe_meaning.specs.Discriminants.{Counted, counted}
use Rattle.educe_settings.specs.Settings.{Kept, keeps, settings_of, kept_fields}
use Rattle.educe_settings.specs.Order.{IsInOrder}
use Rattle.educe_meaning.specs.Steps.{bound, AreSteps}

-- ---- names

-- The names that the functions of an enum declare: that of the second value, of the key function, of its parameter, and of the
-- value that a distance is added to; and the prefixes of the variables for the fields of the first value and of the second.
pub record Names : Type 0 where
  pub other : List ℕ
  pub discriminant : List ℕ
  pub this : List ℕ
  pub base : List ℕ
  pub own : List ℕ
  pub others : List ℕ

-- The names among them, as they are written where nothing is in their way.
abbrev pub plain_names : List (List ℕ)
plain_names = codes "other" ∷ codes "discriminant" ∷ codes "this" ∷ codes "base" ∷ []

-- The texts of the chosen names, in the order of the plain ones.
abbrev pub chosen_names : Names → List (List ℕ)
chosen_names names = names.other ∷ names.discriminant ∷ names.this ∷ names.base ∷ []

-- The names are chosen for the plain ones, one for each in order: each differs from the words of the definition and from the
-- names before it.
pub record AreChosenFor (definition : DeriveInput) (plain names : List (List ℕ)) : Type 0 where
  pub words : List (List ℕ)
  pub words_are : AreWordsOf definition.tokens words
  pub chosen : AreChosen words plain names

-- The names `other`, `discriminant`, `this` and `base` are chosen one after the other, apart from the words of the definition;
-- and then the prefixes `_s_` and `_o_` so that neither a word of the definition nor one of the names begins with them.
pub record AreNames (definition : DeriveInput) (names : Names) : Type 0 where
  pub are : AreChosenFor definition plain_names (chosen_names names)
  pub own_is : IsPrefix (are.words ++ chosen_names names) (codes "_s_") names.own
  pub others_is : IsPrefix (are.words ++ chosen_names names) (codes "_o_") names.others

-- An identifier of this text, with the span 0 to 0.
pub record IsName (text : List ℕ) (name : Ident) : Type 0 where
  pub is : name.text ≡ text
  pub nowhere : name.span ≡ no_place

-- The names of the variables behind a prefix for these fields.
abbrev pub variables_for : List ℕ → List Kept → List (List ℕ)
variables_for prefix kept = map (λ (k : Kept). prefix ++ binding_key k.place k.field) kept

-- The names of the variables behind a prefix for the fields that take part.
abbrev pub variables : List ℕ → Trait → DeriveInput → List Field → List (List ℕ)
variables prefix which definition fields = variables_for prefix (kept_fields which definition fields)

-- No two of the names are the same, none is `self`, and none is a word of the definition.
pub record AreScoped (definition : DeriveInput) (names : List (List ℕ)) : Type 0 where
  pub apart : AreApart names
  pub not_self : is_held names (codes "self") ≡ false
  pub no_words : AllByRecursion (λ name. HasWord definition.tokens name → ⊥) names

-- ---- patterns

-- The key of a field in a pattern: its name as it was written, or none.
abbrev pub IsKey : Option Ident → Option Word → Type 0
IsKey None None = Unit {0}
IsKey None (Some key) = ⊥
IsKey (Some name) None = ⊥
IsKey (Some name) (Some key) = key.text ≡ name.text

-- Where the field takes part it is bound to a variable of this name, and else to none.
abbrev pub IsBound : Bool → List ℕ → Option Ident → Type 0
IsBound false text name = name ≡ None
IsBound true text None = ⊥
IsBound true text (Some name) = IsName text name

-- The field of a pattern, with variables behind this prefix, for the field at a place with these settings.
pub record IsPatternField (prefix : List ℕ) (place : ℕ) (field : Field) (settings : FieldSettings) (x : PatternField) : Type 0 where
  pub key_is : IsKey field.ident x.key
  pub name_is : IsBound (keeps settings) (prefix ++ binding_key place field) x.name

-- The fields of a pattern, for fields with these settings, of which the first has this place.
abbrev pub ArePatternFields : List ℕ → ℕ → List Field → List FieldSettings → List PatternField → Type 0
ArePatternFields prefix place [] all [] = Unit {0}
ArePatternFields prefix place [] all (x ∷ xs) = ⊥
ArePatternFields prefix place (f ∷ fs) [] xs = ⊥
ArePatternFields prefix place (f ∷ fs) (s ∷ all) [] = ⊥
ArePatternFields prefix place (f ∷ fs) (s ∷ all) (x ∷ xs) = IsPatternField prefix place f s x × ArePatternFields prefix (place + 1) fs all xs

-- The pattern of a variant that binds its fields, where they take part by these settings, to variables behind this prefix.
pub record IsPatternBy (prefix : List ℕ) (variant : Variant) (all : List FieldSettings) (pattern : Pattern) : Type 0 where
  pub variant_is : pattern.variant ≡ variant.ident
  pub form_is : pattern.form ≡ variant.fields.form
  pub whole : pattern.rest ≡ false
  pub fields_are : ArePatternFields prefix 0 (fields_in variant) all pattern.fields

-- The pattern of a variant that binds the fields that take part, by their settings, to variables behind a prefix, and every other
-- field to `_`.
abbrev pub IsPattern : Trait → DeriveInput → List ℕ → Variant → Pattern → Type 0
IsPattern which definition prefix variant pattern = IsPatternBy prefix variant (map (settings_of which definition) (fields_in variant)) pattern

-- ---- arms

-- An arm has braces around its block, or none, and a comma behind it, or none.
pub record IsSpelled (braced comma : Bool) (arm : Arm) : Type 0 where
  pub braced_is : arm.braced ≡ braced
  pub comma_is : arm.comma ≡ comma

-- One arm for each variant, of which the first has this place.
abbrev pub AreArms : (ℕ → Variant → Arm → Type 0) → ℕ → List Variant → List Arm → Type 0
AreArms IsOwn place [] [] = Unit {0}
AreArms IsOwn place [] (arm ∷ arms) = ⊥
AreArms IsOwn place (v ∷ vs) [] = ⊥
AreArms IsOwn place (v ∷ vs) (arm ∷ arms) = IsOwn place v arm × AreArms IsOwn (place + 1) vs arms

-- A match on the value of `self`, with one such arm for each variant in written order.
pub record IsMatchOnSelf (IsOwn : Variant → Arm → Type 0) (variants : List Variant) (block : List Form) : Type 0 where
  pub value : Ident
  pub value_is : IsName (codes "self") value
  pub arms : List Arm
  pub arms_are : AllZip IsOwn variants arms
  pub block_is : block ≡ MatchValue value arms ∷ []

-- What is done where the other value is of another variant: `eq` returns false, and an order, which is asked after the
-- discriminants, does nothing.
abbrev pub IsOtherwise : Comparison → Option (List Form) → Type 0
IsOtherwise PartialEq others = others ≡ Some (Return (form.Known (Truth false)) ∷ [])
IsOtherwise PartialOrd others = others ≡ None
IsOtherwise Ord others = others ≡ None

-- Whether the arm of a variant returns at once, as that of a unit variant does in an order: the discriminants are the same, and
-- no field is left to compare.
abbrev pub returns_at_once : Comparison → Variant → Bool
returns_at_once PartialEq variant = false
returns_at_once PartialOrd variant = is_unit variant
returns_at_once Ord variant = is_unit variant

-- The block of an arm that compares fields: if the other value is of this variant, one step for each field that takes part, in the
-- order of the trait, on its two variables.
pub record ComparesFields (which : Comparison) (definition : DeriveInput) (names : Names) (variant : Variant) (block : List Form) : Type 0 where
  pub inner : Pattern
  pub inner_is : IsPattern (trait_of which) definition names.others variant inner
  pub value : Ident
  pub value_is : IsName names.other value
  pub ordered : List Kept
  pub ordered_is : IsInOrder (trait_of which) (kept_fields (trait_of which) definition (fields_in variant)) ordered
  pub steps : List Form
  pub steps_are : AreSteps which (bound names.own) (bound names.others) ordered steps
  pub others : Option (List Form)
  pub others_are : IsOtherwise which others
  pub block_is : block ≡ IfLet inner value steps others ∷ []

-- The block of an arm: it returns that nothing differs, or it compares the fields.
abbrev pub IsVariantBlock : Bool → Comparison → DeriveInput → Names → Variant → List Form → Type 0
IsVariantBlock true which definition names variant block = block ≡ Return (form.Known (neutral which)) ∷ []
IsVariantBlock false which definition names variant block = ComparesFields which definition names variant block

-- The arm of a variant: the pattern for the value of `self`, and its block in braces, without a comma.
pub record IsArm (which : Comparison) (definition : DeriveInput) (names : Names) (variant : Variant) (arm : Arm) : Type 0 where
  pub spelled : IsSpelled true false arm
  pub own_is : IsPattern (trait_of which) definition names.own variant arm.pattern
  pub block_is : IsVariantBlock (returns_at_once which variant) which definition names variant arm.block

-- A match on the value of `self`, with one arm for each variant in written order; and then what is answered where no step returned.
pub record IsMatch (which : Comparison) (definition : DeriveInput) (names : Names) (variants : List Variant) (block : List Form) : Type 0 where
  pub value : Ident
  pub value_is : IsName (codes "self") value
  pub arms : List Arm
  pub arms_are : AllZip (IsArm which definition names) variants arms
  pub block_is : block ≡ MatchValue value arms ∷ form.Known (neutral which) ∷ []

-- ---- keys

-- The pattern of a variant with `..` in place of its fields.
pub record IsBarePattern (variant : Variant) (pattern : Pattern) : Type 0 where
  pub variant_is : pattern.variant ≡ variant.ident
  pub form_is : pattern.form ≡ variant.fields.form
  pub rest_is : pattern.rest ≡ has_brackets variant.fields.form
  pub no_fields : pattern.fields ≡ []

-- The expression that a constant is counted from: the written one, or `0`.
abbrev pub IsBase : Option Expr → Expr → Type 0
IsBase None value = lexemes value.written.tokens ≡ word_lexeme (codes "0") ∷ []
IsBase (Some written) value = value ≡ written

-- The distance of a constant: none at the expression itself, otherwise that many steps, in this type, from a value of this name.
abbrev pub IsDistance : DiscriminantType → List ℕ → ℕ → Option Distance → Type 0
IsDistance ty base zero None = Unit {0}
IsDistance ty base zero (Some distance) = ⊥
IsDistance ty base (suc count) None = ⊥
IsDistance ty base (suc count) (Some distance) = (distance.steps ≡ suc count) × (distance.ty ≡ ty) × IsName base distance.base

-- The constant of a variant: what it is counted from, and how far behind.
pub record IsConstant (ty : DiscriminantType) (base : List ℕ) (c : Counted) (constant : Constant) : Type 0 where
  pub value_is : IsBase c.written constant.value
  pub distance_is : IsDistance ty base c.distance constant.distance

-- The constants of the variants of a definition, in written order. What a distance is added to has the name that is chosen for it in
-- the functions of an enum.
pub record AreConstants (definition : DeriveInput) (ty : DiscriminantType) (constants : List Constant) : Type 0 where
  pub names : Names
  pub names_are : AreNames definition names
  pub each : AllZip (IsConstant ty names.base) (counted definition) constants

-- The numbers of the constants, where no name is in scope, are these.
abbrev pub AreNumbers : Answers → List ℤ → List Constant → Type 0
AreNumbers table numbers constants = map (constant_number table []) constants ≡ map Some numbers

-- The arm of a variant in a key function.
pub record IsKeyArm (ty : DiscriminantType) (base : List ℕ) (c : Counted) (arm : KeyArm) : Type 0 where
  pub pattern_is : IsBarePattern c.variant arm.pattern
  pub constant_is : IsConstant ty base c arm.constant

-- The key function: one arm for each variant in written order, with constants of the type of the discriminants.
pub record IsKeyFunction (definition : DeriveInput) (names : Names) (x : Form) : Type 0 where
  pub function : Ident
  pub function_is : IsName names.discriminant function
  pub this : Ident
  pub this_is : IsName names.this this
  pub ty : DiscriminantType
  pub ty_is : IsDiscriminantType definition.attrs ty
  pub arms : List KeyArm
  pub arms_are : AllZip (IsKeyArm ty names.base) (counted definition) arms
  pub is : x ≡ KeyFunction function this ty arms

-- `& discriminant ( value )`.
pub record IsKeyOf (names : Names) (value : List ℕ) (x : Form) : Type 0 where
  pub function : Ident
  pub function_is : IsName names.discriminant function
  pub name : Ident
  pub name_is : IsName value name
  pub is : x ≡ Key function name

-- The comparison of the keys of both values: `:: core :: cmp :: Ord :: cmp ( & discriminant ( self ) , & discriminant ( other ) )`.
pub record IsKeyComparison (names : Names) (x : Form) : Type 0 where
  pub path : ExprPath
  pub path_is : IsBuiltIn Cmp path
  pub first : Form
  pub first_is : IsKeyOf names (codes "self") first
  pub second : Form
  pub second_is : IsKeyOf names names.other second
  pub is : x ≡ Call path (first ∷ second ∷ [])

-- ---- blocks

-- An order as the trait's function answers it.
abbrev pub in_answer : Comparison → Form → Form
in_answer PartialEq x = x
in_answer PartialOrd x = SomeOf x
in_answer Ord x = x

-- Whether the trait's function answers an order in `Some`.
abbrev pub is_partial : Comparison → Bool
is_partial PartialEq = false
is_partial PartialOrd = true
is_partial Ord = false

-- What follows the key function: where no variant has fields, the comparison of the keys is the answer; and else where it is Equal
-- the match on the fields is.
abbrev pub IsDecision : Comparison → DeriveInput → Names → List Variant → Form → Bool → Form → Type 0
IsDecision which definition names variants compares true x = x ≡ in_answer which compares
IsDecision which definition names variants compares false x =
    (block : List Form) × IsMatch which definition names variants block × (x ≡ MatchOrdering compares (is_partial which) (Some block) Greater Less)

-- Whether each variant has neither brackets nor fields.
abbrev pub are_units : List Variant → Bool
are_units variants = list_all is_unit variants

-- The block of an order of an enum: the key function, and what follows it.
pub record IsKeyed (which : Comparison) (definition : DeriveInput) (names : Names) (variants : List Variant) (block : List Form) : Type 0 where
  pub keys : Form
  pub keys_are : IsKeyFunction definition names keys
  pub compares : Form
  pub comparison_is : IsKeyComparison names compares
  pub decision : Form
  pub decision_is : IsDecision which definition names variants compares (are_units variants) decision
  pub block_is : block ≡ keys ∷ decision ∷ []

-- The block of a comparison of an enum: without variants what is answered where nothing differs; for `PartialEq` a match on
-- `self`; for an order the key function and what follows it.
abbrev pub IsEnumBlock : Comparison → DeriveInput → Names → List Variant → List Form → Type 0
IsEnumBlock which definition names [] block = block ≡ form.Known (neutral which) ∷ []
IsEnumBlock PartialEq definition names (v ∷ vs) block = IsMatch PartialEq definition names (v ∷ vs) block
IsEnumBlock PartialOrd definition names (v ∷ vs) block = IsKeyed PartialOrd definition names (v ∷ vs) block
IsEnumBlock Ord definition names (v ∷ vs) block = IsKeyed Ord definition names (v ∷ vs) block
