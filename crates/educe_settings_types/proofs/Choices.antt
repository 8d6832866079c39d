-- What is chosen, by what the attributes say, and the types of the fields that are written by `Default` of their type.
use Rattle.std.proofs.Common.{◌≡◌, ◌∙◌, Bool, true, false, List, [], Option, Some, None, refl, ap, sym, subst}
use Rattle.std.specs.Prelude.{not, is_some, is_none}
use Rattle.std.specs.List.{filter_map}
use Rattle.std.proofs.lemmas.Bool.{false≢true}
use Rattle.educe_syntax.specs.DeriveInput.{DeriveInput}
use Rattle.educe_syntax.specs.Expr.{Expr}
use Rattle.educe_syntax.specs.Few.{shape_variants, variants_of}
use Rattle.educe_syntax.specs.Field.{Field}
use Rattle.educe_syntax.specs.FieldShape.{FieldShape}
use Rattle.educe_syntax.specs.Shape.TheVariants.{Struct, Enum}
use Rattle.educe_syntax.specs.Ty.{Ty}
use Rattle.educe_syntax.specs.Variant.{Variant}
use Rattle.educe_bound_traits.specs.declared.traits.Trait.{Trait}
use Rattle.educe_bound_traits.specs.declared.traits.Trait.TheVariants.{Default}
use Rattle.educe_bound_traits.specs.Traits.{is_listed}
use Rattle.educe_attrs.specs.Causes.{NoCause}
use Rattle.educe_attrs.specs.Laws.{lawful_settings}
use Rattle.educe_attrs.specs.Phases.{OfHandler}
use Rattle.educe_attrs.specs.Places.{OfPlace}
use Rattle.educe_attrs.specs.Values.{Values}
use Rattle.educe_settings.specs.Defaults.{type_values, is_open, Choice, by_value, of_struct, of_variant, choice_by, choice_of, written_fields, field_value, type_without, default_types, AreTypeSettings}
use Rattle.educe_settings.specs.Handled.{handling}
use Rattle.educe_settings.specs.Listed.{listed}
use Rattle.educe_settings.specs.Rows.{type_row}
use Rattle.educe_settings_types.specs.Defaults.{IsTyped, AreFieldsRead, AreRead, AreMarksRead}
use Rattle.educe_settings_types.specs.Chosen.{IsChosen}
use Rattle.educe_settings_types.specs.declared.default_choice.Chosen.{Chosen}
use Rattle.educe_settings_types.specs.declared.default_choice.Chosen.TheVariants.{ByValue, OfStruct, OfVariant}
use Rattle.educe_settings_types.proofs.DefaultUncaused.{default_uncaused}

-- the types of these fields whose attributes say no value
abbrev pub types_without : DeriveInput → List Field → List Ty
types_without d fields = filter_map (λ f. type_without f (field_value d f)) fields

-- the types by what is chosen
types_by : (d : DeriveInput) (choice : Choice) → choice_of d ≡ Some choice → default_types d ≡ types_without d (written_fields (Some choice))
types_by d choice is = ap (λ (o : Option Choice). types_without d (written_fields o)) is

-- the value that the type says is chosen
pub value_chosen : (d : DeriveInput) (said : Expr) → (type_values d).expression ≡ Some said → choice_of d ≡ Some (by_value said)
value_chosen d said is = ap (λ (o : Option Expr). choice_by d o d.shape) is

-- the struct is chosen where the type says no value
pub struct_chosen : (d : DeriveInput) (shape : FieldShape) → d.shape ≡ Struct shape → (type_values d).expression ≡ None → choice_of d ≡ Some (of_struct shape)
struct_chosen d shape is none = λ i. choice_by d (none i) (is i)

module _ (d : DeriveInput) (lists : is_listed (listed d) Default ≡ true) (own : AreTypeSettings d (type_values d)) where
  -- a struct whose fields have no cause is not rejected
  pub struct_uncaused : (shape : FieldShape) → d.shape ≡ Struct shape → AreFieldsRead (is_open d) d shape.fields → NoCause (OfHandler (handling d) Default)
  struct_uncaused shape is read = by_value_said (type_values d).expression refl
    where
      marks : AreMarksRead d (variants_of d)
      marks = subst (AreMarksRead d) (sym (ap shape_variants is)) tt

      by_choice : (choice : Choice) → choice_of d ≡ Some choice → NoCause (OfHandler (handling d) Default)
      by_choice choice chosen = default_uncaused d lists own.read marks (subst (AreRead d) (sym is) read) choice chosen

      by_value_said : (said : Option Expr) → (type_values d).expression ≡ said → NoCause (OfHandler (handling d) Default)
      by_value_said None none = by_choice (of_struct shape) (struct_chosen d shape is none)
      by_value_said (Some said) some = by_choice (by_value said) (value_chosen d said some)

  -- an enum whose variants and fields have no cause is not rejected, where something is chosen
  pub enum_uncaused : (variants : List Variant) → d.shape ≡ Enum variants → AreMarksRead d variants → AreRead d (Enum variants) → (choice : Choice) → choice_of d ≡ Some choice
      → NoCause (OfHandler (handling d) Default)
  enum_uncaused variants is marks read choice chosen =
      default_uncaused d lists own.read (subst (AreMarksRead d) (sym (ap shape_variants is)) marks) (subst (AreRead d) (sym is) read) choice chosen

-- the types of the fields that are written by `Default` of their type, by what is chosen
pub types_chosen : (d : DeriveInput) (choice : Choice) (types : List Ty) → choice_of d ≡ Some choice → types ≡ types_without d (written_fields (Some choice)) → types ≡ default_types d
types_chosen d choice types is are = are ∙ sym (types_by d choice is)

-- ---- what a handler has read of the type

pub typed_by : (d : DeriveInput) (traits : List Trait) (values : Values) → traits ≡ listed d → values ≡ type_values d → NoCause (OfPlace Default (type_row Default d) (listed d) d.attrs)
    → IsTyped d traits (is_none values.expression)
typed_by d traits values same are read = record {
  traits_are = same;
  own = record { read = read; said = lawful_settings.place_said Default (type_row Default d) (listed d) d.attrs read };
  bare_is = ap (λ (v : Values). is_none v.expression) are;
}

-- whether there is none
pub none_tested : {X : Type 0} (o : Option X) (b : Bool) → is_some o ≡ not b → b ≡ is_none o
none_tested None true is = refl
none_tested None false is = absurd (cc)
none_tested (Some x) true is = absurd (cc)
none_tested (Some x) false is = refl

-- no value is said where there is none
pub none_from : {X : Type 0} (o : Option X) → is_none o ≡ true → o ≡ None
none_from None is = refl
none_from (Some x) is = absurd (false≢true is)

-- ---- what is chosen

-- something is chosen
pub choice_some : (d : DeriveInput) (chosen : Chosen) → IsChosen d chosen → (choice : Choice) × (choice_of d ≡ Some choice)
choice_some d (ByValue said) is = (by_value said, is)
choice_some d (OfStruct shape settings) is = (of_struct shape.now, is.0)
choice_some d (OfVariant variant settings) is = (of_variant is.0 variant.now, is.1)
