-- The constants of key functions are the discriminants of variants, and so are the keys of values.
use Rattle.std.proofs.Common.{◌≡◌, ℕ, zero, suc, ◌+◌, ℤ, pos, negsuc, ◌+ℤ◌, Bool, true, false, ◌&&◌, ◌||◌, ◌==◌, inl, inr, List, [], ◌∷◌, ◌++◌, map, length, Option, Some, None, slice_get, if◌then◌else◌, int_cmp, codes, refl, sym, ap, ◌∙◌, subst, mod-eq_of_lt}
use Rattle.std.specs.Int.{Width}
use Rattle.std.specs.List.{AllByRecursion, AllZip}
use Rattle.std.specs.Option.{option_map}
use Rattle.std.specs.Str.{bytes_eq}
use Rattle.std.proofs.Math.IntN.{+ℤ_idr}
use Rattle.std.proofs.lemmas.Bool.{and_right, or_right, or_from, or_parts}
use Rattle.std.proofs.lemmas.Int.{int_wrap_fits}
use Rattle.std.proofs.lemmas.Option.{same_Some, slice_get-map}
use Rattle.educe_tokens.specs.IntValue.{int_value}
use Rattle.educe_tokens.specs.Lexes.{Lexeme, lexeme_of, lexemes}
use Rattle.educe_tokens.specs.LiteralKind.TheVariants.{Int}
use Rattle.educe_tokens.specs.Quote.{word_lexeme}
use Rattle.educe_tokens.specs.TokenKind.{TokenKind}
use Rattle.educe_tokens.specs.TokenKind.TheVariants.{Literal}
use Rattle.educe_tokens.specs.declared.token.Token.{Token}
use Rattle.educe_syntax.specs.DeriveInput.{DeriveInput}
use Rattle.educe_syntax.specs.Expr.{Expr}
use Rattle.educe_syntax.specs.Few.{shape_variants, variants_of}
use Rattle.educe_syntax.specs.Keywords.{unraw}
use Rattle.educe_syntax.specs.Naming.{AreApart, variant_names}
use Rattle.educe_syntax.specs.Shape.TheVariants.{Enum}
use Rattle.educe_syntax.specs.TokenLaws.{lawful_kinds}
use Rattle.educe_syntax.specs.Variant.{Variant}
use Rattle.educe_discriminants.specs.Literals.{literal_number}
use Rattle.educe_discriminants.specs.Ranges.{Fits, IsInRange, wrapped_to, wrapped, RangeLaws}
use Rattle.educe_discriminants.specs.Types.{width, is_signed}
use Rattle.educe_discriminants.specs.declared.discriminant_type.DiscriminantType.{DiscriminantType}
use Rattle.educe_attrs.specs.Represented.{IsDiscriminantType}
use Rattle.educe_body_values.specs.Constants.{or_number, number_of, number_in, behind, constant_number, parameter, bare_number, arms_number}
use Rattle.educe_body_values.specs.Matching.{variant_of, fits}
use Rattle.educe_body_values.specs.Meaning.{Scene, innermost, look_up, number_for, key_of, number_flow, form_value, call_named}
use Rattle.educe_body.specs.NameLaws.{lawful_names}
use Rattle.educe_body_values.specs.Scoping.{is_ident, is_hidden, is_bound, names_bound, IsApart}
use Rattle.educe_body_values.specs.declared.answers.Answers.{Answers}
use Rattle.educe_body_values.specs.declared.callee.BuiltIn.TheVariants.{Cmp}
use Rattle.educe_body_values.specs.declared.callee.Callee.{Callee}
use Rattle.educe_bound_traits.specs.declared.traits.Trait.{Trait}
use Rattle.educe_body_values.specs.declared.environment.Binding.{Binding}
use Rattle.educe_body_values.specs.declared.environment.Env.{Env}
use Rattle.educe_body_values.specs.declared.environment.Referent.{Referent}
use Rattle.educe_body_values.specs.declared.environment.Referent.TheVariants.{This, Other, Keys}
use Rattle.educe_body_values.specs.declared.flow.Flow.TheVariants.{Gives}
use Rattle.educe_body_values.specs.declared.flow.Thing.TheVariants.{Nothing, Order, Number}
use Rattle.educe_body_forms.specs.declared.form.Form.{Form}
use Rattle.educe_body_forms.specs.declared.key_function.Constant.{Constant}
use Rattle.educe_body_forms.specs.declared.key_function.Distance.{Distance}
use Rattle.educe_body_forms.specs.declared.key_function.KeyArm.{KeyArm}
use Rattle.educe_body_forms.specs.declared.pattern.PatternField.{PatternField}
use Rattle.educe_body_values.specs.declared.value.Value.{Value}
use Rattle.educe_body_values.proofs.Fields.{bytes_eq-same, bytes_eq-differ}
use Rattle.educe_meaning.specs.Arms.{Names, plain_names, chosen_names, AreNames, IsBarePattern, IsBase, IsDistance, IsConstant, AreConstants, AreNumbers, IsKeyArm, IsKeyFunction, IsKeyOf, IsKeyComparison}
use Rattle.educe_meaning.specs.Blocks.{scene_of}
use Rattle.educe_meaning.specs.BodyLaws.{lawful_forms, lawful_scopes}
use Rattle.educe_meaning.specs.Discriminants.{Counted, counted_from, counted, base_number, discriminant, discriminants, flat, discriminant_of, HaveNumbers}
use Rattle.educe_meaning.proofs.Arms.{IsOf, fits_own, fits_no_other, apart_first}
use Rattle.educe_settings.proofs.Elements.{In, map_at, each_in, each_weaker}
use Rattle.educe_meaning.proofs.Facts.{AreFit, IsOwnName, are_plain, IsOuter}
use Rattle.educe_meaning.proofs.OwnTexts.{HasOwnNumber}
use Rattle.educe_meaning.proofs.Structs.{names_for, env_of}
use Rattle.educe_meaning.proofs.Variables.{name_not_self, around_apart}

-- ---- constants

-- a number of these bits is left as it is
wrapped_same : (signed : Bool) (w : Width) (n : ℤ) → Fits signed w n → wrapped_to signed w n ≡ n
wrapped_same true w n fits = int_wrap_fits w n fits
wrapped_same false w (pos n) fits = ap pos (mod-eq_of_lt fits)
wrapped_same false w (negsuc n) fits = absurd fits

-- a number of a type is left as it is by wrapping to that type
lawful_ranges : RangeLaws
lawful_ranges = record { kept = λ ty. wrapped_same (is_signed ty) (width ty) }

-- `0` is an integer
zero_lexeme : word_lexeme (codes "0") ≡ record { kind = Literal Int; spelling = codes "0" }
zero_lexeme = ap (λ (kind : TokenKind). record { kind = kind; spelling = codes "0" }) (lawful_kinds.index (codes "0") refl)

module _ (table : Answers) (names : List Binding) where
  -- where these names are in scope, the expression that is counted from has the number that it has where none is
  abbrev pub ReadsBase : Option Expr → Type 0
  ReadsBase None = Unit {0}
  ReadsBase (Some value) = number_in table names value ≡ number_of table value

  -- `0` has its number in any scope
  zero_tokens : (tokens : List Token) (other : Option ℤ) → lexemes tokens ≡ word_lexeme (codes "0") ∷ []
      → (if names_bound names tokens then None else or_number (literal_number tokens) other) ≡ Some (pos 0)
  zero_tokens [] other is = absurd (cc)
  zero_tokens (t ∷ []) other is =
      let one : lexeme_of t ≡ word_lexeme (codes "0") = cc in
      ap (λ (l : Lexeme). if (is_ident l.kind && is_hidden names (unraw l.spelling)) || false then None else or_number (option_map pos (int_value l)) other) (one ∙ zero_lexeme)
  zero_tokens (t ∷ u ∷ more) other is = absurd (cc)

  -- the number of what a constant is counted from
  base_is : (written : Option Expr) (value : Expr) → ReadsBase written → IsBase written value → number_in table names value ≡ base_number table written
  base_is None value reads is = zero_tokens value.written.tokens _ is
  base_is (Some written) value reads is = ap (number_in table names) is ∙ reads

  -- a sum that is a number of the type does not wrap
  sum_is : (ty : DiscriminantType) (base : List ℕ) (steps : ℕ) (distance : Option Distance) (n : ℤ) → IsDistance ty base steps distance → IsInRange ty (n +ℤ pos steps)
      → behind distance n ≡ n +ℤ pos steps
  sum_is ty base zero None n is fits = sym (+ℤ_idr n)
  sum_is ty base zero (Some distance) n is fits = absurd is
  sum_is ty base (suc steps) None n is fits = absurd is
  sum_is ty base (suc steps) (Some distance) n is fits = (λ i. wrapped (is.1 i) (n +ℤ pos (is.0 i))) ∙ lawful_ranges.kept ty (n +ℤ pos (suc steps)) fits

  -- a sum does not wrap where there is a number to count from and the sum is a number of the type
  sums_are : (ty : DiscriminantType) (base : List ℕ) (steps : ℕ) (distance : Option Distance) (found : Option ℤ) (n : ℤ) → IsDistance ty base steps distance
      → option_map (λ m. m +ℤ pos steps) found ≡ Some n → IsInRange ty n → option_map (behind distance) found ≡ option_map (λ m. m +ℤ pos steps) found
  sums_are ty base steps distance None n is sum fits = refl
  sums_are ty base steps distance (Some m) n is sum fits = ap Some (sum_is ty base steps distance m is (subst (IsInRange ty) (sym (same_Some (m +ℤ pos steps) n sum)) fits))

  -- a constant for what is counted has its discriminant as its number
  abbrev pub IsNumbered : DiscriminantType → List ℕ → Counted → Type 0
  IsNumbered ty base c = (constant : Constant) → IsConstant ty base c constant → constant_number table names constant ≡ discriminant table c

  -- a constant for what is counted has its discriminant as its number, where that is a number of the type
  numbered : (ty : DiscriminantType) (base : List ℕ) (c : Counted) (n : ℤ) → ReadsBase c.written → discriminant table c ≡ Some n → IsInRange ty n → IsNumbered ty base c
  numbered ty base c n reads is fits constant k =
      ap (option_map (behind constant.distance)) (base_is c.written constant.value reads k.value_is)
      ∙ sums_are ty base c.distance constant.distance (base_number table c.written) n k.distance_is is fits

  -- and for each, where all are
  each_numbered : (ty : DiscriminantType) (base : List ℕ) (cs : List Counted) (numbers : List ℤ) → AllByRecursion (λ c. ReadsBase c.written) cs
      → map (discriminant table) cs ≡ map Some numbers → AllByRecursion (IsInRange ty) numbers → AllByRecursion (IsNumbered ty base) cs
  each_numbered ty base [] numbers reads are fit = tt
  each_numbered ty base (c ∷ cs) [] reads are fit = absurd (cc)
  each_numbered ty base (c ∷ cs) (n ∷ ns) reads are fit =
      let here : discriminant table c ≡ Some n = cc in
      let later : map (discriminant table) cs ≡ map Some ns = cc in
      (numbered ty base c n reads.0 here fit.0, each_numbered ty base cs ns reads.1 later fit.1)

  -- where each constant has its discriminant as its number, the numbers of the constants are the discriminants
  numbers_are : (ty : DiscriminantType) (base : List ℕ) (cs : List Counted) (constants : List Constant) → AllByRecursion (IsNumbered ty base) cs → AllZip (IsConstant ty base) cs constants
      → map (constant_number table names) constants ≡ map (discriminant table) cs
  numbers_are ty base [] [] each are = refl
  numbers_are ty base [] (x ∷ xs) each are = absurd are
  numbers_are ty base (c ∷ cs) [] each are = absurd are
  numbers_are ty base (c ∷ cs) (x ∷ xs) each are = λ i. each.0 x are.0 i ∷ numbers_are ty base cs xs each.1 are.1 i

-- where no name is in scope, no text has one
none_bound : (tokens : List Token) → names_bound [] tokens ≡ false
none_bound [] = refl
none_bound (t ∷ tokens) = or_from (is_bound [] t) (names_bound [] tokens) (and_right (is_ident t.kind) false refl) (none_bound tokens)

-- each expression has its number where no name is in scope
plain_base : (table : Answers) (written : Option Expr) → ReadsBase table [] written
plain_base table None = tt
plain_base table (Some value) = ap (λ (b : Bool). if b then None else number_of table value) (none_bound value.written.tokens)

-- where the discriminants are numbers of the type, they are the numbers of the constants
pub constants_are : (table : Answers) (d : DeriveInput) (ty : DiscriminantType) (numbers : List ℤ) (constants : List Constant)
    → HaveNumbers table d numbers → IsDiscriminantType d.attrs ty → AreConstants d ty constants → AreNumbers table numbers constants
constants_are table d ty numbers constants have is k =
    let cs = counted d in
    let reads = each_weaker (λ (c : Counted). In c cs) (λ (c : Counted). ReadsBase table [] c.written) (λ c found. plain_base table c.written) cs (each_in cs) in
    numbers_are table [] ty k.names.base cs constants (each_numbered table [] ty k.names.base cs numbers reads have.are (have.in_range ty is)) k.each ∙ have.are

-- ---- what is counted

-- what is counted of a variant with this written discriminant, and of those behind it
abbrev counted_next : Option Expr → ℕ → Variant → List Variant → Option Expr → List Counted
counted_next near distance v vs None = record { variant = v; written = near; distance = distance } ∷ counted_from near (distance + 1) vs
counted_next near distance v vs (Some value) = record { variant = v; written = Some value; distance = 0 } ∷ counted_from (Some value) 1 vs

-- what holds of each written discriminant holds of each that is counted from
each_counted : (Q : Option Expr → Type 0) (near : Option Expr) (distance : ℕ) (vs : List Variant) → Q near → AllByRecursion (λ (v : Variant). Q v.discriminant) vs
    → AllByRecursion (λ (c : Counted). Q c.written) (counted_from near distance vs)
each_counted Q near distance [] own each = tt
each_counted Q near distance (v ∷ vs) own each =
    elim v.discriminant as (λ o. Q o → AllByRecursion (λ (c : Counted). Q c.written) (counted_next near distance v vs o)) [
      | None ↦ λ h. (own, each_counted Q near (distance + 1) vs own each.1)
      | Some value ↦ λ h. (h, each_counted Q (Some value) 1 vs h each.1)
    ] each.0

-- the variants are counted in written order
variants_counted : (near : Option Expr) (distance : ℕ) (vs : List Variant) → map (λ (c : Counted). c.variant) (counted_from near distance vs) ≡ vs
variants_counted near distance [] = refl
variants_counted near distance (v ∷ vs) =
    elim v.discriminant as (λ o. map (λ (c : Counted). c.variant) (counted_next near distance v vs o) ≡ v ∷ vs) [
      | None ↦ ap (λ rest. v ∷ rest) (variants_counted near (distance + 1) vs)
      | Some value ↦ ap (λ rest. v ∷ rest) (variants_counted (Some value) 1 vs)
    ]

-- ---- the arm of a value

module _ (d : DeriveInput) (table : Answers) (names : List Binding) (ty : DiscriminantType) (base : List ℕ) (value : Value) (v : Variant) (at : variant_of d value ≡ Some v) where
  -- an arm's pattern names no field, so its constant is read
  bare_is : (c : Counted) (arm : KeyArm) → IsBarePattern c.variant arm.pattern → bare_number table names arm ≡ constant_number table names arm.constant
  bare_is c arm k =
      ap (λ (b : Bool). if b then constant_number table names arm.constant else None)
      (or_right arm.pattern.rest (length arm.pattern.fields == 0) (ap (λ (fields : List PatternField). length fields == 0) k.no_fields))

  -- the number of an arm whose pattern fits, or else that of the arms behind it
  abbrev picks : KeyArm → List KeyArm → Bool → Option ℤ
  picks arm arms b = if b then bare_number table names arm else arms_number d table names arms value

  -- the first arm that fits is that of the value's variant
  arms_pick : (cs : List Counted) (arms : List KeyArm) (k : ℕ) → AllZip (IsKeyArm ty base) cs arms → AllByRecursion (IsNumbered table names ty base) cs
      → AreApart (variant_names (map (λ (c : Counted). c.variant) cs)) → slice_get (map (λ (c : Counted). c.variant) cs) k ≡ Some v
      → arms_number d table names arms value ≡ flat (slice_get (map (discriminant table) cs) k)
  arms_pick [] arms k are each apart found = absurd (cc)
  arms_pick (c ∷ cs) [] k are each apart found = absurd are
  arms_pick (c ∷ cs) (arm ∷ arms) zero are each apart found =
      let own : arm.pattern.variant ≡ v.ident = are.0.pattern_is.variant_is ∙ ap (λ (w : Variant). w.ident) (same_Some c.variant v found) in
      ap (picks arm arms) (fits_own d value v at arm.pattern own) ∙ bare_is c arm are.0.pattern_is ∙ each.0 arm.constant are.0.constant_is
  arms_pick (c ∷ cs) (arm ∷ arms) (suc k) are each apart found =
      let past = fits_no_other d value v at c.variant arm.pattern are.0.pattern_is.variant_is (apart_first c.variant (map (λ (c : Counted). c.variant) cs) k v apart.0 found) in
      ap (picks arm arms) past ∙ arms_pick cs arms k are.1 each.1 apart.1 found

-- ---- the keys of the values of an enum

-- an expression of the definition has its number where no name in scope is a word of it
own_base : (d : DeriveInput) (table : Answers) (names : List Binding) → AllByRecursion (IsApart d.tokens) names → (written : Option Expr) → HasOwnNumber d.tokens written
    → ReadsBase table names written
own_base d table names apart None own = tt
own_base d table names apart (Some value) own = lawful_scopes.number d.tokens table names value apart own

-- the variants of what is counted are those of an enum
counted_variants : (d : DeriveInput) (variants : List Variant) → d.shape ≡ Enum variants → map (λ (c : Counted). c.variant) (counted d) ≡ variants
counted_variants d variants is = variants_counted None 0 (variants_of d) ∙ ap shape_variants is

-- the discriminant of a value's variant is among the numbers, at the variant's place
pub number_at : (d : DeriveInput) (table : Answers) (variants : List Variant) → d.shape ≡ Enum variants → (numbers : List ℤ) → HaveNumbers table d numbers → (value : Value) (v : Variant)
    → slice_get variants value.variant ≡ Some v → (n : ℤ) × (slice_get numbers value.variant ≡ Some n) × (discriminant_of table d value ≡ Some n)
number_at d table variants is numbers have value v at =
    let c = map_at (λ (c : Counted). c.variant) (counted d) value.variant v (ap (λ vs. slice_get vs value.variant) (counted_variants d variants is) ∙ at) in
    let found : slice_get (discriminants table d) value.variant ≡ Some (discriminant table c.0) =
    slice_get-map (discriminant table) (counted d) value.variant ∙ ap (option_map (discriminant table)) c.1 in
    let n = map_at Some numbers value.variant (discriminant table c.0) (ap (λ ns. slice_get ns value.variant) (sym have.are) ∙ found) in
    (n.0, n.1, ap flat found ∙ sym n.2)

module _ (which : Trait) (d : DeriveInput) (table : Answers) (variants : List Variant) (fit : AreFit which d variants) (numbers : List ℤ) (have : HaveNumbers table d numbers) where
  module _ (value : Value) (is_of : IsOf d variants value) where
    -- the variant of the value is at its place among what is counted
    counted_at : slice_get (map (λ (c : Counted). c.variant) (counted d)) value.variant ≡ Some is_of.variant
    counted_at = ap (λ vs. slice_get vs value.variant) (counted_variants d variants fit.enum.is) ∙ is_of.at

    -- the key of the value is its discriminant, where no name in scope is a word of the definition
    key_is : (names : List Binding) (ty : DiscriminantType) (base : List ℕ) (arms : List KeyArm) → AllByRecursion (IsApart d.tokens) names → IsDiscriminantType d.attrs ty
        → AllZip (IsKeyArm ty base) (counted d) arms → arms_number d table names arms value ≡ discriminant_of table d value
    key_is names ty base arms apart ty_is are =
        let Reads : Variant → Type 0 = λ v. ReadsBase table names v.discriminant in
        let read = each_weaker (λ (v : Variant). HasOwnNumber d.tokens v.discriminant) Reads (λ v. own_base d table names apart v.discriminant) variants fit.numbers in
        let reads = each_counted (ReadsBase table names) None 0 (variants_of d) tt (subst (AllByRecursion Reads) (sym (ap shape_variants fit.enum.is)) read) in
        arms_pick d table names ty base value is_of.variant is_of.found (counted d) arms value.variant are
        (each_numbered table names ty base (counted d) numbers reads have.are (have.in_range ty ty_is))
        (subst (λ (vs : List Variant). AreApart (variant_names vs)) (sym (counted_variants d variants fit.enum.is)) fit.enum.names) counted_at

-- ---- names in scope

-- `self`, the second value, and a key function with these keys
abbrev pub keyed : Names → ℤ → ℤ → List Binding
keyed names m n = names_for names.other ++ record { name = names.discriminant; referent = Keys (Some m) (Some n) } ∷ []

-- what a name stands for in the scope of a function, by whether it is `self` and that of the second value
abbrev of_two : Bool → Bool → Option Referent
of_two own other = innermost (if own then Some This else None) (innermost (if other then Some Other else None) None)

-- and behind a key function, also by whether it is that
abbrev of_three : ℤ → ℤ → Bool → Bool → Bool → Option Referent
of_three m n own other function =
    innermost (if own then Some This else None) (innermost (if other then Some Other else None) (innermost (if function then Some (Keys (Some m) (Some n)) else None) None))

module _ (d : DeriveInput) (names : Names) (are : AreNames d names) where
  -- neither the second value nor the key function is named `self`
  other_self : bytes_eq names.other (codes "self") ≡ false
  other_self = bytes_eq-differ names.other (codes "self") (name_not_self d plain_names (chosen_names names) are.are are_plain names.other (inl refl))

  function_self : bytes_eq names.discriminant (codes "self") ≡ false
  function_self = bytes_eq-differ names.discriminant (codes "self") (name_not_self d plain_names (chosen_names names) are.are are_plain names.discriminant (inr (inl refl)))

  -- the second value and the key function have two names
  function_other : bytes_eq names.discriminant names.other ≡ false
  function_other = (or_parts _ _ (lawful_names.apart are.are.words plain_names (chosen_names names) are.are.chosen).0).0

  -- the scope of a function is one around a match
  pub outer_values : IsOuter names (names_for names.other)
  outer_values = record {
    own = ap (of_two true) other_self;
    other = ap (of_two (bytes_eq (codes "self") names.other)) (bytes_eq-same names.other);
    known = (inl refl, (inr (inl refl), tt));
  }

  -- the scope behind a key function is one around a match
  pub outer_keyed : (m n : ℤ) → IsOuter names (keyed names m n)
  outer_keyed m n = record {
    own = λ i. of_three m n true (other_self i) (function_self i);
    other = λ i. of_three m n (bytes_eq (codes "self") names.other) (bytes_eq-same names.other i) (function_other i);
    known = (inl refl, (inr (inl refl), (inr (inr (inl refl)), tt)));
  }

  -- which it stands for
  keys_found : (m n : ℤ) → look_up (keyed names m n) names.discriminant ≡ Some (Keys (Some m) (Some n))
  keys_found m n = ap (of_three m n (bytes_eq (codes "self") names.discriminant) (bytes_eq names.other names.discriminant)) (bytes_eq-same names.discriminant)

  -- ---- key functions

  module _ (a b : Value) (table : Answers) where
    abbrev scene : Scene
    scene = scene_of d a b table

    -- a key function adds one name to the scope, which stands for the discriminants
    pub keys_value : (which : Trait) (variants : List Variant) → AreFit which d variants → (numbers : List ℤ) → HaveNumbers table d numbers → IsOf d variants a → IsOf d variants b
        → (m n : ℤ) → discriminant_of table d a ≡ Some m → discriminant_of table d b ≡ Some n → (x : Form) → IsKeyFunction d names x
        → form_value scene (env_of a (names_for names.other)) x ≡ Gives (env_of a (keyed names m n)) Nothing
    keys_value which variants fit numbers have of_a of_b m n m_is n_is x k =
        let inner = names_for names.other ++ parameter k.this ∷ [] in
        let known : AllByRecursion (IsOwnName (chosen_names names)) inner = (inl refl, (inr (inl refl), (inr (inr (inr (inl (sym k.this_is.is)))), tt))) in
        let apart = around_apart d names are inner known in
        let key_a = key_is which d table variants fit numbers have a of_a inner k.ty names.base k.arms apart k.ty_is k.arms_are ∙ m_is in
        let key_b = key_is which d table variants fit numbers have b of_b inner k.ty names.base k.arms apart k.ty_is k.arms_are ∙ n_is in
        ap (form_value scene (env_of a (names_for names.other))) k.is
        ∙ (λ i. Gives (env_of a (names_for names.other ++ record { name = k.function_is.is i; referent = Keys (key_a i) (key_b i) } ∷ [])) Nothing)

    module _ (m n : ℤ) where
      abbrev after : Env
      after = env_of a (keyed names m n)

      -- a key is the number for what its value's name stands for
      key_value : (value : List ℕ) (r : Referent) (number : ℤ) → look_up after.names value ≡ Some r → number_for (Some m) (Some n) (Some r) ≡ Some number → (x : Form) → IsKeyOf names value x
          → form_value scene after x ≡ Gives after (Number number)
      key_value value r number found is x k =
          ap (form_value scene after) k.is
          ∙ (λ i. number_flow after (key_of (look_up after.names (k.function_is.is i)) (look_up after.names (k.name_is.is i))))
          ∙ (λ i. number_flow after (key_of (keys_found m n i) (found i))) ∙ ap (number_flow after) is

      -- the comparison of the keys gives their order
      pub keys_compared : (x : Form) → IsKeyComparison names x → form_value scene after x ≡ Gives after (Order (int_cmp m n))
      keys_compared x k =
          let first = key_value (codes "self") This m (outer_keyed m n).own refl k.first k.first_is in
          let second = key_value names.other Other n (outer_keyed m n).other refl k.second k.second_is in
          ap (form_value scene after) k.is
          ∙ lawful_forms.call_two scene after k.path k.first k.second (Number m) (Number n) first second
          ∙ ap (λ (callee : Option Callee). call_named table callee after (Number m ∷ Number n ∷ [])) (lawful_scopes.made after.names k.path Cmp k.path_is)
