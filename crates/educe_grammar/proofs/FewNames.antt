-- A definition has at most as many parameters, variants and fields as there are tokens.
use Rattle.std.proofs.Common.{◌≡◌, ℕ, ◌+◌, ◌-◌, ◌≤◌, Bool, true, List, [], ◌∷◌, ◌++◌, length, refl, ap, inl, inr, arith, length-append}
use Rattle.std.specs.List.{sum_by}
use Rattle.std.proofs.lemmas.List.Sums.{sum_by-cons}
use Rattle.std.proofs.lemmas.List.Concat.{length-flat_map}
use Rattle.educe_tokens.specs.Bracket.{Bracket}
use Rattle.educe_tokens.specs.declared.token.Token.{Token}
use Rattle.educe_tree.specs.declared.data.FieldShape.{FieldShape}
use Rattle.educe_tree.specs.declared.data.Variant.{Variant}
use Rattle.educe_tree.specs.declared.derive.DeriveInput.{DeriveInput}
use Rattle.educe_tree.specs.declared.derive.Shape.{Shape}
use Rattle.educe_grammar.specs.declared.terminal.Keyword.{Keyword}
use Rattle.educe_grammar.specs.declared.terminal.Keyword.TheVariants as keyword
use Rattle.educe_grammar.specs.declared.terminal.Terminal.{Terminal}
use Rattle.educe_grammar.specs.Steps.{Tokens}
use Rattle.educe_grammar.specs.Ahead.{finish, Look}
use Rattle.educe_grammar.specs.Rules.{Rule, empty, both, made, either, nest, angles, list, sliced}
use Rattle.educe_grammar.specs.Combining.{at, skipping, word}
use Rattle.educe_grammar.specs.Reading.{Grammar, Parses, Listed}
use Rattle.educe_grammar.specs.Reads.{parts}
use Rattle.educe_grammar.specs.Names.{name}
use Rattle.educe_grammar.specs.Generics.{generic_param, generic_params}
use Rattle.educe_grammar.specs.Definitions.{named_field, tuple_field, named_shape, named_fields, tuple_shape, tuple_fields, unit_shape, variant_fields, variant_of, variant, Body, struct_body_of, swapped, struct_body, enum_body_of, enum_body, Item, struct_item, enum_item, definition_of, definition}
use Rattle.educe_grammar.specs.Parsed.{depth_limit, IsWhole}
use Rattle.educe_grammar.specs.Few.{shape_variants, shape_fields, IsFew}
use Rattle.educe_grammar.proofs.Fronts.{fronts_seen, at_end_only, end_is_seen}
use Rattle.educe_grammar.proofs.PartFronts.{part_fronts, whole_seen}
use Rattle.educe_grammar.proofs.Deciding.{is_filled}
use Rattle.educe_grammar.proofs.Computed.{computed, more_computed}

-- ---- lists

-- where no item weighs more than it has tokens, nor do all together
listed_weigh : {A : Type 0} {R : Grammar A} (weight : A → ℕ) → ((tokens : Tokens) (x : A) → R tokens x → weight x ≤ length tokens)
    → {separates : Token → Bool} {tokens : Tokens} {xs : List A} → Listed R separates tokens xs → sum_by weight xs ≤ length tokens
listed_weigh weight each Listed.none = omega arith
listed_weigh weight each (Listed.last {x = x} tokens is) = omega (arith, sum_by-cons weight x [], each tokens x is)
listed_weigh weight each (Listed.more {x = x} {xs = xs} front rest separator is between others) =
    omega (arith, sum_by-cons weight x xs, each front x is, listed_weigh weight each others, length-append front (separator ∷ rest))

-- one more for each item
one_more_each : {A : Type 0} (weight : A → ℕ) (xs : List A) → length xs + sum_by weight xs ≤ sum_by (λ x. 1 + weight x) xs
one_more_each weight [] = omega arith
one_more_each weight (x ∷ xs) = omega (arith, sum_by-cons weight x xs, sum_by-cons (λ x. 1 + weight x) x xs, one_more_each weight xs)

-- ---- rules

-- What the rule reads weighs no more than it has tokens.
record Weighs {A : Type 0} (g : Rule A) (weight : A → ℕ) : Type 0 where
  weighs : (budget : ℕ) (tokens : Tokens) (x : A) → Parses parts budget g tokens x → weight x ≤ length tokens

-- where no value weighs anything
weighs_nothing : {A : Type 0} (g : Rule A) → Weighs g (λ _. 0)
weighs_nothing g = record { weighs = λ budget tokens x is. omega arith }

-- where each weighs one, and what is read isn't empty
weighs_one : {A : Type 0} (g : Rule A) → is_filled 2 (part_fronts 2) g ≡ true → Weighs g (λ _. 1)
weighs_one {A} g full = record { weighs = go }
  where
    go : (budget : ℕ) (tokens : Tokens) (x : A) → Parses parts budget g tokens x → 1 ≤ length tokens
    go budget [] x is = absurd (at_end_only _ full (fronts_seen parts 2 (part_fronts 2) (whole_seen 2) g budget [] [] x (at finish) is end_is_seen))
    go budget (t ∷ ts) x is = omega arith

-- no tokens
weighs_empty : {A : Type 0} (x : A) (weight : A → ℕ) → weight x ≡ 0 → Weighs (empty x) weight
unfolding Parses
weighs_empty x weight none = record { weighs = λ budget tokens y is. omega (arith, ap weight is.1, none) }

-- another value
weighs_made : {A B : Type 0} (f : A → B) (g : Rule A) (heavy : A → ℕ) (weight : B → ℕ) → ((x : A) → weight (f x) ≤ heavy x) → Weighs g heavy → Weighs (made f g) weight
unfolding Parses
weighs_made f g heavy weight less p = record { weighs = λ budget tokens y is. omega (arith, ap weight is.1, less is.0, p.weighs budget tokens is.0 is.2) }

-- one rule and then another
weighs_both : {A B : Type 0} (g : Rule A) (h : Rule B) (v : A → ℕ) (w : B → ℕ) → Weighs g v → Weighs h w → Weighs (both g h) (λ x. v x.0 + w x.1)
unfolding Parses
weighs_both g h v w p q = record {
  weighs = λ budget tokens x is. omega (arith, p.weighs budget is.0 x.0 is.3, q.weighs budget is.1 x.1 is.4, ap length is.2, length-append is.0 is.1);
}

-- of which the first weighs
weighs_first : {A B : Type 0} (g : Rule A) (h : Rule B) (weight : A → ℕ) → Weighs g weight → Weighs (both g h) (λ x. weight x.0)
weighs_first g h weight p = record { weighs = λ budget tokens x is. omega (arith, (weighs_both g h weight (λ _. 0) p (weighs_nothing h)).weighs budget tokens x is) }

-- or the second
weighs_second : {A B : Type 0} (g : Rule A) (h : Rule B) (weight : B → ℕ) → Weighs h weight → Weighs (both g h) (λ x. weight x.1)
weighs_second g h weight q = record { weighs = λ budget tokens x is. omega (arith, (weighs_both g h (λ _. 0) weight (weighs_nothing g) q).weighs budget tokens x is) }

-- with the second's value
weighs_skipping : {A B : Type 0} (g : Rule A) (h : Rule B) (weight : B → ℕ) → Weighs h weight → Weighs (skipping g h) weight
weighs_skipping g h weight q = weighs_made (λ p. p.1) (both g h) (λ x. weight x.1) weight (λ x. omega arith) (weighs_second g h weight q)

-- one of two
weighs_either : {A : Type 0} (look : Look) (g h : Rule A) (weight : A → ℕ) → Weighs g weight → Weighs h weight → Weighs (either look g h) weight
unfolding Parses
weighs_either look g h weight p q = record { weighs = λ budget tokens x is. elim is [ inl w ↦ p.weighs budget tokens x w | inr w ↦ q.weighs budget tokens x w ] }

-- with the tokens that were read
weighs_sliced : {A : Type 0} (g : Rule A) (weight : A → ℕ) → Weighs g weight → Weighs (sliced g) (λ x. weight x.0)
unfolding Parses
weighs_sliced g weight p = record { weighs = λ budget tokens x is. p.weighs budget tokens x.0 is.0 }

-- a list
weighs_list : {A : Type 0} (separator : Terminal) (stop : Look) (g : Rule A) (weight : A → ℕ) → Weighs g weight → Weighs (list separator stop g) (sum_by weight)
unfolding Parses
weighs_list separator stop g weight p = record { weighs = λ budget tokens xs is. listed_weigh weight (p.weighs budget) is }

-- a list of items that aren't empty weighs one for each
weighs_count : {A : Type 0} (separator : Terminal) (stop : Look) (g : Rule A) → is_filled 2 (part_fronts 2) g ≡ true → Weighs (list separator stop g) length
weighs_count separator stop g full =
    let ones = weighs_list separator stop g (λ _. 1) (weighs_one g full) in
    record { weighs = λ budget tokens xs is. omega (arith, one_more_each (λ _. 0) xs, ones.weighs budget tokens xs is) }

-- what stands between two tokens
inside_shorter : (first last : Token) (tokens inside : Tokens) → tokens ≡ first ∷ (inside ++ last ∷ []) → length inside ≤ length tokens
inside_shorter first last tokens inside is = omega (arith, ap length is, length-append inside (last ∷ []))

-- inside of a bracket pair
weighs_nest : {A : Type 0} (b : Bracket) (g : Rule A) (weight : A → ℕ) → Weighs g weight → Weighs (nest b g) weight
unfolding Parses
weighs_nest b g weight p = record {
  weighs = λ budget tokens x is. omega (arith, p.weighs (budget - 1) is.inside x is.reads, inside_shorter is.first is.last tokens is.inside is.is);
}

-- inside of `<` and `>`
weighs_angles : {A : Type 0} (g : Rule A) (weight : A → ℕ) → Weighs g weight → Weighs (angles g) weight
unfolding Parses
weighs_angles g weight p = record {
  weighs = λ budget tokens x is. omega (arith, p.weighs (budget - 1) is.0.inside x is.0.reads, inside_shorter is.0.first is.0.last tokens is.0.inside is.0.is);
}

-- ---- productions

-- fields weigh one each
abbrev fields_weigh : FieldShape → ℕ
fields_weigh shape = length shape.fields

-- a variant weighs one more than its fields
abbrev variant_weighs : Variant → ℕ
variant_weighs v = 1 + fields_weigh v.fields

-- a shape weighs one for each variant and each field
abbrev shape_weighs : Shape → ℕ
shape_weighs shape = length (shape_variants shape) + length (shape_fields shape)

-- an item weighs one more for each parameter
abbrev item_weighs : Item → ℕ
item_weighs i = length i.1.0 + shape_weighs i.1.1.0

-- parameters
params_few : Weighs generic_params length
unfolding generic_params computed more_computed
params_few = weighs_either _ _ _ length (weighs_angles _ length (weighs_count _ _ generic_param refl)) (weighs_empty [] length refl)

-- fields in curly brackets
named_fields_few : Weighs named_fields fields_weigh
unfolding named_fields computed more_computed
named_fields_few = weighs_made named_shape _ length fields_weigh (λ x. omega arith) (weighs_nest _ _ length (weighs_count _ _ named_field refl))

-- fields in round brackets
tuple_fields_few : Weighs tuple_fields fields_weigh
unfolding tuple_fields computed more_computed
tuple_fields_few = weighs_made tuple_shape _ length fields_weigh (λ x. omega arith) (weighs_nest _ _ length (weighs_count _ _ tuple_field refl))

-- fields of a variant
variant_fields_few : Weighs variant_fields fields_weigh
unfolding variant_fields
variant_fields_few =
    weighs_either _ named_fields _ fields_weigh named_fields_few (weighs_either _ tuple_fields _ fields_weigh tuple_fields_few (weighs_empty unit_shape fields_weigh refl))

-- a variant has a name too
name_few : Weighs name (λ _. 1)
unfolding computed
name_few = weighs_one name refl

-- a variant
variant_few : Weighs variant variant_weighs
unfolding variant
variant_few =
    weighs_made variant_of _ (λ x. 1 + fields_weigh x.0.1.1.0) variant_weighs (λ x. omega arith)
    (weighs_sliced _ (λ x. 1 + fields_weigh x.1.1.0)
    (weighs_second _ _ (λ x. 1 + fields_weigh x.1.0)
    (weighs_both name _ (λ _. 1) (λ x. fields_weigh x.0) name_few (weighs_first variant_fields _ fields_weigh variant_fields_few))))

-- the body of a struct
struct_body_few : Weighs struct_body (λ b. shape_weighs b.0)
unfolding struct_body
struct_body_few =
    weighs_made struct_body_of _ (λ x. fields_weigh x.0) (λ b. shape_weighs b.0) (λ x. omega arith)
    (weighs_either _ _ _ (λ x. fields_weigh x.0)
    (weighs_made (λ p. p.0) _ (λ x. fields_weigh x.0.0) (λ x. fields_weigh x.0) (λ x. omega arith)
    (weighs_first _ _ (λ x. fields_weigh x.0) (weighs_first tuple_fields _ fields_weigh tuple_fields_few)))
    (weighs_made swapped _ (λ x. fields_weigh x.1) (λ x. fields_weigh x.0) (λ x. omega arith)
    (weighs_second _ _ fields_weigh
    (weighs_either _ named_fields _ fields_weigh named_fields_few (weighs_made (λ _. unit_shape) _ (λ _. 0) fields_weigh (λ x. omega arith) (weighs_nothing _))))))

-- the body of an enum
enum_body_few : Weighs enum_body (λ b. shape_weighs b.0)
unfolding enum_body
enum_body_few =
    weighs_made enum_body_of _ (λ x. sum_by variant_weighs x.1) (λ b. shape_weighs b.0)
    (λ x. omega (arith, one_more_each (λ v. fields_weigh v.fields) x.1, length-flat_map (λ (v : Variant). v.fields.fields) x.1))
    (weighs_second _ _ (sum_by variant_weighs) (weighs_nest _ _ (sum_by variant_weighs) (weighs_list _ _ variant variant_weighs variant_few)))

-- what is defined behind `struct` or `enum`
item_few : (w : Keyword) (body : Rule Body) → Weighs body (λ b. shape_weighs b.0) → Weighs (skipping (word w) (both name (both generic_params body))) item_weighs
item_few w body p =
    weighs_skipping _ _ item_weighs
    (weighs_second name _ (λ x. length x.0 + shape_weighs x.1.0) (weighs_both generic_params body length (λ b. shape_weighs b.0) params_few p))

-- a definition
definition_few : Weighs definition (λ d. length d.generics.params + shape_weighs d.shape)
unfolding definition struct_item enum_item
definition_few =
    weighs_made definition_of _ (λ x. item_weighs x.0.1) (λ d. length d.generics.params + shape_weighs d.shape) (λ x. omega arith)
    (weighs_sliced _ (λ x. item_weighs x.1) (weighs_second _ _ item_weighs (weighs_skipping _ _ item_weighs
    (weighs_either _ _ _ item_weighs (item_few keyword.Enum enum_body enum_body_few) (item_few keyword.Struct struct_body struct_body_few)))))

-- A definition that was read has at most as many parameters, variants and fields as there are tokens.
pub few : (tokens : Tokens) (found : DeriveInput) → IsWhole definition tokens found → IsFew (length tokens) found
few tokens found whole =
    let all = definition_few.weighs depth_limit tokens found whole in
    record { params = omega (arith, all); variants = omega (arith, all); fields = omega (arith, all) }
