-- The sample of so many variants, and the line about its expansion.
use Rattle.std.specs.Prelude.{◌≡◌, ℕ, suc, zero, ◌+◌, ◌%◌, ◌==◌, Bool, true, false, List, ◌++◌, [], length, codes, decimal, chars, count_by, if◌then◌else◌}
use Rattle.educe_tokens.specs.declared.token.Token.{Token}
use Rattle.educe_tokens.specs.Steps.{IsReading}
use Rattle.educe_body_items.specs.declared.items.Item.{Item}
use Rattle.educe_body_items.specs.declared.items.Item.TheVariants.{Impl, New, FieldCheck, Marker}
use Rattle.educe_core.specs.Headline.{IsExpansion}

-- The variant at a place, from 0: of each three the first has no fields, the second has positions, and the third names its fields.
abbrev pub sample_variant : ℕ → List ℕ
sample_variant place =
    if place % 3 == 0 then codes " V" ++ (decimal place ++ codes ",")
    else if place % 3 == 1 then codes " V" ++ (decimal place ++ codes "(u32, T),")
    else codes " V" ++ (decimal place ++ codes " { #[educe(PartialOrd(rank = 2), Ord(rank = 2), Hash(ignore))] a: u32, b: T },")

-- The first so many variants.
unfoldable pub sample_variants : ℕ → List ℕ
sample_variants zero = []
sample_variants (suc place) = sample_variants place ++ sample_variant place

-- The sample of so many variants.
abbrev pub sample_text : ℕ → List ℕ
sample_text count = codes "#[educe(PartialEq, PartialOrd, Ord, Hash)] #[repr(u16)] enum Sample<T> {" ++ (sample_variants count ++ codes " }")

-- The item is the implementation of a trait.
unfoldable pub is_impl : Item → Bool
is_impl (Impl item) = true
is_impl (New item) = false
is_impl (FieldCheck item) = false
is_impl (Marker item) = false

-- The line about an expansion: how many variants were asked for, the bytes and tokens of the definition, its impls, and their bytes.
abbrev pub sample_line : ℕ → ℕ → ℕ → ℕ → ℕ → List ℕ
sample_line count bytes tokens impls written =
    codes "sample " ++ (decimal count ++ (codes ": " ++ (decimal bytes ++ (codes " bytes, " ++ (decimal tokens ++ (codes " tokens, "
    ++ (decimal impls ++ (codes " impls, " ++ (decimal written ++ codes " bytes out\n")))))))))

-- The line is about an expansion of the input.
pub record IsSampleLine (count : ℕ) (input line : List ℕ) : Type 0 where
  pub tokens : List Token
  pub items : List Item
  pub written : List ℕ
  pub reads : IsReading (chars input) tokens
  pub expands : IsExpansion input items written
  pub is : line ≡ sample_line count (length input) (length tokens) (count_by is_impl items) (length written)
