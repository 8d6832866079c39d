-- The messages of rejections.
use Rattle.std.specs.Prelude.{◌≡◌, ◌<◌, ℕ, List, [], ◌∷◌, ◌++◌, length, map, codes, encode_utf8_all}
use Rattle.std.specs.Fmt.{signed_decimal}
use Rattle.educe_tokens.specs.declared.error.Kind.{Kind}
use Rattle.educe_tokens.specs.declared.error.Kind.TheVariants.{Syntax, TooDeep, NotCarried, DuplicateName, DeriveAttributeNotSetUpYet, EduceFormatIncorrect, UnsupportedTrait, ReuseATrait, TraitNotUsed, AttributeIncorrectPlace, AttributeIncorrectFormat, ParameterReset, ExpectedValue, ReuseARank, UnitStructNeedName, UnitVariantNeedName, UnitEnumNeedName, MultipleDefaultVariants, NoDefaultVariant, Alloc, BadParts, NotGenerated, BadTable, BadValues, BadRows, OrdNotListed, MethodField, KeyUnknown}

-- The words of the rejection for an `educe` attribute of a type that is no list.
abbrev pub educe_format : List (List ℕ)
educe_format = codes "educe" ∷ codes "#[educe(Trait1, Trait2, ..., TraitN)]" ∷ []

-- The words are such as the message of the kind cites.
abbrev pub HasWords : Kind → List (List ℕ) → Type 0
HasWords Syntax words = words ≡ []
HasWords TooDeep words = words ≡ []
HasWords NotCarried words = length words ≡ 1
HasWords DuplicateName words = length words ≡ 1
HasWords DeriveAttributeNotSetUpYet words = words ≡ []
HasWords EduceFormatIncorrect words = words ≡ educe_format
HasWords UnsupportedTrait words = length words ≡ 1
HasWords ReuseATrait words = length words ≡ 1
HasWords TraitNotUsed words = length words ≡ 1
HasWords AttributeIncorrectPlace words = length words ≡ 1
HasWords AttributeIncorrectFormat words = 0 < length words
HasWords ParameterReset words = length words ≡ 1
HasWords ExpectedValue words = length words ≡ 1
HasWords (ReuseARank rank) words = words ≡ []
HasWords UnitStructNeedName words = words ≡ []
HasWords UnitVariantNeedName words = words ≡ []
HasWords UnitEnumNeedName words = words ≡ []
HasWords MultipleDefaultVariants words = words ≡ []
HasWords NoDefaultVariant words = words ≡ []
HasWords Alloc words = words ≡ []
HasWords BadParts words = length words ≡ 1
HasWords NotGenerated words = words ≡ []
HasWords BadTable words = words ≡ []
HasWords BadValues words = words ≡ []
HasWords BadRows words = words ≡ []
HasWords OrdNotListed words = words ≡ []
HasWords MethodField words = length words ≡ 1
HasWords KeyUnknown words = words ≡ []

-- The first of the words.
abbrev pub first_word : List (List ℕ) → List ℕ
first_word [] = []
first_word (word ∷ lines) = word

-- The words behind the first: the lines that a message lists.
abbrev pub later_words : List (List ℕ) → List (List ℕ)
later_words [] = []
later_words (word ∷ lines) = lines

-- Each of these lines of bytes after a line feed and four spaces.
abbrev pub lines_below : List (List ℕ) → List ℕ
lines_below [] = []
lines_below (line ∷ lines) = codes "\n    " ++ (line ++ lines_below lines)

-- The names of the nine traits, each on a line of its own.
abbrev pub available_traits : List ℕ
available_traits = lines_below (codes "Debug" ∷ codes "Clone" ∷ codes "Copy" ∷ codes "PartialEq" ∷ codes "Eq" ∷ codes "PartialOrd" ∷ codes "Ord" ∷ codes "Hash" ∷ codes "Default" ∷ [])

-- The first word between two texts.
abbrev pub around : List ℕ → List (List ℕ) → List ℕ → List ℕ
around before words behind = before ++ (encode_utf8_all (first_word words) ++ behind)

-- The sentence about a malformed attribute of this name, and the forms that are allowed instead.
abbrev pub incorrect_format : List ℕ → List (List ℕ) → List ℕ
incorrect_format name lines = (codes "you are using an incorrect format of the `" ++ (name ++ codes "` attribute, which should be reformatted as follows:")) ++ lines_below (map encode_utf8_all lines)

-- The bytes of the message; out of memory has none.
abbrev pub message_of : Kind → List (List ℕ) → List ℕ
message_of Syntax words = codes "syntax error"
message_of TooDeep words = codes "nested too deeply"
message_of NotCarried words = around (codes "`") words (codes "` is not supported")
message_of DuplicateName words = around (codes "the name `") words (codes "` is defined more than once")
message_of DeriveAttributeNotSetUpYet words = codes "you are using `Educe` in the `derive` attribute, but it has not been set up yet"
message_of EduceFormatIncorrect words = incorrect_format (encode_utf8_all (first_word words)) (later_words words)
message_of UnsupportedTrait words = around (codes "unsupported trait `") words (codes "`, available traits:" ++ available_traits)
message_of ReuseATrait words = around (codes "the trait `") words (codes "` is used repeatedly")
message_of TraitNotUsed words = around (codes "the trait `") words (codes "` is not used")
message_of AttributeIncorrectPlace words = around (codes "the `") words (codes "` attribute cannot be placed here")
message_of AttributeIncorrectFormat words = incorrect_format (encode_utf8_all (first_word words)) (later_words words)
message_of ParameterReset words = around (codes "you are trying to reset the `") words (codes "` parameter")
message_of ExpectedValue words = encode_utf8_all (first_word words)
message_of (ReuseARank rank) words = codes "the rank `" ++ signed_decimal rank ++ codes "` is repeatedly used"
message_of UnitStructNeedName words = codes "a unit struct needs to have a name"
message_of UnitVariantNeedName words = codes "a unit variant which doesn't use an enum name needs to have a name"
message_of UnitEnumNeedName words = codes "a unit enum needs to have a name"
message_of MultipleDefaultVariants words = codes "multiple default variants are set"
message_of NoDefaultVariant words = codes "there is no variant set as default"
message_of Alloc words = []
message_of BadParts words = around (codes "expected the parts ") words []
message_of NotGenerated words = codes "the text is no generated text"
message_of BadTable words = codes "the table has no reading"
message_of BadValues words = codes "the values have no reading"
message_of BadRows words = codes "the rows have no reading"
message_of OrdNotListed words = codes "the trait `Ord` is not used"
message_of MethodField words = around (codes "the method `") words (codes "` is not known")
message_of KeyUnknown words = codes "the discriminant is not known"
