-- The values of each kind that tokens are, and the values that parameters have (documentation of `educe`, Traits).
use Rattle.std.specs.Prelude.{◌≡◌, ℕ, ℤ, pos, neg_ℤ, ◌<◌, ◌≤◌, ◌^◌, Bool, true, false, IsTrue, List, [], ◌∷◌, drop, length, encode_utf8_all, Option, Some, None}
use Rattle.std.specs.Str.Parse.{IsNumeral, digits_value, starts_with_minus, without_leading_plus}
use Rattle.educe_tokens.specs.declared.span.TheConstants.{SOURCE_LIMIT}
use Rattle.educe_tokens.specs.declared.token.Token.{Token}
use Rattle.educe_tokens.specs.IntValue.{int_value}
use Rattle.educe_tokens.specs.Lexes.{lexeme_of}
use Rattle.educe_tokens.specs.Steps.{IsReading}
use Rattle.educe_syntax.specs.Expressions.{expr_path, expression}
use Rattle.educe_syntax.specs.GenericParams.{predicates}
use Rattle.educe_syntax.specs.Ident.{Ident}
use Rattle.educe_syntax.specs.Meta.{Meta}
use Rattle.educe_syntax.specs.Names.{name}
use Rattle.educe_syntax.specs.Parsed.{IsWhole}
use Rattle.educe_syntax.specs.Rules.{Rule}
use Rattle.educe_syntax.specs.Terminal.TheVariants.{Sign}
use Rattle.educe_syntax.specs.Terminals.{accepts}
use Rattle.educe_syntax.specs.WherePredicate.{WherePredicate}
use Rattle.educe_syntax.specs.Words.{IsOneWord}
use Rattle.educe_attrs_values.specs.declared.choices.IdentOrBool.{IdentOrBool}
use Rattle.educe_attrs_values.specs.declared.choices.IdentOrBool.TheVariants as named
use Rattle.educe_attrs_values.specs.declared.choices.WherePredicatesOrBool.{WherePredicatesOrBool}
use Rattle.educe_attrs_values.specs.declared.choices.WherePredicatesOrBool.TheVariants as bound
use Rattle.educe_attrs_values.specs.declared.kind.ValueKind.{ValueKind}
use Rattle.educe_attrs_values.specs.declared.kind.ValueKind.TheVariants as kind
use Rattle.educe_attrs_values.specs.declared.source.Source.{Source}
use Rattle.educe_attrs_values.specs.Kinds.{ValueOf, bare}
use Rattle.educe_attrs_values.specs.Sources.{value_source}
use Rattle.educe_attrs_values.specs.Texts.{only_text}
use Rattle.educe_attrs_values.specs.Words.{truth_word}

-- ---- integers

-- The text, given in bytes, is an optional sign and at least one decimal digit, and writes this number, from -2^63 to
-- 2^63 - 1.
pub data IsDecimal (text : List ℕ) : ℤ → Type 0 where
  plain : starts_with_minus text ≡ false → IsNumeral 10 (without_leading_plus text) → digits_value 10 (without_leading_plus text) < 2 ^ 63
      → IsDecimal text (pos (digits_value 10 (without_leading_plus text)))
  negated : starts_with_minus text ≡ true → IsNumeral 10 (drop 1 text) → digits_value 10 (drop 1 text) ≤ 2 ^ 63
      → IsDecimal text (neg_ℤ (pos (digits_value 10 (drop 1 text))))

-- The tokens are an integer literal, `-` and a literal, or a string of a decimal number; the number is from -2^63 to
-- 2^63 - 1.
pub data IsInteger : List Token → ℤ → Type 0 where
  plain : (number : Token) (n : ℕ) → int_value (lexeme_of number) ≡ Some n → n < 2 ^ 63 → IsInteger (number ∷ []) (pos n)
  negated : (minus number : Token) (n : ℕ) → IsTrue (accepts (Sign 45) minus) → int_value (lexeme_of number) ≡ Some n → n ≤ 2 ^ 63
      → IsInteger (minus ∷ number ∷ []) (neg_ℤ (pos n))
  quoted : (tokens : List Token) (text : List ℕ) (n : ℤ) → only_text tokens ≡ Some text → IsDecimal (encode_utf8_all text) n → IsInteger tokens n

-- ---- values by a rule

-- The text has this value by the rule: it is no longer than a source, and its tokens are the value.
pub record ReadsText {A : Type 0} (g : Rule A) (text : List ℕ) (x : A) : Type 0 where
  pub within : length (encode_utf8_all text) ≤ SOURCE_LIMIT
  pub inner : List Token
  pub reading : IsReading text inner
  pub whole : IsWhole g inner x

-- The value is that of the text by the rule, where the tokens are a string; else that of the tokens.
abbrev pub ReadsBy : {A : Type 0} → Rule A → Option (List ℕ) → List Token → A → Type 0
ReadsBy g None tokens x = IsWhole g tokens x
ReadsBy g (Some text) tokens x = ReadsText g text x

-- The text of the one string that the tokens are is the value by the rule; without such a string, the tokens are.
abbrev pub ReadsPlain : {A : Type 0} → Rule A → List Token → A → Type 0
ReadsPlain g tokens x = ReadsBy g (only_text tokens) tokens x

-- ---- names and bounds

-- The tokens are `true` or `false`.
abbrev pub IsTruth : List Token → Type 0
IsTruth tokens = (b : Bool) × IsOneWord tokens (truth_word b)

-- A truth value; an empty string, which means `false`; or else a name, or a string of one.
pub data IsName (tokens : List Token) : IdentOrBool → Type 0 where
  truth : (b : Bool) → IsOneWord tokens (truth_word b) → IsName tokens (named.Bool b)
  empty : only_text tokens ≡ Some [] → IsName tokens (named.Bool false)
  ident : (x : Ident) → ¬ IsTruth tokens → ¬ (only_text tokens ≡ Some []) → ReadsPlain name tokens x → IsName tokens (named.Ident x)

-- The tokens are `*`.
abbrev pub IsStar : List Token → Type 0
IsStar tokens = (star : Token) × (tokens ≡ star ∷ []) × IsTrue (accepts (Sign 42) star)

-- A truth value; `*` in brackets; or else predicates in brackets, or a string of predicates.
pub data IsBound (s : Source) : WherePredicatesOrBool → Type 0 where
  truth : (b : Bool) → IsOneWord s.tokens (truth_word b) → IsBound s (bound.Bool b)
  all : IsTrue s.enclosed → IsStar s.tokens → IsBound s bound.All
  quoted : (text : List ℕ) (found : List WherePredicate) → only_text s.tokens ≡ Some text → ReadsText predicates text found → IsBound s (bound.WherePredicates found)
  standing : (found : List WherePredicate) → IsTrue s.enclosed → ¬ IsTruth s.tokens → ¬ IsStar s.tokens → only_text s.tokens ≡ None → IsWhole predicates s.tokens found
      → IsBound s (bound.WherePredicates found)

-- ---- values of each kind

-- The tokens are this value of the kind.
abbrev pub Reads : (k : ValueKind) → Source → ValueOf k → Type 0
Reads kind.Ident s x = ReadsPlain name s.tokens x
Reads kind.Name s x = IsName s.tokens x
Reads kind.Truth s b = IsOneWord s.tokens (truth_word b)
Reads kind.Flag s b = IsOneWord s.tokens (truth_word b)
Reads kind.Path s x = ReadsPlain expr_path s.tokens x
Reads kind.Integer s n = IsInteger s.tokens n
Reads kind.Expr s x = IsWhole expression s.tokens x
Reads kind.Bound s x = IsBound s x

-- The tokens are no value of the kind.
abbrev pub HasNoValue : ValueKind → Source → Type 0
HasNoValue k s = (v : ValueOf k) → Reads k s v → ⊥

-- The value is that of these tokens, if there are any; else what the parameter alone means.
abbrev pub HoldsAmong : (k : ValueKind) → Option Source → ValueOf k → Type 0
HoldsAmong k None v = bare k ≡ Some v
HoldsAmong k (Some s) v = Reads k s v

-- The parameter has this value of the kind.
abbrev pub Holds : (k : ValueKind) → Meta → ValueOf k → Type 0
Holds k meta v = HoldsAmong k (value_source meta) v
