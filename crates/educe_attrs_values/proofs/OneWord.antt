-- Truth values, strings and `*`.
use Rattle.std.proofs.Common.{◌≡◌, ℕ, true, false, List, [], ◌∷◌, length, codes, refl, sym, subst, ◌∙◌, ap, Option, Some, None}
use Rattle.std.specs.Prelude.{Bool, if◌then◌else◌, ◌==◌}
use Rattle.std.proofs.lemmas.Bool.{false≢true}
use Rattle.educe_tokens.specs.LiteralKind.TheVariants.{Str}
use Rattle.educe_tokens.specs.TokenKind.{TokenKind}
use Rattle.educe_tokens.specs.TokenKind.TheVariants as kind
use Rattle.educe_tokens.specs.declared.token.Token.{Token}
use Rattle.educe_syntax.specs.Words.{IsOneWord}
use Rattle.educe_syntax.specs.Terminal.TheVariants.{Sign}
use Rattle.educe_syntax.specs.Terminals.{accepts, set_of, token_in}
use Rattle.educe_bound_traits.proofs.OneWord.{one_word_to, one_word_from, one_text}
use Rattle.educe_attrs_values.specs.Readings.{truth_in, is_star}
use Rattle.educe_attrs_values.specs.Texts.{only_text}
use Rattle.educe_attrs_values.specs.Values.{IsTruth, IsStar}
use Rattle.educe_bound_traits.specs.OneWord.{is_one_word}
use Rattle.educe_attrs_values.specs.Words.{truth_word}
use Rattle.educe_attrs_values.proofs.Texts.{only_string}

-- `true` is not `false`
words_differ : (tokens : List Token) → IsOneWord tokens (codes "true") → IsOneWord tokens (codes "false") → ⊥
words_differ tokens h k =
    let same : length (codes "true") ≡ length (codes "false") = ap length (one_text tokens (codes "true") (codes "false") h k) in
    false≢true (ap (λ n. n == 5) same)

-- ---- truth values

truth_by : (tokens : List Token) (t f : Bool) → is_one_word (codes "true") tokens ≡ t → is_one_word (codes "false") tokens ≡ f
    → (b : Bool) → (if t then Some true else if f then Some false else None) ≡ Some b → IsOneWord tokens (truth_word b)
truth_by tokens true f is_true is_false b h = let same : true ≡ b = cc in subst (λ b. IsOneWord tokens (truth_word b)) same (one_word_to (codes "true") tokens is_true)
truth_by tokens false true is_true is_false b h = let same : false ≡ b = cc in subst (λ b. IsOneWord tokens (truth_word b)) same (one_word_to (codes "false") tokens is_false)
truth_by tokens false false is_true is_false b h = absurd (cc)

-- the truth value is a word of the tokens
pub truth_is : (tokens : List Token) (b : Bool) → truth_in tokens ≡ Some b → IsOneWord tokens (truth_word b)
truth_is tokens b h = truth_by tokens (is_one_word (codes "true") tokens) (is_one_word (codes "false") tokens) refl refl b h

truth_to : (tokens : List Token) (t f : Bool) → is_one_word (codes "true") tokens ≡ t → is_one_word (codes "false") tokens ≡ f
    → (b : Bool) → IsOneWord tokens (truth_word b) → (if t then Some true else if f then Some false else None) ≡ Some b
truth_to tokens true f is_true is_false true h = refl
truth_to tokens true f is_true is_false false h = absurd (words_differ tokens (one_word_to (codes "true") tokens is_true) h)
truth_to tokens false f is_true is_false true h = absurd (false≢true (sym is_true ∙ one_word_from (codes "true") tokens h))
truth_to tokens false true is_true is_false false h = refl
truth_to tokens false false is_true is_false false h = absurd (false≢true (sym is_false ∙ one_word_from (codes "false") tokens h))

-- such a word is read
pub truth_read : (tokens : List Token) (b : Bool) → IsOneWord tokens (truth_word b) → truth_in tokens ≡ Some b
truth_read tokens b h = truth_to tokens (is_one_word (codes "true") tokens) (is_one_word (codes "false") tokens) refl refl b h

-- no truth value is read where there is none
pub truth_none : (tokens : List Token) → ¬ IsTruth tokens → truth_in tokens ≡ None
truth_none tokens none = by (truth_in tokens) refl
  where
    by : (o : Option Bool) → truth_in tokens ≡ o → truth_in tokens ≡ None
    by None is = is
    by (Some b) is = absurd (none (b, truth_is tokens b is))

-- there is no truth value where none is read
pub no_truth : (tokens : List Token) → truth_in tokens ≡ None → ¬ IsTruth tokens
no_truth tokens none t = let some : Some t.0 ≡ None = sym (truth_read tokens t.0 t.1) ∙ none in cc

-- ---- strings and `*`

-- one word is an identifier
word_kind_is : (tokens : List Token) (t : Token) → tokens ≡ t ∷ [] → IsTruth tokens → t.kind ≡ kind.Ident
word_kind_is tokens t is truth = let at : IsOneWord (t ∷ []) (truth_word truth.0) = subst (λ ts. IsOneWord ts (truth_word truth.0)) is truth.1 in at.0

-- a string is no truth value
pub string_no_truth : (tokens : List Token) (text : List ℕ) → only_text tokens ≡ Some text → truth_in tokens ≡ None
string_no_truth tokens text h =
    let one = only_string tokens text h in
    truth_none tokens (λ truth. let same : kind.Ident ≡ kind.Literal Str = sym (word_kind_is tokens one.0 one.1 truth) ∙ one.2 in cc)

-- a token of such a kind is no `*`
no_sign : (t : Token) (k : TokenKind) → t.kind ≡ k → token_in (set_of (Sign 42)) k t.spelling ≡ false → accepts (Sign 42) t ≡ false
unfolding accepts
no_sign t k is h = ap (λ k. token_in (set_of (Sign 42)) k t.spelling) is ∙ h

-- a string is no `*`
pub string_no_star : (tokens : List Token) (text : List ℕ) → only_text tokens ≡ Some text → is_star tokens ≡ false
string_no_star tokens text h = let one = only_string tokens text h in ap is_star one.1 ∙ no_sign one.0 (kind.Literal Str) one.2 refl

-- the tokens are `*` where the test says so
pub star_is : (tokens : List Token) → is_star tokens ≡ true → IsStar tokens
star_is [] h = absurd (cc)
star_is (t ∷ []) h = (t, refl, h)
star_is (t ∷ u ∷ ts) h = absurd (cc)

pub star_read : (tokens : List Token) → IsStar tokens → is_star tokens ≡ true
star_read tokens star = ap is_star star.1 ∙ star.2

-- the token `*` is no truth value
pub star_no_truth : (tokens : List Token) → IsStar tokens → truth_in tokens ≡ None
star_no_truth tokens star =
    truth_none tokens (λ truth. false≢true (sym (no_sign star.0 kind.Ident (word_kind_is tokens star.0 star.1 truth) refl) ∙ star.2))

pub star_none : (tokens : List Token) → ¬ IsStar tokens → is_star tokens ≡ false
star_none tokens none = by (is_star tokens) refl
  where
    by : (b : Bool) → is_star tokens ≡ b → is_star tokens ≡ false
    by false is = is
    by true is = absurd (none (star_is tokens is))
