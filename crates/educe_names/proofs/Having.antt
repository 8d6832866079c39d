-- Which words a token has, by its kind.
use Rattle.std.proofs.Common.{◌≡◌, ◌≢◌, ℕ, zero, suc, ◌<◌, ◌≤◌, inl, inr, ⊎_elim, ◌↔◌, Bool, IsTrue, Result, Ok, Err, List, [], ◌∷◌, ◌++◌, length, drop, get_or, refl, sym, ap, ◌∙◌, subst, arith, chars, encode_utf8_all, IsUtf8}
use Rattle.std.specs.Prelude.{IfOk}
use Rattle.std.specs.Char.{encode_utf8}
use Rattle.std.specs.Str.{bytes_eq}
use Rattle.std.proofs.lemmas.Slice.Eq.{bytes_eq-Decides}
use Rattle.std.proofs.lemmas.Str.{chars_past_char, encodes-chars, encode_ascii}
use Rattle.educe_tokens.specs.TokenKind.{TokenKind}
use Rattle.educe_tokens.specs.TokenKind.TheVariants.{Ident, Lifetime, Literal, Punct, Start, Stop, Doc}
use Rattle.educe_tokens.specs.declared.token.Token.{Token}
use Rattle.educe_tokens.specs.Lexes.{Lexeme, lexeme_of}
use Rattle.educe_tokens.specs.StringValue.{IsString, IsStringValue}
use Rattle.educe_tree.specs.Names.{unraw}
use Rattle.educe_names.specs.Words.{IsRunOf, IsWordOf, ident, lifetime, run, HasWord}
use Rattle.educe_tree.specs.TokenLaws.{lawful_values}

-- the value of the token has the word as a run
record HasRun (word : List ℕ) (token : Lexeme) : Type 0 where
  value : List ℕ
  holds : IsStringValue token value
  own : IsRunOf word value

-- what it means, for each kind, that the word is one of the token's
abbrev Means : TokenKind → List ℕ → Lexeme → Type 0
Means Ident word token = unraw token.spelling ≡ word
Means Lifetime word token = token.spelling ≡ 39 ∷ word
Means (Literal kind) word token = HasRun word token
Means (Punct c joint) word token = HasRun word token
Means (Start bracket) word token = HasRun word token
Means (Stop bracket) word token = HasRun word token
Means Doc word token = HasRun word token

-- a string or documentation has a run
means_run : (kind : TokenKind) (word : List ℕ) (token : Lexeme) → IsString kind → HasRun word token → Means kind word token
means_run kind word token IsString.str has = has
means_run kind word token IsString.doc has = has

-- the meaning
word_means : (word : List ℕ) (token : Lexeme) → IsWordOf word token → Means token.kind word token
word_means word token (ident text) = refl
word_means word token (lifetime w) = refl
word_means word token (run w value t holds own) = means_run t.kind w t (lawful_values.kind t value holds) (record { value = value; holds = holds; own = own })

-- the words of a name
pub ident_word : (word text : List ℕ) → IsWordOf word (record { kind = Ident; spelling = text }) ↔ (unraw text ≡ word)
ident_word word text = (
  (λ h. word_means word (record { kind = Ident; spelling = text }) h),
  (λ same. subst (λ w. IsWordOf w (record { kind = Ident; spelling = text })) same (ident text)),
)

-- the words of a lifetime
pub lifetime_word : (word text : List ℕ) → IsWordOf word (record { kind = Lifetime; spelling = text }) ↔ (text ≡ 39 ∷ word)
lifetime_word word text = (
  (λ h. word_means word (record { kind = Lifetime; spelling = text }) h),
  (λ same. subst (λ t. IsWordOf word (record { kind = Lifetime; spelling = t })) (sym same) (lifetime word)),
)

-- the words of a token with a value are its runs
pub value_word : (word value : List ℕ) (token : Lexeme) → IsStringValue token value → IsWordOf word token ↔ IsRunOf word value
value_word word value token holds = (
  (λ h. by_kind token.kind (lawful_values.kind token value holds) (word_means word token h)),
  (λ own. run word value token holds own),
)
  where
    runs : HasRun word token → IsRunOf word value
    runs has = subst (IsRunOf word) (lawful_values.one_value token has.value value has.holds holds) has.own

    by_kind : (kind : TokenKind) → IsString kind → Means kind word token → IsRunOf word value
    by_kind kind IsString.str means = runs means
    by_kind kind IsString.doc means = runs means

-- other tokens have none
pub no_word : (word : List ℕ) (token : Lexeme) → ¬ IsString token.kind → token.kind ≢ Ident → token.kind ≢ Lifetime → ¬ IsWordOf word token
no_word word token none no_ident no_lifetime h = by_kind token.kind none no_ident no_lifetime (λ has. none (lawful_values.kind token has.value has.holds)) (word_means word token h)
  where
    by_kind : (kind : TokenKind) → ¬ IsString kind → kind ≢ Ident → kind ≢ Lifetime → ¬ HasRun word token → Means kind word token → ⊥
    by_kind Ident none a b runs means = a refl
    by_kind Lifetime none a b runs means = b refl
    by_kind (Literal kind) none a b runs means = runs means
    by_kind (Punct c joint) none a b runs means = runs means
    by_kind (Start bracket) none a b runs means = runs means
    by_kind (Stop bracket) none a b runs means = runs means
    by_kind Doc none a b runs means = runs means

-- a token of the list has the word
pub has_word-at : (tokens : List Token) (i : ℕ) (t : Token) (word : List ℕ) → i < length tokens → t ≡ get_or tokens i t → IsWordOf word (lexeme_of t) → HasWord tokens word
has_word-at [] i t word inside is own = absurd (omega arith)
has_word-at (u ∷ tokens) zero t word inside is own = inl (subst (λ x. IsWordOf word (lexeme_of x)) is own)
has_word-at (u ∷ tokens) (suc i) t word inside is own = inr (has_word-at tokens i t word (omega arith) is own)

-- a token without the word may be left out
pub has_word-past : (tokens : List Token) (i : ℕ) (t : Token) (word : List ℕ) → i < length tokens → t ≡ get_or tokens i t
    → ¬ IsWordOf word (lexeme_of t) → HasWord (drop i tokens) word → HasWord (drop (suc i) tokens) word
has_word-past [] i t word inside is none has = absurd (omega arith)
has_word-past (u ∷ tokens) zero t word inside is none has = ⊎_elim (λ here. absurd (none (subst (λ x. IsWordOf word (lexeme_of x)) (sym is) here))) (λ there. there) has
has_word-past (u ∷ tokens) (suc i) t word inside is none has = has_word-past tokens i t word (omega arith) is none has

-- no token is left behind the last
pub has_word-end : (tokens : List Token) (i : ℕ) (word : List ℕ) → length tokens ≤ i → ¬ HasWord (drop i tokens) word
has_word-end [] zero word past has = has
has_word-end [] (suc i) word past has = has
has_word-end (u ∷ tokens) zero word past has = absurd (omega arith)
has_word-end (u ∷ tokens) (suc i) word past has = has_word-end tokens i word (omega arith) has

-- ---- what the tests tell

-- a text is determined by its bytes
same_text : (a b text : List ℕ) (found : Bool) → found ≡ bytes_eq a b → chars a ≡ text → a ≡ encode_utf8_all text → IsUtf8 b → IsTrue found ↔ (text ≡ chars b)
same_text a b text found is spelled bytes utf8 = (
  (λ h. sym spelled ∙ ap chars ((bytes_eq-Decides a b).0 (sym is ∙ h))),
  (λ e. is ∙ (bytes_eq-Decides a b).1 (bytes ∙ ap encode_utf8_all e ∙ encodes-chars b utf8)),
)

-- a name is determined by its text
pub ident_tells : (token : Token) (a b : List ℕ) (found : Bool) → token.kind ≡ Ident → found ≡ bytes_eq a b → chars a ≡ unraw token.spelling → a ≡ encode_utf8_all (unraw token.spelling) → IsUtf8 b
    → IsTrue found ↔ IsWordOf (chars b) (lexeme_of token)
ident_tells token a b found kind is spelled bytes utf8 =
    let told = same_text a b (unraw token.spelling) found is spelled bytes utf8 in
    let word : IsWordOf (chars b) (lexeme_of token) ↔ (unraw token.spelling ≡ chars b) =
    subst (λ (k : TokenKind). IsWordOf (chars b) (record { kind = k; spelling = token.spelling }) ↔ (unraw token.spelling ≡ chars b)) (sym kind) (ident_word (chars b) token.spelling) in
    ((λ h. word.1 (told.0 h)), (λ h. told.1 (word.0 h)))

-- a lifetime is determined by its text
pub lifetime_tells : (token : Token) (word : List ℕ) (found : Bool) → token.kind ≡ Lifetime → IsTrue found ↔ (token.spelling ≡ 39 ∷ word) → IsTrue found ↔ IsWordOf word (lexeme_of token)
lifetime_tells token word found kind told =
    let own : IsWordOf word (lexeme_of token) ↔ (token.spelling ≡ 39 ∷ word) =
    subst (λ (k : TokenKind). IsWordOf word (record { kind = k; spelling = token.spelling }) ↔ (token.spelling ≡ 39 ∷ word)) (sym kind) (lifetime_word word token.spelling) in
    ((λ h. own.1 (told.0 h)), (λ h. told.1 (own.0 h)))

-- the name behind a `'` is determined by its text
pub behind_mark : (bytes name word text : List ℕ) (found : Bool) → IsUtf8 bytes → chars bytes ≡ text → bytes ≡ encode_utf8_all text → bytes ≡ 39 ∷ name → IsUtf8 word → found ≡ bytes_eq name word
    → IsTrue found ↔ (text ≡ 39 ∷ chars word)
behind_mark bytes name word text found utf8 spelled encoded mark own is =
    let first : bytes ≡ encode_utf8 39 ++ name = mark ∙ sym (ap (λ c. c ++ name) (encode_ascii 39 (omega arith))) in
    let whole : text ≡ 39 ∷ chars name = sym spelled ∙ chars_past_char bytes name 39 utf8 first in (
      (λ h. whole ∙ ap (λ bs. 39 ∷ chars bs) ((bytes_eq-Decides name word).0 (sym is ∙ h))),
      (λ e.
          let other : bytes ≡ 39 ∷ word = encoded ∙ ap encode_utf8_all e ∙ ap (λ c. c ++ encode_utf8_all (chars word)) (encode_ascii 39 (omega arith)) ∙ ap (λ bs. 39 ∷ bs) (encodes-chars word own) in
          let same : 39 ∷ name ≡ 39 ∷ word = sym mark ∙ other in
          is ∙ (bytes_eq-Decides name word).1 (ap (drop 1) same)),
    )

-- a string or documentation is determined by its runs
pub value_tells : {E : Type 0} (token : Token) (word value : List ℕ) (r : Result Bool E) → IsStringValue (lexeme_of token) value → IfOk r (λ found. IsTrue found ↔ IsRunOf word value)
    → IfOk r (λ found. IsTrue found ↔ IsWordOf word (lexeme_of token))
value_tells token word value (Ok found) holds told = let own = value_word word value (lexeme_of token) holds in ((λ h. own.1 (told.0 h)), (λ h. told.1 (own.0 h)))
value_tells token word value (Err e) holds told = tt
