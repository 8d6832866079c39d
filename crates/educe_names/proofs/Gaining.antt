-- The words that are gathered are those of the tokens.
use Rattle.std.proofs.Common.{◌≡◌, ◌≢◌, ℕ, suc, ◌+◌, ◌<◌, ◌≤◌, inl, inr, ⊎_elim, ◌⊎◌, ◌↔◌, false, IsTrue, List, [], ◌∷◌, ◌++◌, length, drop, drop-cons, get_or, refl, sym, ap, ◌∙◌, subst, arith}
use Rattle.std.specs.Str.{bytes_eq}
use Rattle.std.proofs.lemmas.Bool.{or_cases, or_left, or_right, false≢true}
use Rattle.std.proofs.lemmas.List.{drop_all}
use Rattle.std.proofs.lemmas.List.Folds.{list_any-append}
use Rattle.std.proofs.lemmas.Slice.Eq.{bytes_eq-Decides}
use Rattle.educe_tokens.specs.declared.token.Token.{Token}
use Rattle.educe_tokens.specs.Lexes.{lexeme_of}
use Rattle.educe_tokens.specs.StringValue.{IsString, IsStringValue}
use Rattle.educe_tokens.specs.TokenKind.{TokenKind}
use Rattle.educe_tokens.specs.TokenKind.TheVariants as kind
use Rattle.educe_tree.specs.Names.{unraw}
use Rattle.educe_names.specs.Chosen.{is_held}
use Rattle.educe_names.specs.Held.{AreWordsOf, Gains, some_word}
use Rattle.educe_names.specs.Words.{IsRunOf, IsWordOf, HasWord}
use Rattle.educe_names.proofs.Having.{ident_word, lifetime_word, value_word, no_word}
use Rattle.educe_names.proofs.TextRuns.{runs_behind, runs_held}

-- ---- words behind others

-- what is held of two lists is held of one of them
held-append : (words more : List (List ℕ)) (word : List ℕ) → IsTrue (is_held (words ++ more) word) ↔ (IsTrue (is_held words word) ⊎ IsTrue (is_held more word))
held-append words more word =
    let same = list_any-append (λ w. bytes_eq w word) words more in (
      (λ h. or_cases (is_held words word) (is_held more word) (sym same ∙ h)),
      (λ h. same ∙ ⊎_elim (or_left (is_held words word) (is_held more word)) (or_right (is_held words word) (is_held more word)) h),
    )

-- one word
held_one : (own word : List ℕ) → IsTrue (is_held (own ∷ []) word) ↔ (own ≡ word)
held_one own word = (
  (λ h. ⊎_elim (λ e. (bytes_eq-Decides own word).0 e) (λ e. absurd (false≢true e)) (or_cases (bytes_eq own word) false h)),
  (λ e. or_left (bytes_eq own word) false ((bytes_eq-Decides own word).1 e)),
)

-- the words that are added are the new ones
gains_more : (New : List ℕ → Type 0) (before more after : List (List ℕ)) → after ≡ before ++ more → ((word : List ℕ) → IsTrue (is_held more word) ↔ New word) → Gains before after New
gains_more New before more after is tells word =
    let both = held-append before more word in (
      (λ h. ⊎_elim inl (λ m. inr ((tells word).0 m)) (both.0 (sym (ap (λ ws. is_held ws word) is) ∙ h))),
      (λ h. ap (λ ws. is_held ws word) is ∙ both.1 (⊎_elim inl (λ p. inr ((tells word).1 p)) h)),
    )

-- one word is
gains_one : (New : List ℕ → Type 0) (before after : List (List ℕ)) (own : List ℕ) → after ≡ before ++ own ∷ [] → ((word : List ℕ) → (own ≡ word) ↔ New word) → Gains before after New
gains_one New before after own is tells = gains_more New before (own ∷ []) after is (λ word. ((λ h. (tells word).0 ((held_one own word).0 h)), (λ p. (held_one own word).1 ((tells word).1 p))))

-- none is
gains_none : (New : List ℕ → Type 0) (before after : List (List ℕ)) → after ≡ before → ((word : List ℕ) → ¬ New word) → Gains before after New
gains_none New before after is none word = (
  (λ h. inl (sym (ap (λ ws. is_held ws word) is) ∙ h)),
  (λ h. ap (λ ws. is_held ws word) is ∙ ⊎_elim (λ e. e) (λ p. absurd (none word p)) h),
)

-- ---- the words of one token

-- whether a word is one of the token's
abbrev Own : Token → List ℕ → Type 0
Own token word = IsWordOf word (lexeme_of token)

pub ident_gains : (token : Token) (own : List ℕ) (before after : List (List ℕ)) → token.kind ≡ kind.Ident → own ≡ unraw token.spelling → after ≡ before ++ own ∷ [] → Gains before after (Own token)
ident_gains token own before after is_kind is adds = gains_one (Own token) before after own adds tells
  where
    told : (word : List ℕ) → Own token word ↔ (unraw token.spelling ≡ word)
    told word = subst (λ (k : TokenKind). IsWordOf word (record { kind = k; spelling = token.spelling }) ↔ (unraw token.spelling ≡ word)) (sym is_kind) (ident_word word token.spelling)

    tells : (word : List ℕ) → (own ≡ word) ↔ Own token word
    tells word = ((λ e. (told word).1 (sym is ∙ e)), (λ p. is ∙ (told word).0 p))

pub lifetime_gains : (token : Token) (before after : List (List ℕ)) → token.kind ≡ kind.Lifetime → Gains before after (λ word. token.spelling ≡ 39 ∷ word) → Gains before after (Own token)
lifetime_gains token before after is_kind gains word =
    let told = subst (λ (k : TokenKind). IsWordOf word (record { kind = k; spelling = token.spelling }) ↔ (token.spelling ≡ 39 ∷ word)) (sym is_kind) (lifetime_word word token.spelling) in (
      (λ h. ⊎_elim inl (λ e. inr (told.1 e)) ((gains word).0 h)),
      (λ h. (gains word).1 (⊎_elim inl (λ own. inr (told.0 own)) h)),
    )

pub value_gains : (token : Token) (value : List ℕ) (before after : List (List ℕ)) → IsStringValue (lexeme_of token) value → Gains before after (λ word. IsRunOf word value) → Gains before after (Own token)
value_gains token value before after holds gains word =
    let told = value_word word value (lexeme_of token) holds in (
      (λ h. ⊎_elim inl (λ own. inr (told.1 own)) ((gains word).0 h)),
      (λ h. (gains word).1 (⊎_elim inl (λ own. inr (told.0 own)) h)),
    )

pub other_gains : (token : Token) (words : List (List ℕ)) → ¬ IsString token.kind → token.kind ≢ kind.Ident → token.kind ≢ kind.Lifetime → Gains words words (Own token)
other_gains token words none no_ident no_lifetime = gains_none (Own token) words words refl (λ word. no_word word (lexeme_of token) none no_ident no_lifetime)

-- the name of a lifetime
pub name_gains : (text name : List ℕ) (before after : List (List ℕ)) → text ≡ 39 ∷ name → after ≡ before ++ name ∷ [] → Gains before after (λ word. text ≡ 39 ∷ word)
name_gains text name before after is adds =
    gains_one (λ word. text ≡ 39 ∷ word) before after name adds (λ word. ((λ e. is ∙ ap (λ cs. 39 ∷ cs) e), (λ e. ap (drop 1) (sym is ∙ e))))

-- a text that begins with no `'` has none
pub nameless_gains : (text : List ℕ) (words : List (List ℕ)) → ((name : List ℕ) → text ≢ 39 ∷ name) → Gains words words (λ word. text ≡ 39 ∷ word)
nameless_gains text words none = gains_none (λ word. text ≡ 39 ∷ word) words words refl none

-- the runs of a text
runs_gain : (text : List ℕ) (before after : List (List ℕ)) → after ≡ before ++ runs_behind [] text → Gains before after (λ word. IsRunOf word text)
runs_gain text before after adds = gains_more (λ word. IsRunOf word text) before (runs_behind [] text) after adds (runs_held text)

-- the last of them is added where no character is left
pub runs_end : (text : List ℕ) (i : ℕ) (run : List ℕ) (before now after : List (List ℕ)) → length text ≤ i → now ++ runs_behind run (drop i text) ≡ before ++ runs_behind [] text → after ≡ now ++ some_word run
    → Gains before after (λ word. IsRunOf word text)
runs_end text i run before now after past is adds =
    runs_gain text before after (adds ∙ sym (ap (λ rest. now ++ runs_behind run rest) (drop_all i text past)) ∙ is)

-- ---- the words of tokens

-- the words are those of the tokens before the rest
abbrev pub Tells : List Token → List Token → List (List ℕ) → Type 0
Tells tokens rest words = (word : List ℕ) → HasWord tokens word ↔ (IsTrue (is_held words word) ⊎ HasWord rest word)

pub tells-start : (tokens : List Token) → Tells tokens tokens []
tells-start tokens word = (inr, (λ h. ⊎_elim (λ e. absurd (false≢true e)) (λ t. t) h))

pub tells-more : (tokens : List Token) (i : ℕ) (t : Token) (words after : List (List ℕ)) → i < length tokens → t ≡ get_or tokens i t → Tells tokens (drop i tokens) words → Gains words after (Own t)
    → Tells tokens (drop (i + 1) tokens) after
tells-more tokens i t words after inside is tells gains word =
    let place : suc i ≡ i + 1 = omega arith in
    let rest : drop i tokens ≡ t ∷ drop (i + 1) tokens = drop-cons tokens i t inside ∙ ap (λ x. x ∷ drop (suc i) tokens) (sym is) ∙ ap (λ n. t ∷ drop n tokens) place in (
      (λ has. ⊎_elim (λ h. inl ((gains word).1 (inl h))) (λ there. ⊎_elim (λ own. inl ((gains word).1 (inr own))) inr (subst (λ ts. HasWord ts word) rest there)) ((tells word).0 has)),
      (λ h. (tells word).1 (⊎_elim (λ e. ⊎_elim inl (λ own. inr (subst (λ ts. HasWord ts word) (sym rest) (inl own))) ((gains word).0 e)) (λ there. inr (subst (λ ts. HasWord ts word) (sym rest) (inr there))) h)),
    )

pub tells-end : (tokens : List Token) (i : ℕ) (words : List (List ℕ)) → length tokens ≤ i → Tells tokens (drop i tokens) words → AreWordsOf tokens words
tells-end tokens i words past tells word = (
  (λ h. (tells word).1 (inl h)),
  (λ has. ⊎_elim (λ h. h) (λ there. absurd (subst (λ ts. HasWord ts word) (drop_all i tokens past) there)) ((tells word).0 has)),
)
