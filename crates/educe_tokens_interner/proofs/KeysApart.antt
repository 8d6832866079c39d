-- Equal keys are of equal tokens, spans and jointness aside.
use Rattle.std.proofs.Common.{◌≡◌, ℕ, zero, suc, Bool, true, false, List, [], ◌∷◌, ◌++◌, map, refl, ap, sym, ◌∙◌, append_assoc, append-nil}
use Rattle.std.specs.List.{flat_map}
use Rattle.educe_tokens.specs.Bracket.TheVariants.{Round, Square, Curly}
use Rattle.educe_tokens.specs.LiteralKind.TheVariants.{Int, Str, ByteStr, Char, Byte}
use Rattle.educe_tokens.specs.TokenKind.{TokenKind}
use Rattle.educe_tokens.specs.TokenKind.TheVariants as kind
use Rattle.educe_tokens.specs.declared.token.Token.{Token}
use Rattle.educe_tokens.specs.Lexes.{Lexeme}
use Rattle.educe_tokens.specs.Copied.{unjoined as kind_aside}
use Rattle.std.specs.Str.{bytes_eq}
use Rattle.std.proofs.lemmas.Slice.Eq.{bytes_eq-Decides}
use Rattle.educe_tokens.specs.Same.{lexeme_aside, lexemes_aside, AreSameTokens}
use Rattle.educe_tokens_interner.specs.Interned.{Tells}
use Rattle.educe_tokens_interner.specs.Keys.{kind_number, kind_char, word_key, token_key, tokens_key}

-- ---- keys read back

kind_from : ℕ → ℕ → TokenKind
kind_from zero c = kind.Ident
kind_from (suc zero) c = kind.Lifetime
kind_from (suc (suc zero)) c = kind.Literal Int
kind_from (suc (suc (suc zero))) c = kind.Literal Str
kind_from (suc (suc (suc (suc zero)))) c = kind.Literal ByteStr
kind_from (suc (suc (suc (suc (suc zero))))) c = kind.Literal Char
kind_from (suc (suc (suc (suc (suc (suc zero)))))) c = kind.Literal Byte
kind_from (suc (suc (suc (suc (suc (suc (suc zero))))))) c = kind.Punct c false
kind_from (suc (suc (suc (suc (suc (suc (suc (suc zero)))))))) c = kind.Start Round
kind_from (suc (suc (suc (suc (suc (suc (suc (suc (suc zero))))))))) c = kind.Start Square
kind_from (suc (suc (suc (suc (suc (suc (suc (suc (suc (suc zero)))))))))) c = kind.Start Curly
kind_from (suc (suc (suc (suc (suc (suc (suc (suc (suc (suc (suc zero))))))))))) c = kind.Stop Round
kind_from (suc (suc (suc (suc (suc (suc (suc (suc (suc (suc (suc (suc zero)))))))))))) c = kind.Stop Square
kind_from (suc (suc (suc (suc (suc (suc (suc (suc (suc (suc (suc (suc (suc zero))))))))))))) c = kind.Stop Curly
kind_from n c = kind.Doc

kind_back : (k : TokenKind) → kind_from (kind_number k) (kind_char k) ≡ kind_aside k
unfolding kind_from
kind_back kind.Ident = refl
kind_back kind.Lifetime = refl
kind_back (kind.Literal Int) = refl
kind_back (kind.Literal Str) = refl
kind_back (kind.Literal ByteStr) = refl
kind_back (kind.Literal Char) = refl
kind_back (kind.Literal Byte) = refl
kind_back (kind.Punct c joint) = refl
kind_back (kind.Start Round) = refl
kind_back (kind.Start Square) = refl
kind_back (kind.Start Curly) = refl
kind_back (kind.Stop Round) = refl
kind_back (kind.Stop Square) = refl
kind_back (kind.Stop Curly) = refl
kind_back kind.Doc = refl

mutual
  words_from : List ℕ → List Lexeme
  words_from [] = []
  words_from (n ∷ []) = []
  words_from (n ∷ c ∷ more) = text_from (kind_from n c) [] more

  text_from : TokenKind → List ℕ → List ℕ → List Lexeme
  text_from k text [] = []
  text_from k text (zero ∷ more) = record { kind = k; spelling = text } ∷ words_from more
  text_from k text (suc c ∷ more) = text_from k (text ++ c ∷ []) more

text_back : (k : TokenKind) (before text more : List ℕ) → text_from k before ((map suc text ++ 0 ∷ []) ++ more) ≡ record { kind = k; spelling = before ++ text } ∷ words_from more
unfolding words_from
text_back k before [] more = ap (λ (t : List ℕ). record { kind = k; spelling = t } ∷ words_from more) (sym (append-nil before))
text_back k before (c ∷ text) more =
    text_back k (before ++ c ∷ []) text more ∙ ap (λ (t : List ℕ). record { kind = k; spelling = t } ∷ words_from more) (append_assoc before (c ∷ []) text)

word_back : (k : TokenKind) (text more : List ℕ) → words_from (word_key k text ++ more) ≡ record { kind = kind_aside k; spelling = text } ∷ words_from more
unfolding words_from
word_back k text more =
    text_back (kind_from (kind_number k) (kind_char k)) [] text more ∙ ap (λ (x : TokenKind). record { kind = x; spelling = text } ∷ words_from more) (kind_back k)

words_back : (tokens : List Token) → words_from (tokens_key tokens) ≡ lexemes_aside tokens
unfolding token_key words_from
words_back [] = refl
words_back (t ∷ tokens) = word_back t.kind t.spelling (tokens_key tokens) ∙ ap (λ (more : List Lexeme). lexeme_aside t ∷ more) (words_back tokens)

-- ---- and written again

kind_number_aside : (k : TokenKind) → kind_number (kind_aside k) ≡ kind_number k
kind_number_aside (kind.Punct c joint) = refl
kind_number_aside kind.Ident = refl
kind_number_aside kind.Lifetime = refl
kind_number_aside (kind.Literal l) = refl
kind_number_aside (kind.Start b) = refl
kind_number_aside (kind.Stop b) = refl
kind_number_aside kind.Doc = refl

kind_char_aside : (k : TokenKind) → kind_char (kind_aside k) ≡ kind_char k
kind_char_aside (kind.Punct c joint) = refl
kind_char_aside kind.Ident = refl
kind_char_aside kind.Lifetime = refl
kind_char_aside (kind.Literal l) = refl
kind_char_aside (kind.Start b) = refl
kind_char_aside (kind.Stop b) = refl
kind_char_aside kind.Doc = refl

lexeme_key : Lexeme → List ℕ
lexeme_key l = word_key l.kind l.spelling

word_aside : (k : TokenKind) (text : List ℕ) → word_key (kind_aside k) text ≡ word_key k text
word_aside k text =
    ap (λ (n : ℕ). n ∷ kind_char (kind_aside k) ∷ (map suc text ++ 0 ∷ [])) (kind_number_aside k) ∙ ap (λ (c : ℕ). kind_number k ∷ c ∷ (map suc text ++ 0 ∷ [])) (kind_char_aside k)

lexemes_key : (tokens : List Token) → flat_map lexeme_key (lexemes_aside tokens) ≡ tokens_key tokens
unfolding token_key lexeme_key
lexemes_key [] = refl
lexemes_key (t ∷ tokens) =
    ap (λ (front : List ℕ). front ++ flat_map lexeme_key (lexemes_aside tokens)) (word_aside t.kind t.spelling) ∙ ap (λ (more : List ℕ). token_key t ++ more) (lexemes_key tokens)

-- ---- keys and tokens

-- lists of one key have the same tokens
pub same_tokens : (ts us : List Token) → tokens_key ts ≡ tokens_key us → lexemes_aside ts ≡ lexemes_aside us
same_tokens ts us same = sym (words_back ts) ∙ ap words_from same ∙ words_back us

-- lists of the same tokens have one key
pub same_key : (ts us : List Token) → lexemes_aside ts ≡ lexemes_aside us → tokens_key ts ≡ tokens_key us
same_key ts us same = sym (lexemes_key ts) ∙ ap (flat_map lexeme_key) same ∙ lexemes_key us

-- ---- answers

pub tells_if : {P : Type 0} (b : Bool) → (b ≡ true → P) → (P → b ≡ true) → Tells b P
tells_if true f g = f refl
tells_if false f g = λ p. (let e : ◌≡◌ {A = Bool} false true = g p in absurd (cc))

-- whether keys are equal tells whether the tokens are the same
pub tells_same : (b : Bool) (one other : List Token) (first second : List ℕ) → b ≡ bytes_eq first second → first ≡ tokens_key one → second ≡ tokens_key other → Tells b (AreSameTokens one other)
tells_same b one other first second is f s =
    tells_if b (λ h. same_tokens one other (sym f ∙ (bytes_eq-Decides first second).0 (sym is ∙ h) ∙ s))
    (λ same. is ∙ (bytes_eq-Decides first second).1 (f ∙ same_key one other same ∙ sym s))
