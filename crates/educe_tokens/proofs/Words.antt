-- What a word is, by its first character.
use Rattle.std.proofs.Common.{◌≡◌, ℕ, Bool, true, false, cond, IsTrue, List, [], ◌∷◌, refl, sym, ap, ◌∙◌, ⊎_elim, arith}
use Rattle.std.specs.Prelude.{◌==◌}
use Rattle.std.specs.Char.{is_ascii_digit}
use Rattle.std.proofs.lemmas.Bool.{or_cases, or_from, and_left, false≢true, cond-true}
use Rattle.std.proofs.lemmas.Bool.Decides.{nat_tests}
use Rattle.educe_tokens_pieces.specs.declared.kind.LiteralKind.TheVariants.{Int}
use Rattle.educe_tokens_pieces.specs.declared.kind.TokenKind.TheVariants.{Ident, Literal}
use Rattle.educe_tokens_pieces.specs.Chars.{begins}
use Rattle.educe_tokens_pieces.specs.Words.{is_raw_word}
use Rattle.educe_tokens_pieces.specs.Pieces.{spells, is_name_or_index}
use Rattle.educe_tokens.specs.Quote.{word_lexeme}
use Rattle.educe_tokens_pieces.proofs.Classes.{digit_no_word}
use Rattle.educe_tokens_pieces.proofs.NumberLaws.{int_begins}

-- a digit is no `r`
digit_no_r : (c : ℕ) → is_ascii_digit c ≡ true → (c == 114) ≡ false
digit_no_r c h = grind (arith, nat_tests)

-- a text that begins with a digit is no raw word
digit_no_raw_word : (c : ℕ) (cs : List ℕ) → is_ascii_digit c ≡ true → is_raw_word (c ∷ cs) ≡ false
digit_no_raw_word c [] h = refl
digit_no_raw_word c (d ∷ cs) h = let r = digit_no_r c h in rw r refl

-- a text that begins with a digit is no identifier
no_ident : (c : ℕ) (cs : List ℕ) → is_ascii_digit c ≡ true → spells Ident (c ∷ cs) ≡ false
no_ident c cs h = or_from _ _ (and_left _ _ (digit_no_word c h)) (digit_no_raw_word c cs h)

pub word_is_int : (text : List ℕ) → begins is_ascii_digit text ≡ true → (word_lexeme text).kind ≡ Literal Int
word_is_int [] h = absurd (false≢true h)
word_is_int (c ∷ cs) h = ap (λ b. cond b Ident (Literal Int)) (no_ident c cs h)

-- a word that begins with no digit is an identifier
pub word_is_ident : (text : List ℕ) → IsTrue (is_name_or_index text) → begins is_ascii_digit text ≡ false → (word_lexeme text).kind ≡ Ident
word_is_ident text h none = cond-true (spells Ident text) _ _ (⊎_elim (λ e. e) (λ e. absurd (false≢true (sym none ∙ int_begins text e))) (or_cases _ _ h))

-- a word spells the token that it is
pub word_spells : (text : List ℕ) → IsTrue (is_name_or_index text) → IsTrue (spells (word_lexeme text).kind text)
word_spells text h =
    let P : Bool → Type 0 = λ b. spells Ident text ≡ b → IsTrue (spells (cond b Ident (Literal Int)) text) in
    let split : (b : Bool) → P b = λ b. elim b as P [
      | true ↦ λ e. e
      | false ↦ λ e. ⊎_elim (λ w. absurd (false≢true (sym e ∙ w))) (λ i. i) (or_cases _ _ h)
    ] in
    split (spells Ident text) refl
