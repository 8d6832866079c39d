-- Lists of tokens that any value may be printed as: they may stand side by side, and their text lexes as them.
use Rattle.std.proofs.Common.{◌≡◌, ℕ, Bool, true, false, ◌&&◌, IsTrue, List, [], ◌∷◌, ◌++◌, refl, sym, ◌∙◌, subst, arith, ⊎_elim}
use Rattle.std.specs.List.{list_all, flat_map}
use Rattle.std.proofs.lemmas.Bool.{or_cases, and_parts, and_from, false≢true}
use Rattle.std.proofs.lemmas.List.Folds.{list_all-append}
use Rattle.educe_tokens_pieces.specs.declared.kind.Bracket.{Bracket}
use Rattle.educe_tokens_pieces.specs.declared.kind.Bracket.TheVariants.{Round, Square, Curly}
use Rattle.educe_tokens_pieces.specs.declared.kind.TokenKind.TheVariants.{Ident, Start, Stop}
use Rattle.educe_tokens.specs.declared.word.Word.{Word}
use Rattle.educe_tokens.specs.declared.written.Written.{Written}
use Rattle.educe_tokens_pieces.specs.Pieces.{opener, closer, spells}
use Rattle.educe_tokens.specs.Lexes.{Lexeme, lexemes}
use Rattle.educe_tokens.specs.Brackets.{kinds}
use Rattle.educe_tokens.specs.Text.{IsWellFormed, is_well_formed, ends_apart, is_written}
use Rattle.educe_tokens.specs.Quote.{is_name_start, is_template_word, is_template, template_words, word_lexeme, word_lexemes, quoted}
use Rattle.educe_tokens.specs.ToTokens.{EndsApart, LexesBack}
use Rattle.educe_tokens.specs.WrittenLexemes.{written_lexemes}
use Rattle.educe_tokens.proofs.Copying.{written-copied, copied_spelled}
use Rattle.educe_tokens.proofs.Tokens.{is_lexeme, tokens_spelled}
use Rattle.educe_tokens.proofs.TextLexes.{text_of_lexes}
use Rattle.educe_tokens.proofs.Writing.{written_joins, written-one, written-word, written-append, written-brackets}
use Rattle.educe_tokens.proofs.Words.{word_spells}
use Rattle.educe_tokens.proofs.Quoting.{named, marked, paired}

-- the tokens may stand side by side with others, and each is spelled as its kind
pub record IsPrintable (found : List Lexeme) : Type 0 where
  pub written : IsTrue (is_written found)
  pub spelled : list_all is_lexeme found ≡ true

-- ---- what follows

-- the brackets close, and each token may stand before the next
pub well_formed_from : {found : List Lexeme} → IsPrintable found → IsWellFormed found
well_formed_from {found = found} h = (and_parts (is_well_formed found) (ends_apart (kinds found)) h.written).0

-- the last token is not joint
pub ends_apart_from : {found : List Lexeme} → IsPrintable found → EndsApart found
ends_apart_from {found = found} h = (and_parts (is_well_formed found) (ends_apart (kinds found)) h.written).1

-- the text lexes as the tokens
pub lexes_back_from : {found : List Lexeme} → IsPrintable found → LexesBack found
lexes_back_from {found = found} h = text_of_lexes found h.spelled (written_joins found h.written)

-- ---- which lists are printable

-- no tokens
pub printable-nil : IsPrintable []
printable-nil = record { written = refl; spelled = refl }

-- tokens as they were written
pub printable-written : (written : Written) → IsPrintable (written_lexemes written)
printable-written written = record {
  written = written-copied (lexemes written.tokens) written.written;
  spelled = copied_spelled (lexemes written.tokens) ∙ tokens_spelled written.tokens;
}

-- one identifier
pub printable-ident : (text : List ℕ) → IsTrue (spells Ident text) → IsPrintable (record { kind = Ident; spelling = text } ∷ [])
printable-ident text h = record { written = written-one Ident text refl; spelled = and_from _ _ h refl }

-- the one token that a word is
pub printable-word : (word : Word) → IsPrintable (word_lexeme word.text ∷ [])
printable-word word = record { written = written-word word.text; spelled = and_from _ _ (word_spells word.text word.spelled) refl }

-- one list behind another
pub printable-append : (xs ys : List Lexeme) → IsPrintable xs → IsPrintable ys → IsPrintable (xs ++ ys)
printable-append xs ys x y = record {
  written = written-append xs ys x.written y.written;
  spelled = list_all-append is_lexeme xs ys ∙ and_from _ _ x.spelled y.spelled;
}

-- an opening bracket is spelled as one
opener_spelled : (b : Bracket) → spells (Start b) (opener b ∷ []) ≡ true
opener_spelled Round = refl
opener_spelled Square = refl
opener_spelled Curly = refl

-- a closing bracket is spelled as one
closer_spelled : (b : Bracket) → spells (Stop b) (closer b ∷ []) ≡ true
closer_spelled Round = refl
closer_spelled Square = refl
closer_spelled Curly = refl

-- a list in brackets
pub printable-brackets : (b : Bracket) (xs : List Lexeme) → IsPrintable xs → IsPrintable (record { kind = Start b; spelling = opener b ∷ [] } ∷ (xs ++ record { kind = Stop b; spelling = closer b ∷ [] } ∷ []))
printable-brackets b xs x =
    let close : Lexeme = record { kind = Stop b; spelling = closer b ∷ [] } in
    record {
      written = written-brackets b (opener b ∷ []) (closer b ∷ []) xs x.written;
      spelled = and_from _ _ (opener_spelled b) (list_all-append is_lexeme xs (close ∷ []) ∙ and_from _ _ x.spelled (and_from _ _ (closer_spelled b) refl));
    }

-- lists behind one another
pub printable-flat_map : {X : Type 0} (f : X → List Lexeme) → ((x : X) → IsPrintable (f x)) → (xs : List X) → IsPrintable (flat_map f xs)
printable-flat_map f each [] = printable-nil
printable-flat_map f each (x ∷ xs) = printable-append (f x) (flat_map f xs) (each x) (printable-flat_map f each xs)

-- ---- templates

-- each token of a list is spelled as its kind
abbrev Spelled : List Lexeme → Type 0
Spelled found = list_all is_lexeme found ≡ true

-- the tokens of a word of a template that begins no name
mark_spelled : (c : ℕ) (cs : List ℕ) → IsTrue (is_template_word (c ∷ cs)) → is_name_start c ≡ false → Spelled (word_lexemes (c ∷ cs))
mark_spelled c [] h start =
    let word = marked (c ∷ []) (c ∷ []) refl h (omega arith) (omega arith) start in
    subst Spelled (sym word.same) (and_from _ _ word.spelled refl)
mark_spelled c (d ∷ []) h start =
    let word = paired (c ∷ d ∷ []) (c ∷ d ∷ []) refl h (omega arith) (omega arith) start in
    subst Spelled (sym word.same) (and_from _ _ word.front (and_from _ _ word.back refl))
mark_spelled c (d ∷ e ∷ cs) h start = absurd (false≢true (sym start ∙ (and_parts (is_name_start c) _ (⊎_elim (λ e. e) (λ e. absurd (false≢true e)) (or_cases _ _ h))).0))

-- the tokens of a word of a template
word_spelled : (word : List ℕ) → IsTrue (is_template_word word) → Spelled (word_lexemes word)
word_spelled [] h = absurd (false≢true h)
word_spelled (c ∷ cs) h =
    let P : Bool → Type 0 = λ b. is_name_start c ≡ b → Spelled (word_lexemes (c ∷ cs)) in
    let named_word : P true = λ start.
    let word = named (c ∷ cs) (c ∷ cs) refl h (omega arith) start in
    subst Spelled (sym word.same) (and_from _ _ word.spelled refl)
    in
    let split : (b : Bool) → P b = λ b. elim b as P [ true ↦ named_word | false ↦ mark_spelled c cs h ] in
    split (is_name_start c) refl

-- the tokens of words of a template
pub words_spelled : (words : List (List ℕ)) → list_all is_template_word words ≡ true → Spelled (flat_map word_lexemes words)
words_spelled [] h = refl
words_spelled (word ∷ words) h =
    let parts = and_parts (is_template_word word) _ h in
    list_all-append is_lexeme (word_lexemes word) (flat_map word_lexemes words) ∙ and_from _ _ (word_spelled word parts.0) (words_spelled words parts.1)

-- a template whose tokens may stand side by side with others
abbrev pub is_printable_template : List ℕ → Bool
is_printable_template text = is_template text && is_written (flat_map word_lexemes (template_words text))

-- the tokens of such a template
pub printable-quoted : (text : List ℕ) → is_printable_template text ≡ true → IsPrintable (quoted text)
unfolding quoted
printable-quoted text h =
    let parts = and_parts (is_template text) _ h in
    record { written = parts.1; spelled = words_spelled (template_words text) parts.0 }
