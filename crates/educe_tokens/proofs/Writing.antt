-- Lists of tokens that may stand side by side.
use Rattle.std.proofs.Common.{◌≡◌, ℕ, Bool, true, false, cond, IsTrue, Option, Some, None, List, [], ◌∷◌, ◌++◌, refl, sym, ap, ◌∙◌}
use Rattle.std.specs.List.{flat_map}
use Rattle.std.proofs.lemmas.Bool.{and_parts, and_from, false≢true, cond_both}
use Rattle.std.proofs.lemmas.List.{map-append}
use Rattle.educe_tokens_pieces.specs.declared.kind.Bracket.{Bracket}
use Rattle.educe_tokens_pieces.specs.declared.kind.Bracket.TheVariants.{Round, Square, Curly}
use Rattle.educe_tokens_pieces.specs.declared.kind.LiteralKind.TheVariants.{Int}
use Rattle.educe_tokens_pieces.specs.declared.kind.TokenKind.{TokenKind}
use Rattle.educe_tokens_pieces.specs.declared.kind.TokenKind.TheVariants.{Ident, Lifetime, Literal, Punct, Start, Stop, Doc}
use Rattle.educe_tokens_pieces.specs.Pieces.{spells}
use Rattle.educe_tokens.specs.Lexes.{Lexeme}
use Rattle.educe_tokens.specs.Brackets.{same_bracket, open_after, closes, kinds}
use Rattle.educe_tokens.specs.Text.{is_punct_behind, may_join, joins_well, ends_apart, is_written}
use Rattle.educe_tokens.specs.Quote.{word_lexeme}
use Rattle.educe_tokens.proofs.Opened.{closes_after, closes-cons, none_is_not_some}

-- ---- brackets

-- what is open inside, with what is open outside
open_outside : (inner outer after : List Bracket) → ◌≡◌ {A = Option (List Bracket)} (Some inner) (Some after) → ◌≡◌ {A = Option (List Bracket)} (Some (inner ++ outer)) (Some (after ++ outer))
open_outside inner outer after h = let same : inner ≡ after = cc in ap (λ opened. Some (opened ++ outer)) same

-- with more brackets open outside, they stay open
open_after-append : (inner outer after : List Bracket) (kind : TokenKind) → open_after inner kind ≡ Some after → open_after (inner ++ outer) kind ≡ Some (after ++ outer)
open_after-append inner outer after Ident h = open_outside inner outer after h
open_after-append inner outer after Lifetime h = open_outside inner outer after h
open_after-append inner outer after (Literal l) h = open_outside inner outer after h
open_after-append inner outer after (Punct c joint) h = open_outside inner outer after h
open_after-append inner outer after (Start b) h = open_outside (b ∷ inner) outer after h
open_after-append [] outer after (Stop b) h = absurd (none_is_not_some after h)
open_after-append (o ∷ inner) outer after (Stop b) h =
    let Closes : Bool → Type 0 = λ same. ◌≡◌ {A = Option (List Bracket)} (cond same (Some inner) None) (Some after) → ◌≡◌ {A = Option (List Bracket)} (cond same (Some (inner ++ outer)) None) (Some (after ++ outer)) in
    let both : (same : Bool) → Closes same = λ same. elim same as Closes [ true ↦ λ h. open_outside inner outer after h | false ↦ λ h. absurd (none_is_not_some after h) ] in
    both (same_bracket o b) h
open_after-append inner outer after Doc h = open_outside inner outer after h

-- what closes its own brackets leaves those that are open outside to what follows
pub closes-append : (inner outer : List Bracket) (xs ys : List TokenKind) → closes inner xs ≡ true → closes (inner ++ outer) (xs ++ ys) ≡ closes outer ys
closes-append [] outer [] ys h = refl
closes-append (o ∷ inner) outer [] ys h = absurd (false≢true h)
closes-append inner outer (kind ∷ xs) ys h =
    let Goal : Option (List Bracket) → Type 0 = λ opened. open_after inner kind ≡ opened → closes_after opened xs ≡ true → closes (inner ++ outer) (kind ∷ (xs ++ ys)) ≡ closes outer ys in
    let step : (opened : Option (List Bracket)) → Goal opened = λ opened. elim opened as Goal [
      | None ↦ λ e h. absurd (false≢true h)
      | Some after ↦ λ e h.
          closes-cons (inner ++ outer) kind (xs ++ ys)
          ∙ ap (λ opened. closes_after opened (xs ++ ys)) (open_after-append inner outer after kind e)
          ∙ closes-append after outer xs ys h
    ] in
    step (open_after inner kind) refl (sym (closes-cons inner kind xs) ∙ h)

-- ---- jointness

-- a token that may end a list may stand before any
may_join-end : (kind : TokenKind) (more : List TokenKind) → may_join kind [] ≡ true → may_join kind more ≡ true
may_join-end Ident more h = refl
may_join-end Lifetime more h = refl
may_join-end (Literal l) more h = refl
may_join-end (Punct c true) more h = absurd (false≢true h)
may_join-end (Punct c false) more h = refl
may_join-end (Start b) more h = refl
may_join-end (Stop b) more h = refl
may_join-end Doc more h = h

-- what stands behind the next token changes nothing for a punct
is_punct_behind-append : (c : ℕ) (next : TokenKind) (xs ys : List TokenKind) → is_punct_behind c (next ∷ xs) ≡ true → is_punct_behind c (next ∷ (xs ++ ys)) ≡ true
is_punct_behind-append c Ident xs ys h = h
is_punct_behind-append c Lifetime xs ys h = h
is_punct_behind-append c (Literal l) xs ys h = h
is_punct_behind-append c (Punct d joint) xs ys h = h
is_punct_behind-append c (Start b) xs ys h = h
is_punct_behind-append c (Stop b) xs ys h = h
is_punct_behind-append c Doc xs ys h = h

-- what stands behind the next token changes nothing for any token before it
may_join-append : (kind next : TokenKind) (xs ys : List TokenKind) → may_join kind (next ∷ xs) ≡ true → may_join kind (next ∷ (xs ++ ys)) ≡ true
may_join-append Ident next xs ys h = refl
may_join-append Lifetime next xs ys h = refl
may_join-append (Literal l) next xs ys h = refl
may_join-append (Punct c true) next xs ys h = is_punct_behind-append c next xs ys h
may_join-append (Punct c false) next xs ys h = refl
may_join-append (Start b) next xs ys h = refl
may_join-append (Stop b) next xs ys h = refl
may_join-append Doc next xs ys h = h

-- lists that join well do so behind one another
joins_well-append : (xs ys : List TokenKind) → joins_well xs ≡ true → joins_well ys ≡ true → joins_well (xs ++ ys) ≡ true
joins_well-append [] ys h g = g
joins_well-append (kind ∷ []) ys h g = and_from _ _ (may_join-end kind ys (and_parts (may_join kind []) _ h).0) g
joins_well-append (kind ∷ next ∷ xs) ys h g =
    let parts = and_parts (may_join kind (next ∷ xs)) _ h in
    and_from _ _ (may_join-append kind next xs ys parts.0) (joins_well-append (next ∷ xs) ys parts.1 g)

-- a token that may end a list is not joint
apart-end : (kind : TokenKind) → may_join kind [] ≡ true → ends_apart (kind ∷ []) ≡ true
apart-end Ident h = refl
apart-end Lifetime h = refl
apart-end (Literal l) h = refl
apart-end (Punct c true) h = absurd (false≢true h)
apart-end (Punct c false) h = refl
apart-end (Start b) h = refl
apart-end (Stop b) h = refl
apart-end Doc h = refl

-- the last token of a list that joins well is not joint
joins_well-apart : (xs : List TokenKind) → joins_well xs ≡ true → ends_apart xs ≡ true
joins_well-apart [] h = refl
joins_well-apart (kind ∷ []) h = apart-end kind (and_parts (may_join kind []) _ h).0
joins_well-apart (kind ∷ next ∷ xs) h = joins_well-apart (next ∷ xs) (and_parts (may_join kind (next ∷ xs)) _ h).1

-- ---- both

-- what closes and joins well may stand beside others
pub written_from : (xs : List Lexeme) → closes [] (kinds xs) ≡ true → joins_well (kinds xs) ≡ true → IsTrue (is_written xs)
written_from xs c j = and_from _ _ (and_from _ _ c j) (joins_well-apart (kinds xs) j)

-- its brackets close
pub written_closes : (xs : List Lexeme) → IsTrue (is_written xs) → closes [] (kinds xs) ≡ true
written_closes xs h = (and_parts (closes [] (kinds xs)) _ (and_parts _ (ends_apart (kinds xs)) h).0).0

-- the kinds of written tokens join well
pub written_joins : (xs : List Lexeme) → IsTrue (is_written xs) → joins_well (kinds xs) ≡ true
written_joins xs h = (and_parts (closes [] (kinds xs)) _ (and_parts _ (ends_apart (kinds xs)) h).0).1

-- no tokens
pub written-nil : IsTrue (is_written [])
written-nil = refl

-- neither a bracket, nor a joint punct, nor a Doc
abbrev pub is_plain : TokenKind → Bool
is_plain Ident = true
is_plain Lifetime = true
is_plain (Literal l) = true
is_plain (Punct c true) = false
is_plain (Punct c false) = true
is_plain (Start b) = false
is_plain (Stop b) = false
is_plain Doc = false

-- one plain token
pub written-one : (kind : TokenKind) (spelling : List ℕ) → is_plain kind ≡ true → IsTrue (is_written (record { kind = kind; spelling = spelling } ∷ []))
written-one Ident spelling h = refl
written-one Lifetime spelling h = refl
written-one (Literal l) spelling h = refl
written-one (Punct c true) spelling h = absurd (false≢true h)
written-one (Punct c false) spelling h = refl
written-one (Start b) spelling h = absurd (false≢true h)
written-one (Stop b) spelling h = absurd (false≢true h)
written-one Doc spelling h = absurd (false≢true h)

-- the one token that a word is
pub written-word : (text : List ℕ) → IsTrue (is_written (word_lexeme text ∷ []))
written-word text = written-one (cond (spells Ident text) Ident (Literal Int)) text (cond_both (spells Ident text) Ident (Literal Int) (λ kind. is_plain kind ≡ true) (λ _. refl) (λ _. refl))

-- one list behind another
pub written-append : (xs ys : List Lexeme) → IsTrue (is_written xs) → IsTrue (is_written ys) → IsTrue (is_written (xs ++ ys))
written-append xs ys h g =
    let both = map-append (λ lexeme. lexeme.kind) xs ys in
    written_from (xs ++ ys)
    (ap (closes []) both ∙ closes-append [] [] (kinds xs) (kinds ys) (written_closes xs h) ∙ written_closes ys g)
    (ap joins_well both ∙ joins_well-append (kinds xs) (kinds ys) (written_joins xs h) (written_joins ys g))

-- a bracket closes one of its own sort
pub closes-bracket : (b : Bracket) → closes (b ∷ []) (Stop b ∷ []) ≡ true
closes-bracket Round = refl
closes-bracket Square = refl
closes-bracket Curly = refl

-- brackets around a list
pub written-brackets : (b : Bracket) (first last : List ℕ) (xs : List Lexeme) → IsTrue (is_written xs) → IsTrue (is_written (record { kind = Start b; spelling = first } ∷ (xs ++ record { kind = Stop b; spelling = last } ∷ [])))
written-brackets b first last xs h =
    let close : Lexeme = record { kind = Stop b; spelling = last } in
    let both = map-append (λ lexeme. lexeme.kind) xs (close ∷ []) in
    written_from (record { kind = Start b; spelling = first } ∷ (xs ++ close ∷ []))
    (ap (closes (b ∷ [])) both ∙ closes-append [] (b ∷ []) (kinds xs) (Stop b ∷ []) (written_closes xs h) ∙ closes-bracket b)
    (ap joins_well both ∙ joins_well-append (kinds xs) (Stop b ∷ []) (written_joins xs h) refl)

-- lists behind one another
pub written-flat_map : {X : Type 0} (f : X → List Lexeme) → ((x : X) → IsTrue (is_written (f x))) → (xs : List X) → IsTrue (is_written (flat_map f xs))
written-flat_map f each [] = refl
written-flat_map f each (x ∷ xs) = written-append (f x) (flat_map f xs) (each x) (written-flat_map f each xs)
