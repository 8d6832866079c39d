-- The test for a token is its identity; what begins with the tokens of a template.
use Rattle.std.proofs.Common.{◌≡◌, ℕ, ◌==◌, Bool, true, false, List, [], ◌∷◌, ◌++◌, Some, None, refl, ap, sym, ◌∙◌}
use Rattle.std.specs.Prelude.{if◌then◌else◌}
use Rattle.std.specs.Str.{bytes_eq}
use Rattle.std.proofs.lemmas.Bool.{false≢true, and_parts, and_from, eqb-true, eq-eqb}
use Rattle.std.proofs.lemmas.Slice.Eq.{bytes_eq-Decides}
use Rattle.educe_tokens.specs.Bracket.{Bracket}
use Rattle.educe_tokens.specs.Bracket.TheVariants.{Round, Square, Curly}
use Rattle.educe_tokens.specs.LiteralKind.{LiteralKind}
use Rattle.educe_tokens.specs.LiteralKind.TheVariants as literal
use Rattle.educe_tokens.specs.TokenKind.{TokenKind}
use Rattle.educe_tokens.specs.TokenKind.TheVariants as kind
use Rattle.educe_tokens.specs.Brackets.{same_bracket}
use Rattle.educe_tokens.specs.Lexes.{Lexeme, lexeme_of, lexemes}
use Rattle.educe_tokens.specs.Quote.{quoted}
use Rattle.educe_text.specs.Prefixes.{Tokens, same_literal, same_truth, same_kind, same_lexeme, is_some, strip_lexemes, starts_with, Front}

-- ---- what is the same passes

literal_self : (l : LiteralKind) → same_literal l l ≡ true
literal_self literal.Int = refl
literal_self literal.Str = refl
literal_self literal.ByteStr = refl
literal_self literal.Char = refl
literal_self literal.Byte = refl

truth_self : (b : Bool) → same_truth b b ≡ true
truth_self true = refl
truth_self false = refl

bracket_self : (b : Bracket) → same_bracket b b ≡ true
bracket_self Round = refl
bracket_self Square = refl
bracket_self Curly = refl

kind_self : (k : TokenKind) → same_kind k k ≡ true
kind_self kind.Ident = refl
kind_self kind.Lifetime = refl
kind_self (kind.Literal l) = literal_self l
kind_self (kind.Punct c joint) = and_from (c == c) (same_truth joint joint) (eq-eqb c c refl) (truth_self joint)
kind_self (kind.Start b) = bracket_self b
kind_self (kind.Stop b) = bracket_self b
kind_self kind.Doc = refl

-- a token is what it is
pub lexeme_self : (l : Lexeme) → same_lexeme l l ≡ true
lexeme_self l = and_from (same_kind l.kind l.kind) (bytes_eq l.spelling l.spelling) (kind_self l.kind) ((bytes_eq-Decides l.spelling l.spelling).1 refl)

-- ---- what passes is the same

literal_same : (l m : LiteralKind) → same_literal l m ≡ true → l ≡ m
literal_same literal.Int literal.Int h = refl
literal_same literal.Str literal.Str h = refl
literal_same literal.ByteStr literal.ByteStr h = refl
literal_same literal.Char literal.Char h = refl
literal_same literal.Byte literal.Byte h = refl
literal_same _ _ h = absurd (false≢true h)

truth_same : (b c : Bool) → same_truth b c ≡ true → b ≡ c
truth_same true c h = sym h
truth_same false true h = absurd (false≢true h)
truth_same false false h = refl

bracket_same : (b c : Bracket) → same_bracket b c ≡ true → b ≡ c
bracket_same Round Round h = refl
bracket_same Square Square h = refl
bracket_same Curly Curly h = refl
bracket_same _ _ h = absurd (false≢true h)

kind_same : (k m : TokenKind) → same_kind k m ≡ true → k ≡ m
kind_same kind.Ident kind.Ident h = refl
kind_same kind.Lifetime kind.Lifetime h = refl
kind_same (kind.Literal l) (kind.Literal m) h = ap kind.Literal (literal_same l m h)
kind_same (kind.Punct c i) (kind.Punct d j) h =
    let w = and_parts (c == d) (same_truth i j) h in
    let p : c ≡ d = eqb-true c d w.0 in
    let q : i ≡ j = truth_same i j w.1 in
    λ n. kind.Punct (p n) (q n)
kind_same (kind.Start b) (kind.Start c) h = ap kind.Start (bracket_same b c h)
kind_same (kind.Stop b) (kind.Stop c) h = ap kind.Stop (bracket_same b c h)
kind_same kind.Doc kind.Doc h = refl
kind_same _ _ h = absurd (false≢true h)

-- a token that passes is the one asked for
pub lexeme_same : (l m : Lexeme) → same_lexeme l m ≡ true → l ≡ m
lexeme_same l m h =
    let w = and_parts (same_kind l.kind m.kind) (bytes_eq m.spelling l.spelling) h in
    let p : l.kind ≡ m.kind = kind_same l.kind m.kind w.0 in
    let q : l.spelling ≡ m.spelling = sym ((bytes_eq-Decides m.spelling l.spelling).0 w.1) in
    λ n. record { kind = p n; spelling = q n }

-- ---- tokens that are taken off the front

-- these tokens are
pub strip_hit : (front rest : Tokens) (ls : List Lexeme) → lexemes front ≡ ls → strip_lexemes ls (front ++ rest) ≡ Some rest
unfolding strip_lexemes
strip_hit [] rest [] h = refl
strip_hit [] rest (l ∷ ls) h = absurd (cc)
strip_hit (t ∷ front) rest [] h = absurd (cc)
strip_hit (t ∷ front) rest (l ∷ ls) h =
    let first : lexeme_of t ≡ l = cc in
    let more : lexemes front ≡ ls = cc in
    let test : same_lexeme l (lexeme_of t) ≡ true = ap (λ k. same_lexeme k (lexeme_of t)) (sym first) ∙ lexeme_self (lexeme_of t) in
    rw test (strip_hit front rest ls more)

-- so the list begins with them
pub starts_hit : (text : List ℕ) (front rest : Tokens) → lexemes front ≡ quoted text → starts_with text (front ++ rest) ≡ true
unfolding starts_with
starts_hit text front rest h = ap is_some (strip_hit front rest (quoted text) h)

-- what was taken off is these tokens
pub strip_front : (ls : List Lexeme) (ts rest : Tokens) → strip_lexemes ls ts ≡ Some rest → Front (λ front. lexemes front ≡ ls) ts rest
unfolding strip_lexemes
strip_front [] ts rest h = record { front = []; same = (let e : ts ≡ rest = cc in e); is = refl }
strip_front (l ∷ ls) [] rest h = absurd (cc)
strip_front (l ∷ ls) (t ∷ ts) rest h = by (same_lexeme l (lexeme_of t)) refl (strip_front ls ts rest) h
  where
    by : (b : Bool) → same_lexeme l (lexeme_of t) ≡ b → (strip_lexemes ls ts ≡ Some rest → Front (λ front. lexemes front ≡ ls) ts rest)
        → (if b then strip_lexemes ls ts else None) ≡ Some rest → Front (λ front. lexemes front ≡ l ∷ ls) (t ∷ ts) rest
    by true same more h =
        let f = more h in
        record {
          front = t ∷ f.front;
          same = ap (λ us. t ∷ us) f.same;
          is = (let p : lexeme_of t ≡ l = sym (lexeme_same l (lexeme_of t) same) in λ n. p n ∷ f.is n);
        }
    by false same more h = absurd (cc)
