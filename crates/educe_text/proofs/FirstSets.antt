-- The texts of a rule begin as its first set says.
use Rattle.std.proofs.Common.{◌≡◌, inl, inr, ℕ, zero, suc, Bool, true, false, List, [], ◌∷◌, ◌++◌, refl, ap, sym, subst, ⊎_elim, ◌∙◌, append_assoc}
use Rattle.std.specs.Prelude.{if◌then◌else◌}
use Rattle.std.specs.List.{flat_map}
use Rattle.std.proofs.lemmas.Bool.{false≢true, or_cases}
use Rattle.educe_tokens.specs.declared.token.Token.{Token}
use Rattle.educe_tokens.specs.Lexes.{Lexeme, lexeme_of, lexemes}
use Rattle.educe_tokens.specs.Quote.{quoted}
use Rattle.educe_text.specs.Prefixes.{Tokens}
use Rattle.educe_text.specs.Signs.{Sign, exactly, passes, MatchesOne}
use Rattle.educe_text.specs.Rules.{Repeated, passes_one, BeginsSo, TextRule, quote, leaf, both, made, checked, either, many, Spells}
use Rattle.educe_text.specs.FirstSets.{FirstSet, BeginsIn, any_tokens, behind_lexemes, each_behind, behind_signs, first_set}
use Rattle.educe_text.proofs.Prefixes.{lexeme_self}
use Rattle.educe_text.proofs.Signs.{matches_left, matches_right, matches_behind}

-- any list begins with any tokens
pub any_begin : (ts : Tokens) → BeginsIn any_tokens ts
any_begin ts n = inl tt

lexemes_begin : (ls : List Lexeme) (more : FirstSet) (front rest : Tokens) → lexemes front ≡ ls → BeginsIn more rest → (n : ℕ) → MatchesOne (behind_lexemes ls more n) (front ++ rest)
unfolding behind_lexemes
lexemes_begin [] more [] rest h f n = f n
lexemes_begin [] more (t ∷ front) rest h f n = absurd (cc)
lexemes_begin (l ∷ ls) more [] rest h f n = absurd (cc)
lexemes_begin (l ∷ ls) more (t ∷ front) rest h f zero = inl tt
lexemes_begin (l ∷ ls) more (t ∷ front) rest h f (suc n) =
    let first : lexeme_of t ≡ l = cc in
    let others : lexemes front ≡ ls = cc in
    matches_behind (exactly l) t (front ++ rest) (ap (λ k. passes (exactly k) (lexeme_of t)) (sym first) ∙ lexeme_self (lexeme_of t)) (behind_lexemes ls more n) (lexemes_begin ls more front rest others f n)

-- one of the signs says so of the token
signs_begin : (all : List (List Sign)) (signs : List Sign) (t : Token) (ts : Tokens) → passes_one signs (lexeme_of t) ≡ true → MatchesOne all ts → MatchesOne (flat_map (each_behind all) signs) (t ∷ ts)
signs_begin all [] t ts h m = absurd (false≢true h)
signs_begin all (s ∷ signs) t ts h m = ⊎_elim
    (λ e. matches_left (each_behind all s) (flat_map (each_behind all) signs) (t ∷ ts) (matches_behind s t ts e all m))
    (λ e. matches_right (each_behind all s) (flat_map (each_behind all) signs) (t ∷ ts) (signs_begin all signs t ts e m))
    (or_cases (passes s (lexeme_of t)) (passes_one signs (lexeme_of t)) h)

part_begins : (signs : List Sign) (single : Bool) (more : FirstSet) (front rest : Tokens) → BeginsSo signs single front → BeginsIn more rest → (n : ℕ) → MatchesOne (behind_signs signs single more n) (front ++ rest)
part_begins signs single more front rest b f zero = inl tt
part_begins signs single more front rest b f (suc n) =
    subst (λ ts. MatchesOne (behind_signs signs single more (suc n)) (ts ++ rest)) (sym b.is)
    (signs_begin (if single then more n else [] ∷ []) signs b.first (b.more ++ rest) b.fits (by single b.alone))
  where
    by : (s : Bool) → (s ≡ true → b.more ≡ []) → MatchesOne (if s then more n else [] ∷ []) (b.more ++ rest)
    by true alone = subst (λ ts. MatchesOne (more n) (ts ++ rest)) (sym (alone refl)) (f n)
    by false alone = inl tt

-- a text, and then what may follow
pub begins : {A : Type 0} (g : TextRule A) (more : FirstSet) (front rest : Tokens) (x : A) → Spells g front x → BeginsIn more rest → BeginsIn (first_set g more) (front ++ rest)
unfolding Spells first_set
begins (quote text) more front rest x h f = lexemes_begin (quoted text) more front rest h f
begins (leaf l) more front rest x h f = part_begins l.firsts l.single more front rest (l.begins front x h) f
begins (both g k) more front rest x h f =
    let e : h.0 ++ (h.1 ++ rest) ≡ front ++ rest = sym (ap (λ ts. ts ++ rest) h.2 ∙ append_assoc h.0 h.1 rest) in
    subst (BeginsIn (first_set g (first_set k more))) e (begins g (first_set k more) h.0 (h.1 ++ rest) x.0 h.3 (begins k more h.1 rest x.1 h.4 f))
begins (made e g) more front rest x h f = begins g more front rest h.0 h.2 f
begins (checked test g) more front rest x h f = begins g more front rest x h.1 f
begins (either look g k) more front rest x (inl h) f = λ n. matches_left (first_set g more n) (first_set k more n) (front ++ rest) (begins g more front rest x h f n)
begins (either look g k) more front rest x (inr h) f = λ n. matches_right (first_set g more n) (first_set k more n) (front ++ rest) (begins k more front rest x h f n)
begins (many look g) more front rest xs Repeated.none f = λ n. matches_right (first_set g any_tokens n) (more n) rest (f n)
begins (many look g) more front rest xs (Repeated.more {x = x} one others is _) f =
    λ n. matches_left (first_set g any_tokens n) (more n) ((one ++ others) ++ rest)
    (subst (MatchesOne (first_set g any_tokens n)) (sym (append_assoc one others rest)) (begins g any_tokens one (others ++ rest) x is (any_begin (others ++ rest)) n))
