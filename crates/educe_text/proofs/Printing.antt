-- What a rule spells, as a function of the value; and which values have a text.
use Rattle.std.proofs.Common.{◌≡◌, inl, inr, ℕ, Bool, true, List, [], ◌∷◌, ◌++◌, refl, ap, sym, ◌∙◌, IsTrue, append_assoc}
use Rattle.std.specs.List.{list_all, flat_map, AllByRecursion}
use Rattle.std.proofs.lemmas.Bool.{and_parts}
use Rattle.educe_tokens.specs.Pieces.{spells}
use Rattle.educe_tokens.specs.Appends.{no_place, LieNowhere}
use Rattle.educe_tokens.specs.Lexes.{Lexeme, lexeme_of, lexemes}
use Rattle.educe_tokens.specs.Quote.{quoted}
use Rattle.educe_tokens.proofs.Printable.{is_printable_template, printable-quoted}
use Rattle.educe_text.specs.Prefixes.{Tokens}
use Rattle.educe_text.specs.Rules.{Grammar, Repeated, Lookahead, TextRule, quote, both, made, checked, either, many, Spells, skipping, leaving, between, constant}
use Rattle.educe_text.specs.Printing.{Prints, HasText}

pub lexemes-append : (xs ys : Tokens) → lexemes (xs ++ ys) ≡ lexemes xs ++ lexemes ys
lexemes-append [] ys = refl
lexemes-append (x ∷ xs) ys = ap (λ found. lexeme_of x ∷ found) (lexemes-append xs ys)

pub flat-append : {A : Type 0} (p : A → List Lexeme) (xs ys : List A) → flat_map p (xs ++ ys) ≡ flat_map p xs ++ flat_map p ys
flat-append p [] ys = refl
flat-append p (x ∷ xs) ys = ap (λ found. p x ++ found) (flat-append p xs ys) ∙ sym (append_assoc (p x) (flat_map p xs) (flat_map p ys))

-- ---- what is printed

pub prints_quote : (text : List ℕ) → Prints (quote text) (λ _. quoted text)
unfolding Spells
prints_quote text ts x h = h

pub prints_both : {A B : Type 0} (g : TextRule A) (k : TextRule B) (p : A → List Lexeme) (q : B → List Lexeme) → Prints g p → Prints k q → Prints (both g k) (λ x. p x.0 ++ q x.1)
unfolding Spells
prints_both g k p q f e ts x h =
    let first : lexemes h.0 ≡ p x.0 = f h.0 x.0 h.3 in
    let second : lexemes h.1 ≡ q x.1 = e h.1 x.1 h.4 in
    ap lexemes h.2 ∙ lexemes-append h.0 h.1 ∙ (λ i. first i ++ second i)

pub prints_made : {A B : Type 0} (f : A → B) (g : TextRule A) (p : A → List Lexeme) (q : B → List Lexeme) → Prints g p → ((x : A) → p x ≡ q (f x)) → Prints (made f g) q
unfolding Spells
prints_made f g p q e same ts y h = e ts h.0 h.2 ∙ same h.0 ∙ ap q (sym h.1)

pub prints_checked : {A : Type 0} (test : A → Bool) (g : TextRule A) (p : A → List Lexeme) → Prints g p → Prints (checked test g) p
unfolding Spells
prints_checked test g p e ts x h = e ts x h.1

-- the same, where what is printed uses that the value passes
pub prints_where : {A B : Type 0} (f : A → B) (test : A → Bool) (g : TextRule A) (p : A → List Lexeme) (q : B → List Lexeme) → Prints g p → ((x : A) → IsTrue (test x) → p x ≡ q (f x))
    → Prints (made f (checked test g)) q
unfolding Spells
prints_where f test g p q e same ts y h = e ts h.0 h.2.1 ∙ same h.0 h.2.0 ∙ ap q (sym h.1)

pub prints_either : {A : Type 0} (look : Lookahead) (g k : TextRule A) (p : A → List Lexeme) → Prints g p → Prints k p → Prints (either look g k) p
unfolding Spells
prints_either look g k p e f ts x (inl h) = e ts x h
prints_either look g k p e f ts x (inr h) = f ts x h

prints_repeated : {A : Type 0} (Item : Grammar A) (p : A → List Lexeme) → ((ts : Tokens) (x : A) → Item ts x → lexemes ts ≡ p x) → (ts : Tokens) (xs : List A) → Repeated Item ts xs → lexemes ts ≡ flat_map p xs
prints_repeated Item p e ts xs Repeated.none = refl
prints_repeated Item p e ts xs (Repeated.more {x = x} {xs = ys} front rest is others) =
    let first : lexemes front ≡ p x = e front x is in
    let second : lexemes rest ≡ flat_map p ys = prints_repeated Item p e rest ys others in
    lexemes-append front rest ∙ (λ i. first i ++ second i)

pub prints_many : {A : Type 0} (look : Lookahead) (g : TextRule A) (p : A → List Lexeme) → Prints g p → Prints (many look g) (flat_map p)
unfolding Spells
prints_many look g p e ts xs h = prints_repeated (Spells g) p e ts xs h

-- ---- the same of rules made of others

pub prints_skipping : {A : Type 0} (text : List ℕ) (g : TextRule A) (p : A → List Lexeme) → Prints g p → Prints (skipping text g) (λ x. quoted text ++ p x)
prints_skipping text g p e = prints_made (λ x. x.1) (both (quote text) g) (λ x. quoted text ++ p x.1) (λ x. quoted text ++ p x) (prints_both (quote text) g (λ _. quoted text) p (prints_quote text) e) (λ x. refl)

pub prints_leaving : {A : Type 0} (g : TextRule A) (text : List ℕ) (p : A → List Lexeme) → Prints g p → Prints (leaving g text) (λ x. p x ++ quoted text)
prints_leaving g text p e = prints_made (λ x. x.0) (both g (quote text)) (λ x. p x.0 ++ quoted text) (λ x. p x ++ quoted text) (prints_both g (quote text) p (λ _. quoted text) e (prints_quote text)) (λ x. refl)

pub prints_between : {A : Type 0} (opening : List ℕ) (g : TextRule A) (closing : List ℕ) (p : A → List Lexeme) → Prints g p → Prints (between opening g closing) (λ x. quoted opening ++ (p x ++ quoted closing))
prints_between opening g closing p e = prints_skipping opening (leaving g closing) (λ x. p x ++ quoted closing) (prints_leaving g closing p e)

pub prints_constant : {A : Type 0} (text : List ℕ) (x : A) (p : A → List Lexeme) → quoted text ≡ p x → Prints (constant text x) p
prints_constant text x p same = prints_made (λ _. x) (quote text) (λ _. quoted text) p (prints_quote text) (λ _. same)

-- ---- what has a text

-- what lies nowhere does so side by side
pub nowhere-append : (xs ys : Tokens) → LieNowhere xs → LieNowhere ys → LieNowhere (xs ++ ys)
nowhere-append [] ys a b = b
nowhere-append (x ∷ xs) ys a b = (a.0, nowhere-append xs ys a.1 b)

-- tokens of these kinds and spellings, at no place
pub at_no_place : (ls : List Lexeme) → list_all (λ (l : Lexeme). spells l.kind l.spelling) ls ≡ true → (ts : Tokens) × LieNowhere ts × (lexemes ts ≡ ls)
at_no_place [] h = ([], tt, refl)
at_no_place (l ∷ ls) h =
    let w = and_parts (spells l.kind l.spelling) _ h in
    let more = at_no_place ls w.1 in
    (record { kind = l.kind; span = no_place; spelling = l.spelling; spelled = w.0 } ∷ more.0, (refl, more.1), ap (λ found. l ∷ found) more.2)

pub text_quote : (text : List ℕ) → is_printable_template text ≡ true → HasText (quote text) tt
unfolding Spells
text_quote text h = let t = at_no_place (quoted text) (printable-quoted text h).spelled in record { tokens = t.0; nowhere = t.1; spells = t.2 }

pub text_both : {A B : Type 0} (g : TextRule A) (k : TextRule B) (x : A) (y : B) → HasText g x → HasText k y → HasText (both g k) (x, y)
unfolding Spells
text_both g k x y a b = record { tokens = a.tokens ++ b.tokens; nowhere = nowhere-append a.tokens b.tokens a.nowhere b.nowhere; spells = (a.tokens, b.tokens, refl, a.spells, b.spells) }

pub text_made : {A B : Type 0} (f : A → B) (g : TextRule A) (x : A) → HasText g x → HasText (made f g) (f x)
unfolding Spells
text_made f g x a = record { tokens = a.tokens; nowhere = a.nowhere; spells = (x, refl, a.spells) }

pub text_checked : {A : Type 0} (test : A → Bool) (g : TextRule A) (x : A) → IsTrue (test x) → HasText g x → HasText (checked test g) x
unfolding Spells
text_checked test g x t a = record { tokens = a.tokens; nowhere = a.nowhere; spells = (t, a.spells) }

pub text_left : {A : Type 0} (look : Lookahead) (g k : TextRule A) (x : A) → HasText g x → HasText (either look g k) x
unfolding Spells
text_left look g k x a = record { tokens = a.tokens; nowhere = a.nowhere; spells = inl a.spells }

pub text_right : {A : Type 0} (look : Lookahead) (g k : TextRule A) (x : A) → HasText k x → HasText (either look g k) x
unfolding Spells
text_right look g k x a = record { tokens = a.tokens; nowhere = a.nowhere; spells = inr a.spells }

pub text_many : {A : Type 0} (look : Lookahead) (g : TextRule A) (xs : List A) → AllByRecursion (HasText g) xs → HasText (many look g) xs
unfolding Spells
text_many look g [] all = record { tokens = []; nowhere = tt; spells = Repeated.none }
text_many look g (x ∷ xs) all =
    let rest = text_many look g xs all.1 in
    record {
      tokens = all.0.tokens ++ rest.tokens;
      nowhere = nowhere-append all.0.tokens rest.tokens all.0.nowhere rest.nowhere;
      spells = Repeated.more all.0.tokens rest.tokens all.0.spells rest.spells;
    }

-- ---- the same of rules made of others

pub text_skipping : {A : Type 0} (text : List ℕ) (g : TextRule A) (x : A) → is_printable_template text ≡ true → HasText g x → HasText (skipping text g) x
text_skipping text g x h a = text_made (λ p. p.1) (both (quote text) g) (tt, x) (text_both (quote text) g tt x (text_quote text h) a)

pub text_leaving : {A : Type 0} (g : TextRule A) (text : List ℕ) (x : A) → is_printable_template text ≡ true → HasText g x → HasText (leaving g text) x
text_leaving g text x h a = text_made (λ p. p.0) (both g (quote text)) (x, tt) (text_both g (quote text) x tt a (text_quote text h))

pub text_between : {A : Type 0} (opening : List ℕ) (g : TextRule A) (closing : List ℕ) (x : A) → is_printable_template opening ≡ true → is_printable_template closing ≡ true → HasText g x
    → HasText (between opening g closing) x
text_between opening g closing x h k a = text_skipping opening (leaving g closing) x h (text_leaving g closing x k a)

pub text_constant : {A : Type 0} (text : List ℕ) (x : A) → is_printable_template text ≡ true → HasText (constant text x) x
text_constant text x h = text_made (λ _. x) (quote text) tt (text_quote text h)
