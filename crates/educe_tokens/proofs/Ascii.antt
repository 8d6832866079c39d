-- Texts of ASCII alone.
use Rattle.std.proofs.Common.{◌≡◌, ℕ, Bool, true, false, List, [], ◌∷◌, refl, sym, ◌∙◌, chars, arith}
use Rattle.std.specs.Bool.{Decides}
use Rattle.std.specs.Char.{is_ascii}
use Rattle.std.specs.List.{list_all}
use Rattle.std.specs.Str.{IsAscii, bytes_eq}
use Rattle.std.proofs.lemmas.Bool.Decides.{nat_tests}
use Rattle.std.proofs.lemmas.Slice.Eq.{bytes_eq-Decides}
use Rattle.std.proofs.lemmas.Str.{chars-IsAscii}
use Rattle.std.proofs.lemmas.Str.Ascii.{IsAscii-nil, IsAscii-cons}

IsAscii-from_test : (text : List ℕ) → list_all is_ascii text ≡ true → IsAscii text
IsAscii-from_test [] all = IsAscii-nil
IsAscii-from_test (c ∷ cs) all = IsAscii-cons c cs (grind (arith, nat_tests)) (IsAscii-from_test cs (grind (arith, nat_tests)))

-- the characters of such a text are its bytes; at a literal the premise is `refl`
pub chars-ascii : (text : List ℕ) → list_all is_ascii text ≡ true → chars text ≡ text
chars-ascii text all = chars-IsAscii text (IsAscii-from_test text all)

-- two tests of one fact agree
pub same_test : {P : Type 0} (a b : Bool) → Decides a P → Decides b P → a ≡ b
same_test true true first second = refl
same_test true false first second = sym (second.1 (first.0 refl))
same_test false true first second = first.1 (second.0 refl)
same_test false false first second = refl

-- a test for the characters of an ASCII text is one for its bytes
pub spells_test : (test : Bool) (own text : List ℕ) → list_all is_ascii text ≡ true → Decides test (own ≡ chars text) → test ≡ bytes_eq own text
spells_test test own text all decides =
    let same = chars-ascii text all in
    same_test test (bytes_eq own text) ((λ h. decides.0 h ∙ same), (λ e. decides.1 (e ∙ sym same))) (bytes_eq-Decides own text)
