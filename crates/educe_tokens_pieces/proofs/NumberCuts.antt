-- Where the digits of a number end.
use Rattle.std.proofs.Common.{◌≡◌, ℕ, Bool, true, false, not, List, [], ◌∷◌, ◌++◌, take, drop, ap, ◌∙◌, refl}
use Rattle.std.specs.List.{prefix_len, list_all}
use Rattle.std.proofs.Math.Seq.{take-append_seam, drop-append_seam}
use Rattle.std.proofs.lemmas.Bool.{not-true}
use Rattle.educe_tokens_pieces.specs.Chars.{begins}
use Rattle.educe_tokens_pieces.proofs.Classes.{prefix_len-append}

-- what passes a test, before what doesn't begin with what passes it, is the front that passes
pub cut_front : (p : ℕ → Bool) (xs ys : List ℕ) → list_all p xs ≡ true → begins p ys ≡ false → take (prefix_len p (xs ++ ys)) (xs ++ ys) ≡ xs
cut_front p xs ys each none = ap (λ n. take n (xs ++ ys)) (prefix_len-append p xs ys each none) ∙ take-append_seam xs ys

-- what follows characters that pass a test is the rest after the prefix that passes
pub cut_back : (p : ℕ → Bool) (xs ys : List ℕ) → list_all p xs ≡ true → begins p ys ≡ false → drop (prefix_len p (xs ++ ys)) (xs ++ ys) ≡ ys
cut_back p xs ys each none = ap (λ n. drop n (xs ++ ys)) (prefix_len-append p xs ys each none) ∙ drop-append_seam xs ys

-- what begins with a character that fails a test doesn't begin with one that passes
pub begins_other : (p : ℕ → Bool) (cs : List ℕ) → begins (λ c. not (p c)) cs ≡ true → begins p cs ≡ false
begins_other p [] h = refl
begins_other p (c ∷ cs) h = not-true _ h
