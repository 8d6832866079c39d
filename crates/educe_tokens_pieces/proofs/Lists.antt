-- Lists of characters, and lengths that were found.
use Rattle.std.proofs.Common.{◌≡◌, ℕ, suc, ◌+◌, ◌<◌, Bool, true, false, Option, Some, None, List, [], ◌∷◌, ◌++◌, length, drop, get_or, refl, sym, ap, ◌∙◌, arith}
use Rattle.std.proofs.lemmas.Bool.{false≢true}
use Rattle.std.proofs.lemmas.List.{drop_more}
use Rattle.educe_tokens_pieces.specs.declared.kind.PieceKind.{PieceKind}
use Rattle.educe_tokens_pieces.specs.Chars.{begins, is_empty}
use Rattle.educe_tokens_pieces.specs.Machine.{plus}

-- a text from its character at an index on
pub from_index : (text : List ℕ) (i c : ℕ) → i < length text → c ≡ get_or text i c → drop i text ≡ c ∷ drop (i + 1) text
from_index text i c h e = drop_more text i c h ∙ ap (λ x. x ∷ drop (i + 1) text) (sym e)

-- what is tested to be empty is empty
pub nil_from_empty : (cs : List ℕ) → is_empty cs ≡ true → cs ≡ []
nil_from_empty [] h = refl
nil_from_empty (c ∷ cs) h = absurd (false≢true h)

-- what follows a list doesn't change what it begins with, to a test that this fails
pub begins-append : (p : ℕ → Bool) (s r : List ℕ) → begins p r ≡ false → begins p (s ++ r) ≡ begins p s
begins-append p [] r h = h
begins-append p (c ∷ s) r h = refl

-- lengths add up
pub plus_plus : (i k : ℕ) (o : Option ℕ) → plus i (plus k o) ≡ plus (i + k) o
plus_plus i k None = refl
plus_plus i k (Some n) = ap (λ (m : ℕ). Some m) (omega arith)

-- one more than a length that was found
pub one_longer : (n : ℕ) → ◌≡◌ {A = Option ℕ} (Some (1 + n)) (Some (suc n))
one_longer n = ap (λ (k : ℕ). Some k) (omega arith)

-- finds of one kind and of equal lengths are equal
pub same_length : (kind : PieceKind) (m n : ℕ) → m ≡ n → ◌≡◌ {A = Option (PieceKind × ℕ)} (Some (kind, m)) (Some (kind, n))
same_length kind m n h = ap (λ k. Some (kind, k)) h
