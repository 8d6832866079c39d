-- Words at the front of a text.
use Rattle.std.proofs.Common.{◌≡◌, ℕ, suc, ◌+◌, Bool, true, false, ◌&&◌, not, Option, Some, None, List, [], ◌∷◌, ◌++◌, length, take, refl, ap, ◌∙◌, subst, arith}
use Rattle.std.specs.List.{prefix_len}
use Rattle.std.proofs.Math.Seq.{take-append_seam}
use Rattle.std.proofs.lemmas.Bool.{and_parts, and_from, false≢true, not-true, not_from_false, cond_both}
use Rattle.std.proofs.lemmas.List.Sums.{prefix_len-le-length}
use Rattle.unicode_ident.specs.Ident.{is_xid_continue}
use Rattle.educe_tokens_pieces.specs.Chars.{begins, is_word_start}
use Rattle.educe_tokens_pieces.specs.Words.{is_word, is_never_raw, word_len, if_raw, raw_word_len}
use Rattle.educe_tokens_pieces.specs.Fits.{FrontPasses}
use Rattle.educe_tokens_pieces.proofs.Classes.{prefix_len-append, list_all-prefix}

-- what is found at the front is a word
pub word_is : (text : List ℕ) → FrontPasses is_word text (word_len text)
word_is [] = tt
word_is (c ∷ cs) =
    let n : ℕ = prefix_len is_xid_continue cs in
    let one : suc n ≡ 1 + n = omega arith in
    let short = prefix_len-le-length is_xid_continue cs in
    cond_both (is_word_start c) (Some (1 + n)) None (FrontPasses is_word (c ∷ cs))
    (λ e. (subst (λ k. is_word (take k (c ∷ cs)) ≡ true) one (and_from _ _ e (list_all-prefix is_xid_continue cs)), omega arith, omega arith)) (λ _. tt)

-- a word is found, where what follows doesn't go on with it
pub word_found : (s r : List ℕ) → is_word s ≡ true → begins is_xid_continue r ≡ false → word_len (s ++ r) ≡ Some (length s)
word_found [] r h m = absurd (false≢true h)
word_found (c ∷ cs) r h m =
    let p = and_parts (is_word_start c) _ h in
    let n = prefix_len-append is_xid_continue cs r p.1 m in
    let all : 1 + prefix_len is_xid_continue (cs ++ r) ≡ suc (length cs) = omega arith in
    rw p.0 (ap Some all)

-- a word that may be raw
abbrev pub is_rawable : List ℕ → Bool
is_rawable cs = is_word cs && not (is_never_raw cs)

-- a word that passes the test for it may be raw
if_raw_is : (text : List ℕ) (o : Option ℕ) → FrontPasses is_word text o → FrontPasses is_rawable text (if_raw text o)
if_raw_is text None h = tt
if_raw_is text (Some n) h = cond_both (is_never_raw (take n text)) None (Some n) (FrontPasses is_rawable text) (λ _. tt) (λ e. (and_from _ _ h.0 (not_from_false _ e), h.1, h.2))

-- what is found behind `r#` is a word that may be raw
pub raw_word_is : (text : List ℕ) → FrontPasses is_rawable text (raw_word_len text)
raw_word_is text = if_raw_is text (word_len text) (word_is text)

-- a word that may be raw is found, where what follows doesn't go on with it
pub raw_word_found : (s r : List ℕ) → is_rawable s ≡ true → begins is_xid_continue r ≡ false → raw_word_len (s ++ r) ≡ Some (length s)
raw_word_found s r h m =
    let p = and_parts (is_word s) _ h in
    ap (if_raw (s ++ r)) (word_found s r p.0 m) ∙ rw (take-append_seam s r, not-true _ p.1) refl
