-- Texts at whose front no comment stands.
use Rattle.std.proofs.Common.{◌≡◌, Bool, true, false, None, List, ℕ, [], ◌∷◌, ◌++◌, refl, ap, ◌∙◌, subst, append-nil}
use Rattle.std.specs.Prelude.{◌==◌}
use Rattle.std.proofs.lemmas.Bool.{false≢true, cond_both, cond-true}
use Rattle.educe_tokens_pieces.specs.Chars.{begins, is_slash_or_star}
use Rattle.educe_tokens_pieces.specs.Comments.{opens_inner, opens_block_doc, opens_comment}
use Rattle.educe_tokens_pieces.specs.CommentScan.{closing_len, comment_kind, of_kind, comment_at}
use Rattle.educe_tokens_pieces.specs.Machine.{plus}
use Rattle.educe_tokens_scan.specs.Scan.{candidate, checked, piece_at}
use Rattle.educe_tokens_scan.proofs.FrontFinds.{at_comment}

-- no slash begins it
pub no_slash : (text : List ℕ) → begins (λ c. c == 47) text ≡ false → comment_at text ≡ None
no_slash [] h = refl
no_slash (c ∷ []) h = refl
no_slash (c ∷ d ∷ cs) h = rw h refl

-- neither a slash nor a star follows it
pub no_second : (text behind : List ℕ) → text ≡ 47 ∷ behind → begins (λ c. c == 47) behind ≡ false → begins (λ c. c == 42) behind ≡ false → comment_at text ≡ None
no_second text [] e h g = ap comment_at e
no_second text (c ∷ cs) e h g = ap comment_at e ∙ rw (h, g) refl

-- inner documentation
begins_in_front : (p : ℕ → Bool) (xs ys : List ℕ) → begins p xs ≡ true → begins p (xs ++ ys) ≡ true
begins_in_front p [] ys h = absurd (false≢true h)
begins_in_front p (c ∷ xs) ys h = h

pub inner_line : (text line rest : List ℕ) → text ≡ line ++ rest → begins (λ c. c == 33) line ≡ true → comment_at (47 ∷ 47 ∷ text) ≡ None
inner_line text line rest e h = cond-true (opens_inner text) _ _ (ap opens_inner e ∙ begins_in_front (λ c. c == 33) line rest h)

pub inner_block : (text : List ℕ) → begins (λ c. c == 33) text ≡ true → comment_at (47 ∷ 42 ∷ text) ≡ None
inner_block text h = cond-true (opens_inner text) _ _ h

-- a block that doesn't end
pub unclosed : (text : List ℕ) → closing_len 0 text ≡ None → comment_at (47 ∷ 42 ∷ text) ≡ None
unclosed text h =
    cond_both (opens_inner text) None (of_kind (comment_kind (opens_block_doc text)) (plus 2 (closing_len 0 text))) (λ o. o ≡ None)
    (λ _. refl) (λ _. ap (λ o. of_kind (comment_kind (opens_block_doc text)) (plus 2 o)) h)

-- how a comment opens
pub opens_behind : (text behind : List ℕ) → text ≡ 47 ∷ behind → opens_comment text ≡ begins is_slash_or_star behind
opens_behind text behind e = ap opens_comment e

pub opens_none : (text : List ℕ) → begins (λ c. c == 47) text ≡ false → opens_comment text ≡ false
opens_none [] h = refl
opens_none (c ∷ cs) h = rw h refl

-- where a comment opens, and none stands, no piece does
pub no_piece : (text : List ℕ) → opens_comment text ≡ true → comment_at text ≡ None → piece_at text ≡ None
unfolding piece_at
no_piece text opens none = ap (checked text) (subst (λ t. candidate t ≡ comment_at t) (append-nil text) (at_comment text [] opens) ∙ none)
