-- Block comments that nothing closes.
use Rattle.std.proofs.Common.{◌≡◌, ◌≢◌, ℕ, ◌+◌, ◌-◌, false, None, List, [], ◌∷◌, ◌++◌, refl, sym, ap, ◌∙◌}
use Rattle.std.specs.Prelude.{◌==◌, ◌&&◌}
use Rattle.std.proofs.lemmas.Bool.{ne_eqb, cond_both}
use Rattle.educe_tokens_pieces.specs.CommentScan.{closing_len}
use Rattle.educe_tokens_pieces.specs.Fronts.{begins_pair}
use Rattle.educe_tokens_pieces.specs.Machine.{plus}
use Rattle.educe_tokens_pieces.proofs.InPlace.{apart, block_end}

-- no `*/` follows
pub none_ends : (inner : ℕ) (cs : List ℕ) → ((xs ys : List ℕ) → cs ≢ xs ++ (block_end ++ ys)) → closing_len inner cs ≡ None
none_ends inner [] none = refl
none_ends inner (c ∷ []) none = refl
none_ends inner (c ∷ d ∷ cs) none =
    let stays : ((c == 42) && (d == 47)) ≡ false = apart 42 47 c d (λ e f. none [] cs (λ i. e i ∷ f i ∷ cs)) in
    let deeper = none_ends (inner + 1) cs (λ xs ys e. none (c ∷ d ∷ xs) ys (ap (λ t. c ∷ d ∷ t) e)) in
    let further = none_ends inner (d ∷ cs) (λ xs ys e. none (c ∷ xs) ys (ap (λ t. c ∷ t) e)) in
    rw stays (cond_both ((c == 47) && (d == 42)) (plus 2 (closing_len (inner + 1) cs)) (plus 1 (closing_len inner (d ∷ cs))) (λ o. o ≡ None) (λ _. ap (plus 2) deeper) (λ _. ap (plus 1) further))

-- a character that begins neither mark is skipped
none_behind : (inner c : ℕ) (more : List ℕ) → begins_pair 47 42 (c ∷ more) ≡ false → begins_pair 42 47 (c ∷ more) ≡ false → closing_len inner more ≡ None → closing_len inner (c ∷ more) ≡ None
none_behind inner c [] opens closes none = refl
none_behind inner c (d ∷ more) opens closes none = rw (closes, opens) (ap (plus 1) none)

-- where nothing closes behind `/*`, nothing does,
module _ (inner : ℕ) (rest : List ℕ) where
  pub none_opened : (behind : List ℕ) → rest ≡ 47 ∷ 42 ∷ behind → closing_len (inner + 1) behind ≡ None → closing_len inner rest ≡ None
  none_opened behind e none = ap (closing_len inner) e ∙ ap (plus 2) none

  -- nothing closes where nothing does behind a `*/` that closes another comment,
  pub none_closed : (behind : List ℕ) → rest ≡ 42 ∷ 47 ∷ behind → inner ≢ 0 → closing_len (inner - 1) behind ≡ None → closing_len inner rest ≡ None
  none_closed behind e some none = ap (closing_len inner) e ∙ rw (ne_eqb inner 0 some) (ap (plus 2) none)

  -- nothing closes where nothing does behind a character that begins neither `*/` nor another comment
  pub none_stays : (c : ℕ) (more : List ℕ) → rest ≡ c ∷ more → begins_pair 47 42 rest ≡ false → begins_pair 42 47 rest ≡ false → closing_len inner more ≡ None → closing_len inner rest ≡ None
  none_stays c more e opens closes none = ap (closing_len inner) e ∙ none_behind inner c more (sym (ap (begins_pair 47 42) e) ∙ opens) (sym (ap (begins_pair 42 47) e) ∙ closes) none
