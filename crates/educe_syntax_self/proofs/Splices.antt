-- How the tokens with the head in place of each `Self` are made in one pass.
use Rattle.std.proofs.Common.{◌≡◌, ◌≢◌, ℕ, zero, suc, ◌+◌, ◌-◌, ◌<◌, ◌≤◌, ◌==◌, Bool, true, false, ◌&&◌, if◌then◌else◌, List, [], ◌∷◌, ◌++◌, length, take, drop, set, get_or, replicate, slice_index_or, Option, Some, None, refl, sym, ap, subst, ◌∙◌, ◌⊎◌, inl, inr, append_assoc, arith, get_or-set_same, get_or-set_other}
use Rattle.std.proofs.lemmas.Bool.{and_right}
use Rattle.std.proofs.lemmas.List.{take_more, get_or-replicate, length-replicate}
use Rattle.educe_tokens.specs.declared.token.Token.{Token}
use Rattle.educe_grammar.specs.declared.parse_stream.SelfPath.{SelfPath}
use Rattle.educe_grammar.specs.Ahead.{begins_pair}
use Rattle.educe_grammar.specs.Steps.{Tokens}
use Rattle.educe_syntax_self.specs.Replacing.{ends_in_colons}
use Rattle.educe_syntax_self.specs.Splicing.{counts, latest, ending_of, note_at, chosen, walk, spliced, ArePlaces}
use Rattle.educe_syntax_self.proofs.Pieces.{note_at-append}

-- ---- `::` at the end

pub ends_short : (ts : Tokens) → length ts < 2 → ends_in_colons ts ≡ false
unfolding ends_in_colons
ends_short [] few = refl
ends_short (a ∷ []) few = refl
ends_short (a ∷ b ∷ []) few = absurd (omega arith)
ends_short (a ∷ b ∷ t ∷ more) few = absurd (omega arith)

pub ends_drop : (ts : Tokens) → 2 ≤ length ts → ends_in_colons ts ≡ begins_pair 58 58 (drop (length ts - 2) ts)
unfolding ends_in_colons
ends_drop [] many = absurd (omega arith)
ends_drop (a ∷ []) many = absurd (omega arith)
ends_drop (a ∷ b ∷ []) many = refl
ends_drop (a ∷ b ∷ t ∷ more) many =
    let size : suc (length (b ∷ t ∷ more) - 2) ≡ length (a ∷ b ∷ t ∷ more) - 2 = omega arith in
    ends_drop (b ∷ t ∷ more) (omega arith) ∙ ap (λ (n : ℕ). begins_pair 58 58 (drop n (a ∷ b ∷ t ∷ more))) size

-- ---- places

-- no other number is it
not_same : (a b : ℕ) → a ≢ b → (a == b) ≡ false
not_same a b other = grind arith

all_same : (a : ℕ) → (a == a) ≡ true
all_same a = grind arith

is_same : (a b : ℕ) → (a ≡ b) ⊎ (a ≢ b)
is_same a b = grind arith

module _ (tokens : Tokens) (note : SelfPath) where
  -- where it is said
  pub marked : (places : List (Option ℕ)) (place : ℕ) → note.start < length places → counts tokens note ≡ true
      → get_or (set places note.start (Some note.first)) place None ≡ latest (ending_of tokens note place) (get_or places place None)
  marked places place inside counted = step (is_same note.start place)
    where
      says : ◌≡◌ {A = Option ℕ} (Some note.first) (latest (ending_of tokens note note.start) (get_or places note.start None))
      says = λ i. latest (if sym (all_same note.start) i && sym counted i then Some note.first else None) (get_or places note.start None)

      step : (note.start ≡ place) ⊎ (note.start ≢ place) → get_or (set places note.start (Some note.first)) place None ≡ latest (ending_of tokens note place) (get_or places place None)
      step (inl here) =
          subst (λ p. get_or (set places note.start (Some note.first)) p None ≡ latest (ending_of tokens note p) (get_or places p None)) here
          (get_or-set_same places note.start (Some note.first) None inside ∙ says)
      step (inr other) =
          get_or-set_other places note.start place (Some note.first) None (λ e. other (sym e))
          ∙ (λ i. latest (if sym (not_same note.start place other) i && counts tokens note then Some note.first else None) (get_or places place None))

  -- where it doesn't count
  pub uncounted : (old : Option ℕ) (place : ℕ) → counts tokens note ≡ false → old ≡ latest (ending_of tokens note place) old
  uncounted old place none = sym (ap (λ (b : Bool). latest (if b then Some note.first else None) old) (and_right (note.start == place) (counts tokens note) none))

  -- where it begins elsewhere
  pub elsewhere : (old : Option ℕ) (place : ℕ) → note.start ≢ place → old ≡ latest (ending_of tokens note place) old
  elsewhere old place other = λ i. latest (if sym (not_same note.start place other) i && counts tokens note then Some note.first else None) old

-- nothing is said yet
pub no_places : (tokens : Tokens) (found : List (Option ℕ)) → found ≡ replicate (length tokens + 1) None → ArePlaces tokens [] found
unfolding note_at
no_places tokens found is = record {
  size = ap length is ∙ length-replicate (length tokens + 1) None;
  says = λ place less.
      (let size = ap length is ∙ length-replicate (length tokens + 1) None in
      ap (λ (xs : List (Option ℕ)). get_or xs place None) is ∙ get_or-replicate (length tokens + 1) place None None (omega arith));
}

-- one more note
pub more_places : (tokens : Tokens) (notes : List SelfPath) (i : ℕ) (d note : SelfPath) (old new : List (Option ℕ)) → i < length notes → note ≡ get_or notes i d → ArePlaces tokens (take i notes) old → length new ≡ length old
    → ((place : ℕ) → place < length old → slice_index_or new place None ≡ latest (ending_of tokens note place) (slice_index_or old place None)) → ArePlaces tokens (take (i + 1) notes) new
unfolding note_at
more_places tokens notes i d note old new inside is places size marks = record {
  size = size ∙ places.size;
  says = λ place less.
      (let within : place < length old = omega arith in
      let all : take (i + 1) notes ≡ take i notes ++ note ∷ [] = take_more notes i d inside ∙ ap (λ n. take i notes ++ n ∷ []) (sym is) in
      marks place within
      ∙ ap (latest (ending_of tokens note place)) (places.says place within)
      ∙ sym (ap (λ ns. note_at tokens ns place) all ∙ note_at-append tokens (take i notes) (note ∷ []) place));
}

-- ---- the pass

module _ (head : Tokens) (at : ℕ → Option ℕ) where
  -- the pass skips the tokens that are dropped
  walk_drop : (n : ℕ) (ts : Tokens) → walk head at n ts ≡ walk head at zero (drop n ts)
  unfolding walk
  walk_drop zero ts = refl
  walk_drop (suc n) [] = refl
  walk_drop (suc n) (t ∷ ts) = walk_drop n ts

  -- the token stays
  pub walk_stays : (old : Tokens) (t : Token) (behind : Tokens) → at (suc (length behind)) ≡ None → (old ++ t ∷ []) ++ walk head at zero behind ≡ old ++ walk head at zero (t ∷ behind)
  unfolding walk
  walk_stays old t behind none =
      append_assoc old (t ∷ []) (walk head at zero behind)
      ∙ ap (λ o. old ++ chosen head t (walk head at zero behind) (λ left. walk head at (length behind - left) behind) o) (sym none)

  -- the head stands in its place
  pub walk_goes : (old : Tokens) (t : Token) (behind : Tokens) (left : ℕ) → at (suc (length behind)) ≡ Some left
      → (old ++ head) ++ walk head at zero (drop (length behind - left) behind) ≡ old ++ walk head at zero (t ∷ behind)
  unfolding walk
  walk_goes old t behind left some =
      append_assoc old head (walk head at zero (drop (length behind - left) behind))
      ∙ ap (λ us. old ++ (head ++ us)) (sym (walk_drop (length behind - left) behind))
      ∙ ap (λ o. old ++ chosen head t (walk head at zero behind) (λ left. walk head at (length behind - left) behind) o) (sym some)

  -- behind the last token nothing is left
  pub walk_nothing : walk head at zero [] ≡ []
  unfolding walk
  walk_nothing = refl

-- where nothing is noted the tokens stay
pub splice_nothing : (head tokens : Tokens) → spliced head tokens [] ≡ tokens
unfolding walk note_at
splice_nothing head tokens = stays tokens tokens
  where
    stays : (whole ts : Tokens) → walk head (note_at whole []) zero ts ≡ ts
    stays whole [] = refl
    stays whole (t ∷ ts) = ap (λ us. t ∷ us) (stays whole ts)
