-- What is read of the front of tokens, with what is noted of it and what is spliced of it, apart from any rule.
use Rattle.std.proofs.Common.{◌≡◌, ℕ, zero, suc, ◌+◌, ◌-◌, ◌<◌, ◌≤◌, ◌==◌, Bool, true, false, ◌&&◌, if◌then◌else◌, List, [], ◌∷◌, ◌++◌, length, Option, Some, None, refl, sym, ap, subst, ◌∙◌, ◌⊎◌, inl, inr, append_assoc, append-nil, length-append, arith}
use Rattle.std.proofs.Math.Seq.{drop-append_seam, take-append_seam}
use Rattle.educe_tokens.specs.declared.token.Token.{Token}
use Rattle.educe_grammar.specs.declared.parse_stream.ParseStream.{ParseStream}
use Rattle.educe_grammar.specs.declared.parse_stream.SelfPath.{SelfPath}
use Rattle.educe_grammar.specs.Reads.{parts}
use Rattle.educe_grammar.specs.Rules.{Part, TreeOf}
use Rattle.educe_grammar.specs.Steps.{Tokens}
use Rattle.educe_syntax_self.specs.Heads.{IsHead}
use Rattle.educe_syntax_self.specs.Replacing.{Changes}
use Rattle.educe_syntax_self.specs.Selves.{is_self}
use Rattle.educe_syntax_self.specs.Splicing.{counts, latest, ending_of, note_at, chosen, walk}
use Rattle.educe_syntax_self.proofs.HeadReads.{named}
use Rattle.educe_syntax_self.proofs.Starts.{SameStart, same_start, start_both}

-- ---- notes

-- Each of the paths begins where no more than so many tokens are left, and more than so many.
pub data Begin (low high : ℕ) : List SelfPath → Type 0 where
  none : Begin low high []
  one : (note : SelfPath) (notes : List SelfPath) → low < note.start → note.start ≤ high → Begin low high notes → Begin low high (note ∷ notes)

-- paths that begin between two bounds begin between wider ones
pub begin_wider : {low high down up : ℕ} {notes : List SelfPath} → down ≤ low → high ≤ up → Begin low high notes → Begin down up notes
begin_wider below above Begin.none = Begin.none
begin_wider below above (Begin.one note notes least most more) = Begin.one note notes (omega arith) (omega arith) (begin_wider below above more)

-- two lists of paths that begin between two bounds do so together
pub begin_both : {low high : ℕ} {notes more : List SelfPath} → Begin low high notes → Begin low high more → Begin low high (notes ++ more)
begin_both Begin.none others = others
begin_both {more = more} (Begin.one note notes least most others) behind = Begin.one note (notes ++ more) least most (begin_both others behind)

-- other numbers are not equal
not_same : (a b : ℕ) → (a < b) ⊎ (b < a) → (a == b) ≡ false
not_same a b other = grind arith

all_same : (a : ℕ) → (a == a) ≡ true
all_same a = grind arith

-- elsewhere no path begins
pub none_at : {low high : ℕ} {notes : List SelfPath} → Begin low high notes → (whole : Tokens) (place : ℕ) → (place ≤ low) ⊎ (high < place) → note_at whole notes place ≡ None
unfolding note_at
none_at Begin.none whole place other = refl
none_at (Begin.one note notes least most more) whole place other =
    let e = not_same note.start place (elim other [ inl h ↦ inr (omega arith) | inr h ↦ inl (omega arith) ]) in
    (λ i. latest (none_at more whole place other i) (if e i && counts whole note then Some note.first else None))

-- the last one counts
latest-assoc : (o p q : Option ℕ) → latest (latest o p) q ≡ latest o (latest p q)
latest-assoc (Some x) p q = refl
latest-assoc None p q = refl

pub note_at-append : (whole : Tokens) (notes more : List SelfPath) (place : ℕ) → note_at whole (notes ++ more) place ≡ latest (note_at whole more place) (note_at whole notes place)
unfolding note_at
note_at-append whole [] more place = sym (latest_none (note_at whole more place))
  where
    latest_none : (o : Option ℕ) → latest o None ≡ o
    latest_none (Some x) = refl
    latest_none None = refl
note_at-append whole (note ∷ notes) more place =
    ap (λ o. latest o (ending_of whole note place)) (note_at-append whole notes more place) ∙ latest-assoc (note_at whole more place) (note_at whole notes place) (ending_of whole note place)

-- where the other is none, the one counts
last_one : (o p : Option ℕ) → p ≡ None → latest o p ≡ o
last_one (Some x) p is = refl
last_one None p is = is

-- between these places the two say the same
abbrev pub Agrees : (ℕ → Option ℕ) → (ℕ → Option ℕ) → ℕ → ℕ → Type 0
Agrees f g low high = (place : ℕ) → low < place → place ≤ high → f place ≡ g place

-- ---- walks

-- What is fixed of a reading: what stands in place of `Self`, all tokens, what a place says, and what the parts become.
pub record Setting : Type 1 where
  pub head : Tokens
  pub is_head : IsHead head
  pub whole : Tokens
  pub at : ℕ → Option ℕ
  pub changes : Changes
  pub back : (budget : ℕ) (p : Part) (before tokens behind : Tokens) (x : TreeOf p) (out : Tokens) (y : TreeOf p) → changes budget p before tokens behind x out y → parts (suc budget) p out y

module _ (head : Tokens) (at : ℕ → Option ℕ) where
  -- where nothing is said the tokens stay
  walk_plain : (front ts : Tokens) → Agrees at (λ place. None) (length ts) (length (front ++ ts)) → walk head at zero (front ++ ts) ≡ front ++ walk head at zero ts
  unfolding walk
  walk_plain [] ts still = refl
  walk_plain (t ∷ front) ts still =
      let longer = length-append front ts in
      ap (chosen head t (walk head at zero (front ++ ts)) (λ left. walk head at (length (front ++ ts) - left) (front ++ ts))) (still (suc (length (front ++ ts))) (omega arith) (omega arith))
      ∙ ap (λ us. t ∷ us) (walk_plain front ts (λ place least most. still place least (omega arith)))

  -- what is dropped
  walk_away : (front ts : Tokens) → walk head at (length front) (front ++ ts) ≡ walk head at zero ts
  unfolding walk
  walk_away [] ts = refl
  walk_away (t ∷ front) ts = walk_away front ts

  -- the head stands in place of what a place says
  walk_head : (t : Token) (front ts : Tokens) → at (suc (length (front ++ ts))) ≡ Some (length ts) → walk head at zero (t ∷ front ++ ts) ≡ head ++ walk head at zero ts
  unfolding walk
  walk_head t front ts some =
      let longer = length-append front ts in
      let away : length (front ++ ts) - length ts ≡ length front = omega arith in
      ap (chosen head t (walk head at zero (front ++ ts)) (λ left. walk head at (length (front ++ ts) - left) (front ++ ts))) some
      ∙ ap (λ us. head ++ us) (ap (λ n. walk head at n (front ++ ts)) away ∙ walk_away front ts)

-- ---- pieces

-- what is left with one more path that was noted
abbrev pub with_note : ParseStream → SelfPath → ParseStream
with_note s note = record { cursor = s.cursor; selves = s.selves ++ note ∷ [] }

-- nothing is both of two
both_nil : {A : Type 0} (xs ys : List A) → xs ++ ys ≡ [] → (xs ≡ []) × (ys ≡ [])
both_nil [] ys is = (refl, is)
both_nil (x ∷ xs) ys is = absurd (cc)

module _ (c : Setting) where
  -- What is read of the front of the tokens, what is noted of it, and what is spliced of it.
  pub record Piece (s t : ParseStream) (front out : Tokens) : Type 0 where
    pub all : s.cursor ≡ front ++ t.cursor
    pub notes : List SelfPath
    pub noted : t.selves ≡ s.selves ++ notes
    pub begin : Begin (length t.cursor) (length s.cursor) notes
    pub starts : SameStart front out
    pub quiet : notes ≡ [] → out ≡ front
    pub splices : Agrees c.at (note_at c.whole notes) (length t.cursor) (length s.cursor) → walk c.head c.at zero s.cursor ≡ out ++ walk c.head c.at zero t.cursor

  -- how many are left
  pub piece_left : {s t : ParseStream} {front out : Tokens} → Piece s t front out → length s.cursor ≡ length front + length t.cursor
  piece_left {t = t} {front = front} p = ap length p.all ∙ length-append front t.cursor

  -- tokens that stay
  pub fixed : {s t : ParseStream} (front : Tokens) → s.cursor ≡ front ++ t.cursor → t.selves ≡ s.selves → Piece s t front front
  unfolding note_at
  fixed {s = s} {t = t} front all kept = record {
    all = all;
    notes = [];
    noted = kept ∙ sym (append-nil s.selves);
    begin = Begin.none;
    starts = same_start front;
    quiet = λ none. refl;
    splices = λ says. (let size = ap length all in
        ap (walk c.head c.at zero) all ∙ walk_plain c.head c.at front t.cursor (λ place least most. says place least (omega arith)));
  }

  -- no tokens
  pub nothing : {s t : ParseStream} → s ≡ t → Piece s t [] []
  nothing {s = s} {t = t} same = fixed [] (ap (λ (u : ParseStream). u.cursor) same) (ap (λ (u : ParseStream). u.selves) (sym same))

  -- one piece behind another
  pub joined : {s m t : ParseStream} {front rest out later : Tokens} → Piece s m front out → Piece m t rest later → Piece s t (front ++ rest) (out ++ later)
  joined {s = s} {m = m} {t = t} {front = front} {rest = rest} {out = out} {later = later} p q =
      let first = piece_left p in
      let second = piece_left q in
      record {
        all = p.all ∙ ap (λ us. front ++ us) q.all ∙ sym (append_assoc front rest t.cursor);
        notes = p.notes ++ q.notes;
        noted = q.noted ∙ ap (λ ns. ns ++ q.notes) p.noted ∙ append_assoc s.selves p.notes q.notes;
        begin = begin_both (begin_wider (omega arith) (omega arith) p.begin) (begin_wider (omega arith) (omega arith) q.begin);
        starts = start_both p.starts q.starts;
        quiet = λ none. (let both = both_nil p.notes q.notes none in λ i. p.quiet both.0 i ++ q.quiet both.1 i);
        splices = λ says.
            p.splices (λ place least most.
            says place (omega arith) most ∙ note_at-append c.whole p.notes q.notes place ∙ ap (λ o. latest o (note_at c.whole p.notes place)) (none_at q.begin c.whole place (inr least)))
            ∙ ap (λ us. out ++ us) (q.splices (λ place least most.
            says place least (omega arith) ∙ note_at-append c.whole p.notes q.notes place ∙ last_one (note_at c.whole q.notes place) (note_at c.whole p.notes place) (none_at p.begin c.whole place (inl most))))
            ∙ sym (append_assoc out later (walk c.head c.at zero t.cursor));
      }

  -- one more path that is noted and stays
  pub passed : {s t : ParseStream} {front out : Tokens} (note : SelfPath) → length t.cursor < note.start → note.start ≤ length s.cursor → counts c.whole note ≡ false → Piece s t front out → Piece s (with_note t note) front out
  unfolding note_at
  passed {s = s} {t = t} {front = front} {out = out} note least most stays p = record {
    all = p.all;
    notes = p.notes ++ note ∷ [];
    noted = ap (λ ns. ns ++ note ∷ []) p.noted ∙ append_assoc s.selves p.notes (note ∷ []);
    begin = begin_both p.begin (Begin.one note [] least most Begin.none);
    starts = p.starts;
    quiet = λ none. absurd (let last = (both_nil p.notes (note ∷ []) none).1 in cc);
    splices = λ says. p.splices (λ place above below.
        says place above below ∙ note_at-append c.whole p.notes (note ∷ []) place ∙ ap (λ o. latest o (note_at c.whole p.notes place)) (uncounted (note.start == place) (counts c.whole note) stays));
  }
    where
      uncounted : (a b : Bool) → b ≡ false → (if a && b then Some note.first else None) ≡ None
      uncounted true b is = ap (λ (b : Bool). if b then Some note.first else None) is
      uncounted false b is = refl

  -- what is noted of the path that begins at the first, has its first segment up to the second, and ends at the third
  abbrev pub path_note : ParseStream → ParseStream → ParseStream → SelfPath
  path_note s m t = record { start = length s.cursor; first = length m.cursor; behind = length t.cursor }

  -- the head in place of the first segment of a path
  pub headed : {s m t : ParseStream} {rest later : Tokens} (word : Token) (front out : Tokens) → is_self word ≡ true → counts c.whole (path_note s m t) ≡ true → Piece s m (word ∷ front) out → Piece m t rest later
      → Piece s (with_note t (path_note s m t)) (word ∷ front ++ rest) (c.head ++ later)
  unfolding note_at joined
  headed {s = s} {m = m} {t = t} {rest = rest} {later = later} word front out is counted p q =
      let note = path_note s m t in
      let own = named c.head c.is_head in
      let first = piece_left p in
      let second = piece_left q in
      let both = joined p q in
      record {
        all = both.all;
        notes = both.notes ++ note ∷ [];
        noted = ap (λ ns. ns ++ note ∷ []) both.noted ∙ append_assoc s.selves both.notes (note ∷ []);
        begin = begin_both both.begin (Begin.one note [] (omega arith) (omega arith) Begin.none);
        starts = subst (λ us. SameStart (word ∷ front ++ rest) (us ++ later)) (sym own.is) (SameStart.changed word own.first (front ++ rest) (own.rest ++ later) is own.named);
        quiet = λ none. absurd (let last = (both_nil both.notes (note ∷ []) none).1 in cc);
        splices = λ says.
            (let here : c.at (suc (length (front ++ m.cursor))) ≡ Some (length m.cursor) =
            ap c.at (sym (ap length p.all))
            ∙ says (length s.cursor) (omega arith) (omega arith)
            ∙ note_at-append c.whole both.notes (note ∷ []) (length s.cursor)
            ∙ ap (λ o. latest o (note_at c.whole both.notes (length s.cursor))) (λ i. if all_same (length s.cursor) i && counted i then Some (length m.cursor) else None) in
            ap (walk c.head c.at zero) p.all
            ∙ walk_head c.head c.at word front m.cursor here
            ∙ ap (λ us. c.head ++ us) (q.splices (λ place least most.
            says place least (omega arith) ∙ note_at-append c.whole both.notes (note ∷ []) place
            ∙ ap (λ o. latest o (note_at c.whole both.notes place)) (ap (λ (b : Bool). if b && counts c.whole note then Some note.first else None) (not_same (length s.cursor) place (inr (omega arith))))
            ∙ note_at-append c.whole p.notes q.notes place ∙ last_one (note_at c.whole q.notes place) (note_at c.whole p.notes place) (none_at p.begin c.whole place (inl most))))
            ∙ sym (append_assoc c.head later (walk c.head c.at zero t.cursor)));
      }
