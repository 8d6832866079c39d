-- Paths: the head stands in place of a first segment that is `Self`, unless `::` stands before it or a macro is called behind it.
use Rattle.std.proofs.Common.{◌≡◌, ℕ, zero, suc, ◌-◌, ◌<◌, Bool, true, false, not, ◌&&◌, if◌then◌else◌, List, [], ◌∷◌, ◌++◌, length, take, drop, refl, sym, ap, subst, ◌∙◌, ◌⊎◌, inl, inr, append_assoc, append-nil, length-append, arith, Ok}
use Rattle.std.proofs.lemmas.Bool.{and_right, false≢true}
use Rattle.std.proofs.Math.Seq.{drop-append_seam, take-append_seam}
use Rattle.educe_tokens.specs.declared.token.Token.{Token}
use Rattle.educe_grammar.specs.declared.parse_stream.ParseStream.{ParseStream}
use Rattle.educe_grammar.specs.declared.parse_stream.SelfPath.{SelfPath}
use Rattle.educe_grammar.specs.declared.terminal.Keyword.TheVariants.{SelfType}
use Rattle.educe_grammar.specs.declared.terminal.Terminal.TheVariants.{Word}
use Rattle.educe_grammar.specs.Ahead.{sees, begins_pair}
use Rattle.educe_grammar.specs.Combining.{at_colons, skipping, flag, colons}
use Rattle.educe_grammar.specs.NotedReads.{read}
use Rattle.educe_grammar.specs.Noting as noting
use Rattle.educe_grammar.specs.Noting.{Noted, run}
use Rattle.educe_grammar.specs.Reading.{Parses}
use Rattle.educe_grammar.specs.Reads.{parts}
use Rattle.educe_grammar.specs.Rules.{Rule, both, path}
use Rattle.educe_grammar.specs.Steps.{Tokens}
use Rattle.educe_grammar.specs.Terminals.{accepts}
use Rattle.educe_grammar.proofs.Beginnings.{paired, pair_alone}
use Rattle.educe_syntax_self.specs.Replacing.{Change, ends_in_colons, is_replaced, One, Linked, FirstOf, Replaces}
use Rattle.educe_syntax_self.specs.Selves.{is_self, begins_self, begins_call}
use Rattle.educe_syntax_self.specs.Splicing.{counts}
use Rattle.educe_syntax_self.proofs.NotedSteps.{both_same, went, chose, noted_reads}
use Rattle.educe_syntax_self.proofs.Pieces.{Setting, Piece, piece_left, fixed, nothing, joined, passed, path_note, with_note, headed}
use Rattle.educe_syntax_self.proofs.Turns.{Same, Pairwise, Place, Anywhere, moved_on, Turned, Turns, moved, behind_is, turns_both_then, turns_made, turns_operator, turns_flag}

-- ---- places

-- `::` stands before
abbrev pub BehindColons : Place
BehindColons before behind = ends_in_colons before ≡ true

-- a macro is called behind
abbrev pub BeforeCall : Place
BeforeCall before behind = begins_call behind ≡ true

-- in such places nothing is replaced
pub colons_stay : (before tokens behind : Tokens) → BehindColons before behind → is_replaced before tokens behind ≡ false
colons_stay before tokens behind h = ap (λ b. begins_self tokens && (not b && not (begins_call behind))) h ∙ and_right (begins_self tokens) false refl

pub calls_stay : (before tokens behind : Tokens) → BeforeCall before behind → is_replaced before tokens behind ≡ false
calls_stay before tokens behind h =
    ap (λ b. begins_self tokens && (not (ends_in_colons before) && not b)) h
    ∙ ap (λ b. begins_self tokens && b) (and_right (not (ends_in_colons before)) false refl) ∙ and_right (begins_self tokens) false refl

-- what ends in `::` does
ends_so : (before : Tokens) (a b : Token) → begins_pair 58 58 (a ∷ b ∷ []) ≡ true → ends_in_colons (before ++ a ∷ b ∷ []) ≡ true
unfolding ends_in_colons
ends_so [] a b h = h
ends_so (t ∷ []) a b h = h
ends_so (t ∷ u ∷ []) a b h = h
ends_so (t ∷ u ∷ v ∷ more) a b h = ends_so (u ∷ v ∷ more) a b h

two_end : (before front : Tokens) → length front ≡ 2 → begins_pair 58 58 front ≡ true → ends_in_colons (before ++ front) ≡ true
unfolding begins_pair
two_end before [] two h = absurd (false≢true h)
two_end before (a ∷ []) two h = absurd (false≢true h)
two_end before (a ∷ b ∷ []) two h = ends_so before a b h
two_end before (a ∷ b ∷ u ∷ more) two h = absurd (omega arith)

pub colons_end : (budget : ℕ) (before front : Tokens) (x : Unit {0}) → Parses parts budget colons front x → ends_in_colons (before ++ front) ≡ true
unfolding Parses
colons_end budget before front x is = two_end before front is.0 is.1

-- ---- segments

-- What holds of the segments of a path: which the head is, what it is in place of a `Self`, and what becomes of others.
pub record Segments (c : Setting) (budget : ℕ) {A : Type 0} (g : Rule A) (First V : A → A → Type 0) : Type 0 where
  pub value : A
  pub reads : Parses parts (suc budget) g c.head value
  pub filled : (x : A) → Parses parts budget g [] x → ⊥
  pub first : (tokens : Tokens) (x : A) → begins_self tokens ≡ true → Parses parts budget g tokens x → First x value
  pub each : Turns c Anywhere budget g V

-- the first is related so, and the others otherwise
pub data Headed {A : Type 0} (First V : A → A → Type 0) : List A → List A → Type 0 where
  leads : {x y : A} {xs ys : List A} → First x y → Pairwise V xs ys → Headed First V (x ∷ xs) (y ∷ ys)

-- the segments of a path are related, of which the first is replaced or isn't, as the flag says
abbrev pub Become : {A : Type 0} → (A → A → Type 0) → (A → A → Type 0) → Bool → List A → List A → Type 0
Become First V true xs ys = Headed First V xs ys
Become First V false xs ys = Pairwise V xs ys

-- the segments of any path are related, of which the first may be replaced
abbrev pub Started : {A : Type 0} → (A → A → Type 0) → (A → A → Type 0) → List A → List A → Type 0
Started First V xs ys = Headed First V xs ys ⊎ Pairwise V xs ys

module _ (c : Setting) where
  -- what is noted of a path counts if the path is replaced
  counts_is : (before front : Tokens) (s m t : ParseStream) → c.whole ≡ before ++ s.cursor → s.cursor ≡ front ++ t.cursor → counts c.whole (path_note c s m t) ≡ is_replaced before s.cursor t.cursor
  counts_is before front s m t at all =
      let end : c.whole ≡ (before ++ front) ++ t.cursor = at ∙ ap (λ us. before ++ us) all ∙ sym (append_assoc before front t.cursor) in
      let one : length c.whole - length s.cursor ≡ length before = sub_of c.whole before s.cursor at in
      let two : length c.whole - length t.cursor ≡ length (before ++ front) = sub_of c.whole (before ++ front) t.cursor end in
      let earlier : take (length c.whole - length s.cursor) c.whole ≡ before = (λ i. take (one i) (at i)) ∙ take-append_seam before s.cursor in
      let here : drop (length c.whole - length s.cursor) c.whole ≡ s.cursor = (λ i. drop (one i) (at i)) ∙ drop-append_seam before s.cursor in
      let later : drop (length c.whole - length t.cursor) c.whole ≡ t.cursor = (λ i. drop (two i) (end i)) ∙ drop-append_seam (before ++ front) t.cursor in
      λ i. is_replaced (earlier i) (here i) (later i)
    where
      sub_of : (all front rest : Tokens) → all ≡ front ++ rest → length all - length rest ≡ length front
      sub_of all front rest is = omega (arith, ap length is ∙ length-append front rest)

module _ (c : Setting) (budget : ℕ) {A : Type 0} (g : Rule A) (First V : A → A → Type 0) (segments : Segments c budget g First V) where
  abbrev C : Change A
  C = Replaces c.head parts c.changes budget g

  abbrev F : Bool → Change A
  F b = FirstOf c.head parts budget g b C

  -- Further segments behind the first.
  record Further (before : Tokens) (found all : List A) (s t : ParseStream) : Type 0 where
    more : List A
    found_is : all ≡ found ++ more
    front : Tokens
    out : Tokens
    values : List A
    piece : Piece c s t front out
    related : Pairwise V more values
    linked : (b flag : Bool) (earlier first changed : Tokens) (x y : A) → before ≡ earlier ++ first → One (F b) C flag earlier first (front ++ t.cursor) x changed y
        → Linked (F b) C flag earlier (first ++ front) t.cursor (x ∷ more) (changed ++ out) (y ∷ values)

  -- no further one
  no_further : (before : Tokens) (found all : List A) (s t : ParseStream) → ◌≡◌ {A = Noted (List A)} (Ok (found, s)) (Ok (all, t)) → Further before found all s t
  no_further before found all s t h =
      let e = both_same h in
      record {
        more = [];
        found_is = sym e.0 ∙ sym (append-nil found);
        front = [];
        out = [];
        values = [];
        piece = nothing c e.1;
        related = Pairwise.none;
        linked = λ b flag earlier front changed x y is this.
            subst (λ (us : Tokens). Linked (F b) C flag earlier us t.cursor (x ∷ []) (changed ++ []) (y ∷ [])) (sym (append-nil front))
            (subst (λ (us : Tokens). Linked (F b) C flag earlier front t.cursor (x ∷ []) us (y ∷ [])) (sym (append-nil changed)) (Linked.last front changed this));
      }

  -- further ones, each behind `::`
  some_further : (n : ℕ) (found all : List A) (before : Tokens) (s t : ParseStream) → c.whole ≡ before ++ s.cursor → noting.further (read budget g) n found s ≡ Ok (all, t) → Further before found all s t
  unfolding noting.further
  some_further zero found all before s t at h =
      elim (chose (begins_pair 58 58 s.cursor) _ _ (Ok (all, t)) h) [
        | inl u ↦ absurd (let k = u.1 in cc)
        | inr u ↦ no_further before found all s t u.1
      ]
  some_further (suc n) found all before s t at h =
      elim (chose (begins_pair 58 58 s.cursor) _ _ (Ok (all, t)) h) [
        | inl u ↦ (let two = paired 58 58 s.cursor u.0 in
            let sign : Tokens = two.first ∷ two.second ∷ [] in
            let m : ParseStream = record { cursor = drop 2 s.cursor; selves = s.selves } in
            let opened : s.cursor ≡ two.first ∷ two.second ∷ m.cursor = two.whole ∙ ap (λ us. two.first ∷ two.second ∷ us) (sym (ap (drop 2) two.whole)) in
            let mark : Piece c s m sign sign = fixed c sign opened refl in
            let v = went (read budget g m) _ all t u.1 in
            let there = moved_on c before at mark in
            let one = segments.each.turn (before ++ sign) m v.left v.value tt there v.first in
            let others = some_further n (found ++ v.value ∷ []) all ((before ++ sign) ++ one.front) v.left t (moved_on c (before ++ sign) there one.piece) v.second in
            let pair : (us : Tokens) → begins_pair 58 58 (two.first ∷ two.second ∷ us) ≡ true =
            λ us. pair_alone 58 58 two.first two.second two.behind us (subst (λ us. begins_pair 58 58 us ≡ true) two.whole u.0) in
            record {
              more = v.value ∷ others.more;
              found_is = others.found_is ∙ append_assoc found (v.value ∷ []) others.more;
              front = two.first ∷ two.second ∷ (one.front ++ others.front);
              out = two.first ∷ two.second ∷ (one.out ++ others.out);
              values = one.value ∷ others.values;
              piece = joined c mark (joined c one.piece others.piece);
              related = Pairwise.one one.related others.related;
              linked = λ b flag earlier first changed x y is this.
                  (let inner : C ((earlier ++ first) ++ sign) one.front (others.front ++ t.cursor) v.value one.out one.value =
                  subst (λ (us : Tokens). C (us ++ sign) one.front (others.front ++ t.cursor) v.value one.out one.value) is (behind_is c others.piece.all one) in
                  Linked.more first (one.front ++ others.front) changed (one.out ++ others.out) two.first two.second this (pair (one.front ++ others.front)) (pair (one.out ++ others.out))
                  (others.linked b false ((earlier ++ first) ++ sign) one.front one.out v.value one.value (ap (λ us. (us ++ sign) ++ one.front) is) inner));
            })
        | inr u ↦ no_further before found all s t u.1
      ]

  -- The segments of a path.
  record PathTurned (before : Tokens) (s t : ParseStream) (xs : List A) : Type 0 where
    front : Tokens
    out : Tokens
    values : List A
    piece : Piece c s t front out
    is : Linked (F (is_replaced before front t.cursor)) C true before front t.cursor xs out values
    related : Become First V (is_replaced before front t.cursor) xs values

  -- where it is known whether the first is replaced
  settled : (b : Bool) (before front out : Tokens) (s t : ParseStream) (xs values : List A) → is_replaced before front t.cursor ≡ b → Piece c s t front out
      → Linked (F b) C true before front t.cursor xs out values → Become First V b xs values → PathTurned before s t xs
  settled b before front out s t xs values replaced piece is related = record {
    front = front;
    out = out;
    values = values;
    piece = piece;
    is = subst (λ b. Linked (F b) C true before front t.cursor xs out values) (sym replaced) is;
    related = subst (λ b. Become First V b xs values) (sym replaced) related;
  }

  -- the segments behind a first one, which begins with this word
  path_from : (before : Tokens) (s m t : ParseStream) (x : A) (all : List A) (this : Turned c budget g V before s m x) (others : Further (before ++ this.front) (x ∷ []) all m t)
      → c.whole ≡ before ++ s.cursor → Parses parts budget g this.front x → (word : Token) (front : Tokens) → this.front ≡ word ∷ front → (b : Bool) → sees (accepts (Word SelfType)) s.cursor ≡ b
      → PathTurned before s (if b then with_note t (path_note c s m t) else t) (x ∷ others.more)
  unfolding sees begins_self
  path_from before s m t x all this others at reads word front e false differs =
      let other : is_self word ≡ false = sym (ap (sees (accepts (Word SelfType))) (this.piece.all ∙ ap (λ us. us ++ m.cursor) e)) ∙ differs in
      let same : is_replaced before (this.front ++ others.front) t.cursor ≡ false =
      ap (λ us. begins_self (us ++ others.front) && (not (ends_in_colons before) && not (begins_call t.cursor))) e ∙ ap (λ b. b && (not (ends_in_colons before) && not (begins_call t.cursor))) other in
      settled false before (this.front ++ others.front) (this.out ++ others.out) s t (x ∷ others.more) (this.value ∷ others.values) same (joined c this.piece others.piece)
      (others.linked false true before this.front this.out x this.value refl (behind_is c others.piece.all this)) (Pairwise.one this.related others.related)
  path_from before s m t x all this others at reads word front e true begins = step (counts c.whole note) refl
    where
      note : SelfPath
      note = path_note c s m t

      is_word : is_self word ≡ true
      is_word = sym (ap (sees (accepts (Word SelfType))) (this.piece.all ∙ ap (λ us. us ++ m.cursor) e)) ∙ begins

      both_pieces : Piece c s t (this.front ++ others.front) (this.out ++ others.out)
      both_pieces = joined c this.piece others.piece

      replaced_is : is_replaced before (this.front ++ others.front) t.cursor ≡ counts c.whole note
      replaced_is =
          ap (λ us. begins_self (us ++ others.front) && (not (ends_in_colons before) && not (begins_call t.cursor))) e
          ∙ sym (counts_is c before (this.front ++ others.front) s m t at both_pieces.all
          ∙ ap (λ us. begins_self us && (not (ends_in_colons before) && not (begins_call t.cursor))) (this.piece.all ∙ ap (λ us. us ++ m.cursor) e))

      shorter : length t.cursor < length s.cursor
      shorter = omega (arith, piece_left c this.piece, piece_left c others.piece, ap length e)

      step : (r : Bool) → counts c.whole note ≡ r → PathTurned before s (with_note t note) (x ∷ others.more)
      step false is =
          settled false before (this.front ++ others.front) (this.out ++ others.out) s (with_note t note) (x ∷ others.more) (this.value ∷ others.values) (replaced_is ∙ is)
          (passed c note shorter (omega arith) is both_pieces)
          (others.linked false true before this.front this.out x this.value refl (behind_is c others.piece.all this)) (Pairwise.one this.related others.related)
      step true is =
          settled true before (this.front ++ others.front) (c.head ++ others.out) s (with_note t note) (x ∷ others.more) (segments.value ∷ others.values) (replaced_is ∙ is)
          (subst (λ us. Piece c s (with_note t note) (us ++ others.front) (c.head ++ others.out)) (sym e)
          (headed c word front this.out is_word is (subst (λ us. Piece c s m us this.out) e this.piece) others.piece))
          (others.linked true true before this.front c.head x segments.value refl (refl, segments.reads)) (Headed.leads (segments.first this.front x (ap begins_self e ∙ is_word) reads) others.related)

  -- what is noted leaves the tokens as they are
  noted_cursor : (b : Bool) (s t : ParseStream) → s.cursor ≡ t.cursor → (if b then s else t).cursor ≡ t.cursor
  noted_cursor true s t e = e
  noted_cursor false s t e = refl

  -- a path
  turns_path_in : (P : Place) (W : List A → List A → Type 0) → ((before front behind : Tokens) → P before behind → (xs ys : List A) → Become First V (is_replaced before front behind) xs ys → W xs ys)
      → Turns c P budget (path g) W
  unfolding run Replaces
  turns_path_in P W goes = record {
    turn = λ before s t xs here at is.
        (let v = went (read budget g s) _ xs t is in
        let w = went (noting.further (read budget g) (length s.cursor) (v.value ∷ []) v.left) _ xs t v.second in
        let e = both_same w.second in
        let one = segments.each.turn before s v.left v.value tt at v.first in
        let others = some_further (length s.cursor) (v.value ∷ []) w.value (before ++ one.front) v.left w.left (moved_on c before at one.piece) w.first in
        let reads = noted_reads budget g s v.left v.value one.front v.first one.piece.all in
        let all = from_front before s v.left w.left v.value w.value one others at reads one.front refl in
        let last : t.cursor ≡ (noting.noted s v.left w.left).cursor = ap (λ (u : ParseStream). u.cursor) (sym e.1) in
        moved c (sym others.found_is ∙ e.0) e.1 (record {
          front = all.front;
          out = all.out;
          value = all.values;
          piece = all.piece;
          is = all.is;
          related = goes before all.front (noting.noted s v.left w.left).cursor (subst (P before) last here) (v.value ∷ others.more) all.values all.related;
        }));
  }
    where
      from_front : (before : Tokens) (s m t : ParseStream) (x : A) (all : List A) (this : Turned c budget g V before s m x) (others : Further (before ++ this.front) (x ∷ []) all m t)
          → c.whole ≡ before ++ s.cursor → Parses parts budget g this.front x → (front : Tokens) → this.front ≡ front → PathTurned before s (noting.noted s m t) (x ∷ others.more)
      from_front before s m t x all this others at reads [] e = absurd (segments.filled x (subst (λ us. Parses parts budget g us x) e reads))
      from_front before s m t x all this others at reads (word ∷ front) e = path_from before s m t x all this others at reads word front e (sees (accepts (Word SelfType)) s.cursor) refl

  -- anywhere
  pub turns_path : Turns c Anywhere budget (path g) (Started First V)
  turns_path = turns_path_in Anywhere (Started First V) (λ before front behind here xs ys h. either (is_replaced before front behind) xs ys h)
    where
      either : (b : Bool) (xs ys : List A) → Become First V b xs ys → Started First V xs ys
      either true xs ys h = inl h
      either false xs ys h = inr h

  -- where nothing is replaced
  pub turns_path_kept : (P : Place) → ((before front behind : Tokens) → P before behind → is_replaced before front behind ≡ false) → Turns c P budget (path g) (Pairwise V)
  turns_path_kept P stays = turns_path_in P (Pairwise V) (λ before front behind here xs ys h. subst (λ b. Become First V b xs ys) (stays before front behind here) h)

-- ---- `::` before a path

module _ (c : Setting) where
  -- maybe `::`, and then a rule
  abbrev pub BehindFlag : Bool → Place
  BehindFlag true before behind = BehindColons before behind
  BehindFlag false before behind = Unit {0}

  flag_place : (budget : ℕ) (before front behind : Tokens) (x : Bool) → Parses parts budget (flag at_colons colons) front x → BehindFlag x (before ++ front) behind
  unfolding Parses
  flag_place budget before front behind true (inl is) = colons_end budget before front is.0 is.2
  flag_place budget before front behind true (inr is) = absurd (false≢true (sym is.1))
  flag_place budget before front behind false is = tt

  pub turns_leading : {budget : ℕ} {A : Type 0} {g : Rule A} {V W : A → A → Type 0} → Turns c BehindColons budget g V → Turns c Anywhere budget g W → (U : Bool → A → A → Type 0) → ((x y : A) → V x y → U true x y)
      → ((x y : A) → W x y → U false x y) → Turns c Anywhere budget (both (flag at_colons colons) g) (λ x y. (y.0 ≡ x.0) × U x.0 x.1 y.1)
  turns_leading {budget = budget} {g = g} behind other U first second =
      turns_both_then c {Q = BehindFlag} (turns_flag c (turns_operator c 58 58)) (λ before front behind x here is. flag_place budget before front behind x is) (λ x. choose x)
    where
      choose : (x : Bool) → Turns c (BehindFlag x) budget g (U x)
      choose true = record {
        turn = λ before s t x here at is. (let one = behind.turn before s t x here at is in record { front = one.front; out = one.out; value = one.value; piece = one.piece; is = one.is; related = first x one.value one.related });
      }
      choose false = record {
        turn = λ before s t x here at is. (let one = other.turn before s t x tt at is in record { front = one.front; out = one.out; value = one.value; piece = one.piece; is = one.is; related = second x one.value one.related });
      }

  -- `::` and then a rule
  pub turns_behind : {budget : ℕ} {A : Type 0} {g : Rule A} {V : A → A → Type 0} → Turns c BehindColons budget g V → Turns c Anywhere budget (skipping colons g) V
  turns_behind {budget = budget} inner =
      turns_made c (turns_both_then c {Q = λ x. BehindColons} (turns_operator c 58 58) (λ before front behind x here is. colons_end budget before front x is) (λ x. inner)) (λ x y h. h.1)
