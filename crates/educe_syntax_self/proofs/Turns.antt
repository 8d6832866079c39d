-- What is read has a reading with the head in place of each path's `Self`, and that is what is spliced: rule by rule.
use Rattle.std.proofs.Common.{◌≡◌, ℕ, zero, suc, ◌-◌, ◌<◌, ◌≤◌, Bool, true, false, not, IsTrue, List, [], ◌∷◌, ◌++◌, length, take, drop, Option, Some, None, refl, sym, ap, subst, ◌∙◌, inl, inr, append_assoc, append-nil, arith, Ok}
use Rattle.std.proofs.Math.Seq.{drop-append_seam, take-append_seam}
use Rattle.educe_tokens.specs.Bracket.{Bracket}
use Rattle.educe_tokens.specs.Copied.{may_be_copied}
use Rattle.educe_tokens.specs.Lexes.{lexemes}
use Rattle.educe_tokens.specs.declared.token.Token.{Token}
use Rattle.educe_tokens.specs.declared.written.Written.{Written}
use Rattle.educe_grammar.specs.declared.operator.Operator.{Operator}
use Rattle.educe_grammar.specs.declared.parse_stream.ParseStream.{ParseStream}
use Rattle.educe_grammar.specs.declared.terminal.Keyword.TheVariants as keyword
use Rattle.educe_grammar.specs.declared.terminal.Terminal.{Terminal}
use Rattle.educe_grammar.specs.declared.terminal.Terminal.TheVariants as terminal
use Rattle.educe_grammar.specs.declared.terminal.Terminal.TheVariants.{Sign}
use Rattle.educe_grammar.specs.Terminals.{accepts}
use Rattle.educe_grammar.specs.Steps.{Tokens, expect, enter, since}
use Rattle.educe_grammar.specs.Ahead.{Look, sees_any, sees, opens, closes, documents, begins_pair, begins_lone}
use Rattle.educe_grammar.specs.Combining.{skipping, leaving, optional, flag}
use Rattle.educe_grammar.specs.Noting.{Noted, Noter, run, items, repeat, links, binary_with, plainly, and_then}
use Rattle.educe_grammar.specs.NotedReads.{read}
use Rattle.educe_grammar.specs.Operators.{operator_at}
use Rattle.educe_grammar.specs.Reading.{Parses, chain_limit}
use Rattle.educe_grammar.specs.Reads.{parts}
use Rattle.educe_grammar.specs.Running.{skip_if, written_if}
use Rattle.educe_grammar.specs.Rules.{Rule, token, documentation, empty, both, made, checked, either, prefer, operator, lone, binary, nest, angles, under, arrow, list, many, chain, sliced, written}
use Rattle.educe_grammar.proofs.Balanced.{reads_copied}
use Rattle.educe_grammar.proofs.Beginnings.{seen, unseen_front, paired, pair_alone, loned, lone_alone, sign_accepted, opening, operated, Operated}
use Rattle.educe_grammar.proofs.Forgetting.{forget_ok}
use Rattle.educe_grammar.proofs.Keeping.{has_no_documentation}
use Rattle.educe_grammar.proofs.Sound.{reads_sound}
use Rattle.educe_grammar.proofs.Steps.{expected, entered, skipped, since_all, written_went}
use Rattle.educe_syntax_self.specs.Replacing.{Change, Listed, Repeated, Between, Replaces}
use Rattle.educe_syntax_self.proofs.NotedSteps.{both_same, went, chose, plainly_went, noted_reads}
use Rattle.educe_syntax_self.proofs.Pieces.{Setting, Piece, fixed, nothing, joined}
use Rattle.educe_syntax_self.proofs.ReplacedReads.{replaces_reads}
use Rattle.educe_syntax_self.proofs.Starts.{SameStart, start_both, same_start, lone_stays, operator_stays, for_stays}

-- ---- relations of values

-- two values, whatever they are
abbrev pub Any : {A : Type 0} → A → A → Type 0
Any x y = Unit {0}

-- the value stays
abbrev pub Same : {A : Type 0} → A → A → Type 0
Same x y = y ≡ x

-- two lists, item by item
pub data Pairwise {A : Type 0} (V : A → A → Type 0) : List A → List A → Type 0 where
  none : Pairwise V [] []
  one : {x y : A} {xs ys : List A} → V x y → Pairwise V xs ys → Pairwise V (x ∷ xs) (y ∷ ys)

-- they are equally long
pub pairwise_length : {A : Type 0} (V : A → A → Type 0) {xs ys : List A} → Pairwise V xs ys → length ys ≡ length xs
pairwise_length V Pairwise.none = refl
pairwise_length V (Pairwise.one h more) = ap suc (pairwise_length V more)

-- two values that may be left out
pub data Optionally {A : Type 0} (V : A → A → Type 0) : Option A → Option A → Type 0 where
  none : Optionally V None None
  some : {x y : A} → V x y → Optionally V (Some x) (Some y)

-- ---- places

-- what is asked of the tokens before and of those behind
abbrev pub Place : Type 1
Place = Tokens → Tokens → Type 0

-- nothing
abbrev pub Anywhere : Place
Anywhere before behind = Unit {0}

-- ---- readings

-- The tokens of a rule with the head in place of each path's `Self`, their value, and what is spliced.
pub record Turned (c : Setting) (budget : ℕ) {A : Type 0} (g : Rule A) (V : A → A → Type 0) (before : Tokens) (s t : ParseStream) (x : A) : Type 0 where
  pub front : Tokens
  pub out : Tokens
  pub value : A
  pub piece : Piece c s t front out
  pub is : Replaces c.head parts c.changes budget g before front t.cursor x out value
  pub related : V x value

-- What is read in such a place has them.
pub record Turns (c : Setting) (P : Place) (budget : ℕ) {A : Type 0} (g : Rule A) (V : A → A → Type 0) : Type 0 where
  pub turn : (before : Tokens) (s t : ParseStream) (x : A) → P before t.cursor → c.whole ≡ before ++ s.cursor → read budget g s ≡ Ok (x, t) → Turned c budget g V before s t x

module _ (c : Setting) where
  -- where a piece ends
  pub moved_on : (before : Tokens) {s t : ParseStream} {front out : Tokens} → c.whole ≡ before ++ s.cursor → Piece c s t front out → c.whole ≡ (before ++ front) ++ t.cursor
  moved_on before {t = t} {front = front} is p = is ∙ ap (λ us. before ++ us) p.all ∙ sym (append_assoc before front t.cursor)

  -- another rest and another value that are equal
  pub moved : {budget : ℕ} {A : Type 0} {g : Rule A} {V : A → A → Type 0} {before : Tokens} {s t u : ParseStream} {x y : A} → x ≡ y → t ≡ u → Turned c budget g V before s t x → Turned c budget g V before s u y
  moved {budget = budget} {g = g} {V = V} {before = before} {s = s} {u = u} {x = x} e f this = subst (λ y. Turned c budget g V before s u y) e (subst (λ u. Turned c budget g V before s u x) f this)

  -- the tokens behind, written otherwise
  pub behind_is : {budget : ℕ} {A : Type 0} {g : Rule A} {V : A → A → Type 0} {before behind : Tokens} {s t : ParseStream} {x : A} → t.cursor ≡ behind → (this : Turned c budget g V before s t x)
      → Replaces c.head parts c.changes budget g before this.front behind x this.out this.value
  behind_is {budget = budget} {g = g} {before = before} {x = x} e this = subst (λ us. Replaces c.head parts c.changes budget g before this.front us x this.out this.value) e this.is

  -- in fewer places
  pub turns_anywhere : {P : Place} {budget : ℕ} {A : Type 0} {g : Rule A} {V : A → A → Type 0} → Turns c Anywhere budget g V → Turns c P budget g V
  turns_anywhere inner = record { turn = λ before s t x here at is. inner.turn before s t x tt at is }

  -- values that are related so are also related otherwise
  pub turns_weaker : {P : Place} {budget : ℕ} {A : Type 0} {g : Rule A} {V W : A → A → Type 0} → Turns c P budget g V → ((x y : A) → V x y → W x y) → Turns c P budget g W
  turns_weaker inner weaker = record {
    turn = λ before s t x here at is.
        (let one = inner.turn before s t x here at is in
        record { front = one.front; out = one.out; value = one.value; piece = one.piece; is = one.is; related = weaker x one.value one.related });
  }

  -- one token
  pub turns_token : {budget : ℕ} (asked : Terminal) → Turns c Anywhere budget (token asked) Same
  unfolding run Replaces
  turns_token asked = record {
    turn = λ before s t x here at is.
        (let e = plainly_went (expect (accepts asked)) s t x is in
        let front : Tokens = x.token ∷ [] in
        record { front = front; out = front; value = x; piece = fixed c front (expected (accepts asked) s.cursor t.cursor x e.0) e.1; is = (refl, refl, refl); related = refl });
  }

  -- one token of documentation
  pub turns_documentation : {budget : ℕ} → Turns c Anywhere budget documentation Same
  unfolding run Replaces
  turns_documentation = record {
    turn = λ before s t x here at is.
        (let e = plainly_went (expect documents) s t x is in
        let front : Tokens = x.token ∷ [] in
        record { front = front; out = front; value = x; piece = fixed c front (expected documents s.cursor t.cursor x e.0) e.1; is = (refl, refl, refl); related = refl });
  }

  -- no token, where the value is related to itself
  pub turns_nothing : {budget : ℕ} {A : Type 0} {V : A → A → Type 0} (z : A) → V z z → Turns c Anywhere budget (empty z) V
  unfolding run Replaces
  turns_nothing {V = V} z own = record {
    turn = λ before s t x here at is.
        (let e = both_same is in
        record { front = []; out = []; value = z; piece = nothing c e.1; is = (refl, sym e.0, refl, refl); related = subst (λ u. V u z) e.0 own });
  }

  -- one behind the other, where the place of the second depends on what the first is
  pub turns_both_then : {P : Place} {budget : ℕ} {A B : Type 0} {g : Rule A} {h : Rule B} {Q : A → Place} {V : A → A → Type 0} {W : A → B → B → Type 0} → Turns c Anywhere budget g V
      → ((before front behind : Tokens) (x : A) → P before behind → Parses parts budget g front x → Q x (before ++ front) behind) → ((x : A) → Turns c (Q x) budget h (W x))
      → Turns c P budget (both g h) (λ x y. V x.0 y.0 × W x.0 x.1 y.1)
  unfolding run Replaces
  turns_both_then {P = P} {budget = budget} {g = g} {h = h} first goes second = record {
    turn = λ before s t x here at is.
        (let v = went (read budget g s) _ x t is in
        let w = went (read budget h v.left) _ x t v.second in
        let e = both_same w.second in
        let one = first.turn before s v.left v.value tt at v.first in
        let place = goes before one.front w.left.cursor v.value (subst (λ u. P before u.cursor) (sym e.1) here) (noted_reads budget g s v.left v.value one.front v.first one.piece.all) in
        let two = (second v.value).turn (before ++ one.front) v.left w.left w.value place (moved_on before at one.piece) w.first in
        moved e.0 e.1 (record {
          front = one.front ++ two.front;
          out = one.out ++ two.out;
          value = (one.value, two.value);
          piece = joined c one.piece two.piece;
          is = (one.front, two.front, one.out, two.out, refl, refl, behind_is two.piece.all one, two.is);
          related = (one.related, two.related);
        }));
  }

  -- one behind the other, where the place of the first depends on what the second is
  pub turns_both_knowing : {budget : ℕ} {A B : Type 0} {g : Rule A} {h : Rule B} {P : B → Place} {V : B → A → A → Type 0} {W : B → B → Type 0} → ((y : B) → Turns c (P y) budget g (V y))
      → Turns c Anywhere budget h W → ((before front behind : Tokens) (y : B) → Parses parts budget h front y → P y before (front ++ behind))
      → Turns c Anywhere budget (both g h) (λ x y. V x.1 x.0 y.0 × W x.1 y.1)
  unfolding run Replaces
  turns_both_knowing {budget = budget} {g = g} {h = h} {P = P} first second goes = record {
    turn = λ before s t x here at is.
        (let v = went (read budget g s) _ x t is in
        let w = went (read budget h v.left) _ x t v.second in
        let e = both_same w.second in
        let took = reads_sound budget h v.left.cursor w.left.cursor w.value (forget_ok budget h v.left w.left w.value w.first) in
        let place = subst (λ us. P w.value before us) (sym took.whole) (goes before took.front w.left.cursor w.value took.is_in) in
        let one = (first w.value).turn before s v.left v.value place at v.first in
        let two = second.turn (before ++ one.front) v.left w.left w.value tt (moved_on before at one.piece) w.first in
        moved e.0 e.1 (record {
          front = one.front ++ two.front;
          out = one.out ++ two.out;
          value = (one.value, two.value);
          piece = joined c one.piece two.piece;
          is = (one.front, two.front, one.out, two.out, refl, refl, behind_is two.piece.all one, two.is);
          related = (one.related, two.related);
        }));
  }

  -- one behind the other
  pub turns_both : {budget : ℕ} {A B : Type 0} {g : Rule A} {h : Rule B} {V : A → A → Type 0} {W : B → B → Type 0} → Turns c Anywhere budget g V → Turns c Anywhere budget h W
      → Turns c Anywhere budget (both g h) (λ x y. V x.0 y.0 × W x.1 y.1)
  turns_both first second = turns_both_then first (λ before front behind x here is. tt) (λ x. second)

  -- another value
  pub turns_made : {P : Place} {budget : ℕ} {A B : Type 0} {g : Rule A} {f : A → B} {V : A → A → Type 0} {W : B → B → Type 0} → Turns c P budget g V
      → ((x y : A) → V x y → W (f x) (f y)) → Turns c P budget (made f g) W
  unfolding run Replaces
  turns_made {P = P} {budget = budget} {g = g} {f = f} inner goes = record {
    turn = λ before s t x here at is.
        (let v = went (read budget g s) _ x t is in
        let e = both_same v.second in
        let one = inner.turn before s v.left v.value (subst (λ u. P before u.cursor) (sym e.1) here) at v.first in
        moved e.0 e.1 (record {
          front = one.front;
          out = one.out;
          value = f one.value;
          piece = one.piece;
          is = (v.value, one.value, refl, refl, one.is);
          related = goes v.value one.value one.related;
        }));
  }

  -- only where the value passes a test
  pub turns_checked : {P : Place} {budget : ℕ} {A : Type 0} {g : Rule A} {test : A → Bool} {V : A → A → Type 0} → Turns c P budget g V
      → ((x y : A) → V x y → IsTrue (test x) → IsTrue (test y)) → Turns c P budget (checked test g) V
  unfolding run Replaces
  turns_checked {P = P} {budget = budget} {g = g} {test = test} inner goes = record {
    turn = λ before s t x here at is.
        (let v = went (read budget g s) _ x t is in
        elim (chose (test v.value) _ _ (Ok (x, t)) v.second) [
          | inl w ↦ (let e = both_same w.1 in
              let one = inner.turn before s v.left v.value (subst (λ u. P before u.cursor) (sym e.1) here) at v.first in
              moved e.0 e.1 (record { front = one.front; out = one.out; value = one.value; piece = one.piece; is = (w.0, goes v.value one.value one.related w.0, one.is); related = one.related }))
          | inr w ↦ absurd (let k = w.1 in cc)
        ]);
  }

  -- one of two
  pub turns_either : {P : Place} {budget : ℕ} {A : Type 0} {look : Look} {g h : Rule A} {V : A → A → Type 0} → Turns c P budget g V → Turns c P budget h V
      → Turns c P budget (either look g h) V
  unfolding run Replaces
  turns_either {look = look} first second = record {
    turn = λ before s t x here at is.
        elim (chose (sees_any look s.cursor) _ _ (Ok (x, t)) is) [
          | inl u ↦ (let one = first.turn before s t x here at u.1 in record { front = one.front; out = one.out; value = one.value; piece = one.piece; is = inl one.is; related = one.related })
          | inr u ↦ (let one = second.turn before s t x here at u.1 in record { front = one.front; out = one.out; value = one.value; piece = one.piece; is = inr one.is; related = one.related })
        ];
  }

  -- one of two, of which the second doesn't begin with `for`
  pub turns_prefer : {P : Place} {budget : ℕ} {A : Type 0} {g h : Rule A} {V : A → A → Type 0} → Turns c P budget g V → Turns c P budget h V
      → Turns c P budget (prefer (terminal.Word keyword.For) g h) V
  unfolding run Replaces
  turns_prefer first second = record {
    turn = λ before s t x here at is.
        elim (chose (sees (accepts (terminal.Word keyword.For)) s.cursor) _ _ (Ok (x, t)) is) [
          | inl u ↦ (let one = first.turn before s t x here at u.1 in record { front = one.front; out = one.out; value = one.value; piece = one.piece; is = inl one.is; related = one.related })
          | inr u ↦ (let one = second.turn before s t x here at u.1 in
              let other = unseen_front (accepts (terminal.Word keyword.For)) one.front t.cursor (subst (λ us. sees (accepts (terminal.Word keyword.For)) us ≡ false) one.piece.all u.0) in
              record { front = one.front; out = one.out; value = one.value; piece = one.piece; is = inr (other, for_stays one.piece.starts ∙ other, one.is); related = one.related })
        ];
  }

  -- an operator of two puncts
  pub turns_operator : {budget : ℕ} (c1 d : ℕ) → Turns c Anywhere budget (operator c1 d) Same
  unfolding run Replaces
  turns_operator c1 d = record {
    turn = λ before s t x here at is.
        (let e = plainly_went (λ ts. skip_if (begins_pair c1 d ts) 2 ts) s t x is in
        let passes = skipped (begins_pair c1 d s.cursor) 2 s.cursor t.cursor x e.0 in
        let two = paired c1 d s.cursor passes.0 in
        let front : Tokens = two.first ∷ two.second ∷ [] in
        let all : s.cursor ≡ two.first ∷ two.second ∷ t.cursor = two.whole ∙ ap (λ us. two.first ∷ two.second ∷ us) (sym (ap (drop 2) two.whole) ∙ passes.1) in
        record {
          front = front;
          out = front;
          value = x;
          piece = fixed c front all e.1;
          is = (refl, pair_alone c1 d two.first two.second two.behind [] (subst (λ us. begins_pair c1 d us ≡ true) two.whole passes.0), refl);
          related = refl;
        });
  }

  -- a punct alone, and then the rule
  pub turns_lone : {budget : ℕ} {A : Type 0} {c1 d : ℕ} {g : Rule A} {V : A → A → Type 0} → Turns c Anywhere budget g V → Turns c Anywhere budget (lone c1 d g) V
  unfolding run Replaces
  turns_lone {c1 = c1} {d = d} inner = record {
    turn = λ before s t x here at is.
        (let v = went (plainly (λ ts. skip_if (begins_lone c1 d ts) 1 ts) s) _ x t is in
        let e = plainly_went (λ ts. skip_if (begins_lone c1 d ts) 1 ts) s v.left v.value v.first in
        let passes = skipped (begins_lone c1 d s.cursor) 1 s.cursor v.left.cursor v.value e.0 in
        let first = loned c1 d s.cursor passes.0 in
        let all : s.cursor ≡ first.first ∷ v.left.cursor = first.whole ∙ ap (λ us. first.first ∷ us) (sym (ap (drop 1) first.whole) ∙ passes.1) in
        let mark : Piece c s v.left (first.first ∷ []) (first.first ∷ []) = fixed c (first.first ∷ []) all e.1 in
        let one = inner.turn (before ++ first.first ∷ []) v.left t x tt (moved_on before at mark) v.second in
        let alone = lone_alone c1 d first.first one.front t.cursor (subst (λ us. begins_lone c1 d us ≡ true) (all ∙ ap (λ us. first.first ∷ us) one.piece.all) passes.0) in
        record {
          front = first.first ∷ one.front;
          out = first.first ∷ one.out;
          value = one.value;
          piece = joined c mark one.piece;
          is = (first.first, one.front, one.out, refl, refl, alone, lone_stays c1 d first.first one.piece.starts ∙ alone, one.is);
          related = one.related;
        });
  }

  -- an operator has a token
  no_first : (test : Token → Bool) → sees test [] ≡ true → ⊥
  unfolding sees
  no_first test h = cc

  -- an operator with two operands, and then the rule
  binary_turned : {budget : ℕ} {A : Type 0} {g : Rule A} {V : A → A → Type 0} → Turns c Anywhere budget g V → (longest : Option (Operator × ℕ)) (before : Tokens) (s t : ParseStream) (x : Operator × A)
      → c.whole ≡ before ++ s.cursor → operator_at s.cursor ≡ longest → binary_with longest (read budget g) s ≡ Ok (x, t) → Turned c budget (binary g) (λ x y. (y.0 ≡ x.0) × V x.1 y.1) before s t x
  unfolding Replaces
  binary_turned inner None before s t x at found is = absurd (cc)
  binary_turned {budget = budget} {A = A} {g = g} {V = V} inner (Some o) before s t x at found is =
      let m : ParseStream = record { cursor = drop o.1 s.cursor; selves = s.selves } in
      let v = went (read budget g m) _ x t is in
      let e = both_same v.second in
      let f = operated s.cursor o.0 o.1 found in
      let behind : drop o.1 s.cursor ≡ f.behind = ap (drop o.1) f.whole ∙ ap (λ n. drop n (f.op ++ f.behind)) f.size ∙ drop-append_seam f.op f.behind in
      let all : s.cursor ≡ f.op ++ m.cursor = f.whole ∙ ap (λ us. f.op ++ us) (sym behind) in
      let mark : Piece c s m f.op f.op = fixed c f.op all refl in
      let one = inner.turn (before ++ f.op) m v.left v.value tt (moved_on before at mark) v.first in
      let at_front = f.alone one.front v.left.cursor (sym behind ∙ one.piece.all) in
      let front_taken : take o.1 (f.op ++ one.front) ≡ f.op = ap (λ n. take n (f.op ++ one.front)) f.size ∙ take-append_seam f.op one.front in
      let out_taken : take o.1 (f.op ++ one.out) ≡ f.op = ap (λ n. take n (f.op ++ one.out)) f.size ∙ take-append_seam f.op one.out in
      let front_dropped : drop o.1 (f.op ++ one.front) ≡ one.front = ap (λ n. drop n (f.op ++ one.front)) f.size ∙ drop-append_seam f.op one.front in
      let out_dropped : drop o.1 (f.op ++ one.out) ≡ one.out = ap (λ n. drop n (f.op ++ one.out)) f.size ∙ drop-append_seam f.op one.out in
      moved e.0 e.1 (record {
        front = f.op ++ one.front;
        out = f.op ++ one.out;
        value = (o.0, one.value);
        piece = joined c mark one.piece;
        is = (
          o.1,
          at_front,
          still f.op f.opens one.piece.starts ∙ at_front,
          out_taken ∙ sym front_taken,
          refl,
          subst (λ b. Replaces c.head parts c.changes budget g (before ++ b) (drop o.1 (f.op ++ one.front)) v.left.cursor v.value (drop o.1 (f.op ++ one.out)) one.value) (sym front_taken)
              (subst (λ us. Replaces c.head parts c.changes budget g (before ++ f.op) us v.left.cursor v.value (drop o.1 (f.op ++ one.out)) one.value) (sym front_dropped)
              (subst (λ us. Replaces c.head parts c.changes budget g (before ++ f.op) one.front v.left.cursor v.value us one.value) (sym out_dropped) one.is)),
        );
        related = (refl, one.related);
      })
    where
      still : (op : Tokens) → sees opening op ≡ true → {ts us : Tokens} → SameStart ts us → operator_at (op ++ us) ≡ operator_at (op ++ ts)
      still [] h same = absurd (no_first opening h)
      still (t ∷ op) h same = operator_stays t op same

  pub turns_binary : {budget : ℕ} {A : Type 0} {g : Rule A} {V : A → A → Type 0} → Turns c Anywhere budget g V → Turns c Anywhere budget (binary g) (λ x y. (y.0 ≡ x.0) × V x.1 y.1)
  unfolding run
  turns_binary inner = record { turn = λ before s t x here at is. binary_turned inner (operator_at s.cursor) before s t x at refl is }

  -- ---- around and behind

  -- what nests
  pub turns_nest : {budget : ℕ} {A : Type 0} {b : Bracket} {g : Rule A} {V : A → A → Type 0} → (0 < budget → Turns c Anywhere (budget - 1) g V) → Turns c Anywhere budget (nest b g) V
  unfolding run Replaces
  turns_nest {budget = budget} {b = b} {g = g} inner = record {
    turn = λ before s t x here at is.
        (let o = went (plainly (expect (opens b)) s) _ x t is in
        let oe = plainly_went (expect (opens b)) s o.left o.value o.first in
        let first = expected (opens b) s.cursor o.left.cursor o.value oe.0 in
        let a = went (plainly (enter budget (length s.cursor)) o.left) _ x t o.second in
        let ae = plainly_went (enter budget (length s.cursor)) o.left a.left a.value a.first in
        let within = entered budget (length s.cursor) o.left.cursor a.left.cursor a.value ae.0 in
        let v = went (read (budget - 1) g a.left) _ x t a.second in
        let f = went (plainly (expect (closes b)) v.left) _ x t v.second in
        let fe = plainly_went (expect (closes b)) v.left f.left f.value f.first in
        let last = expected (closes b) v.left.cursor f.left.cursor f.value fe.0 in
        let e = both_same f.second in
        let opened : s.cursor ≡ o.value.token ∷ a.left.cursor = first ∙ ap (λ us. o.value.token ∷ us) within.1 in
        let mark : Piece c s a.left (o.value.token ∷ []) (o.value.token ∷ []) = fixed c (o.value.token ∷ []) opened (ae.1 ∙ oe.1) in
        let one = (inner within.0).turn (before ++ o.value.token ∷ []) a.left v.left v.value tt (moved_on before at mark) v.first in
        moved e.0 e.1 (record {
          front = o.value.token ∷ (one.front ++ f.value.token ∷ []);
          out = o.value.token ∷ (one.out ++ f.value.token ∷ []);
          value = one.value;
          piece = joined c mark (joined c one.piece (fixed c {s = v.left} {t = f.left} (f.value.token ∷ []) last fe.1));
          is = record {
            first = o.value.token;
            inside = one.front;
            changed = one.out;
            last = f.value.token;
            is = refl;
            becomes = refl;
            allowed = within.0;
            opens = o.value.passes;
            closes = f.value.passes;
            reads = behind_is last one;
          };
          related = one.related;
        }));
  }

  -- `<` and `>` around the rule
  pub turns_angles : {budget : ℕ} {A : Type 0} {g : Rule A} {V : A → A → Type 0} → (0 < budget → Turns c Anywhere (budget - 1) g V) → Turns c Anywhere budget (angles g) V
  unfolding run Replaces
  turns_angles {budget = budget} {g = g} inner = record {
    turn = λ before s t x here at is.
        (let o = went (plainly (λ ts. skip_if (begins_lone 60 61 ts) 1 ts) s) _ x t is in
        let oe = plainly_went (λ ts. skip_if (begins_lone 60 61 ts) 1 ts) s o.left o.value o.first in
        let passes = skipped (begins_lone 60 61 s.cursor) 1 s.cursor o.left.cursor o.value oe.0 in
        let first = loned 60 61 s.cursor passes.0 in
        let a = went (plainly (enter budget (length s.cursor)) o.left) _ x t o.second in
        let ae = plainly_went (enter budget (length s.cursor)) o.left a.left a.value a.first in
        let within = entered budget (length s.cursor) o.left.cursor a.left.cursor a.value ae.0 in
        let v = went (read (budget - 1) g a.left) _ x t a.second in
        let f = went (plainly (expect (accepts (Sign 62))) v.left) _ x t v.second in
        let fe = plainly_went (expect (accepts (Sign 62))) v.left f.left f.value f.first in
        let last = expected (accepts (Sign 62)) v.left.cursor f.left.cursor f.value fe.0 in
        let e = both_same f.second in
        let opened : s.cursor ≡ first.first ∷ a.left.cursor = first.whole ∙ ap (λ us. first.first ∷ us) (sym (ap (drop 1) first.whole) ∙ passes.1 ∙ within.1) in
        let mark : Piece c s a.left (first.first ∷ []) (first.first ∷ []) = fixed c (first.first ∷ []) opened (ae.1 ∙ oe.1) in
        let one = (inner within.0).turn (before ++ first.first ∷ []) a.left v.left v.value tt (moved_on before at mark) v.first in
        let closing : Tokens = f.value.token ∷ [] in
        let all : s.cursor ≡ first.first ∷ (one.front ++ closing) ++ f.left.cursor =
        opened ∙ ap (λ us. first.first ∷ us) (one.piece.all ∙ ap (λ us. one.front ++ us) last ∙ sym (append_assoc one.front closing f.left.cursor)) in
        let alone = lone_alone 60 61 first.first (one.front ++ closing) f.left.cursor (subst (λ us. begins_lone 60 61 us ≡ true) all passes.0) in
        moved e.0 e.1 (record {
          front = first.first ∷ (one.front ++ closing);
          out = first.first ∷ (one.out ++ closing);
          value = one.value;
          piece = joined c mark (joined c one.piece (fixed c {s = v.left} {t = f.left} closing last fe.1));
          is = (
            record {
              first = first.first;
              inside = one.front;
              changed = one.out;
              last = f.value.token;
              is = refl;
              becomes = refl;
              allowed = within.0;
              opens = sign_accepted 60 first.first first.is;
              closes = f.value.passes;
              reads = behind_is last one;
            },
            alone,
            lone_stays 60 61 first.first (start_both one.piece.starts (same_start closing)) ∙ alone,
          );
          related = one.related;
        }));
  }

  -- such a token, and then the rule
  pub turns_under : {budget : ℕ} {A : Type 0} {asked : Terminal} {g : Rule A} {V : A → A → Type 0} → (0 < budget → Turns c Anywhere (budget - 1) g V) → Turns c Anywhere budget (under asked g) V
  unfolding run Replaces
  turns_under {budget = budget} {asked = asked} {g = g} inner = record {
    turn = λ before s t x here at is.
        (let o = went (plainly (expect (accepts asked)) s) _ x t is in
        let oe = plainly_went (expect (accepts asked)) s o.left o.value o.first in
        let a = went (plainly (enter budget (length s.cursor)) o.left) _ x t o.second in
        let ae = plainly_went (enter budget (length s.cursor)) o.left a.left a.value a.first in
        let within = entered budget (length s.cursor) o.left.cursor a.left.cursor a.value ae.0 in
        let opened : s.cursor ≡ o.value.token ∷ a.left.cursor = expected (accepts asked) s.cursor o.left.cursor o.value oe.0 ∙ ap (λ us. o.value.token ∷ us) within.1 in
        let mark : Piece c s a.left (o.value.token ∷ []) (o.value.token ∷ []) = fixed c (o.value.token ∷ []) opened (ae.1 ∙ oe.1) in
        let one = (inner within.0).turn (before ++ o.value.token ∷ []) a.left t x tt (moved_on before at mark) a.second in
        record {
          front = o.value.token ∷ one.front;
          out = o.value.token ∷ one.out;
          value = one.value;
          piece = joined c mark one.piece;
          is = record { first = o.value.token; inside = one.front; changed = one.out; is = refl; becomes = refl; allowed = within.0; opens = o.value.passes; reads = one.is };
          related = one.related;
        });
  }

  -- `->`, and then the rule
  pub turns_arrow : {budget : ℕ} {A : Type 0} {g : Rule A} {V : A → A → Type 0} → (0 < budget → Turns c Anywhere (budget - 1) g V) → Turns c Anywhere budget (arrow g) V
  unfolding run Replaces
  turns_arrow {budget = budget} {g = g} inner = record {
    turn = λ before s t x here at is.
        (let o = went (plainly (λ ts. skip_if (begins_pair 45 62 ts) 2 ts) s) _ x t is in
        let oe = plainly_went (λ ts. skip_if (begins_pair 45 62 ts) 2 ts) s o.left o.value o.first in
        let passes = skipped (begins_pair 45 62 s.cursor) 2 s.cursor o.left.cursor o.value oe.0 in
        let two = paired 45 62 s.cursor passes.0 in
        let a = went (plainly (enter budget (length s.cursor)) o.left) _ x t o.second in
        let ae = plainly_went (enter budget (length s.cursor)) o.left a.left a.value a.first in
        let within = entered budget (length s.cursor) o.left.cursor a.left.cursor a.value ae.0 in
        let sign : Tokens = two.first ∷ two.second ∷ [] in
        let opened : s.cursor ≡ two.first ∷ two.second ∷ a.left.cursor = two.whole ∙ ap (λ us. two.first ∷ two.second ∷ us) (sym (ap (drop 2) two.whole) ∙ passes.1 ∙ within.1) in
        let mark : Piece c s a.left sign sign = fixed c sign opened (ae.1 ∙ oe.1) in
        let one = (inner within.0).turn (before ++ sign) a.left t x tt (moved_on before at mark) a.second in
        let pair : (us : Tokens) → begins_pair 45 62 (two.first ∷ two.second ∷ us) ≡ true =
        λ us. pair_alone 45 62 two.first two.second two.behind us (subst (λ us. begins_pair 45 62 us ≡ true) two.whole passes.0) in
        record {
          front = two.first ∷ two.second ∷ one.front;
          out = two.first ∷ two.second ∷ one.out;
          value = one.value;
          piece = joined c mark one.piece;
          is = (two.first, two.second, one.front, one.out, refl, refl, within.0, pair one.front, pair one.out, one.is);
          related = one.related;
        });
  }

  -- ---- tokens that are kept

  -- the tokens as they are written
  pub turns_written : {P : Place} {budget : ℕ} {A : Type 0} {g : Rule A} {V : A → A → Type 0} → has_no_documentation g ≡ true → Turns c P budget g V
      → Turns c P budget (written g) (λ x y. V x.0 y.0)
  unfolding run Replaces
  turns_written {P = P} {budget = budget} {g = g} no_doc inner = record {
    turn = λ before s t x here at is.
        (let v = went (read budget g s) _ x t is in
        let w = plainly_went (λ rest. written_if v.value (since s.cursor rest) rest (may_be_copied (lexemes (since s.cursor rest))) refl) v.left t x v.second in
        let e = written_went v.value (since s.cursor v.left.cursor) v.left.cursor (may_be_copied (lexemes (since s.cursor v.left.cursor))) refl x t.cursor w.0 in
        let one = inner.turn before s v.left v.value (subst (λ us. P before us) (sym e.2) here) at v.first in
        let found : since s.cursor v.left.cursor ≡ one.front = ap (λ us. since us v.left.cursor) one.piece.all ∙ since_all one.front v.left.cursor in
        let reads = replaces_reads c.head c.changes c.back g budget before one.front v.left.cursor v.value one.out one.value one.is in
        let copy : Written = record { tokens = one.out; written = reads_copied (suc budget) g one.out one.value no_doc reads } in
        let same : (v.value, x.1) ≡ x = ap (λ z. (z, x.1)) e.0 in
        moved same (λ i. record { cursor = e.2 i; selves = sym w.1 i }) (record {
          front = one.front;
          out = one.out;
          value = (one.value, copy);
          piece = one.piece;
          is = (one.is, e.1 ∙ found, refl);
          related = one.related;
        }));
  }

  -- the tokens as they are
  pub turns_sliced : {P : Place} {budget : ℕ} {A : Type 0} {g : Rule A} {V : A → A → Type 0} {W : A × Tokens → A × Tokens → Type 0} → Turns c P budget g V
      → ((before : Tokens) (s t : ParseStream) (x : A) → read budget g s ≡ Ok (x, t) → (this : Turned c budget g V before s t x) → W (x, this.front) (this.value, this.out)) → Turns c P budget (sliced g) W
  unfolding run Replaces
  turns_sliced {P = P} {budget = budget} {g = g} {W = W} inner goes = record {
    turn = λ before s t x here at is.
        (let v = went (read budget g s) _ x t is in
        let e = both_same v.second in
        let one = inner.turn before s v.left v.value (subst (λ u. P before u.cursor) (sym e.1) here) at v.first in
        let found : since s.cursor v.left.cursor ≡ one.front = ap (λ us. since us v.left.cursor) one.piece.all ∙ since_all one.front v.left.cursor in
        moved (ap (λ us. (v.value, us)) (sym found) ∙ e.0) e.1 (record {
          front = one.front;
          out = one.out;
          value = (one.value, one.out);
          piece = one.piece;
          is = (one.is, refl, refl);
          related = goes before s v.left v.value v.first one;
        }));
  }

  -- ---- lists

  -- What a loop has read behind what it had found.
  record More {A : Type 0} (R : Tokens → Tokens → Tokens → List A → Tokens → List A → Type 0) (V : A → A → Type 0) (before : Tokens) (found all : List A) (s t : ParseStream) : Type 0 where
    more : List A
    found_is : all ≡ found ++ more
    front : Tokens
    out : Tokens
    values : List A
    piece : Piece c s t front out
    is : R before front t.cursor more out values
    related : Pairwise V more values

  -- nothing
  no_more : {A : Type 0} {R : Tokens → Tokens → Tokens → List A → Tokens → List A → Type 0} {V : A → A → Type 0} {before : Tokens} {found all : List A} {s t : ParseStream}
      → R before [] t.cursor [] [] [] → ◌≡◌ {A = Noted (List A)} (Ok (found, s)) (Ok (all, t)) → More R V before found all s t
  no_more {found = found} is h = let e = both_same h in
      record { more = []; found_is = sym e.0 ∙ sym (append-nil found); front = []; out = []; values = []; piece = nothing c e.1; is = is; related = Pairwise.none }

  module _ {A : Type 0} (budget : ℕ) (g : Rule A) (V : A → A → Type 0) (inner : Turns c Anywhere budget g V) where
    abbrev C : Change A
    C = Replaces c.head parts c.changes budget g

    -- one more item
    one_more : (before : Tokens) (found all : List A) (s m t : ParseStream) (x : A) (this : Turned c budget g V before s m x) → More (Repeated C) V (before ++ this.front) (found ++ x ∷ []) all m t
        → More (Repeated C) V before found all s t
    one_more before found all s m t x this others = record {
      more = x ∷ others.more;
      found_is = others.found_is ∙ append_assoc found (x ∷ []) others.more;
      front = this.front ++ others.front;
      out = this.out ++ others.out;
      values = this.value ∷ others.values;
      piece = joined c this.piece others.piece;
      is = Repeated.more this.front others.front this.out others.out (behind_is others.piece.all this) others.is;
      related = Pairwise.one this.related others.related;
    }

    some_repeat : (look : Look) (n : ℕ) (found all : List A) (before : Tokens) (s t : ParseStream) → c.whole ≡ before ++ s.cursor → repeat look (read budget g) n found s ≡ Ok (all, t)
        → More (Repeated C) V before found all s t
    unfolding repeat
    some_repeat look zero found all before s t at h = absurd (cc)
    some_repeat look (suc n) found all before s t at h =
        elim (chose (sees_any look s.cursor) _ _ (Ok (all, t)) h) [
          | inl u ↦ (let v = went (read budget g s) _ all t u.1 in
              let one = inner.turn before s v.left v.value tt at v.first in
              one_more before found all s v.left t v.value one (some_repeat look n (found ++ v.value ∷ []) all (before ++ one.front) v.left t (moved_on before at one.piece) v.second))
          | inr u ↦ no_more Repeated.none u.1
        ]

    some_links : (look : Look) (n : ℕ) (found all : List A) (before : Tokens) (s t : ParseStream) → c.whole ≡ before ++ s.cursor → links look (read budget g) n found s ≡ Ok (all, t)
        → (m : More (Repeated C) V before found all s t) × (length m.more ≤ n)
    unfolding links no_more one_more
    some_links look zero found all before s t at h =
        elim (chose (sees_any look s.cursor) _ _ (Ok (all, t)) h) [
          | inl u ↦ absurd (let k = u.1 in cc)
          | inr u ↦ (no_more Repeated.none u.1, omega arith)
        ]
    some_links look (suc n) found all before s t at h =
        elim (chose (sees_any look s.cursor) _ _ (Ok (all, t)) h) [
          | inl u ↦ (let v = went (read budget g s) _ all t u.1 in
              let one = inner.turn before s v.left v.value tt at v.first in
              let others = some_links look n (found ++ v.value ∷ []) all (before ++ one.front) v.left t (moved_on before at one.piece) v.second in
              (one_more before found all s v.left t v.value one others.0, omega (arith, others.1)))
          | inr u ↦ (no_more Repeated.none u.1, omega arith)
        ]

    some_items : (separates : Token → Bool) (stop : Look) (n : ℕ) (found all : List A) (before : Tokens) (s t : ParseStream) → c.whole ≡ before ++ s.cursor
        → items separates stop (read budget g) n found s ≡ Ok (all, t) → More (Listed C separates) V before found all s t
    unfolding items
    some_items separates stop zero found all before s t at h = absurd (cc)
    some_items separates stop (suc n) found all before s t at h =
        elim (chose (sees_any stop s.cursor) _ _ (Ok (all, t)) h) [
          | inl u ↦ no_more Listed.none u.1
          | inr u ↦ (let v = went (read budget g s) _ all t u.1 in
              let one = inner.turn before s v.left v.value tt at v.first in
              elim (chose (sees separates v.left.cursor) _ _ (Ok (all, t)) v.second) [
                | inl w ↦ (let found_one = seen separates v.left.cursor w.0 in
                    let sign : Tokens = found_one.0 ∷ [] in
                    let m : ParseStream = record { cursor = drop 1 v.left.cursor; selves = v.left.selves } in
                    let behind : v.left.cursor ≡ found_one.0 ∷ m.cursor = found_one.2 ∙ ap (λ us. found_one.0 ∷ us) (sym (ap (drop 1) found_one.2)) in
                    let mark : Piece c v.left m sign sign = fixed c sign behind refl in
                    let others = some_items separates stop n (found ++ v.value ∷ []) all (before ++ one.front ++ sign) m t (moved_on (before ++ one.front) (moved_on before at one.piece) mark) w.1 in
                    record {
                      more = v.value ∷ others.more;
                      found_is = others.found_is ∙ append_assoc found (v.value ∷ []) others.more;
                      front = one.front ++ found_one.0 ∷ others.front;
                      out = one.out ++ found_one.0 ∷ others.out;
                      values = one.value ∷ others.values;
                      piece = joined c one.piece (joined c mark others.piece);
                      is = Listed.more one.front others.front one.out others.out found_one.0 (behind_is (behind ∙ ap (λ us. found_one.0 ∷ us) others.piece.all) one) found_one.3 others.is;
                      related = Pairwise.one one.related others.related;
                    })
                | inr w ↦ (let e = both_same w.1 in
                    let last = moved refl e.1 one in
                    record {
                      more = v.value ∷ [];
                      found_is = sym e.0;
                      front = last.front;
                      out = last.out;
                      values = last.value ∷ [];
                      piece = last.piece;
                      is = Listed.last last.front last.out last.is;
                      related = Pairwise.one last.related Pairwise.none;
                    })
              ])
        ]

  -- items with separators between
  pub turns_list : {budget : ℕ} {A : Type 0} {separator : Terminal} {stop : Look} {g : Rule A} {V : A → A → Type 0} → Turns c Anywhere budget g V → Turns c Anywhere budget (list separator stop g) (Pairwise V)
  unfolding run Replaces
  turns_list {budget = budget} {separator = separator} {stop = stop} {g = g} {V = V} inner = record {
    turn = λ before s t xs here at is.
        (let all = some_items budget g V inner (accepts separator) stop (suc (length s.cursor)) [] xs before s t at is in
        moved (sym all.found_is) refl (record { front = all.front; out = all.out; value = all.values; piece = all.piece; is = all.is; related = all.related }));
  }

  -- items one behind the other
  pub turns_many : {budget : ℕ} {A : Type 0} {look : Look} {g : Rule A} {V : A → A → Type 0} → Turns c Anywhere budget g V → Turns c Anywhere budget (many look g) (Pairwise V)
  unfolding run Replaces
  turns_many {budget = budget} {look = look} {g = g} {V = V} inner = record {
    turn = λ before s t xs here at is.
        (let all = some_repeat budget g V inner look (suc (length s.cursor)) [] xs before s t at is in
        moved (sym all.found_is) refl (record { front = all.front; out = all.out; value = all.values; piece = all.piece; is = all.is; related = all.related }));
  }

  -- a chain
  pub turns_chain : {budget : ℕ} {A : Type 0} {look : Look} {g : Rule A} {V : A → A → Type 0} → Turns c Anywhere budget g V → Turns c Anywhere budget (chain look g) (Pairwise V)
  unfolding run Replaces
  turns_chain {budget = budget} {look = look} {g = g} {V = V} inner = record {
    turn = λ before s t xs here at is.
        (let all = some_links budget g V inner look chain_limit [] xs before s t at is in
        let few = pairwise_length V all.0.related in
        let short = all.1 in
        moved (sym all.0.found_is) refl (record { front = all.0.front; out = all.0.out; value = all.0.values; piece = all.0.piece; is = (all.0.is, subst (λ n. n ≤ chain_limit) (sym few) short); related = all.0.related }));
  }

  -- ---- words of productions

  -- one behind the other, with the second's value
  pub turns_skipping : {budget : ℕ} {A B : Type 0} {g : Rule A} {h : Rule B} {U : A → A → Type 0} {V : B → B → Type 0} → Turns c Anywhere budget g U → Turns c Anywhere budget h V
      → Turns c Anywhere budget (skipping g h) V
  turns_skipping first second = turns_made (turns_both first second) (λ x y h. h.1)

  -- one behind the other, with the first's value
  pub turns_leaving : {budget : ℕ} {A B : Type 0} {g : Rule A} {h : Rule B} {V : A → A → Type 0} {U : B → B → Type 0} → Turns c Anywhere budget g V → Turns c Anywhere budget h U
      → Turns c Anywhere budget (leaving g h) V
  turns_leaving first second = turns_made (turns_both first second) (λ x y h. h.0)

  -- what may be left out
  pub turns_optional : {budget : ℕ} {A : Type 0} {look : Look} {g : Rule A} {V : A → A → Type 0} → Turns c Anywhere budget g V → Turns c Anywhere budget (optional look g) (Optionally V)
  turns_optional inner = turns_either (turns_made inner (λ x y h. Optionally.some h)) (turns_nothing None Optionally.none)

  -- whether the tokens begin so
  pub turns_flag : {budget : ℕ} {A : Type 0} {look : Look} {g : Rule A} {V : A → A → Type 0} → Turns c Anywhere budget g V → Turns c Anywhere budget (flag look g) Same
  turns_flag inner = turns_either (turns_made inner (λ x y h. refl)) (turns_nothing false refl)
