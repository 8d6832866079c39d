-- What is by a rule is read, whatever follows that may: for each way to make a rule.
use Rattle.std.proofs.Common.{◌≡◌, ◌≢◌, ℕ, zero, suc, ◌-◌, ◌<◌, Bool, true, false, not, ◌&&◌, [], ◌∷◌, ◌++◌, length, drop, refl, ap, sym, subst, ◌∙◌, ◌⊎◌, inl, inr, arith, Option, Some, None, Ok, IsTrue, append_assoc, length-append}
use Rattle.std.proofs.Math.Seq.{take-append_seam}
use Rattle.educe_tokens.specs.Bracket.{Bracket}
use Rattle.educe_tokens.specs.declared.token.Token.{Token}
use Rattle.educe_tokens.specs.declared.written.Written.{Written}
use Rattle.educe_tokens.specs.Lexes.{lexemes}
use Rattle.educe_tokens.specs.Copied.{may_be_copied}
use Rattle.educe_grammar.specs.declared.operator.Operator.{Operator}
use Rattle.educe_grammar.specs.declared.terminal.Terminal.{Terminal}
use Rattle.educe_grammar.specs.declared.terminal.Terminal.TheVariants.{Sign}
use Rattle.educe_grammar.specs.Terminals.{accepts}
use Rattle.educe_grammar.specs.Steps.{Tokens, Found, found_if, expect, enter, since}
use Rattle.educe_grammar.specs.Ahead.{Look, sees_any, sees, opens, closes, documents, is_sign, begins_pair, begins_lone}
use Rattle.educe_grammar.specs.Operators.{operator_at, of_length, longer_of, pair_operator, single_operator}
use Rattle.educe_grammar.specs.Reading.{Parts, Parses}
use Rattle.educe_grammar.specs.Running.{Readers, run, written_if, skip_if}
use Rattle.educe_grammar.specs.Rules.{Rule, token, documentation, empty, both, made, checked, either, prefer, operator, lone, binary, nest, angles, under, arrow, sliced, written, part, Part, TreeOf}
use Rattle.educe_grammar.proofs.Steps.{IsTrue-prop, Written-path}

-- what may stand behind a value
abbrev pub Behind : Type 0 → Type 1
Behind A = A → Tokens → Type 0

-- What is by the rule is read, whatever stands behind it that may.
pub record Again (readers : Readers) (parts : Parts) (budget : ℕ) {A : Type 0} (g : Rule A) (F : Behind A) : Type 0 where
  pub reads : (front rest : Tokens) (x : A) → Parses parts budget g front x → F x rest → run readers budget g (front ++ rest) ≡ Ok (x, rest)

-- ---- steps

-- a test that holds finds the token
found_if_hit : (test : Token → Bool) (t : Token) (ts : Tokens) (passes : IsTrue (test t)) (b : Bool) (is : test t ≡ b) → b ≡ true
    → found_if test t ts b is ≡ Ok (record { token = t; passes = passes }, ts)
found_if_hit test t ts passes true is e = ap (λ (p : IsTrue (test t)). Ok (record { token = t; passes = p }, ts)) (IsTrue-prop (test t) is passes)
found_if_hit test t ts passes false is e = cc

-- a token that passes is taken
pub expect_hit : (test : Token → Bool) (t : Token) (ts : Tokens) (passes : IsTrue (test t)) → expect test (t ∷ ts) ≡ Ok (record { token = t; passes = passes }, ts)
unfolding expect
expect_hit test t ts passes = found_if_hit test t ts passes (test t) refl passes

-- with a budget the program goes in
pub enter_ok : (budget left : ℕ) (ts : Tokens) → 0 < budget → enter budget left ts ≡ Ok (tt, ts)
unfolding enter
enter_ok zero left ts some = absurd (omega arith)
enter_ok (suc budget) left ts some = refl

-- only the first token is seen
pub sees_same : (test : Token → Bool) (t : Token) (ts us : Tokens) {b : Bool} → sees test (t ∷ ts) ≡ b → sees test (t ∷ us) ≡ b
unfolding sees
sees_same test t ts us h = h

-- what was read is the front
pub since_all : (front rest : Tokens) → since (front ++ rest) rest ≡ front
unfolding since
since_all front rest =
    let e : length (front ++ rest) - length rest ≡ length front = omega (arith, length-append front rest) in
    rw e (take-append_seam front rest)

-- an operator of two puncts is taken
two_taken : (c d : ℕ) (front rest : Tokens) → length front ≡ 2 → begins_pair c d front ≡ true → skip_if (begins_pair c d (front ++ rest)) 2 (front ++ rest) ≡ Ok (tt, rest)
unfolding begins_pair
two_taken c d [] rest n h = absurd (omega arith)
two_taken c d (t ∷ []) rest n h = absurd (omega arith)
two_taken c d (t ∷ u ∷ []) rest n h = rw h refl
two_taken c d (t ∷ u ∷ v ∷ more) rest n h = absurd (omega arith)

-- both hold, so the first does
and_left : (a b : Bool) → (a && b) ≡ true → a ≡ true
and_left true b h = refl
and_left false b h = h

-- more behind two tokens turns no lone punct into an operator
pub lone_stays : (c d : ℕ) (t u : Token) (inside rest : Tokens) → begins_lone c d (t ∷ u ∷ inside) ≡ true → begins_lone c d (t ∷ u ∷ inside ++ rest) ≡ true
unfolding begins_lone begins_pair
lone_stays c d t u inside rest h = h

-- a punct stays alone where what follows doesn't make it an operator
lone_alone : (c d : ℕ) (t : Token) (rest : Tokens) → begins_lone c d (t ∷ []) ≡ true → begins_pair c d (t ∷ rest) ≡ false → begins_lone c d (t ∷ rest) ≡ true
unfolding begins_lone
lone_alone c d t rest h apart = rw (apart, and_left (is_sign c t.kind) (not (begins_pair c d (t ∷ []))) h) refl

-- more behind two tokens leaves the operator that they begin with
pub pair_stays : (c d : ℕ) (t u : Token) (inside rest : Tokens) → begins_pair c d (t ∷ u ∷ inside) ≡ true → begins_pair c d (t ∷ u ∷ inside ++ rest) ≡ true
unfolding begins_pair
pair_stays c d t u inside rest h = h

-- equal where something is there
some_same : {A : Type 0} {x y : A} → ◌≡◌ {A = Option A} (Some x) (Some y) → x ≡ y
some_same h = cc

-- an operator of one token takes one
length_one : (q : Option Operator) (m n : ℕ) (o : Operator) → of_length m q ≡ Some (o, n) → m ≡ n
length_one None m n o h = absurd (cc)
length_one (Some p) m n o h = ap (λ (r : Operator × ℕ). r.1) (some_same h)

-- an operator takes one token or two
length_of : (p q : Option Operator) (n : ℕ) (o : Operator) → longer_of p q ≡ Some (o, n) → (n ≡ 1) ⊎ (n ≡ 2)
length_of None q n o h = inl (sym (length_one q 1 n o h))
length_of (Some p) q n o h = inr (sym (ap (λ (r : Operator × ℕ). r.1) (some_same h)))

-- an operator with an operand behind it is the same with more behind the operand
pub operator_stays : (front rest : Tokens) (o : Operator) (n : ℕ) → operator_at front ≡ Some (o, n) → drop n front ≢ []
    → (operator_at (front ++ rest) ≡ Some (o, n)) × (drop n (front ++ rest) ≡ drop n front ++ rest)
unfolding operator_at
operator_stays [] rest o n h some = absurd (cc)
operator_stays (t ∷ []) rest o n h some = absurd (some (ap (λ m. drop m (t ∷ [])) (sym (length_one (single_operator t.kind) 1 n o h))))
operator_stays (t ∷ u ∷ ts) rest o n h some = (
  h,
  elim (length_of (pair_operator t.kind u.kind) (single_operator t.kind) n o h) [
    | inl e ↦ (let one = ap (λ m. drop m (t ∷ u ∷ ts) ++ rest) e in ap (λ m. drop m (t ∷ u ∷ ts ++ rest)) e ∙ sym one)
    | inr e ↦ (let two = ap (λ m. drop m (t ∷ u ∷ ts) ++ rest) e in ap (λ m. drop m (t ∷ u ∷ ts ++ rest)) e ∙ sym two)
  ],
)

module _ (readers : Readers) (parts : Parts) (budget : ℕ) where
  -- reading again with less that may stand behind
  pub again_weaker : {A : Type 0} {g : Rule A} {F G : Behind A} → Again readers parts budget g G
      → ((front rest : Tokens) (x : A) → Parses parts budget g front x → F x rest → G x rest) → Again readers parts budget g F
  again_weaker ag weaker = record { reads = λ front rest x h f. ag.reads front rest x h (weaker front rest x h f) }

  -- one token
  pub again_token : (asked : Terminal) {F : Behind (Found (accepts asked))} → Again readers parts budget (token asked) F
  unfolding Parses run
  again_token asked = record { reads = λ front rest x h f. ap (λ ts. expect (accepts asked) (ts ++ rest)) h ∙ expect_hit (accepts asked) x.token rest x.passes }

  -- one token of documentation
  pub again_documentation : {F : Behind (Found documents)} → Again readers parts budget documentation F
  unfolding Parses run
  again_documentation = record { reads = λ front rest x h f. ap (λ ts. expect documents (ts ++ rest)) h ∙ expect_hit documents x.token rest x.passes }

  -- no token
  pub again_empty : {A : Type 0} (x : A) {F : Behind A} → Again readers parts budget (empty x) F
  unfolding Parses run
  again_empty x = record { reads = λ front rest y h f. ap (λ (ts : Tokens). Ok (x, ts ++ rest)) h.0 ∙ ap (λ z. Ok (z, rest)) (sym h.1) }

  -- one behind the other
  pub again_both : {A B : Type 0} {g : Rule A} {h : Rule B} {G : Behind A} {H : Behind B} {F : Behind (A × B)}
      → Again readers parts budget g G → Again readers parts budget h H
      → ((front rest : Tokens) (x : A) (y : B) → Parses parts budget h front y → F (x, y) rest → G x (front ++ rest) × H y rest)
      → Again readers parts budget (both g h) F
  unfolding Parses run
  again_both {g = g} {h = h} ag ah goes = record {
    reads = λ front rest x p f.
        (let go = goes p.1 rest x.0 x.1 p.4 f in
        let one = ag.reads p.0 (p.1 ++ rest) x.0 p.3 go.0 in
        let other = ah.reads p.1 rest x.1 p.4 go.1 in
        ap (λ ts. run readers budget (both g h) (ts ++ rest)) p.2 ∙ ap (run readers budget (both g h)) (append_assoc p.0 p.1 rest) ∙ rw (one, other) refl);
  }

  -- another value
  pub again_made : {A B : Type 0} {g : Rule A} {f : A → B} {F : Behind B} → Again readers parts budget g (λ x. F (f x)) → Again readers parts budget (made f g) F
  unfolding Parses run
  again_made {f = f} {F = F} ag = record {
    reads = λ front rest y p b. rw (ag.reads front rest p.0 p.2 (subst (λ z. F z rest) p.1 b)) (ap (λ z. Ok (z, rest)) (sym p.1));
  }

  -- only where the value passes a test
  pub again_checked : {A : Type 0} {g : Rule A} {test : A → Bool} {F G : Behind A} → Again readers parts budget g G
      → ((front rest : Tokens) (x : A) → Parses parts budget g front x → IsTrue (test x) → F x rest → G x rest)
      → Again readers parts budget (checked test g) F
  unfolding Parses run
  again_checked ag goes = record { reads = λ front rest x p b. rw (ag.reads front rest x p.1 (goes front rest x p.1 p.0 b), p.0) refl }

  -- one of two
  pub again_either : {A : Type 0} {look : Look} {g h : Rule A} {F : Behind A} → Again readers parts budget g F → Again readers parts budget h F
      → ((front rest : Tokens) (x : A) → Parses parts budget g front x → F x rest → sees_any look (front ++ rest) ≡ true)
      → ((front rest : Tokens) (x : A) → Parses parts budget h front x → F x rest → sees_any look (front ++ rest) ≡ false)
      → Again readers parts budget (either look g h) F
  unfolding Parses run
  again_either ag ah hit miss = record {
    reads = λ front rest x p b. elim p [
      | inl p ↦ rw (hit front rest x p b, ag.reads front rest x p b) refl
      | inr p ↦ rw (miss front rest x p b, ah.reads front rest x p b) refl
    ];
  }

  -- one of two, where the second begins with no such token
  pub again_prefer : {A : Type 0} {asked : Terminal} {g h : Rule A} {F : Behind A} → Again readers parts budget g F → Again readers parts budget h F
      → ((front rest : Tokens) (x : A) → Parses parts budget g front x → F x rest → sees (accepts asked) (front ++ rest) ≡ true)
      → ((x : A) → Parses parts budget h [] x → ⊥)
      → Again readers parts budget (prefer asked g h) F
  unfolding Parses run
  again_prefer {A = A} {asked = asked} {h = h} ag ah hit filled = record {
    reads = λ front rest x p b. elim p [
      | inl p ↦ rw (hit front rest x p b, ag.reads front rest x p b) refl
      | inr p ↦ rw (miss front rest x p.1 p.0, ah.reads front rest x p.1 b) refl
    ];
  }
    where
      miss : (front rest : Tokens) (x : A) → Parses parts budget h front x → sees (accepts asked) front ≡ false → sees (accepts asked) (front ++ rest) ≡ false
      miss [] rest x p h = absurd (filled x p)
      miss (t ∷ front) rest x p h = sees_same (accepts asked) t front (front ++ rest) h

  -- an operator of two puncts
  pub again_operator : (c d : ℕ) {F : Behind (Unit {0})} → Again readers parts budget (operator c d) F
  unfolding Parses run
  again_operator c d = record { reads = λ front rest x p b. two_taken c d front rest p.0 p.1 }

  -- a punct that isn't the first half of an operator, and the rule
  pub again_lone : {A : Type 0} {c d : ℕ} {g : Rule A} {F : Behind A} → Again readers parts budget g F
      → ((rest : Tokens) (x : A) (first : Token) → Parses parts budget g [] x → F x rest → begins_pair c d (first ∷ rest) ≡ false)
      → Again readers parts budget (lone c d g) F
  unfolding Parses run
  again_lone {A = A} {c = c} {d = d} {g = g} {F = F} ag apart = record {
    reads = λ front rest x p b.
        (let stays = behind p.0 p.1 rest x (sym (ap (begins_lone c d) p.2) ∙ p.3) p.4 b in
        ap (λ ts. run readers budget (lone c d g) (ts ++ rest)) p.2 ∙ rw (stays, ag.reads p.1 rest x p.4 b) refl);
  }
    where
      behind : (first : Token) (inside rest : Tokens) (x : A) → begins_lone c d (first ∷ inside) ≡ true → Parses parts budget g inside x → F x rest
          → begins_lone c d (first ∷ inside ++ rest) ≡ true
      behind first [] rest x h p b = lone_alone c d first rest h (apart rest x first p b)
      behind first (t ∷ inside) rest x h p b = lone_stays c d first t inside rest h

  -- an operator with two operands, and the rule
  pub again_binary : {A : Type 0} {g : Rule A} {F : Behind (Operator × A)} {G : Behind A} → Again readers parts budget g G
      → ((x : A) → Parses parts budget g [] x → ⊥)
      → ((front rest : Tokens) (o : Operator) (x : A) → Parses parts budget g front x → F (o, x) rest → G x rest)
      → Again readers parts budget (binary g) F
  unfolding Parses run
  again_binary {g = g} ag filled goes = record {
    reads = λ front rest x p b.
        (let stays = operator_stays front rest x.0 p.0 p.1 (λ none. filled x.1 (subst (λ ts. Parses parts budget g ts x.1) none p.2)) in
        let got = ag.reads (drop p.0 front) rest x.1 p.2 (goes (drop p.0 front) rest x.0 x.1 p.2 b) in
        rw (stays.0, stays.1, got) refl);
  }

  -- a bracket pair around the rule
  pub again_nest : {A : Type 0} {b : Bracket} {g : Rule A} {F G : Behind A} → (0 < budget → Again readers parts (budget - 1) g G)
      → ((front rest : Tokens) (x : A) (last : Token) → Parses parts (budget - 1) g front x → IsTrue (closes b last) → G x (last ∷ rest))
      → Again readers parts budget (nest b g) F
  unfolding Parses run
  again_nest {b = b} {g = g} ag closed = record {
    reads = λ front rest x p f.
        (let tail : Tokens = p.inside ++ p.last ∷ rest in
        let got = (ag p.allowed).reads p.inside (p.last ∷ rest) x p.reads (closed p.inside rest x p.last p.reads p.closes) in
        let regrouped : front ++ rest ≡ p.first ∷ tail = ap (λ ts. ts ++ rest) p.is ∙ ap (λ ts. p.first ∷ ts) (append_assoc p.inside (p.last ∷ []) rest) in
        ap (run readers budget (nest b g)) regrouped
        ∙ rw (expect_hit (opens b) p.first tail p.opens, enter_ok budget (length (p.first ∷ tail)) tail p.allowed, got, expect_hit (closes b) p.last rest p.closes) refl);
  }

  -- `<` and `>` around the rule
  pub again_angles : {A : Type 0} {g : Rule A} {F G : Behind A} → (0 < budget → Again readers parts (budget - 1) g G)
      → ((front rest : Tokens) (x : A) (last : Token) → Parses parts (budget - 1) g front x → IsTrue (accepts (Sign 62) last) → G x (last ∷ rest))
      → Again readers parts budget (angles g) F
  unfolding Parses run
  again_angles {g = g} ag closed = record {
    reads = λ front rest x q f.
        (let p = q.0 in
        let tail : Tokens = p.inside ++ p.last ∷ rest in
        let got = (ag p.allowed).reads p.inside (p.last ∷ rest) x p.reads (closed p.inside rest x p.last p.reads p.closes) in
        let regrouped : front ++ rest ≡ p.first ∷ tail = ap (λ ts. ts ++ rest) p.is ∙ ap (λ ts. p.first ∷ ts) (append_assoc p.inside (p.last ∷ []) rest) in
        let stays = starts p.first p.inside p.last rest (sym (ap (begins_lone 60 61) p.is) ∙ q.1) in
        ap (run readers budget (angles g)) regrouped
        ∙ rw (stays, enter_ok budget (length (p.first ∷ tail)) tail p.allowed, got, expect_hit (accepts (Sign 62)) p.last rest p.closes) refl);
  }
    where
      starts : (first : Token) (inside : Tokens) (last : Token) (rest : Tokens) → begins_lone 60 61 (first ∷ inside ++ last ∷ []) ≡ true
          → begins_lone 60 61 (first ∷ inside ++ last ∷ rest) ≡ true
      starts first [] last rest h = lone_stays 60 61 first last [] rest h
      starts first (t ∷ inside) last rest h = subst (λ ts. begins_lone 60 61 (first ∷ t ∷ ts) ≡ true) (append_assoc inside (last ∷ []) rest) (lone_stays 60 61 first t (inside ++ last ∷ []) rest h)

  -- such a token, and then the rule
  pub again_under : {A : Type 0} {asked : Terminal} {g : Rule A} {F : Behind A} → (0 < budget → Again readers parts (budget - 1) g F)
      → Again readers parts budget (under asked g) F
  unfolding Parses run
  again_under {asked = asked} {g = g} ag = record {
    reads = λ front rest x p f.
        ap (λ ts. run readers budget (under asked g) (ts ++ rest)) p.is
        ∙ rw (expect_hit (accepts asked) p.first (p.inside ++ rest) p.opens, enter_ok budget (length (p.first ∷ p.inside ++ rest)) (p.inside ++ rest) p.allowed, (ag p.allowed).reads p.inside rest x p.reads f) refl;
  }

  -- `->`, and then the rule
  pub again_arrow : {A : Type 0} {g : Rule A} {F : Behind A} → (0 < budget → Again readers parts (budget - 1) g F) → Again readers parts budget (arrow g) F
  unfolding Parses run
  again_arrow {g = g} ag = record {
    reads = λ front rest x p f.
        (let stays = pair_stays 45 62 p.0 p.1 p.2 rest (sym (ap (begins_pair 45 62) p.3) ∙ p.5) in
        ap (λ ts. run readers budget (arrow g) (ts ++ rest)) p.3
        ∙ rw (stays, enter_ok budget (length (p.0 ∷ p.1 ∷ p.2 ++ rest)) (p.2 ++ rest) p.4, (ag p.4).reads p.2 rest x p.6 f) refl);
  }

  -- the value with its tokens
  pub again_sliced : {A : Type 0} {g : Rule A} {F : Behind (A × Tokens)} {G : Behind A} → Again readers parts budget g G
      → ((front rest : Tokens) (x : A) → Parses parts budget g front x → F (x, front) rest → G x rest)
      → Again readers parts budget (sliced g) F
  unfolding Parses run
  again_sliced {F = F} ag goes = record {
    reads = λ front rest x p b.
        rw (ag.reads front rest x.0 p.0 (goes front rest x.0 p.0 (subst (λ ts. F (x.0, ts) rest) p.1 b)), since_all front rest) (ap (λ ts. Ok ((x.0, ts), rest)) (sym p.1));
  }

  -- the value with its tokens as they were written
  pub again_written : {A : Type 0} {g : Rule A} {F : Behind (A × Written)} {G : Behind A} → Again readers parts budget g G
      → ((front rest : Tokens) (x : A) (w : Written) → Parses parts budget g front x → w.tokens ≡ front → F (x, w) rest → G x rest)
      → Again readers parts budget (written g) F
  unfolding Parses run
  again_written {A = A} ag goes = record {
    reads = λ front rest x p b. rw (ag.reads front rest x.0 p.0 (goes front rest x.0 x.1 p.0 p.1 b), since_all front rest) (stands x.0 x.1 front rest p.1 (may_be_copied (lexemes front)) refl);
  }
    where
      stands : (x : A) (w : Written) (front rest : Tokens) → w.tokens ≡ front → (b : Bool) (is : may_be_copied (lexemes front) ≡ b) → written_if x front rest b is ≡ Ok ((x, w), rest)
      stands x w front rest same true is = ap (λ (v : Written). Ok ((x, v), rest)) (Written-path (record { tokens = front; written = is }) w (sym same))
      stands x w front rest same false is = absurd (let no : may_be_copied (lexemes w.tokens) ≡ true = w.written in let e = ap (λ ts. may_be_copied (lexemes ts)) same in cc)

  -- a part
  pub again_part : {p : Part} {F : Behind (TreeOf p)} → ((front rest : Tokens) (x : TreeOf p) → parts budget p front x → F x rest → readers budget p (front ++ rest) ≡ Ok (x, rest))
      → Again readers parts budget (part p) F
  unfolding Parses run
  again_part ag = record { reads = ag }
