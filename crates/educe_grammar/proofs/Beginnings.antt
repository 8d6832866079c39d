-- What stands first in a list where a test on its first tokens holds.
use Rattle.std.proofs.Common.{◌≡◌, ℕ, ◌==◌, Bool, true, false, ◌&&◌, ◌||◌, List, [], ◌∷◌, ◌++◌, length, refl, ap, sym, subst, ◌∙◌, ◌⊎◌, inl, inr, arith, cond, Option, Some, None}
use Rattle.std.specs.List.{list_any, list_all}
use Rattle.educe_tokens.specs.TokenKind.{TokenKind}
use Rattle.educe_tokens.specs.TokenKind.TheVariants as kind
use Rattle.educe_tokens.specs.declared.token.Token.{Token}
use Rattle.educe_grammar.specs.declared.operator.Operator.{Operator}
use Rattle.educe_grammar.specs.declared.terminal.Terminal.TheVariants.{Sign}
use Rattle.educe_grammar.specs.Terminals.{TokenSet, set_of, token_in, accepts}
use Rattle.educe_grammar.specs.Steps.{Tokens}
use Rattle.educe_grammar.specs.Ahead.{is_sign, is_joint, begins_pair, begins_lone, sees}
use Rattle.educe_grammar.specs.Depth.{opening_signs, is_opener}
use Rattle.educe_grammar.specs.Operators.{pair_of, single_of, pair_operator, single_operator, of_length, longer_of, operator_at}

-- both parts of a conjunction hold
pub both_hold : (a b : Bool) → (a && b) ≡ true → (a ≡ true) × (b ≡ true)
both_hold true b h = (refl, h)
both_hold false b h = absurd (cc)

-- one part of a disjunction holds
pub one_holds : (a b : Bool) → (a || b) ≡ true → (a ≡ true) ⊎ (b ≡ true)
one_holds true b h = inl refl
one_holds false b h = inr h

-- what is tested is equal
pub eq_true : (d c : ℕ) → (d == c) ≡ true → d ≡ c
eq_true d c h = grind arith

-- a number is tested the same as itself
eq_refl : (c : ℕ) → ((c == c) || false) ≡ true
eq_refl c = grind arith

-- where there is a token that passes, it is the first
pub seen : (test : Token → Bool) (ts : Tokens) → sees test ts ≡ true → (t : Token) × (rest : Tokens) × (ts ≡ t ∷ rest) × (test t ≡ true)
unfolding sees
seen test [] h = absurd (cc)
seen test (t ∷ ts) h = (t, ts, refl, h)

-- a token that stands first in a front stands first
pub seen_front : (test : Token → Bool) (front rest : Tokens) → sees test front ≡ true → sees test (front ++ rest) ≡ true
unfolding sees
seen_front test [] rest h = absurd (cc)
seen_front test (t ∷ front) rest h = h

-- where no such token is the first, none is the first of a front
pub unseen_front : (test : Token → Bool) (front rest : Tokens) → sees test (front ++ rest) ≡ false → sees test front ≡ false
unfolding sees
unseen_front test [] rest h = refl
unseen_front test (t ∷ front) rest h = h

-- its kind is in the set
kind_accepted : (c : ℕ) (k : TokenKind) (text : List ℕ) → is_sign c k ≡ true → token_in (set_of (Sign c)) k text ≡ true
kind_accepted c (kind.Punct d joint) text h = let e : d ≡ c = eq_true d c h in rw e (eq_refl c)
kind_accepted c kind.Ident text h = absurd (cc)
kind_accepted c kind.Lifetime text h = absurd (cc)
kind_accepted c (kind.Literal l) text h = absurd (cc)
kind_accepted c (kind.Start b) text h = absurd (cc)
kind_accepted c (kind.Stop b) text h = absurd (cc)
kind_accepted c kind.Doc text h = absurd (cc)

-- a punct is accepted where it is asked for
pub sign_accepted : (c : ℕ) (t : Token) → is_sign c t.kind ≡ true → accepts (Sign c) t ≡ true
unfolding accepts
sign_accepted c t h = kind_accepted c t.kind t.spelling h

-- An operator of two puncts stands first.
pub record Paired (c d : ℕ) (ts : Tokens) : Type 0 where
  pub first : Token
  pub second : Token
  pub behind : Tokens
  pub whole : ts ≡ first ∷ second ∷ behind
  pub joins : is_joint c first.kind ≡ true
  pub follows : is_sign d second.kind ≡ true

-- an operator is two tokens
pub paired : (c d : ℕ) (ts : Tokens) → begins_pair c d ts ≡ true → Paired c d ts
unfolding begins_pair
paired c d [] h = absurd (cc)
paired c d (t ∷ []) h = absurd (cc)
paired c d (t ∷ u ∷ ts) h = let e = both_hold (is_joint c t.kind) (is_sign d u.kind) h in record { first = t; second = u; behind = ts; whole = refl; joins = e.0; follows = e.1 }

-- what stands behind two tokens doesn't decide whether they are an operator
pub pair_alone : (c d : ℕ) (t u : Token) (ts us : Tokens) → begins_pair c d (t ∷ u ∷ ts) ≡ true → begins_pair c d (t ∷ u ∷ us) ≡ true
unfolding begins_pair
pair_alone c d t u ts us h = h

-- A punct stands first.
pub record Loned (c : ℕ) (ts : Tokens) : Type 0 where
  pub first : Token
  pub behind : Tokens
  pub whole : ts ≡ first ∷ behind
  pub is : is_sign c first.kind ≡ true

-- a punct that is no half of an operator is one token
pub loned : (c d : ℕ) (ts : Tokens) → begins_lone c d ts ≡ true → Loned c ts
unfolding begins_lone
loned c d [] h = absurd (cc)
loned c d (t ∷ ts) h = record { first = t; behind = ts; whole = refl; is = (both_hold (is_sign c t.kind) _ h).0 }

-- it is none either where less stands behind it
pub lone_alone : (c d : ℕ) (t : Token) (ts us : Tokens) → begins_lone c d (t ∷ ts ++ us) ≡ true → begins_lone c d (t ∷ ts) ≡ true
unfolding begins_lone begins_pair
lone_alone c d t [] us h = let e = both_hold (is_sign c t.kind) _ h in rw e.0 refl
lone_alone c d t (u ∷ ts) us h = h

-- neither a bracket nor documentation
abbrev pub is_plain : TokenKind → Bool
is_plain kind.Ident = true
is_plain kind.Lifetime = true
is_plain (kind.Literal l) = true
is_plain (kind.Punct c joint) = true
is_plain (kind.Start b) = false
is_plain (kind.Stop b) = false
is_plain kind.Doc = false

-- a token that is asked for is plain
pub accepted_plain : (set : TokenSet) (k : TokenKind) (text : List ℕ) → token_in set k text ≡ true → is_plain k ≡ true
accepted_plain set kind.Ident text h = refl
accepted_plain set kind.Lifetime text h = refl
accepted_plain set (kind.Literal l) text h = refl
accepted_plain set (kind.Punct c joint) text h = refl
accepted_plain set (kind.Start b) text h = absurd (cc)
accepted_plain set (kind.Stop b) text h = absurd (cc)
accepted_plain set kind.Doc text h = absurd (cc)

-- a punct is plain
pub sign_plain : (c : ℕ) (k : TokenKind) → is_sign c k ≡ true → is_plain k ≡ true
sign_plain c (kind.Punct d joint) h = refl
sign_plain c kind.Ident h = absurd (cc)
sign_plain c kind.Lifetime h = absurd (cc)
sign_plain c (kind.Literal l) h = absurd (cc)
sign_plain c (kind.Start b) h = absurd (cc)
sign_plain c (kind.Stop b) h = absurd (cc)
sign_plain c kind.Doc h = absurd (cc)

-- a punct that is joint with another is this punct
pub joint_sign : (c : ℕ) (k : TokenKind) → is_joint c k ≡ true → is_sign c k ≡ true
joint_sign c (kind.Punct d joint) h = (both_hold (d == c) joint h).0
joint_sign c kind.Ident h = absurd (cc)
joint_sign c kind.Lifetime h = absurd (cc)
joint_sign c (kind.Literal l) h = absurd (cc)
joint_sign c (kind.Start b) h = absurd (cc)
joint_sign c (kind.Stop b) h = absurd (cc)
joint_sign c kind.Doc h = absurd (cc)

-- the character is one that opens
abbrev pub Opens : ℕ → Type 0
Opens c = list_any (λ d. d == c) opening_signs ≡ true

-- one case of the table of operators
opens_case : (b : Bool) (c d : ℕ) (x others : Option Operator) (o : Operator) → (b ≡ true → (c == d) ≡ true) → Opens d → (others ≡ Some o → Opens c) → cond b x others ≡ Some o → Opens c
opens_case true c d x others o is opens more h = subst Opens (sym (eq_true c d (is refl))) opens
opens_case false c d x others o is opens more h = more h

-- none is no operator
no_operator : {o : Operator} → ◌≡◌ {A = Option Operator} None (Some o) → ⊥
no_operator h = cc

-- the punct that is an operator is an opener
pub single_opens : (c : ℕ) (o : Operator) → single_of c ≡ Some o → Opens c
single_opens c o h =
    case 60 _ _ refl (case 62 _ _ refl (case 43 _ _ refl (case 45 _ _ refl (case 42 _ _ refl (case 47 _ _ refl (case 37 _ _ refl (case 94 _ _ refl (case 38 _ _ refl (case 124 _ _ refl (λ e. absurd (no_operator e))))))))))) h
  where
    case : (d : ℕ) (x others : Option Operator) → Opens d → (others ≡ Some o → Opens c) → cond (c == d) x others ≡ Some o → Opens c
    case d x others opens more e = opens_case (c == d) c d x others o (λ is. is) opens more e

-- the first punct of an operator of two is an opener
pub pair_opens : (c d : ℕ) (o : Operator) → pair_of c d ≡ Some o → Opens c
pair_opens c d o h =
    case 38 38 _ _ refl (case 124 124 _ _ refl (case 61 61 _ _ refl (case 33 61 _ _ refl (case 60 61 _ _ refl (case 62 61 _ _ refl (case 60 60 _ _ refl (case 62 62 _ _ refl (λ e. absurd (no_operator e))))))))) h
  where
    case : (a b : ℕ) (x others : Option Operator) → Opens a → (others ≡ Some o → Opens c) → cond ((c == a) && (d == b)) x others ≡ Some o → Opens c
    case a b x others opens more e = opens_case ((c == a) && (d == b)) c a x others o (λ is. (both_hold (c == a) (d == b) is).0) opens more e

-- the token is an opener
abbrev pub opening : Token → Bool
opening t = is_opener t.kind t.spelling

-- An operator with two operands stands first, whatever of what is behind it is left away. Its tokens are plain, and the
-- first is an opener.
pub record Operated (ts : Tokens) (o : Operator) (n : ℕ) : Type 0 where
  pub op : Tokens
  pub behind : Tokens
  pub whole : ts ≡ op ++ behind
  pub size : n ≡ length op
  pub plain : list_all (λ t. is_plain t.kind) op ≡ true
  pub opens : sees opening op ≡ true
  pub alone : (front rest : Tokens) → behind ≡ front ++ rest → operator_at (op ++ front) ≡ Some (o, n)

-- equal operators are of equal lengths
some_same : {o p : Operator} {m n : ℕ} → ◌≡◌ {A = Option (Operator × ℕ)} (Some (o, m)) (Some (p, n)) → (o ≡ p) × (m ≡ n)
some_same {o} {p} {m} {n} h = let e : ◌≡◌ {A = Operator × ℕ} (o, m) (p, n) = cc in (ap (λ q. q.0) e, ap (λ q. q.1) e)

-- an operator of one token
single_operated : (k : Option Operator) (o : Operator) (n : ℕ) → of_length 1 k ≡ Some (o, n) → (n ≡ 1) × (k ≡ Some o)
single_operated None o n h = absurd (cc)
single_operated (Some p) o n h = let e = some_same h in (sym e.1, ap Some e.0)

-- an operator of one token is plain, and an opener
single_plain : (k : TokenKind) (text : List ℕ) (o : Operator) → single_operator k ≡ Some o → (is_plain k ≡ true) × (is_opener k text ≡ true)
single_plain (kind.Punct c joint) text o h = (refl, single_opens c o h)
single_plain kind.Ident text o h = absurd (no_operator h)
single_plain kind.Lifetime text o h = absurd (no_operator h)
single_plain (kind.Literal l) text o h = absurd (no_operator h)
single_plain (kind.Start b) text o h = absurd (no_operator h)
single_plain (kind.Stop b) text o h = absurd (no_operator h)
single_plain kind.Doc text o h = absurd (no_operator h)

-- the tokens of an operator of two are plain, and the first is an opener
pair_plain : (k l : TokenKind) (text : List ℕ) (o : Operator) → pair_operator k l ≡ Some o → (is_plain k ≡ true) × (is_plain l ≡ true) × (is_opener k text ≡ true)
pair_plain (kind.Punct c true) (kind.Punct d joint) text o h = (refl, refl, pair_opens c d o h)
pair_plain k l text o h = absurd (no_operator h)

-- one token that is no half of an operator is none before fewer tokens either
single_alone : (t u : Token) (ts : Tokens) (o : Operator) (n : ℕ) → pair_operator t.kind u.kind ≡ None → of_length 1 (single_operator t.kind) ≡ Some (o, n)
    → (front rest : Tokens) → u ∷ ts ≡ front ++ rest → operator_at (t ∷ front) ≡ Some (o, n)
unfolding operator_at
single_alone t u ts o n e h [] rest same = h
single_alone t u ts o n e h (v ∷ front) rest same =
    let first : u ≡ v = cc in
    let none : pair_operator t.kind v.kind ≡ None = ap (λ (w : Token). pair_operator t.kind w.kind) (sym first) ∙ e in
    rw none h

-- a list that is empty has an empty front
front_nil : (front rest : Tokens) → [] ≡ front ++ rest → front ≡ []
front_nil [] rest same = refl
front_nil (t ∷ front) rest same = absurd (cc)

-- one token stands first
operated_one : (t : Token) (behind : Tokens) (o : Operator) (n : ℕ) → of_length 1 (single_operator t.kind) ≡ Some (o, n)
    → ((front rest : Tokens) → behind ≡ front ++ rest → operator_at (t ∷ front) ≡ Some (o, n)) → Operated (t ∷ behind) o n
unfolding sees
operated_one t behind o n h alone =
    let e = single_operated (single_operator t.kind) o n h in
    let p = single_plain t.kind t.spelling o e.1 in record { op = t ∷ []; behind = behind; whole = refl; size = e.0; plain = rw p.0 refl; opens = p.1; alone = alone }

-- two tokens stand first, or the first alone
operated_two : (t u : Token) (ts : Tokens) (o : Operator) (n : ℕ) (k : Option Operator) → pair_operator t.kind u.kind ≡ k → longer_of k (single_operator t.kind) ≡ Some (o, n)
    → Operated (t ∷ u ∷ ts) o n
unfolding operator_at sees
operated_two t u ts o n None e h = operated_one t (u ∷ ts) o n h (single_alone t u ts o n e h)
operated_two t u ts o n (Some q) e h =
    let s = some_same h in
    let p = pair_plain t.kind u.kind t.spelling q e in record {
      op = t ∷ u ∷ [];
      behind = ts;
      whole = refl;
      size = sym s.1;
      plain = rw (p.0, p.1) refl;
      opens = p.2;
      alone = λ front rest same. rw e h;
    }

-- an operator is one token or two
pub operated : (ts : Tokens) (o : Operator) (n : ℕ) → operator_at ts ≡ Some (o, n) → Operated ts o n
unfolding operator_at
operated [] o n h = absurd (cc)
operated (t ∷ []) o n h = operated_one t [] o n h (λ front rest same. subst (λ us. operator_at (t ∷ us) ≡ Some (o, n)) (sym (front_nil front rest same)) h)
operated (t ∷ u ∷ ts) o n h = operated_two t u ts o n (pair_operator t.kind u.kind) refl h
