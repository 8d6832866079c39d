-- What each list of tokens that a rule allows has, if single tokens, bracket pairs and lists behind one another have it.
use Rattle.std.proofs.Common.{◌≡◌, ℕ, zero, suc, ◌-◌, Bool, true, false, ◌&&◌, List, [], ◌∷◌, ◌++◌, length, drop, refl, ap, sym, subst, ◌∙◌, ◌⊎◌, inl, inr, arith, IsTrue}
use Rattle.std.specs.List.{list_all}
use Rattle.std.proofs.Math.Seq.{drop-append_seam}
use Rattle.educe_tokens.specs.Bracket.{Bracket}
use Rattle.educe_tokens.specs.declared.token.Token.{Token}
use Rattle.educe_grammar.specs.declared.terminal.Terminal.{Terminal}
use Rattle.educe_grammar.specs.declared.terminal.Terminal.TheVariants.{Sign}
use Rattle.educe_grammar.specs.Terminals.{set_of, accepts}
use Rattle.educe_grammar.specs.Steps.{Tokens}
use Rattle.educe_grammar.specs.Ahead.{opens, closes, documents, begins_pair, begins_lone}
use Rattle.educe_grammar.specs.Reading.{Grammar, Parts, Parses, Listed, Repeated, Linked}
use Rattle.educe_grammar.specs.Rules.{Rule, token, documentation, empty, both, made, checked, either, prefer, operator, lone, binary, nest, angles, under, arrow, list, many, chain, path, sliced, written, part, Part, TreeOf, types, plains, exprs, trees}
use Rattle.educe_grammar.specs.Reads.{parts_below, parts, Reads, rule_of}
use Rattle.educe_grammar.proofs.Beginnings.{both_hold, is_plain, accepted_plain, sign_plain, joint_sign, paired, loned, operated}
use Rattle.educe_grammar.proofs.Productions.{productions}

-- the rule reads no documentation, if the parts read none
unfoldable pub has_no_documentation : {A : Type 0} → Rule A → Bool
has_no_documentation (token asked) = true
has_no_documentation documentation = false
has_no_documentation (empty x) = true
has_no_documentation (both g h) = has_no_documentation g && has_no_documentation h
has_no_documentation (made f g) = has_no_documentation g
has_no_documentation (checked test g) = has_no_documentation g
has_no_documentation (either look g h) = has_no_documentation g && has_no_documentation h
has_no_documentation (prefer asked g h) = has_no_documentation g && has_no_documentation h
has_no_documentation (operator c d) = true
has_no_documentation (lone c d g) = has_no_documentation g
has_no_documentation (binary g) = has_no_documentation g
has_no_documentation (nest b g) = has_no_documentation g
has_no_documentation (angles g) = has_no_documentation g
has_no_documentation (under asked g) = has_no_documentation g
has_no_documentation (arrow g) = has_no_documentation g
has_no_documentation (list separator stop g) = has_no_documentation g
has_no_documentation (many look g) = has_no_documentation g
has_no_documentation (chain look g) = has_no_documentation g
has_no_documentation (path g) = has_no_documentation g
has_no_documentation (sliced g) = has_no_documentation g
has_no_documentation (written g) = has_no_documentation g
has_no_documentation (part p) = true

-- what the rule keeps as it was written is read with no documentation, if so it is with the parts
unfoldable pub writes_no_documentation : {A : Type 0} → Rule A → Bool
writes_no_documentation (token asked) = true
writes_no_documentation documentation = true
writes_no_documentation (empty x) = true
writes_no_documentation (both g h) = writes_no_documentation g && writes_no_documentation h
writes_no_documentation (made f g) = writes_no_documentation g
writes_no_documentation (checked test g) = writes_no_documentation g
writes_no_documentation (either look g h) = writes_no_documentation g && writes_no_documentation h
writes_no_documentation (prefer asked g h) = writes_no_documentation g && writes_no_documentation h
writes_no_documentation (operator c d) = true
writes_no_documentation (lone c d g) = writes_no_documentation g
writes_no_documentation (binary g) = writes_no_documentation g
writes_no_documentation (nest b g) = writes_no_documentation g
writes_no_documentation (angles g) = writes_no_documentation g
writes_no_documentation (under asked g) = writes_no_documentation g
writes_no_documentation (arrow g) = writes_no_documentation g
writes_no_documentation (list separator stop g) = writes_no_documentation g
writes_no_documentation (many look g) = writes_no_documentation g
writes_no_documentation (chain look g) = writes_no_documentation g
writes_no_documentation (path g) = writes_no_documentation g
writes_no_documentation (sliced g) = writes_no_documentation g
writes_no_documentation (written g) = has_no_documentation g && writes_no_documentation g
writes_no_documentation (part p) = true

-- What lists of tokens have if what they are made of has it, documentation aside.
pub record IsKept (W : Tokens → Type 0) : Type 0 where
  pub none : W []
  pub behind : (front rest : Tokens) → W front → W rest → W (front ++ rest)
  pub plain : (t : Token) → is_plain t.kind ≡ true → W (t ∷ [])
  pub pair : (b : Bracket) (first last : Token) (inside : Tokens) → IsTrue (opens b first) → IsTrue (closes b last) → W inside → W (first ∷ (inside ++ last ∷ []))

-- documentation has it
abbrev pub OfDocumentation : (Tokens → Type 0) → Type 0
OfDocumentation W = (t : Token) → IsTrue (documents t) → W (t ∷ [])

-- the rule has no documentation, or documentation has it
abbrev pub Documents : (Tokens → Type 0) → Bool → Type 0
Documents W no_doc = (no_doc ≡ true) ⊎ OfDocumentation W

-- the first of two rules
documents_left : (W : Tokens → Type 0) (a b : Bool) → Documents W (a && b) → Documents W a
documents_left W a b (inl h) = inl (both_hold a b h).0
documents_left W a b (inr h) = inr h

-- the second of two rules
documents_right : (W : Tokens → Type 0) (a b : Bool) → Documents W (a && b) → Documents W b
documents_right W a b (inl h) = inl (both_hold a b h).1
documents_right W a b (inr h) = inr h

module _ (W : Tokens → Type 0) (kept : IsKept W) where
  -- one more plain token
  plain_keeps : (t : Token) (rest : Tokens) → is_plain t.kind ≡ true → W rest → W (t ∷ rest)
  plain_keeps t rest plain has = kept.behind (t ∷ []) rest (kept.plain t plain) has

  -- plain tokens
  pub plains_keep : (ts : Tokens) → list_all (λ t. is_plain t.kind) ts ≡ true → W ts
  plains_keep [] plain = kept.none
  plains_keep (t ∷ ts) plain = let p = both_hold (is_plain t.kind) (list_all (λ t. is_plain t.kind) ts) plain in plain_keeps t ts p.0 (plains_keep ts p.1)

  -- a token that was asked for
  accepted_keeps : (asked : Terminal) (t : Token) (rest : Tokens) → IsTrue (accepts asked t) → W rest → W (t ∷ rest)
  unfolding accepts
  accepted_keeps asked t rest is has = plain_keeps t rest (accepted_plain (set_of asked) t.kind t.spelling is) has

  -- an operator
  pair_keeps : (c d : ℕ) (first second : Token) (rest : Tokens) → begins_pair c d (first ∷ second ∷ rest) ≡ true → W rest → W (first ∷ second ∷ rest)
  pair_keeps c d first second rest is has =
      let p = paired c d (first ∷ second ∷ rest) is in
      subst W (sym p.whole) (plain_keeps p.first (p.second ∷ p.behind) (sign_plain c p.first.kind (joint_sign c p.first.kind p.joins))
      (plain_keeps p.second p.behind (sign_plain d p.second.kind p.follows) (subst W (let e : rest ≡ p.behind = ap (drop 2) p.whole in e) has)))

  -- a punct
  lone_keeps : (c d : ℕ) (first : Token) (rest : Tokens) → begins_lone c d (first ∷ rest) ≡ true → W rest → W (first ∷ rest)
  lone_keeps c d first rest is has =
      let p = loned c d (first ∷ rest) is in
      subst W (sym p.whole) (plain_keeps p.first p.behind (sign_plain c p.first.kind p.is) (subst W (let e : rest ≡ p.behind = ap (drop 1) p.whole in e) has))

  module _ {A : Type 0} (R : Grammar A) (keeps : (tokens : Tokens) (x : A) → R tokens x → W tokens) where
    -- items with separators between
    listed_keeps : (separator : Terminal) {tokens : Tokens} {xs : List A} → Listed R (accepts separator) tokens xs → W tokens
    listed_keeps separator Listed.none = kept.none
    listed_keeps separator (Listed.last {x = x} tokens is) = keeps tokens x is
    listed_keeps separator (Listed.more {x = x} front rest between is separates others) =
        kept.behind front (between ∷ rest) (keeps front x is) (accepted_keeps separator between rest separates (listed_keeps separator others))

    -- items one behind the other
    repeated_keeps : {tokens : Tokens} {xs : List A} → Repeated R tokens xs → W tokens
    repeated_keeps Repeated.none = kept.none
    repeated_keeps (Repeated.more {x = x} front rest is others) = kept.behind front rest (keeps front x is) (repeated_keeps others)

    -- items with `::` between
    linked_keeps : {tokens : Tokens} {xs : List A} → Linked R tokens xs → W tokens
    linked_keeps (Linked.last {x = x} tokens is) = keeps tokens x is
    linked_keeps (Linked.more {x = x} front rest first second is between others) =
        kept.behind front (first ∷ second ∷ rest) (keeps front x is) (pair_keeps 58 58 first second rest between (linked_keeps others))

  module _ (parts : Parts) (parts_keep : (budget : ℕ) (p : Part) (tokens : Tokens) (x : TreeOf p) → parts budget p tokens x → W tokens) where
    -- what the parts have the rules have
    pub parses_keeps : {A : Type 0} (g : Rule A) → Documents W (has_no_documentation g) → (budget : ℕ) (tokens : Tokens) (x : A) → Parses parts budget g tokens x → W tokens
    unfolding Parses has_no_documentation
    parses_keeps (token asked) docs budget tokens x is = subst W (sym is) (accepted_keeps asked x.token [] x.passes kept.none)
    parses_keeps documentation (inl docs) budget tokens x is = absurd (cc)
    parses_keeps documentation (inr docs) budget tokens x is = subst W (sym is) (docs x.token x.passes)
    parses_keeps (empty y) docs budget tokens x is = subst W (sym is.0) kept.none
    parses_keeps (both g h) docs budget tokens x is =
        subst W (sym is.2) (kept.behind is.0 is.1
        (parses_keeps g (documents_left W (has_no_documentation g) (has_no_documentation h) docs) budget is.0 x.0 is.3)
        (parses_keeps h (documents_right W (has_no_documentation g) (has_no_documentation h) docs) budget is.1 x.1 is.4))
    parses_keeps (made f g) docs budget tokens x is = parses_keeps g docs budget tokens is.0 is.2
    parses_keeps (checked test g) docs budget tokens x is = parses_keeps g docs budget tokens x is.1
    parses_keeps (either look g h) docs budget tokens x (inl is) = parses_keeps g (documents_left W (has_no_documentation g) (has_no_documentation h) docs) budget tokens x is
    parses_keeps (either look g h) docs budget tokens x (inr is) = parses_keeps h (documents_right W (has_no_documentation g) (has_no_documentation h) docs) budget tokens x is
    parses_keeps (prefer asked g h) docs budget tokens x (inl is) = parses_keeps g (documents_left W (has_no_documentation g) (has_no_documentation h) docs) budget tokens x is
    parses_keeps (prefer asked g h) docs budget tokens x (inr is) = parses_keeps h (documents_right W (has_no_documentation g) (has_no_documentation h) docs) budget tokens x is.1
    parses_keeps (operator c d) docs budget tokens x is =
        let p = paired c d tokens is.1 in
        subst W (sym p.whole) (pair_keeps c d p.first p.second p.behind (subst (λ ts. begins_pair c d ts ≡ true) p.whole is.1) (nothing p.behind (sym (ap length p.whole) ∙ is.0)))
      where
        nothing : (ts : Tokens) → suc (suc (length ts)) ≡ 2 → W ts
        nothing [] e = kept.none
        nothing (t ∷ ts) e = absurd (omega arith)
    parses_keeps (lone c d g) docs budget tokens x is =
        subst W (sym is.2) (lone_keeps c d is.0 is.1 (subst (λ ts. begins_lone c d ts ≡ true) is.2 is.3) (parses_keeps g docs budget is.1 x is.4))
    parses_keeps (binary g) docs budget tokens x is =
        let p = operated tokens x.0 is.0 is.1 in
        let dropped : drop is.0 tokens ≡ p.behind = ap (drop is.0) p.whole ∙ ap (λ n. drop n (p.op ++ p.behind)) p.size ∙ drop-append_seam p.op p.behind in
        subst W (sym p.whole) (kept.behind p.op p.behind (plains_keep p.op p.plain) (subst W dropped (parses_keeps g docs budget (drop is.0 tokens) x.1 is.2)))
    parses_keeps (nest b g) docs budget tokens x is =
        subst W (sym is.is) (kept.pair b is.first is.last is.inside is.opens is.closes (parses_keeps g docs (budget - 1) is.inside x is.reads))
    parses_keeps (angles g) docs budget tokens x is =
        let p = is.0 in
        subst W (sym p.is) (accepted_keeps (Sign 60) p.first (p.inside ++ p.last ∷ []) p.opens
        (kept.behind p.inside (p.last ∷ []) (parses_keeps g docs (budget - 1) p.inside x p.reads) (accepted_keeps (Sign 62) p.last [] p.closes kept.none)))
    parses_keeps (under asked g) docs budget tokens x is = subst W (sym is.is) (accepted_keeps asked is.first is.inside is.opens (parses_keeps g docs (budget - 1) is.inside x is.reads))
    parses_keeps (arrow g) docs budget tokens x is =
        subst W (sym is.3) (pair_keeps 45 62 is.0 is.1 is.2 (subst (λ ts. begins_pair 45 62 ts ≡ true) is.3 is.5) (parses_keeps g docs (budget - 1) is.2 x is.6))
    parses_keeps (list separator stop g) docs budget tokens x is = listed_keeps (Parses parts budget g) (λ tokens x is. parses_keeps g docs budget tokens x is) separator is
    parses_keeps (many look g) docs budget tokens x is = repeated_keeps (Parses parts budget g) (λ tokens x is. parses_keeps g docs budget tokens x is) is
    parses_keeps (chain look g) docs budget tokens x is = repeated_keeps (Parses parts budget g) (λ tokens x is. parses_keeps g docs budget tokens x is) is.0
    parses_keeps (path g) docs budget tokens x is = linked_keeps (Parses parts budget g) (λ tokens x is. parses_keeps g docs budget tokens x is) is
    parses_keeps (sliced g) docs budget tokens x is = parses_keeps g docs budget tokens x.0 is.0
    parses_keeps (written g) docs budget tokens x is = parses_keeps g docs budget tokens x.0 is.0
    parses_keeps (part p) docs budget tokens x is = parts_keep budget p tokens x is

  -- the parts have no documentation
  part_documents : (p : Part) → has_no_documentation (rule_of p) ≡ true
  unfolding has_no_documentation productions
  part_documents types = refl
  part_documents plains = refl
  part_documents exprs = refl
  part_documents trees = refl

  -- each part has it
  pub parts_keep : (n budget : ℕ) (p : Part) (tokens : Tokens) (x : TreeOf p) → parts_below n budget p tokens x → W tokens
  unfolding parts_below
  parts_keep zero budget p tokens x is = absurd is
  parts_keep (suc n) budget p tokens x is = parses_keeps (parts_below n) (parts_keep n) (rule_of p) (inl (part_documents p)) budget tokens x is

  -- each list that a rule allows has it
  pub reads_keep : {A : Type 0} (g : Rule A) → Documents W (has_no_documentation g) → (budget : ℕ) (tokens : Tokens) (x : A) → Reads budget g tokens x → W tokens
  reads_keep g docs budget tokens x is = parses_keeps parts (λ budget p. parts_keep (suc budget) budget p) g docs budget tokens x is
