-- What a rule's program reads off the front of a list is what the rule says.
use Rattle.std.proofs.Common.{◌≡◌, ℕ, zero, suc, ◌-◌, ◌≤◌, Bool, true, false, List, [], ◌∷◌, ◌++◌, length, drop, refl, ap, sym, subst, ◌∙◌, inl, inr, arith, Option, Some, None, Ok, append_assoc, append-nil}
use Rattle.std.proofs.Math.Seq.{drop-append_seam}
use Rattle.educe_tokens.specs.declared.token.Token.{Token}
use Rattle.educe_tokens.specs.Lexes.{lexemes}
use Rattle.educe_tokens.specs.Copied.{may_be_copied}
use Rattle.educe_grammar.specs.declared.operator.Operator.{Operator}
use Rattle.educe_grammar.specs.Terminals.{accepts}
use Rattle.educe_grammar.specs.Steps.{Tokens, Outcome, Parser, expect, since}
use Rattle.educe_grammar.specs.Ahead.{Look, sees_any, sees, opens, documents, begins_pair, begins_lone}
use Rattle.educe_grammar.specs.Operators.{operator_at}
use Rattle.educe_grammar.specs.Reading.{Grammar, Parts, Parses, Listed, Repeated, Linked, chain_limit}
use Rattle.educe_grammar.specs.Running.{Readers, run, items, repeat, links, segments, binary_with, skip_if}
use Rattle.educe_grammar.specs.Rules.{Rule, token, documentation, empty, both, made, checked, either, prefer, operator, lone, binary, nest, angles, under, arrow, list, many, chain, path, sliced, written, part, Part}
use Rattle.educe_grammar.specs.Reads.{parts_below, parts, readers_below, readers, Reads, read, rule_of}
use Rattle.educe_grammar.proofs.Steps.{went, ok_pair, chose, expected, entered, skipped, since_all, written_went}
use Rattle.educe_grammar.proofs.Beginnings.{seen, unseen_front, paired, pair_alone, loned, lone_alone, sign_accepted, operated}

-- What was taken off the front is in the grammar.
pub record Took {A : Type 0} (R : Grammar A) (ts : Tokens) (x : A) (rest : Tokens) : Type 0 where
  pub front : Tokens
  pub whole : ts ≡ front ++ rest
  pub is_in : R front x

-- each value that the program reads is in the grammar
abbrev pub Sound : {A : Type 0} → Parser A → Grammar A → Type 0
Sound {A = A} p R = (ts rest : Tokens) (x : A) → p ts ≡ Ok (x, rest) → Took R ts x rest

-- a front behind a front
pub joined : (ts front us next rest : Tokens) → ts ≡ front ++ us → us ≡ next ++ rest → ts ≡ (front ++ next) ++ rest
joined ts front us next rest e f = e ∙ ap (λ vs. front ++ vs) f ∙ sym (append_assoc front next rest)

-- another rest
pub took_rest : {A : Type 0} {R : Grammar A} {ts left rest : Tokens} {x y : A} → Took R ts x left → x ≡ y → left ≡ rest → Took R ts y rest
took_rest {R = R} {ts = ts} {x = x} t same e = record { front = t.front; whole = t.whole ∙ ap (λ us. t.front ++ us) e; is_in = subst (λ y. R t.front y) same t.is_in }

-- What a loop found behind what it had found before.
pub record TookMore {A : Type 0} (R : Grammar (List A)) (found all : List A) (ts rest : Tokens) : Type 0 where
  pub more : List A
  pub is : all ≡ found ++ more
  pub took : Took R ts more rest

-- a loop that found nothing
abbrev found_none : {A : Type 0} {found all : List A} {ts rest : Tokens} (R : Grammar (List A)) → R [] [] → ◌≡◌ {A = Outcome (List A)} (Ok (found, ts)) (Ok (all, rest)) → TookMore R found all ts rest
found_none {found = found} R none h = let e = ok_pair h in record { more = []; is = sym e.0 ∙ sym (append-nil found); took = record { front = []; whole = e.1; is_in = none } }

-- a loop that found one and no more
found_one : {A : Type 0} {found all : List A} {ts left rest : Tokens} {x : A} (R : Grammar A) (S : Grammar (List A)) → Took R ts x left → ((front : Tokens) → R front x → S front (x ∷ []))
    → ◌≡◌ {A = Outcome (List A)} (Ok (found ++ x ∷ [], left)) (Ok (all, rest)) → TookMore S found all ts rest
found_one {x = x} R S t one h = let e = ok_pair h in
    record { more = x ∷ []; is = sym e.0; took = record { front = t.front; whole = t.whole ∙ ap (λ us. t.front ++ us) e.1; is_in = one t.front t.is_in } }

module _ {A : Type 0} (p : Parser A) (R : Grammar A) (sound : Sound p R) where
  -- items one behind the other
  pub repeat_sound : (look : Look) (n : ℕ) (found all : List A) (ts rest : Tokens) → repeat look p n found ts ≡ Ok (all, rest) → TookMore (Repeated R) found all ts rest
  unfolding repeat
  repeat_sound look zero found all ts rest h = absurd (cc)
  repeat_sound look (suc n) found all ts rest h =
      elim (chose (sees_any look ts) _ _ (Ok (all, rest)) h) [
        | inl u ↦ (let v = went _ _ all rest u.1 in
            let t = sound _ _ _ v.first in
            let m = repeat_sound look n (found ++ v.value ∷ []) all v.left rest v.second in record {
              more = v.value ∷ m.more;
              is = m.is ∙ append_assoc found (v.value ∷ []) m.more;
              took = record {
                front = t.front ++ m.took.front;
                whole = joined ts t.front v.left m.took.front rest t.whole m.took.whole;
                is_in = Repeated.more t.front m.took.front t.is_in m.took.is_in;
              };
            })
        | inr u ↦ found_none (Repeated R) Repeated.none u.1
      ]

  -- a chain, with as many as it may have
  pub links_sound : (look : Look) (n : ℕ) (found all : List A) (ts rest : Tokens) → links look p n found ts ≡ Ok (all, rest)
      → (m : TookMore (Repeated R) found all ts rest) × (length m.more ≤ n)
  unfolding links
  links_sound look zero found all ts rest h =
      elim (chose (sees_any look ts) _ _ (Ok (all, rest)) h) [
        | inl u ↦ absurd (let k = u.1 in cc)
        | inr u ↦ (found_none (Repeated R) Repeated.none u.1, omega arith)
      ]
  links_sound look (suc n) found all ts rest h =
      elim (chose (sees_any look ts) _ _ (Ok (all, rest)) h) [
        | inl u ↦ (let v = went _ _ all rest u.1 in
            let t = sound _ _ _ v.first in
            let m = links_sound look n (found ++ v.value ∷ []) all v.left rest v.second in (
              record {
                more = v.value ∷ m.0.more;
                is = m.0.is ∙ append_assoc found (v.value ∷ []) m.0.more;
                took = record {
                  front = t.front ++ m.0.took.front;
                  whole = joined ts t.front v.left m.0.took.front rest t.whole m.0.took.whole;
                  is_in = Repeated.more t.front m.0.took.front t.is_in m.0.took.is_in;
                };
              },
              omega (arith, m.1),
            ))
        | inr u ↦ (found_none (Repeated R) Repeated.none u.1, omega arith)
      ]

  -- items with separators between
  pub items_sound : (separates : Token → Bool) (stop : Look) (n : ℕ) (found all : List A) (ts rest : Tokens) → items separates stop p n found ts ≡ Ok (all, rest)
      → TookMore (Listed R separates) found all ts rest
  unfolding items
  items_sound separates stop zero found all ts rest h = absurd (cc)
  items_sound separates stop (suc n) found all ts rest h =
      elim (chose (sees_any stop ts) _ _ (Ok (all, rest)) h) [
        | inl u ↦ found_none (Listed R separates) Listed.none u.1
        | inr u ↦ (let v = went _ _ all rest u.1 in
            let t = sound _ _ _ v.first in
            elim (chose (sees separates v.left) _ _ (Ok (all, rest)) v.second) [
              | inl w ↦ (let s = seen separates v.left w.0 in
                  let m = items_sound separates stop n (found ++ v.value ∷ []) all (drop 1 v.left) rest w.1 in
                  let behind : drop 1 v.left ≡ s.1 = ap (drop 1) s.2 in
                  record {
                    more = v.value ∷ m.more;
                    is = m.is ∙ append_assoc found (v.value ∷ []) m.more;
                    took = record {
                      front = t.front ++ s.0 ∷ m.took.front;
                      whole = joined ts t.front v.left (s.0 ∷ m.took.front) rest t.whole (s.2 ∙ ap (λ us. s.0 ∷ us) (sym behind ∙ m.took.whole));
                      is_in = Listed.more t.front m.took.front s.0 t.is_in s.3 m.took.is_in;
                    };
                  })
              | inr w ↦ found_one R (Listed R separates) t (λ front is_in. Listed.last front is_in) w.1
            ])
      ]

  -- items with `::` between
  pub segments_sound : (n : ℕ) (found all : List A) (ts rest : Tokens) → segments p n found ts ≡ Ok (all, rest) → TookMore (Linked R) found all ts rest
  unfolding segments
  segments_sound zero found all ts rest h = absurd (cc)
  segments_sound (suc n) found all ts rest h =
      let v = went _ _ all rest h in
      let t = sound _ _ _ v.first in
      elim (chose (begins_pair 58 58 v.left) _ _ (Ok (all, rest)) v.second) [
        | inl w ↦ (let s = paired 58 58 v.left w.0 in
            let m = segments_sound n (found ++ v.value ∷ []) all (drop 2 v.left) rest w.1 in
            let behind : drop 2 v.left ≡ s.behind = ap (drop 2) s.whole in
            let colons : begins_pair 58 58 (s.first ∷ s.second ∷ s.behind) ≡ true = subst (λ us. begins_pair 58 58 us ≡ true) s.whole w.0 in
            record {
              more = v.value ∷ m.more;
              is = m.is ∙ append_assoc found (v.value ∷ []) m.more;
              took = record {
                front = t.front ++ s.first ∷ s.second ∷ m.took.front;
                whole = joined ts t.front v.left (s.first ∷ s.second ∷ m.took.front) rest t.whole (s.whole ∙ ap (λ us. s.first ∷ s.second ∷ us) (sym behind ∙ m.took.whole));
                is_in = Linked.more t.front m.took.front s.first s.second t.is_in (pair_alone 58 58 s.first s.second s.behind m.took.front colons) m.took.is_in;
              };
            })
        | inr w ↦ found_one R (Linked R) t (λ front is_in. Linked.last front is_in) w.1
      ]

-- an operator with two operands
binary_sound : {A : Type 0} (p : Parser A) (R : Grammar A) → Sound p R → (k : Option (Operator × ℕ)) (ts rest : Tokens) (x : Operator × A) → operator_at ts ≡ k → binary_with k p ts ≡ Ok (x, rest)
    → Took (λ tokens x. (n : ℕ) × (operator_at tokens ≡ Some (x.0, n)) × R (drop n tokens) x.1) ts x rest
binary_sound p R sound None ts rest x at h = absurd (cc)
binary_sound p R sound (Some o) ts rest x at h =
    let v = went (p (drop o.1 ts)) _ x rest h in
    let t = sound _ _ _ v.first in
    let e = ok_pair v.second in
    let f = operated ts o.0 o.1 at in
    let behind : drop o.1 ts ≡ f.behind = ap (drop o.1) f.whole ∙ ap (λ n. drop n (f.op ++ f.behind)) f.size ∙ drop-append_seam f.op f.behind in
    let same : f.behind ≡ t.front ++ v.left = sym behind ∙ t.whole in
    let dropped : drop o.1 (f.op ++ t.front) ≡ t.front = ap (λ n. drop n (f.op ++ t.front)) f.size ∙ drop-append_seam f.op t.front in
    took_rest (record {
      front = f.op ++ t.front;
      whole = joined ts f.op f.behind t.front v.left f.whole same;
      is_in = (o.1, f.alone t.front v.left same, subst (λ us. R us v.value) (sym dropped) t.is_in);
    }) e.0 e.1

module _ (readers : Readers) (parts : Parts) (sound : (budget : ℕ) (p : Part) → Sound (readers budget p) (parts budget p)) where
  -- the program of a rule, where those of the parts are sound
  pub rule_sound : {A : Type 0} (g : Rule A) (budget : ℕ) → Sound (run readers budget g) (Parses parts budget g)
  unfolding run Parses
  rule_sound (token asked) budget ts rest x h = record { front = x.token ∷ []; whole = expected (accepts asked) ts rest x h; is_in = refl }
  rule_sound documentation budget ts rest x h = record { front = x.token ∷ []; whole = expected documents ts rest x h; is_in = refl }
  rule_sound (empty y) budget ts rest x h = let e = ok_pair h in record { front = []; whole = e.1; is_in = (refl, sym e.0) }
  rule_sound (both g k) budget ts rest x h =
      let v = went _ _ x rest h in
      let t = rule_sound g budget _ _ _ v.first in
      let w = went _ _ x rest v.second in
      let u = rule_sound k budget _ _ _ w.first in
      let e = ok_pair w.second in
      took_rest (record { front = t.front ++ u.front; whole = joined ts t.front v.left u.front w.left t.whole u.whole; is_in = (t.front, u.front, refl, t.is_in, u.is_in) }) e.0 e.1
  rule_sound (made f g) budget ts rest x h =
      let v = went _ _ x rest h in
      let t = rule_sound g budget _ _ _ v.first in
      let e = ok_pair v.second in took_rest (record { front = t.front; whole = t.whole; is_in = (v.value, refl, t.is_in) }) e.0 e.1
  rule_sound (checked test g) budget ts rest x h =
      let v = went _ _ x rest h in
      let t = rule_sound g budget _ _ _ v.first in
      elim (chose (test v.value) _ _ (Ok (x, rest)) v.second) [
        | inl w ↦ (let e = ok_pair w.1 in took_rest (record { front = t.front; whole = t.whole; is_in = (w.0, t.is_in) }) e.0 e.1)
        | inr w ↦ absurd (let k = w.1 in cc)
      ]
  rule_sound (either look g k) budget ts rest x h =
      elim (chose (sees_any look ts) _ _ (Ok (x, rest)) h) [
        | inl u ↦ (let t = rule_sound g budget ts rest x u.1 in record { front = t.front; whole = t.whole; is_in = inl t.is_in })
        | inr u ↦ (let t = rule_sound k budget ts rest x u.1 in record { front = t.front; whole = t.whole; is_in = inr t.is_in })
      ]
  rule_sound (prefer asked g k) budget ts rest x h =
      elim (chose (sees (accepts asked) ts) _ _ (Ok (x, rest)) h) [
        | inl u ↦ (let t = rule_sound g budget ts rest x u.1 in record { front = t.front; whole = t.whole; is_in = inl t.is_in })
        | inr u ↦ (let t = rule_sound k budget ts rest x u.1 in
            let other = unseen_front (accepts asked) t.front rest (subst (λ us. sees (accepts asked) us ≡ false) t.whole u.0) in
            record { front = t.front; whole = t.whole; is_in = inr (other, t.is_in) })
      ]
  rule_sound (operator c d) budget ts rest x h =
      let s = skipped (begins_pair c d ts) 2 ts rest x h in
      let p = paired c d ts s.0 in
      let behind : p.behind ≡ rest = sym (ap (drop 2) p.whole) ∙ s.1 in
      record {
        front = p.first ∷ p.second ∷ [];
        whole = p.whole ∙ ap (λ us. p.first ∷ p.second ∷ us) behind;
        is_in = (refl, pair_alone c d p.first p.second p.behind [] (subst (λ us. begins_pair c d us ≡ true) p.whole s.0));
      }
  rule_sound (lone c d g) budget ts rest x h =
      let v = went (skip_if (begins_lone c d ts) 1 ts) _ x rest h in
      let s = skipped (begins_lone c d ts) 1 ts v.left v.value v.first in
      let p = loned c d ts s.0 in
      let t = rule_sound g budget _ _ _ v.second in
      let whole : ts ≡ p.first ∷ t.front ++ rest = p.whole ∙ ap (λ us. p.first ∷ us) (sym (ap (drop 1) p.whole) ∙ s.1 ∙ t.whole) in
      record {
        front = p.first ∷ t.front;
        whole = whole;
        is_in = (p.first, t.front, refl, lone_alone c d p.first t.front rest (subst (λ us. begins_lone c d us ≡ true) whole s.0), t.is_in);
      }
  rule_sound (binary g) budget ts rest x h = binary_sound (run readers budget g) (Parses parts budget g) (rule_sound g budget) (operator_at ts) ts rest x refl h
  rule_sound (nest b g) budget ts rest x h =
      let o = went (expect (opens b) ts) _ x rest h in
      let first = expected _ _ _ _ o.first in
      let a = went _ _ x rest o.second in
      let within = entered budget (length ts) o.left a.left a.value a.first in
      let c = went _ _ x rest a.second in
      let t = rule_sound g (budget - 1) _ _ _ c.first in
      let f = went _ _ x rest c.second in
      let last = expected _ _ _ _ f.first in
      let e = ok_pair f.second in
      took_rest (record {
        front = o.value.token ∷ (t.front ++ f.value.token ∷ []);
        whole = first ∙ ap (λ us. o.value.token ∷ us) (joined o.left t.front c.left (f.value.token ∷ []) f.left (within.1 ∙ t.whole) last);
        is_in = record { first = o.value.token; inside = t.front; last = f.value.token; is = refl; allowed = within.0; opens = o.value.passes; closes = f.value.passes; reads = t.is_in };
      }) e.0 e.1
  rule_sound (angles g) budget ts rest x h =
      let o = went (skip_if (begins_lone 60 61 ts) 1 ts) _ x rest h in
      let s = skipped (begins_lone 60 61 ts) 1 ts o.left o.value o.first in
      let p = loned 60 61 ts s.0 in
      let a = went _ _ x rest o.second in
      let within = entered budget (length ts) o.left a.left a.value a.first in
      let c = went _ _ x rest a.second in
      let t = rule_sound g (budget - 1) _ _ _ c.first in
      let f = went _ _ x rest c.second in
      let last = expected _ _ _ _ f.first in
      let e = ok_pair f.second in
      let inner : p.behind ≡ t.front ++ c.left = sym (ap (drop 1) p.whole) ∙ s.1 ∙ within.1 ∙ t.whole in
      let whole : ts ≡ p.first ∷ (t.front ++ f.value.token ∷ []) ++ f.left = p.whole ∙ ap (λ us. p.first ∷ us) (joined p.behind t.front c.left (f.value.token ∷ []) f.left inner last) in
      let alone = lone_alone 60 61 p.first (t.front ++ f.value.token ∷ []) f.left (subst (λ us. begins_lone 60 61 us ≡ true) whole s.0) in
      took_rest (record {
        front = p.first ∷ (t.front ++ f.value.token ∷ []);
        whole = whole;
        is_in = (
          record { first = p.first; inside = t.front; last = f.value.token; is = refl; allowed = within.0; opens = sign_accepted 60 p.first p.is; closes = f.value.passes; reads = t.is_in },
          alone,
        );
      }) e.0 e.1
  rule_sound (under asked g) budget ts rest x h =
      let o = went (expect (accepts asked) ts) _ x rest h in
      let first = expected _ _ _ _ o.first in
      let a = went _ _ x rest o.second in
      let within = entered budget (length ts) o.left a.left a.value a.first in
      let t = rule_sound g (budget - 1) _ _ _ a.second in
      record {
        front = o.value.token ∷ t.front;
        whole = first ∙ ap (λ us. o.value.token ∷ us) (within.1 ∙ t.whole);
        is_in = record { first = o.value.token; inside = t.front; is = refl; allowed = within.0; opens = o.value.passes; reads = t.is_in };
      }
  rule_sound (arrow g) budget ts rest x h =
      let o = went (skip_if (begins_pair 45 62 ts) 2 ts) _ x rest h in
      let s = skipped (begins_pair 45 62 ts) 2 ts o.left o.value o.first in
      let p = paired 45 62 ts s.0 in
      let a = went _ _ x rest o.second in
      let within = entered budget (length ts) o.left a.left a.value a.first in
      let t = rule_sound g (budget - 1) _ _ _ a.second in
      let behind : p.behind ≡ t.front ++ rest = sym (ap (drop 2) p.whole) ∙ s.1 ∙ within.1 ∙ t.whole in
      record {
        front = p.first ∷ p.second ∷ t.front;
        whole = p.whole ∙ ap (λ us. p.first ∷ p.second ∷ us) behind;
        is_in = (
          p.first,
          p.second,
          t.front,
          refl,
          within.0,
          pair_alone 45 62 p.first p.second p.behind t.front (subst (λ us. begins_pair 45 62 us ≡ true) p.whole s.0),
          t.is_in,
        );
      }
  rule_sound (list separator stop g) budget ts rest x h =
      let m = items_sound (run readers budget g) (Parses parts budget g) (rule_sound g budget) (accepts separator) stop (suc (length ts)) [] x ts rest h in
      took_rest m.took (sym m.is) refl
  rule_sound (many look g) budget ts rest x h =
      let m = repeat_sound (run readers budget g) (Parses parts budget g) (rule_sound g budget) look (suc (length ts)) [] x ts rest h in took_rest m.took (sym m.is) refl
  rule_sound (chain look g) budget ts rest x h =
      let m = links_sound (run readers budget g) (Parses parts budget g) (rule_sound g budget) look chain_limit [] x ts rest h in
      took_rest (record { front = m.0.took.front; whole = m.0.took.whole; is_in = (m.0.took.is_in, m.1) }) (sym m.0.is) refl
  rule_sound (path g) budget ts rest x h =
      let m = segments_sound (run readers budget g) (Parses parts budget g) (rule_sound g budget) (suc (length ts)) [] x ts rest h in took_rest m.took (sym m.is) refl
  rule_sound (sliced g) budget ts rest x h =
      let v = went _ _ x rest h in
      let t = rule_sound g budget _ _ _ v.first in
      let e = ok_pair v.second in
      let read : since ts v.left ≡ t.front = ap (λ us. since us v.left) t.whole ∙ since_all t.front v.left in
      took_rest (record { front = t.front; whole = t.whole; is_in = (t.is_in, read) }) e.0 e.1
  rule_sound (written g) budget ts rest x h =
      let v = went _ _ x rest h in
      let t = rule_sound g budget _ _ _ v.first in
      let w = written_went v.value (since ts v.left) v.left (may_be_copied (lexemes (since ts v.left))) refl x rest v.second in
      let read : since ts v.left ≡ t.front = ap (λ us. since us v.left) t.whole ∙ since_all t.front v.left in
      record {
        front = t.front;
        whole = t.whole ∙ ap (λ us. t.front ++ us) w.2;
        is_in = (subst (λ y. Parses parts budget g t.front y) w.0 t.is_in, w.1 ∙ read);
      }
  rule_sound (part p) budget ts rest x h = sound budget p ts rest x h

-- the programs of the parts
pub parts_sound : (n budget : ℕ) (p : Part) → Sound (readers_below n budget p) (parts_below n budget p)
unfolding readers_below parts_below
parts_sound zero budget p ts rest x h = absurd (cc)
parts_sound (suc n) budget p ts rest x h = rule_sound (readers_below n) (parts_below n) (parts_sound n) (rule_of p) budget ts rest x h

-- the program of each rule
pub reads_sound : {A : Type 0} (budget : ℕ) (g : Rule A) → Sound (read budget g) (Reads budget g)
reads_sound budget g = rule_sound readers parts (λ budget p. parts_sound (suc budget) budget p) g budget
