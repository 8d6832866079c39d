-- Copies of tokens are read as the tokens are, to values that are alike.
use Rattle.std.proofs.Common.{◌≡◌, ℕ, suc, ◌-◌, ◌<◌, ◌≤◌, Bool, true, false, IsTrue, List, [], ◌∷◌, ◌++◌, length, drop, refl, ap, sym, subst, ◌∙◌, ◌⊎◌, inl, inr}
use Rattle.educe_tokens.specs.Bracket.{Bracket}
use Rattle.educe_tokens.specs.TokenKind.{TokenKind}
use Rattle.educe_tokens.specs.TokenKind.TheVariants as kind
use Rattle.educe_tokens.specs.Lexes.{Lexeme}
use Rattle.educe_tokens.specs.declared.token.Token.{Token}
use Rattle.educe_tokens.specs.declared.written.Written.{Written}
use Rattle.educe_grammar.specs.declared.terminal.Terminal.TheVariants.{Sign}
use Rattle.educe_grammar.specs.Ahead.{sees, opens, closes, is_start, is_stop, is_doc, begins_pair}
use Rattle.educe_grammar.specs.Alike.{kind_aside, lexeme_aside}
use Rattle.educe_grammar.specs.Reading.{Grammar, Parses, Between, Listed, Repeated, Linked, chain_limit}
use Rattle.educe_grammar.specs.Reads.{parts}
use Rattle.educe_grammar.specs.Rules.{Rule, token, documentation, empty, both, made, checked, either, prefer, operator, lone, binary, nest, angles, under, arrow, list, many, chain, path, sliced, written, part, Part, TreeOf, types, plains, exprs, trees}
use Rattle.educe_grammar.specs.Steps.{Tokens}
use Rattle.educe_grammar.specs.Terminals.{accepts}
use Rattle.educe_grammar.proofs.Aside.{accepts_same, sees_same}
use Rattle.educe_grammar.proofs.Balanced.{reads_copied}
use Rattle.educe_grammar.proofs.Keeping.{has_no_documentation}
use Rattle.educe_grammar.proofs.ReadAlike.{Pairwise}
use Rattle.educe_grammar.proofs.Unrolling.{has_parts_inside, Meets, meets_left, meets_right, meets_inside, meets_part}
use Rattle.educe_bound.proofs.CopiedTokens.{Copy, opens_comment, copies_aside, copy_length, copy_drop, copy_split, copy_led, copy_none, pair_same, lone_same, operator_same}

-- ---- values that are alike

-- what is asked of the values of parts: how they end
abbrev pub Kin : (p : Part) → TreeOf p → TreeOf p → Type 0
Kin types x y = Unit {0}
Kin plains x y = y.1 ≡ x.1
Kin exprs x y = Unit {0}
Kin trees x y = Unit {0}

-- the values that the rule reads of tokens and of copies of them
unfoldable pub Alike : {A : Type 0} → Rule A → A → A → Type 0
Alike (token asked) x y = lexeme_aside x.token ≡ lexeme_aside y.token
Alike documentation x y = lexeme_aside x.token ≡ lexeme_aside y.token
Alike (empty z) x y = (x ≡ z) × (y ≡ z)
Alike (both g h) x y = Alike g x.0 y.0 × Alike h x.1 y.1
Alike (made {A = A} f g) x y = (v : A) × (w : A) × (x ≡ f v) × (y ≡ f w) × Alike g v w
Alike (checked test g) x y = Alike g x y
Alike (either look g h) x y = Alike g x y ⊎ Alike h x y
Alike (prefer asked g h) x y = Alike g x y ⊎ Alike h x y
Alike (operator c d) x y = Unit {0}
Alike (lone c d g) x y = Alike g x y
Alike (binary g) x y = (y.0 ≡ x.0) × Alike g x.1 y.1
Alike (nest b g) x y = Alike g x y
Alike (angles g) x y = Alike g x y
Alike (under asked g) x y = Alike g x y
Alike (arrow g) x y = Alike g x y
Alike (list separator stop g) xs ys = Pairwise (Alike g) xs ys
Alike (many look g) xs ys = Pairwise (Alike g) xs ys
Alike (chain look g) xs ys = Pairwise (Alike g) xs ys
Alike (path g) xs ys = Pairwise (Alike g) xs ys
Alike (sliced g) x y = Alike g x.0 y.0 × Copy x.1 y.1
Alike (written g) x y = Alike g x.0 y.0
Alike (part p) x y = Kin p x y

-- Each test of the rule answers the same of values that are alike, no operator of it opens a comment, and what is written has
-- no documentation.
unfoldable pub Fits : {A : Type 0} → Rule A → Type 0
Fits (token asked) = Unit {0}
Fits documentation = Unit {0}
Fits (empty z) = Unit {0}
Fits (both g h) = Fits g × Fits h
Fits (made f g) = Fits g
Fits (checked {A = A} test g) = Fits g × ((x y : A) → Alike g x y → IsTrue (test x) → IsTrue (test y))
Fits (either look g h) = Fits g × Fits h
Fits (prefer asked g h) = Fits g × Fits h
Fits (operator c d) = opens_comment c d ≡ false
Fits (lone c d g) = (opens_comment c d ≡ false) × Fits g
Fits (binary g) = Fits g
Fits (nest b g) = Fits g
Fits (angles g) = Fits g
Fits (under asked g) = Fits g
Fits (arrow g) = Fits g
Fits (list separator stop g) = Fits g
Fits (many look g) = Fits g
Fits (chain look g) = Fits g
Fits (path g) = Fits g
Fits (sliced g) = Fits g
Fits (written g) = (has_no_documentation g ≡ true) × Fits g
Fits (part p) = Unit {0}

-- ---- loops

-- The copy has such a value, and both values are so related.
pub record Copied {A : Type 0} (S : Grammar A) (R : A → A → Type 0) (us : Tokens) (x : A) : Type 0 where
  pub value : A
  pub reads : S us value
  pub alike : R x value

-- there are as many
pairwise_length : {A : Type 0} {R : A → A → Type 0} {xs ys : List A} → Pairwise R xs ys → length ys ≡ length xs
pairwise_length Pairwise.nothing = refl
pairwise_length (Pairwise.another r more) = ap suc (pairwise_length more)

module _ {A : Type 0} (P S : Grammar A) (R : A → A → Type 0) (into : (ts us : Tokens) (x : A) → Copy ts us → P ts x → Copied S R us x) where
  -- items with separators between
  copied_listed : (separates : Token → Bool) → ((t u : Token) → lexeme_aside t ≡ lexeme_aside u → separates t ≡ separates u) → {ts : Tokens} {xs : List A} → Listed P separates ts xs → (us : Tokens) → Copy ts us
      → Copied (λ us ys. Listed S separates us ys) (Pairwise R) us xs
  copied_listed separates same Listed.none us copy =
      record { value = []; reads = subst (λ vs. Listed S separates vs []) (sym (copy_none us copy)) Listed.none; alike = Pairwise.nothing }
  copied_listed separates same (Listed.last {x = x} ts is) us copy =
      let one = into ts us x copy is in record { value = one.value ∷ []; reads = Listed.last us one.reads; alike = Pairwise.another one.alike Pairwise.nothing }
  copied_listed separates same (Listed.more {x = x} {xs = xs} front rest separator is between others) us copy =
      let s = copy_split front (separator ∷ rest) us copy in
      let l = copy_led separator rest s.later s.other in
      let one = into front s.first x s.one is in
      let more = copied_listed separates same others l.rest l.others in
      let passes : IsTrue (separates l.first) = sym (same separator l.first l.same) ∙ between in
      let whole : us ≡ s.first ++ l.first ∷ l.rest = s.is ∙ ap (λ vs. s.first ++ vs) l.is in
      record {
        value = one.value ∷ more.value;
        reads = subst (λ vs. Listed S separates vs (one.value ∷ more.value)) (sym whole) (Listed.more s.first l.rest l.first one.reads passes more.reads);
        alike = Pairwise.another one.alike more.alike;
      }

  -- items one behind the other
  copied_repeated : {ts : Tokens} {xs : List A} → Repeated P ts xs → (us : Tokens) → Copy ts us → Copied (λ us ys. Repeated S us ys) (Pairwise R) us xs
  copied_repeated Repeated.none us copy = record { value = []; reads = subst (λ vs. Repeated S vs []) (sym (copy_none us copy)) Repeated.none; alike = Pairwise.nothing }
  copied_repeated (Repeated.more {x = x} {xs = xs} front rest is others) us copy =
      let s = copy_split front rest us copy in
      let one = into front s.first x s.one is in
      let more = copied_repeated others s.later s.other in
      record {
        value = one.value ∷ more.value;
        reads = subst (λ vs. Repeated S vs (one.value ∷ more.value)) (sym s.is) (Repeated.more s.first s.later one.reads more.reads);
        alike = Pairwise.another one.alike more.alike;
      }

  -- items with `::` between
  copied_linked : {ts : Tokens} {xs : List A} → Linked P ts xs → (us : Tokens) → Copy ts us → Copied (λ us ys. Linked S us ys) (Pairwise R) us xs
  copied_linked (Linked.last {x = x} ts is) us copy =
      let one = into ts us x copy is in record { value = one.value ∷ []; reads = Linked.last us one.reads; alike = Pairwise.another one.alike Pairwise.nothing }
  copied_linked (Linked.more {x = x} {xs = xs} front rest first second is colons others) us copy =
      let s = copy_split front (first ∷ second ∷ rest) us copy in
      let l = copy_led first (second ∷ rest) s.later s.other in
      let m = copy_led second rest l.rest l.others in
      let one = into front s.first x s.one is in
      let more = copied_linked others m.rest m.others in
      let behind : s.later ≡ l.first ∷ m.first ∷ m.rest = l.is ∙ ap (λ vs. l.first ∷ vs) m.is in
      let pair : begins_pair 58 58 (l.first ∷ m.first ∷ m.rest) ≡ true = sym (ap (begins_pair 58 58) behind) ∙ pair_same 58 58 (first ∷ second ∷ rest) s.later refl s.other ∙ colons in
      let whole : us ≡ s.first ++ l.first ∷ m.first ∷ m.rest = s.is ∙ ap (λ vs. s.first ++ vs) behind in
      record {
        value = one.value ∷ more.value;
        reads = subst (λ vs. Linked S vs (one.value ∷ more.value)) (sym whole) (Linked.more s.first m.rest l.first m.first one.reads pair more.reads);
        alike = Pairwise.another one.alike more.alike;
      }

  -- between two tokens
  copied_between : (budget : ℕ) (opening closing : Token → Bool) → ((t u : Token) → lexeme_aside t ≡ lexeme_aside u → opening t ≡ opening u) → ((t u : Token) → lexeme_aside t ≡ lexeme_aside u → closing t ≡ closing u)
      → (ts us : Tokens) (x : A) → Copy ts us → Between P budget opening closing ts x → Copied (Between S budget opening closing) R us x
  copied_between budget opening closing first_same last_same ts us x copy is =
      let l = copy_led is.first (is.inside ++ is.last ∷ []) us (subst (λ vs. Copy vs us) is.is copy) in
      let s = copy_split is.inside (is.last ∷ []) l.rest l.others in
      let m = copy_led is.last [] s.later s.other in
      let one = into is.inside s.first x s.one is.reads in
      record {
        value = one.value;
        reads = record {
          first = l.first;
          inside = s.first;
          last = m.first;
          is = l.is ∙ ap (λ vs. l.first ∷ vs) (s.is ∙ ap (λ vs. s.first ++ vs) (m.is ∙ ap (λ vs. m.first ∷ vs) (copy_none m.rest m.others)));
          allowed = is.allowed;
          opens = sym (first_same is.first l.first l.same) ∙ is.opens;
          closes = sym (last_same is.last m.first m.same) ∙ is.closes;
          reads = one.reads;
        };
        alike = one.alike;
      }

-- ---- rules

-- a test of kinds that takes no account of jointness answers the same
test_same : (f : TokenKind → Bool) → ((k : TokenKind) → f k ≡ f (kind_aside k)) → (t u : Token) → lexeme_aside t ≡ lexeme_aside u → f t.kind ≡ f u.kind
test_same f aside t u same = aside t.kind ∙ ap (λ (l : Lexeme). f l.kind) same ∙ sym (aside u.kind)

start_aside : (b : Bracket) (k : TokenKind) → is_start b k ≡ is_start b (kind_aside k)
start_aside b (kind.Punct c joint) = refl
start_aside b kind.Ident = refl
start_aside b kind.Lifetime = refl
start_aside b (kind.Literal l) = refl
start_aside b (kind.Start c) = refl
start_aside b (kind.Stop c) = refl
start_aside b kind.Doc = refl

stop_aside : (b : Bracket) (k : TokenKind) → is_stop b k ≡ is_stop b (kind_aside k)
stop_aside b (kind.Punct c joint) = refl
stop_aside b kind.Ident = refl
stop_aside b kind.Lifetime = refl
stop_aside b (kind.Literal l) = refl
stop_aside b (kind.Start c) = refl
stop_aside b (kind.Stop c) = refl
stop_aside b kind.Doc = refl

doc_aside : (k : TokenKind) → is_doc k ≡ is_doc (kind_aside k)
doc_aside (kind.Punct c joint) = refl
doc_aside kind.Ident = refl
doc_aside kind.Lifetime = refl
doc_aside (kind.Literal l) = refl
doc_aside (kind.Start b) = refl
doc_aside (kind.Stop b) = refl
doc_aside kind.Doc = refl

module _ (n : ℕ) (each : (budget : ℕ) → budget < n → (p : Part) (ts us : Tokens) (x : TreeOf p) → Copy ts us → parts budget p ts x → Copied (parts budget p) (Kin p) us x) where
  -- copies are read where those of parts are
  pub copied_rule : {A : Type 0} (g : Rule A) (budget : ℕ) → Meets n budget (has_parts_inside g) → Fits g → (ts us : Tokens) (x : A) → Copy ts us → Parses parts budget g ts x
      → Copied (Parses parts budget g) (Alike g) us x
  unfolding Parses has_parts_inside Alike Fits
  copied_rule (token asked) budget meets fits ts us x copy is =
      let l = copy_led x.token [] us (subst (λ vs. Copy vs us) is copy) in
      record {
        value = record { token = l.first; passes = sym (accepts_same asked x.token l.first l.same) ∙ x.passes };
        reads = l.is ∙ ap (λ vs. l.first ∷ vs) (copy_none l.rest l.others);
        alike = l.same;
      }
  copied_rule documentation budget meets fits ts us x copy is =
      let l = copy_led x.token [] us (subst (λ vs. Copy vs us) is copy) in
      record {
        value = record { token = l.first; passes = sym (test_same is_doc doc_aside x.token l.first l.same) ∙ x.passes };
        reads = l.is ∙ ap (λ vs. l.first ∷ vs) (copy_none l.rest l.others);
        alike = l.same;
      }
  copied_rule (empty z) budget meets fits ts us x copy is =
      record { value = z; reads = (copy_none us (subst (λ vs. Copy vs us) is.0 copy), refl); alike = (is.1, refl) }
  copied_rule (both g h) budget meets fits ts us x copy is =
      let s = copy_split is.0 is.1 us (subst (λ vs. Copy vs us) is.2 copy) in
      let one = copied_rule g budget (meets_left (has_parts_inside g) (has_parts_inside h) meets) fits.0 is.0 s.first x.0 s.one is.3 in
      let other = copied_rule h budget (meets_right (has_parts_inside g) (has_parts_inside h) meets) fits.1 is.1 s.later x.1 s.other is.4 in
      record { value = (one.value, other.value); reads = (s.first, s.later, s.is, one.reads, other.reads); alike = (one.alike, other.alike) }
  copied_rule (made f g) budget meets fits ts us x copy is =
      let one = copied_rule g budget meets fits ts us is.0 copy is.2 in
      record { value = f one.value; reads = (one.value, refl, one.reads); alike = (is.0, one.value, is.1, refl, one.alike) }
  copied_rule (checked test g) budget meets fits ts us x copy is =
      let one = copied_rule g budget meets fits.0 ts us x copy is.1 in
      record { value = one.value; reads = (fits.1 x one.value one.alike is.0, one.reads); alike = one.alike }
  copied_rule (either look g h) budget meets fits ts us x copy (inl is) =
      let one = copied_rule g budget (meets_left (has_parts_inside g) (has_parts_inside h) meets) fits.0 ts us x copy is in
      record { value = one.value; reads = inl one.reads; alike = inl one.alike }
  copied_rule (either look g h) budget meets fits ts us x copy (inr is) =
      let one = copied_rule h budget (meets_right (has_parts_inside g) (has_parts_inside h) meets) fits.1 ts us x copy is in
      record { value = one.value; reads = inr one.reads; alike = inr one.alike }
  copied_rule (prefer asked g h) budget meets fits ts us x copy (inl is) =
      let one = copied_rule g budget (meets_left (has_parts_inside g) (has_parts_inside h) meets) fits.0 ts us x copy is in
      record { value = one.value; reads = inl one.reads; alike = inl one.alike }
  copied_rule (prefer asked g h) budget meets fits ts us x copy (inr is) =
      let one = copied_rule h budget (meets_right (has_parts_inside g) (has_parts_inside h) meets) fits.1 ts us x copy is.1 in
      let other : sees (accepts asked) us ≡ false = sym (sees_same (accepts asked) (accepts_same asked) ts us (copies_aside ts us copy)) ∙ is.0 in
      record { value = one.value; reads = inr (other, one.reads); alike = inr one.alike }
  copied_rule (operator c d) budget meets fits ts us x copy is =
      record { value = x; reads = (copy_length ts us copy ∙ is.0, pair_same c d ts us fits copy ∙ is.1); alike = tt }
  copied_rule (lone c d g) budget meets fits ts us x copy is =
      let l = copy_led is.0 is.1 us (subst (λ vs. Copy vs us) is.2 copy) in
      let one = copied_rule g budget meets fits.1 is.1 l.rest x l.others is.4 in
      record { value = one.value; reads = (l.first, l.rest, l.is, lone_same c d ts us fits.0 copy ∙ is.3, one.reads); alike = one.alike }
  copied_rule (binary g) budget meets fits ts us x copy is =
      let one = copied_rule g budget meets fits (drop is.0 ts) (drop is.0 us) x.1 (copy_drop is.0 ts us copy) is.2 in
      record { value = (x.0, one.value); reads = (is.0, operator_same ts us copy ∙ is.1, one.reads); alike = (refl, one.alike) }
  copied_rule (nest b g) budget meets fits ts us x copy is =
      copied_between (Parses parts (budget - 1) g) (Parses parts (budget - 1) g) (Alike g)
      (λ vs ws y c h. copied_rule g (budget - 1) (meets_inside n budget true (has_parts_inside g) meets is.allowed) fits vs ws y c h)
      budget (opens b) (closes b) (test_same (is_start b) (start_aside b)) (test_same (is_stop b) (stop_aside b)) ts us x copy is
  copied_rule (angles g) budget meets fits ts us x copy is =
      let one = copied_between (Parses parts (budget - 1) g) (Parses parts (budget - 1) g) (Alike g)
      (λ vs ws y c h. copied_rule g (budget - 1) (meets_inside n budget true (has_parts_inside g) meets is.0.allowed) fits vs ws y c h)
      budget (accepts (Sign 60)) (accepts (Sign 62)) (accepts_same (Sign 60)) (accepts_same (Sign 62)) ts us x copy is.0 in
      record { value = one.value; reads = (one.reads, lone_same 60 61 ts us refl copy ∙ is.1); alike = one.alike }
  copied_rule (under asked g) budget meets fits ts us x copy is =
      let l = copy_led is.first is.inside us (subst (λ vs. Copy vs us) is.is copy) in
      let one = copied_rule g (budget - 1) (meets_inside n budget true (has_parts_inside g) meets is.allowed) fits is.inside l.rest x l.others is.reads in
      record {
        value = one.value;
        reads = record { first = l.first; inside = l.rest; is = l.is; allowed = is.allowed; opens = sym (accepts_same asked is.first l.first l.same) ∙ is.opens; reads = one.reads };
        alike = one.alike;
      }
  copied_rule (arrow g) budget meets fits ts us x copy is =
      let l = copy_led is.0 (is.1 ∷ is.2) us (subst (λ vs. Copy vs us) is.3 copy) in
      let m = copy_led is.1 is.2 l.rest l.others in
      let one = copied_rule g (budget - 1) (meets_inside n budget true (has_parts_inside g) meets is.4) fits is.2 m.rest x m.others is.6 in
      record {
        value = one.value;
        reads = (l.first, m.first, m.rest, l.is ∙ ap (λ vs. l.first ∷ vs) m.is, is.4, pair_same 45 62 ts us refl copy ∙ is.5, one.reads);
        alike = one.alike;
      }
  copied_rule (list separator stop g) budget meets fits ts us xs copy is =
      copied_listed (Parses parts budget g) (Parses parts budget g) (Alike g) (λ vs ws y c h. copied_rule g budget meets fits vs ws y c h) (accepts separator) (accepts_same separator) is us copy
  copied_rule (many look g) budget meets fits ts us xs copy is =
      copied_repeated (Parses parts budget g) (Parses parts budget g) (Alike g) (λ vs ws y c h. copied_rule g budget meets fits vs ws y c h) is us copy
  copied_rule (chain look g) budget meets fits ts us xs copy is =
      let all = copied_repeated (Parses parts budget g) (Parses parts budget g) (Alike g) (λ vs ws y c h. copied_rule g budget meets fits vs ws y c h) is.0 us copy in
      record { value = all.value; reads = (all.reads, subst (λ (m : ℕ). m ≤ chain_limit) (sym (pairwise_length all.alike)) is.1); alike = all.alike }
  copied_rule (path g) budget meets fits ts us xs copy is =
      copied_linked (Parses parts budget g) (Parses parts budget g) (Alike g) (λ vs ws y c h. copied_rule g budget meets fits vs ws y c h) is us copy
  copied_rule (sliced g) budget meets fits ts us x copy is =
      let one = copied_rule g budget meets fits ts us x.0 copy is.0 in
      record { value = (one.value, us); reads = (one.reads, refl); alike = (one.alike, subst (λ vs. Copy vs us) (sym is.1) copy) }
  copied_rule (written g) budget meets fits ts us x copy is =
      let one = copied_rule g budget meets fits.1 ts us x.0 copy is.0 in
      let tokens : Written = record { tokens = us; written = reads_copied budget g us one.value fits.0 one.reads } in
      record { value = (one.value, tokens); reads = (one.reads, refl); alike = one.alike }
  copied_rule (part p) budget meets fits ts us x copy is = each budget (meets_part n budget meets) p ts us x copy is
