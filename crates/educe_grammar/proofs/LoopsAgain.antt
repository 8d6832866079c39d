-- What is by a rule is read, whatever follows that may: for the rules that repeat another.
use Rattle.std.proofs.Common.{◌≡◌, ℕ, zero, suc, ◌<◌, ◌≤◌, Bool, true, false, List, [], ◌∷◌, ◌++◌, length, refl, ap, sym, subst, arith, Ok, IsTrue, append_assoc, append-nil, length-append}
use Rattle.educe_tokens.specs.declared.token.Token.{Token}
use Rattle.educe_grammar.specs.declared.terminal.Terminal.{Terminal}
use Rattle.educe_grammar.specs.Terminals.{accepts}
use Rattle.educe_grammar.specs.Steps.{Tokens, Parser}
use Rattle.educe_grammar.specs.Ahead.{Look, sees_any, sees, begins_pair}
use Rattle.educe_grammar.specs.Reading.{Parts, Grammar, Listed, Repeated, Linked, Parses, chain_limit}
use Rattle.educe_grammar.specs.Running.{Readers, run, items, repeat, links, segments}
use Rattle.educe_grammar.specs.Rules.{Rule, list, many, chain, path}
use Rattle.educe_grammar.proofs.Again.{Behind, Again, pair_stays}

-- What is in the grammar is read, whatever stands behind it that may.
abbrev pub Reader : {A : Type 0} → Parser A → Grammar A → Behind A → Type 0
Reader {A = A} p R F = (front rest : Tokens) (x : A) → R front x → F x rest → p (front ++ rest) ≡ Ok (x, rest)

-- such a token comes next
pub sees_hit : (test : Token → Bool) (t : Token) (ts : Tokens) → test t ≡ true → sees test (t ∷ ts) ≡ true
unfolding sees
sees_hit test t ts h = h

-- the fact holds of the last, if there is one
unfoldable pub OfLast : {A : Type 0} → (A → Type 0) → List A → Type 0
OfLast P [] = Unit {0}
OfLast P (x ∷ []) = P x
OfLast P (x ∷ y ∷ more) = OfLast P (y ∷ more)

-- the last of more is the last of the others
last_of_more : {A : Type 0} (P : A → Type 0) (x : A) (xs : List A) → OfLast P (x ∷ xs) → OfLast P xs
unfolding OfLast
last_of_more P x [] h = tt
last_of_more P x (y ∷ more) h = h

-- the last of one
last_of_one : {A : Type 0} (P : A → Type 0) (x : A) → OfLast P (x ∷ []) → P x
unfolding OfLast
last_of_one P x h = h

-- ---- items with separators between

-- What may stand behind an item of a list, and behind the list.
pub record ListFits {A : Type 0} (R : Grammar A) (separates : Token → Bool) (stop : Look) (G : Behind A) (F : Behind (List A)) : Type 0 where
  pub begins : (front rest : Tokens) (x : A) → R front x → G x rest → sees_any stop (front ++ rest) ≡ false
  pub separator : (front rest : Tokens) (x : A) (t : Token) → R front x → IsTrue (separates t) → G x (t ∷ rest)
  pub stops : (xs : List A) (rest : Tokens) → F xs rest → sees_any stop rest ≡ true
  pub ends : (xs : List A) (rest : Tokens) → F xs rest → sees separates rest ≡ false
  pub last : (xs : List A) (rest : Tokens) → F xs rest → OfLast (λ x. G x rest) xs

module _ {A : Type 0} (R : Grammar A) (p : Parser A) (separates : Token → Bool) (stop : Look) (G : Behind A) (F : Behind (List A)) (again : Reader p R G) (fits : ListFits R separates stop G F) where
  -- items of a list are read
  items_again : {ts : Tokens} {xs : List A} → Listed R separates ts xs → (rest : Tokens) (found : List A) (n : ℕ) → sees_any stop rest ≡ true → sees separates rest ≡ false
      → OfLast (λ x. G x rest) xs → length ts < n → items separates stop p n found (ts ++ rest) ≡ Ok (found ++ xs, rest)
  unfolding items
  items_again Listed.none rest found zero h e l size = absurd (omega arith)
  items_again Listed.none rest found (suc n) h e l size = rw (h, append-nil) refl
  items_again (Listed.last {x = x} ts r) rest found zero h e l size = absurd (omega arith)
  items_again (Listed.last {x = x} ts r) rest found (suc n) h e l size =
      let g = last_of_one _ x l in
      rw (fits.begins ts rest x r g, again ts rest x r g, e) refl
  items_again (Listed.more {x = x} {xs = xs} front back t r s others) rest found zero h e l size = absurd (omega arith)
  items_again (Listed.more {x = x} {xs = xs} front back t r s others) rest found (suc n) h e l size =
      let tail : Tokens = back ++ rest in
      let g = fits.separator front tail x t r s in
      let shorter : length back < n = omega (arith, length-append front (t ∷ back)) in
      let go = items_again others rest (found ++ x ∷ []) n h e (last_of_more _ x xs l) shorter in
      rw (append_assoc front (t ∷ back) rest, fits.begins front (t ∷ tail) x r g, again front (t ∷ tail) x r g, sees_hit separates t tail s, go)
      (ap (λ (ys : List A). Ok (ys, rest)) (append_assoc found (x ∷ []) xs))

-- ---- items one behind the other

-- What may stand behind the items of a chain, and behind the chain.
unfoldable pub ChainFits : {A : Type 0} → Grammar A → Look → Behind A → Behind (List A)
ChainFits R look G [] rest = sees_any look rest ≡ false
ChainFits R look G (x ∷ []) rest = (sees_any look rest ≡ false) × G x rest
ChainFits R look G (x ∷ y ∷ more) rest = ((front ts : Tokens) → R front y → G x (front ++ ts)) × ChainFits R look G (y ∷ more) rest

-- each item begins so
abbrev pub Begins : {A : Type 0} → Grammar A → Look → Behind A → Type 0
Begins {A = A} R look G = (front rest : Tokens) (x : A) → R front x → G x rest → sees_any look (front ++ rest) ≡ true

-- no item is empty
abbrev pub Filled : {A : Type 0} → Grammar A → Type 0
Filled {A = A} R = (x : A) → R [] x → ⊥

-- an item has a token
filled_size : {A : Type 0} (R : Grammar A) → Filled R → (front : Tokens) (x : A) → R front x → 0 < length front
filled_size R filled [] x r = absurd (filled x r)
filled_size R filled (t ∷ front) x r = omega arith

module _ {A : Type 0} (R : Grammar A) (p : Parser A) (look : Look) (G : Behind A) (again : Reader p R G) (seen : Begins R look G) where
  -- what stands behind the first item of a chain
  chain_head : {ts : Tokens} {xs : List A} (x : A) (rest : Tokens) → Repeated R ts xs → ChainFits R look G (x ∷ xs) rest → G x (ts ++ rest) × ChainFits R look G xs rest
  unfolding ChainFits
  chain_head x rest Repeated.none f = (f.1, f.0)
  chain_head x rest (Repeated.more front back r others) f = (subst (G x) (sym (append_assoc front back rest)) (f.0 front (back ++ rest) r), f.1)

  -- items one behind the other are read
  repeat_again : Filled R → {ts : Tokens} {xs : List A} → Repeated R ts xs → (rest : Tokens) (found : List A) (n : ℕ) → ChainFits R look G xs rest → length ts < n
      → repeat look p n found (ts ++ rest) ≡ Ok (found ++ xs, rest)
  unfolding repeat ChainFits
  repeat_again filled Repeated.none rest found zero f size = absurd (omega arith)
  repeat_again filled Repeated.none rest found (suc n) f size = rw (f, append-nil) refl
  repeat_again filled (Repeated.more {x = x} front back r others) rest found zero f size = absurd (omega arith)
  repeat_again filled (Repeated.more {x = x} {xs = xs} front back r others) rest found (suc n) f size =
      let g = chain_head x rest others f in
      let shorter : length back < n = omega (arith, length-append front back, filled_size R filled front x r) in
      let go = repeat_again filled others rest (found ++ x ∷ []) n g.1 shorter in
      rw (append_assoc front back rest, seen front (back ++ rest) x r g.0, again front (back ++ rest) x r g.0, go)
      (ap (λ (ys : List A). Ok (ys, rest)) (append_assoc found (x ∷ []) xs))

  -- items one behind the other are read where there is a limit
  links_again : {ts : Tokens} {xs : List A} → Repeated R ts xs → (rest : Tokens) (found : List A) (n : ℕ) → ChainFits R look G xs rest → length xs ≤ n
      → links look p n found (ts ++ rest) ≡ Ok (found ++ xs, rest)
  unfolding links ChainFits
  links_again Repeated.none rest found zero f size = rw (f, append-nil) refl
  links_again Repeated.none rest found (suc n) f size = rw (f, append-nil) refl
  links_again (Repeated.more {x = x} front back r others) rest found zero f size = absurd (omega arith)
  links_again (Repeated.more {x = x} {xs = xs} front back r others) rest found (suc n) f size =
      let g = chain_head x rest others f in
      let go = links_again others rest (found ++ x ∷ []) n g.1 (omega arith) in
      rw (append_assoc front back rest, seen front (back ++ rest) x r g.0, again front (back ++ rest) x r g.0, go)
      (ap (λ (ys : List A). Ok (ys, rest)) (append_assoc found (x ∷ []) xs))

-- ---- items with `::` between

-- What may stand behind the items of a path, and behind the path.
unfoldable pub PathFits : {A : Type 0} → Grammar A → Behind A → Behind (List A)
PathFits R G [] rest = Unit {0}
PathFits R G (x ∷ []) rest = (begins_pair 58 58 rest ≡ false) × G x rest
PathFits {A = A} R G (x ∷ y ∷ more) rest =
    ((first second : Token) (front ts : Tokens) → R front y → begins_pair 58 58 (first ∷ second ∷ front ++ ts) ≡ true → G x (first ∷ second ∷ front ++ ts)) × PathFits R G (y ∷ more) rest

module _ {A : Type 0} (R : Grammar A) (p : Parser A) (G : Behind A) (again : Reader p R G) where
  -- what stands behind the first item of a path
  path_head : {ts : Tokens} {xs : List A} (x : A) (first second : Token) (rest : Tokens) → Linked R ts xs → begins_pair 58 58 (first ∷ second ∷ ts ++ rest) ≡ true
      → PathFits R G (x ∷ xs) rest → G x (first ∷ second ∷ ts ++ rest) × PathFits R G xs rest
  unfolding PathFits
  path_head x first second rest (Linked.last ts r) e f = (f.0 first second ts rest r e, f.1)
  path_head x first second rest (Linked.more front back t u r colons others) e f =
      let whole = append_assoc front (t ∷ u ∷ back) rest in (
        subst (λ ts. G x (first ∷ second ∷ ts)) (sym whole) (f.0 first second front (t ∷ u ∷ back ++ rest) r (subst (λ ts. begins_pair 58 58 (first ∷ second ∷ ts) ≡ true) whole e)),
        f.1,
      )

  -- items of a path are read
  segments_again : {ts : Tokens} {xs : List A} → Linked R ts xs → (rest : Tokens) (found : List A) (n : ℕ) → PathFits R G xs rest → length ts < n
      → segments p n found (ts ++ rest) ≡ Ok (found ++ xs, rest)
  unfolding segments PathFits
  segments_again (Linked.last ts r) rest found zero f size = absurd (omega arith)
  segments_again (Linked.last {x = x} ts r) rest found (suc n) f size = rw (again ts rest x r f.1, f.0) refl
  segments_again (Linked.more front back t u r colons others) rest found zero f size = absurd (omega arith)
  segments_again (Linked.more {x = x} {xs = xs} front back t u r colons others) rest found (suc n) f size =
      let stays = pair_stays 58 58 t u back rest colons in
      let g = path_head x t u rest others stays f in
      let shorter : length back < n = omega (arith, length-append front (t ∷ u ∷ back)) in
      let go = segments_again others rest (found ++ x ∷ []) n g.1 shorter in
      rw (append_assoc front (t ∷ u ∷ back) rest, again front (t ∷ u ∷ back ++ rest) x r g.0, stays, go)
      (ap (λ (ys : List A). Ok (ys, rest)) (append_assoc found (x ∷ []) xs))

-- ---- the rules

module _ (readers : Readers) (parts : Parts) (budget : ℕ) where
  -- items with separators between
  pub again_list : {A : Type 0} {separator : Terminal} {stop : Look} {g : Rule A} {G : Behind A} {F : Behind (List A)} → Again readers parts budget g G
      → ListFits (Parses parts budget g) (accepts separator) stop G F → Again readers parts budget (list separator stop g) F
  unfolding Parses run
  again_list {separator = separator} {stop = stop} {g = g} {G = G} {F = F} ag fits = record {
    reads = λ front rest xs h f.
        items_again (Parses parts budget g) (run readers budget g) (accepts separator) stop G F ag.reads fits h rest [] (suc (length (front ++ rest)))
        (fits.stops xs rest f) (fits.ends xs rest f) (fits.last xs rest f) (omega (arith, length-append front rest));
  }

  -- items one behind the other
  pub again_many : {A : Type 0} {look : Look} {g : Rule A} {G : Behind A} → Again readers parts budget g G → Begins (Parses parts budget g) look G
      → Filled (Parses parts budget g) → Again readers parts budget (many look g) (ChainFits (Parses parts budget g) look G)
  unfolding Parses run
  again_many {look = look} {g = g} {G = G} ag seen filled = record {
    reads = λ front rest xs h f.
        repeat_again (Parses parts budget g) (run readers budget g) look G ag.reads seen filled h rest [] (suc (length (front ++ rest))) f (omega (arith, length-append front rest));
  }

  -- items one behind the other, where there is a limit
  pub again_chain : {A : Type 0} {look : Look} {g : Rule A} {G : Behind A} → Again readers parts budget g G → Begins (Parses parts budget g) look G
      → Again readers parts budget (chain look g) (ChainFits (Parses parts budget g) look G)
  unfolding Parses run
  again_chain {look = look} {g = g} {G = G} ag seen = record {
    reads = λ front rest xs h f. links_again (Parses parts budget g) (run readers budget g) look G ag.reads seen h.0 rest [] chain_limit f h.1;
  }

  -- items with `::` between
  pub again_path : {A : Type 0} {g : Rule A} {G : Behind A} → Again readers parts budget g G
      → Again readers parts budget (path g) (PathFits (Parses parts budget g) G)
  unfolding Parses run
  again_path {g = g} {G = G} ag = record {
    reads = λ front rest xs h f.
        segments_again (Parses parts budget g) (run readers budget g) G ag.reads h rest [] (suc (length (front ++ rest))) f (omega (arith, length-append front rest));
  }
