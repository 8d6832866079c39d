-- Predicates that are inserted into sets.
use Rattle.std.proofs.Common.{◌≡◌, ◌⊎◌, inl, inr, ℕ, zero, suc, ◌+◌, ◌<◌, Bool, true, false, List, [], ◌∷◌, ◌++◌, map, take, get_or, length, refl, ap, sym, subst, ◌∙◌, arith, append_assoc, append-nil}
use Rattle.std.specs.Prelude.{Option, Some, None, IfSome, IfNone}
use Rattle.std.proofs.lemmas.List.{map-append, take_more}
use Rattle.educe_tokens.specs.declared.token.Token.{Token}
use Rattle.educe_tokens.specs.Lexes.{Lexeme}
use Rattle.educe_tokens.specs.Prefix.{HasPrefix}
use Rattle.educe_tokens.specs.Same.{lexemes_aside}
use Rattle.educe_grammar.specs.Readings.{IsReadPredicate}
use Rattle.educe_grammar.proofs.Each.{all_append}
use Rattle.educe_syntax.specs.WherePredicate.{WherePredicate}
use Rattle.educe_tokens_interner.specs.Distinct.{Has, AreDistinct}
use Rattle.educe_tokens_interner.specs.Interned.{aside, IsHeld, IsUnder}
use Rattle.educe_tokens_interner.proofs.Places.{distinct_last, get_has}
use Rattle.educe_bound_classes.specs.Deriving.{Extends}
use Rattle.educe_bound.specs.Predicates.{Key, key_of, keys_of, AreRead}
use Rattle.educe_bound.specs.Sets.{tokens_of, places_from, places, Inserts}

-- ---- what a set keeps to

-- the keys of predicates are those of their tokens
keys_aside : (ps : List WherePredicate) → aside (tokens_of ps) ≡ keys_of ps
keys_aside [] = refl
keys_aside (p ∷ ps) = ap (λ (ks : List Key). key_of p ∷ ks) (keys_aside ps)

-- what is held is there
there_held : (ps : List WherePredicate) (p : WherePredicate) (lists : List (List Token)) (tokens : List Token) → lists ≡ tokens_of ps → tokens ≡ p.written.tokens → IsHeld lists tokens → Has (keys_of ps) (key_of p)
there_held ps p lists tokens are same h =
    subst (λ (ks : List Key). Has ks (key_of p)) (ap aside are ∙ keys_aside ps) (subst (λ (k : Key). Has (aside lists) k) (ap lexemes_aside same) h)

-- what is under a number is there
pub there : (ps : List WherePredicate) (p : WherePredicate) (lists : List (List Token)) (tokens : List Token) (number : ℕ) → lists ≡ tokens_of ps → tokens ≡ p.written.tokens → IsUnder lists number tokens
    → Has (keys_of ps) (key_of p)
there ps p lists tokens number are same under = there_held ps p lists tokens are same (get_has (aside lists) number (lexemes_aside tokens) under)

-- what is there is held
pub held : (ps : List WherePredicate) (p : WherePredicate) (lists : List (List Token)) (tokens : List Token) → lists ≡ tokens_of ps → tokens ≡ p.written.tokens → Has (keys_of ps) (key_of p) → IsHeld lists tokens
held ps p lists tokens are same h =
    subst (λ (ks : List Key). Has ks (lexemes_aside tokens)) (sym (ap aside are ∙ keys_aside ps)) (subst (Has (keys_of ps)) (sym (ap lexemes_aside same)) h)

-- what isn't there is not held
pub unheld : (ps : List WherePredicate) (p : WherePredicate) (lists : List (List Token)) (tokens : List Token) → lists ≡ tokens_of ps → tokens ≡ p.written.tokens → (Has (keys_of ps) (key_of p) → ⊥)
    → IsHeld lists tokens → ⊥
unheld ps p lists tokens are same none h = none (there_held ps p lists tokens are same h)

places_last : (n : ℕ) (ps : List WherePredicate) (p : WherePredicate) → places_from n (ps ++ p ∷ []) ≡ places_from n ps ++ (n + length ps) ∷ []
places_last n [] p = ap (λ (m : ℕ). m ∷ []) (omega arith)
places_last n (q ∷ ps) p = ap (λ (ns : List ℕ). n ∷ ns) (places_last (n + 1) ps p ∙ ap (λ (m : ℕ). places_from (n + 1) ps ++ m ∷ []) (omega arith))

-- with one predicate more
pub kept_more : (ps more : List WherePredicate) (p copy : WherePredicate) (lists after : List (List Token)) (tokens : List Token) (place : ℕ) (numbers : List ℕ)
    → lists ≡ tokens_of ps → tokens ≡ p.written.tokens → copy ≡ p → more ≡ ps ++ copy ∷ [] → AreDistinct (keys_of ps) → (Has (keys_of ps) (key_of p) → ⊥) → after ≡ lists ++ tokens ∷ []
    → place ≡ length ps → numbers ≡ places ps ++ place ∷ [] → (after ≡ tokens_of more) × (numbers ≡ places more) × AreDistinct (keys_of more)
kept_more ps more p copy lists after tokens place numbers are same copied grown apart none added at counted =
    let whole : more ≡ ps ++ p ∷ [] = grown ∙ ap (λ (x : WherePredicate). ps ++ x ∷ []) copied in (
      added ∙ ap (λ (ls : List (List Token)). ls ++ tokens ∷ []) are ∙ ap (λ (t : List Token). tokens_of ps ++ t ∷ []) same
          ∙ sym (ap tokens_of whole ∙ map-append (λ (x : WherePredicate). x.written.tokens) ps (p ∷ [])),
      counted ∙ ap (λ (m : ℕ). places ps ++ m ∷ []) (let e = at in omega arith) ∙ sym (ap places whole ∙ places_last 0 ps p),
      subst (λ (ks : List Key). AreDistinct ks) (sym (ap keys_of whole ∙ map-append key_of ps (p ∷ []))) (distinct_last (keys_of ps) (key_of p) apart none),
    )

-- ---- what is inserted one after the other

extends_held : {K : Type 0} {known xs all : List K} (y : K) → Has all y → Extends known xs all → Extends known (xs ++ y ∷ []) all
extends_held y h (Extends.done known) = Extends.held known y h (Extends.done known)
extends_held y h (Extends.held known k has e) = Extends.held known k has (extends_held y h e)
extends_held y h (Extends.added known k new e) = Extends.added known k new (extends_held y h e)

extends_added : {K : Type 0} {known xs all : List K} (y : K) → (Has all y → ⊥) → Extends known xs all → Extends known (xs ++ y ∷ []) (all ++ y ∷ [])
extends_added y none (Extends.done known) = Extends.added known y none (Extends.done (known ++ y ∷ []))
extends_added y none (Extends.held known k has e) = Extends.held known k has (extends_added y none e)
extends_added y none (Extends.added known k new e) = Extends.added known k new (extends_added y none e)

keys_last : (ps : List WherePredicate) (p : WherePredicate) → keys_of (ps ++ p ∷ []) ≡ keys_of ps ++ key_of p ∷ []
keys_last ps p = map-append key_of ps (p ∷ [])

-- one more that is asked for by its key
pub extends_step : (first asked : List Key) (own next : List WherePredicate) (p : WherePredicate) (new : Bool) → Extends first asked (keys_of own) → Inserts own p new next
    → Extends first (asked ++ key_of p ∷ []) (keys_of next)
extends_step first asked own next p true e (none, is) =
    subst (λ (ks : List Key). Extends first (asked ++ key_of p ∷ []) ks) (sym (ap keys_of is ∙ keys_last own p)) (extends_added (key_of p) none e)
extends_step first asked own next p false e (has, is) = subst (λ (ks : List Key). Extends first (asked ++ key_of p ∷ []) ks) (sym (ap keys_of is)) (extends_held (key_of p) has e)

-- one more of a list
pub extends_more : (first : List Key) (extra : List WherePredicate) (i : ℕ) (p : WherePredicate) (own next : List WherePredicate) (new : Bool) → i < length extra → p ≡ get_or extra i p
    → Extends first (keys_of (take i extra)) (keys_of own) → Inserts own p new next → Extends first (keys_of (take (i + 1) extra)) (keys_of next)
extends_more first extra i p own next new within item e inserts =
    subst (λ (ks : List Key). Extends first ks (keys_of next))
    (sym (ap keys_of (take_more extra i p within ∙ ap (λ (x : WherePredicate). take i extra ++ x ∷ []) (sym item)) ∙ keys_last (take i extra) p))
    (extends_step first (keys_of (take i extra)) own next p new e inserts)

pub prefix_none : (own : List WherePredicate) → HasPrefix own own
prefix_none own = record { more = []; joined = sym (append-nil own) }

pub prefix_more : (first own next : List WherePredicate) (p : WherePredicate) (new : Bool) → HasPrefix first own → Inserts own p new next → HasPrefix first next
prefix_more first own next p true before (none, is) = record {
  more = before.more ++ p ∷ [];
  joined = is ∙ ap (λ (xs : List WherePredicate). xs ++ p ∷ []) before.joined ∙ append_assoc first before.more (p ∷ []);
}
prefix_more first own next p false before (has, is) = record { more = before.more; joined = is ∙ before.joined }

-- where what is there and what is inserted are read, so is what is there then
pub read_more : (own next : List WherePredicate) (p : WherePredicate) (new : Bool) → AreRead own → IsReadPredicate p → Inserts own p new next → AreRead next
read_more own next p true read one (none, is) = subst AreRead (sym is) (all_append IsReadPredicate own (p ∷ []) read (one, tt))
read_more own next p false read one (has, is) = subst AreRead (sym is) read

-- ---- what is taken back

front : {X : Type 0} → List X → List X
front [] = []
front (x ∷ []) = []
front (x ∷ y ∷ ys) = x ∷ front (y ∷ ys)

front_last : {X : Type 0} (xs : List X) (x : X) → front (xs ++ x ∷ []) ≡ xs
unfolding front
front_last [] x = refl
front_last (y ∷ []) x = refl
front_last (y ∷ z ∷ zs) x = ap (λ t. y ∷ t) (front_last (z ∷ zs) x)

-- a list that an item was pushed to, and one popped from, is what it was
pub popped : {X : Type 0} (before pushed after : List X) (x : X) (r : Option X) → pushed ≡ before ++ x ∷ [] → IfSome r (λ item. pushed ≡ after ++ item ∷ []) → IfNone r (pushed ≡ []) → IfNone r (after ≡ [])
    → after ≡ before
unfolding front
popped before pushed after x (Some item) is some none empty = sym (front_last after item) ∙ ap front (sym some ∙ is) ∙ front_last before x
popped before pushed after x None is some none empty = empty ∙ ap front (sym none ∙ is) ∙ front_last before x

-- what a set keeps to, where nothing has changed
pub kept_same : (ps after : List WherePredicate) (lists next : List (List Token)) (numbers left : List ℕ) → (lists ≡ tokens_of ps) × (numbers ≡ places ps) × AreDistinct (keys_of ps) → next ≡ lists → left ≡ numbers
    → after ≡ ps → (next ≡ tokens_of after) × (left ≡ places after) × AreDistinct (keys_of after)
kept_same ps after lists next numbers left kept lists_are numbers_are same =
    (lists_are ∙ kept.0 ∙ sym (ap tokens_of same), numbers_are ∙ kept.1 ∙ sym (ap places same), subst (λ (xs : List WherePredicate). AreDistinct (keys_of xs)) (sym same) kept.2)
