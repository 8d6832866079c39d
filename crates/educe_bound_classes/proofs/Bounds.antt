-- The own predicates of an automatic bound suffice, and none of them can be dropped.
use Rattle.std.proofs.Common.{◌≡◌, ◌⊎◌, inl, inr, List, [], ◌∷◌, ◌++◌, map, refl, sym, subst, ◌∙◌}
use Rattle.std.specs.List.{AllByRecursion}
use Rattle.educe_bound_classes.specs.Deriving.{Class, forwarding, mentioning, other, AsksNothing, Has, AreDistinct, Extends, Needs, AllNeed, Derivable, AllDerivable, IsAutomatic, IsMinimal, IsByText}

-- ---- lists

-- one of the first list is one of both
has_left : {K : Type 0} (ks ls : List K) (k : K) → Has ks k → Has (ks ++ ls) k
has_left [] ls k h = absurd h
has_left (j ∷ ks) ls k (inl is) = inl is
has_left (j ∷ ks) ls k (inr h) = inr (has_left ks ls k h)

-- one of the second list is one of both
has_right : {K : Type 0} (ks ls : List K) (k : K) → Has ls k → Has (ks ++ ls) k
has_right [] ls k h = h
has_right (j ∷ ks) ls k h = inr (has_right ks ls k h)

-- one of both is one of the first or of the second
has_either : {K : Type 0} (ks ls : List K) (k : K) → Has (ks ++ ls) k → Has ks k ⊎ Has ls k
has_either [] ls k h = inr h
has_either (j ∷ ks) ls k (inl is) = inl (inl is)
has_either (j ∷ ks) ls k (inr h) = elim (has_either ks ls k h) [ inl left ↦ inl (inr left) | inr right ↦ inr right ]

-- one that is equal to one of the list
has_same : {K : Type 0} (ks : List K) (j k : K) → j ≡ k → Has ks j → Has ks k
has_same ks j k is h = subst (Has ks) is h

-- ---- lists that are extended

-- what was there is there
extends_known : {K : Type 0} {known more all : List K} (k : K) → Extends known more all → Has known k → Has all k
extends_known k (Extends.done known) h = h
extends_known k (Extends.held known j is e) h = extends_known k e h
extends_known k (Extends.added known j new e) h = extends_known k e (has_left known (j ∷ []) k h)

-- what was added is there
extends_more : {K : Type 0} {known more all : List K} (k : K) → Extends known more all → Has more k → Has all k
extends_more k (Extends.done known) h = absurd h
extends_more k (Extends.held known j has e) (inl is) = extends_known k e (has_same known j k is has)
extends_more k (Extends.held known j has e) (inr h) = extends_more k e h
extends_more k (Extends.added known j new e) (inl is) = extends_known k e (has_right known (j ∷ []) k (inl is))
extends_more k (Extends.added known j new e) (inr h) = extends_more k e h

-- nothing but what was there and what was added is there
extends_only : {K : Type 0} {known more all : List K} (k : K) → Extends known more all → Has all k → Has known k ⊎ Has more k
extends_only k (Extends.done known) h = inl h
extends_only k (Extends.held known j has e) h = elim (extends_only k e h) [ inl old ↦ inl old | inr new ↦ inr (inr new) ]
extends_only k (Extends.added known j new e) h =
    elim (extends_only k e h) [
      | inl old ↦ elim (has_either known (j ∷ []) k old) [ inl first ↦ inl first | inr last ↦ elim last [ inl is ↦ inr (inl is) | inr never ↦ absurd never ] ]
      | inr more ↦ inr (inr more)
    ]

-- a new one behind distinct ones
distinct_last : {K : Type 0} (ks : List K) (k : K) → AreDistinct ks → (Has ks k → ⊥) → AreDistinct (ks ++ k ∷ [])
distinct_last [] k apart new = ((λ never. never), tt)
distinct_last (j ∷ ks) k apart new = (
  (λ h. elim (has_either ks (k ∷ []) j h) [ inl old ↦ apart.0 old | inr last ↦ elim last [ inl is ↦ new (inl (sym is)) | inr never ↦ never ] ]),
  distinct_last ks k apart.1 (λ h. new (inr h)),
)

-- distinct predicates with new ones behind them are distinct
pub extends_distinct : {K : Type 0} {known more all : List K} → AreDistinct known → Extends known more all → AreDistinct all
extends_distinct apart (Extends.done known) = apart
extends_distinct apart (Extends.held known j has e) = extends_distinct apart e
extends_distinct apart (Extends.added known j new e) = extends_distinct (distinct_last known j apart new) e

-- of distinct ones each is gone once it is dropped
dropped : {K : Type 0} (before after : List K) (k : K) → AreDistinct (before ++ k ∷ after) → Has (before ++ after) k → ⊥
dropped [] after k apart h = apart.0 h
dropped (j ∷ before) after k apart (inl is) = apart.0 (has_right before (k ∷ after) j (inl (sym is)))
dropped (j ∷ before) after k apart (inr h) = dropped before after k apart.1 h

-- those that are left were there
left_over : {K : Type 0} (before after : List K) (k j : K) → Has (before ++ after) j → Has (before ++ k ∷ after) j
left_over before after k j h =
    elim (has_either before after j h) [ inl first ↦ has_left before (k ∷ after) j first | inr last ↦ has_right before (k ∷ after) j (inr last) ]

-- the one that is dropped was there
was_there : {K : Type 0} (before after : List K) (k : K) → Has (before ++ k ∷ after) k
was_there before after k = has_right before (k ∷ after) k (inl refl)

-- ---- classes

-- a type that asks nothing forwards nothing
nothing_forwards : {X N : Type 0} (c : Class X N) (parts : List X) → AsksNothing c → c ≡ forwarding parts → ⊥
nothing_forwards c parts asks is = subst AsksNothing is asks

nothing_mentions : {X N : Type 0} (c : Class X N) (names : List N) → AsksNothing c → c ≡ mentioning names → ⊥
nothing_mentions c names asks is = subst AsksNothing is asks

nothing_other : {X N : Type 0} (c : Class X N) → AsksNothing c → c ≡ other → ⊥
nothing_other c asks is = subst AsksNothing is asks

-- a class has its parts alone
same_parts : {X N : Type 0} (c : Class X N) (xs ys : List X) → c ≡ forwarding xs → c ≡ forwarding ys → xs ≡ ys
same_parts {X = X} {N = N} c xs ys e f = let is : ◌≡◌ {A = Class X N} (forwarding xs) (forwarding ys) = sym e ∙ f in cc

same_names : {X N : Type 0} (c : Class X N) (ms ns : List N) → c ≡ mentioning ms → c ≡ mentioning ns → ms ≡ ns
same_names {X = X} {N = N} c ms ns e f = let is : ◌≡◌ {A = Class X N} (mentioning ms) (mentioning ns) = sym e ∙ f in cc

module _ {X N K : Type 0} (class : X → Class X N) (own : X → K) (param : N → K) where
  -- ---- the predicates suffice

  -- each name's predicate is known
  names_known : (known : List K) (names : List N) → ((k : K) → Has (map param names) k → Has known k) → AllByRecursion (λ n. Has known (param n)) names
  names_known known [] all = tt
  names_known known (n ∷ names) all = (all (param n) (inl refl), names_known known names (λ k h. all k (inr h)))

  mutual
    -- what a type needs suffices
    pub needs_suffice : (known : List K) {x : X} {ks : List K} → Needs class own param x ks → ((k : K) → Has ks k → Has known k) → Derivable class own param known x
    needs_suffice known (Needs.nothing x asks) all = Derivable.free x asks
    needs_suffice known (Needs.forwards x parts is needs) all = Derivable.by_parts x parts is (all_suffice known needs all)
    needs_suffice known (Needs.mentions x names is) all = Derivable.by_names x names is (names_known known names all)
    needs_suffice known (Needs.itself x is) all = Derivable.given x (all (own x) (inl refl))

    pub all_suffice : (known : List K) {xs : List X} {ks : List K} → AllNeed class own param xs ks → ((k : K) → Has ks k → Has known k) → AllDerivable class own param known xs
    all_suffice known AllNeed.none all = AllDerivable.none
    all_suffice known (AllNeed.more {ks = ks} {ls = ls} needs others) all =
        AllDerivable.more (needs_suffice known needs (λ k h. all k (has_left ks ls k h))) (all_suffice known others (λ k h. all k (has_right ks ls k h)))

  -- Each type is derivable from the own predicates of an automatic bound.
  pub automatic_suffices : (types : List X) (all : List K) → IsAutomatic class own param types all → AllDerivable class own param all types
  automatic_suffices types all is = all_suffice all is.1 (λ k h. extends_more k is.2 h)

  -- ---- none can be dropped

  module _ (IsRead : X → Type 0) (IsParam : N → Type 0) (by_text : IsByText class own param IsRead IsParam) where
    -- it is what a type of the class `other` asks of itself, or what a parameter is asked
    abbrev IsAsked : K → Type 0
    IsAsked k = ((x : X) × IsRead x × (class x ≡ other) × (own x ≡ k)) ⊎ ((n : N) × IsParam n × (param n ≡ k))

    -- the predicate of each name is what a parameter is asked
    names_asked : (names : List N) (k : K) → AllByRecursion IsParam names → Has (map param names) k → IsAsked k
    names_asked [] k all h = absurd h
    names_asked (n ∷ names) k all (inl is) = inr (n, all.0, is)
    names_asked (n ∷ names) k all (inr h) = names_asked names k all.1 h

    mutual
      -- each predicate that a type needs is one that a type or a parameter is asked
      needs_asked : {x : X} {ks : List K} (k : K) → Needs class own param x ks → IsRead x → Has ks k → IsAsked k
      needs_asked k (Needs.nothing x asks) read h = absurd h
      needs_asked k (Needs.forwards x parts is needs) read h = all_asked k needs (by_text.parts_read x parts read is) h
      needs_asked k (Needs.mentions x names is) read h = names_asked names k (by_text.names_are x names read is) h
      needs_asked k (Needs.itself x is) read (inl same) = inl (x, read, is, same)
      needs_asked k (Needs.itself x is) read (inr never) = absurd never

      all_asked : {xs : List X} {ks : List K} (k : K) → AllNeed class own param xs ks → AllByRecursion IsRead xs → Has ks k → IsAsked k
      all_asked k AllNeed.none read h = absurd h
      all_asked k (AllNeed.more {ks = ks} {ls = ls} needs others) read h =
          elim (has_either ks ls k h) [ inl first ↦ needs_asked k needs read.0 first | inr rest ↦ all_asked k others read.1 rest ]

    -- a type whose own predicate is asked is of the class `other`
    asked_other : (x : X) → IsRead x → IsAsked (own x) → class x ≡ other
    asked_other x read (inl a) = by_text.others x a.0 read a.1 (sym a.3) a.2
    asked_other x read (inr a) = by_text.params x a.0 read a.1 (sym a.2)

    -- where a name's predicate is not known, those of the names are not
    name_missing : (known : List K) (names : List N) (k : K) → (Has known k → ⊥) → Has (map param names) k → AllByRecursion (λ n. Has known (param n)) names → ⊥
    name_missing known [] k missing h all = h
    name_missing known (n ∷ names) k missing (inl is) all = missing (has_same known (param n) k is all.0)
    name_missing known (n ∷ names) k missing (inr h) all = name_missing known names k missing h all.1

    module _ (known : List K) (asked : (k : K) → Has known k → IsAsked k) (k : K) (missing : Has known k → ⊥) where
      -- of the class `other` where its own predicate is known
      given_other : (x : X) → IsRead x → Has known (own x) → class x ≡ other
      given_other x read h = asked_other x read (asked (own x) h)

      mutual
        -- a type that needs what is missing is not derivable
        underivable : {x : X} {ks : List K} → Needs class own param x ks → IsRead x → Has ks k → Derivable class own param known x → ⊥
        underivable (Needs.nothing x asks) read h derivable = h
        underivable (Needs.forwards x parts is needs) read h (Derivable.given _ has) = let e = given_other x read has in (let never : ◌≡◌ {A = Class X N} other (forwarding parts) = sym e ∙ is in cc)
        underivable (Needs.forwards x parts is needs) read h (Derivable.free _ asks) = nothing_forwards (class x) parts asks is
        underivable (Needs.forwards x parts is needs) read h (Derivable.by_parts _ others same all) =
            all_underivable needs (by_text.parts_read x parts read is) h (subst (AllDerivable class own param known) (same_parts (class x) others parts same is) all)
        underivable (Needs.forwards x parts is needs) read h (Derivable.by_names _ names same all) = let never : ◌≡◌ {A = Class X N} (mentioning names) (forwarding parts) = sym same ∙ is in cc
        underivable (Needs.mentions x names is) read h (Derivable.given _ has) = let e = given_other x read has in (let never : ◌≡◌ {A = Class X N} other (mentioning names) = sym e ∙ is in cc)
        underivable (Needs.mentions x names is) read h (Derivable.free _ asks) = nothing_mentions (class x) names asks is
        underivable (Needs.mentions x names is) read h (Derivable.by_parts _ parts same all) = let never : ◌≡◌ {A = Class X N} (forwarding parts) (mentioning names) = sym same ∙ is in cc
        underivable (Needs.mentions x names is) read h (Derivable.by_names _ others same all) =
            name_missing known names k missing h (subst (AllByRecursion (λ n. Has known (param n))) (same_names (class x) others names same is) all)
        underivable (Needs.itself x is) read (inr never) derivable = never
        underivable (Needs.itself x is) read (inl own_is) (Derivable.given _ has) = missing (has_same known (own x) k own_is has)
        underivable (Needs.itself x is) read (inl own_is) (Derivable.free _ asks) = nothing_other (class x) asks is
        underivable (Needs.itself x is) read (inl own_is) (Derivable.by_parts _ parts same all) = let never : ◌≡◌ {A = Class X N} (forwarding parts) other = sym same ∙ is in cc
        underivable (Needs.itself x is) read (inl own_is) (Derivable.by_names _ names same all) = let never : ◌≡◌ {A = Class X N} (mentioning names) other = sym same ∙ is in cc

        all_underivable : {xs : List X} {ks : List K} → AllNeed class own param xs ks → AllByRecursion IsRead xs → Has ks k → AllDerivable class own param known xs → ⊥
        all_underivable AllNeed.none read h derivable = h
        all_underivable (AllNeed.more {ks = ks} {ls = ls} needs others) read h (AllDerivable.more first rest) =
            elim (has_either ks ls k h) [ inl here ↦ underivable needs read.0 here first | inr there ↦ all_underivable others read.1 there rest ]

      -- one of the types that need what is missing is not derivable
      one_underivable : {xs : List X} {ks : List K} → AllNeed class own param xs ks → AllByRecursion IsRead xs → Has ks k → (x : X) × Has xs x × (Derivable class own param known x → ⊥)
      one_underivable AllNeed.none read h = absurd h
      one_underivable (AllNeed.more {x = x} {ks = ks} {ls = ls} needs others) read h =
          elim (has_either ks ls k h) [
            | inl here ↦ (x, inl refl, underivable needs read.0 here)
            | inr there ↦ let found = one_underivable others read.1 there in (found.0, inr found.1, found.2)
          ]

    -- none of the own predicates is missed by all types
    pub automatic_minimal : (types : List X) (all : List K) → AllByRecursion IsRead types → IsAutomatic class own param types all → IsMinimal class own param types all
    automatic_minimal types all read is before after k whole =
        let apart : AreDistinct (before ++ k ∷ after) = subst AreDistinct whole (extends_distinct tt is.2) in
        let needed : (j : K) → Has (before ++ k ∷ after) j → Has is.0 j = λ j h.
        elim (extends_only j is.2 (subst (λ ks. Has ks j) (sym whole) h)) [ inl never ↦ absurd never | inr asks ↦ asks ] in
        one_underivable (before ++ after) (λ j h. all_asked j is.1 read (needed j (left_over before after k j h))) k (dropped before after k apart)
        is.1 read (needed k (was_there before after k))
