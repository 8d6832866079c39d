-- Names that are given twice: one of them is the earliest, and they are not apart.
use Rattle.std.proofs.Common.{◌≡◌, ◌≢◌, ◌<◌, ◌≤◌, List, [], ◌∷◌, ◌++◌, refl, ap, sym, subst, ◌∙◌, ◌⊎◌, inl, inr, arith, append_assoc}
use Rattle.std.specs.List.{AllByRecursion}
use Rattle.educe_tree.specs.Names.{unraw}
use Rattle.educe_grammar.specs.Naming.{Named, AreApart, IsRepeated, IsRepeatedIn, AllApart, AreBehind, AreNotBefore}

-- ---- lists

-- what holds of each holds of one in the middle
pub all_at : {A : Type 0} (P : A → Type 0) (xs ys : List A) (x : A) → AllByRecursion P (xs ++ x ∷ ys) → P x
all_at P [] ys x all = all.0
all_at P (z ∷ zs) ys x all = all_at P zs ys x all.1

-- Of two items of a list, the one behind p stands before the one behind q.
pub record StandsBefore {A : Type 0} (p : List A) (x : A) (r q : List A) (y : A) (s : List A) : Type 0 where
  pub between : List A
  pub front : q ≡ p ++ x ∷ between
  pub rest : r ≡ between ++ y ∷ s

-- two items of a list are at one place, or one stands before the other
pub places : {A : Type 0} (p q r s : List A) (x y : A) → p ++ x ∷ r ≡ q ++ y ∷ s
    → ((p ≡ q) × (x ≡ y) × (r ≡ s)) ⊎ (StandsBefore p x r q y s ⊎ StandsBefore q y s p x r)
places [] [] r s x y h = inl (refl, cc, cc)
places [] (b ∷ q) r s x y h = inr (inl (record { between = q; front = (let e : b ≡ x = cc in ap (λ z. z ∷ q) e); rest = cc }))
places (a ∷ p) [] r s x y h = inr (inr (record { between = p; front = (let e : a ≡ y = cc in ap (λ z. z ∷ p) e); rest = cc }))
places (a ∷ p) (b ∷ q) r s x y h =
    let first : a ≡ b = cc in
    let others : p ++ x ∷ r ≡ q ++ y ∷ s = cc in
    elim (places p q r s x y others) [
      | inl e ↦ inl (ap (λ z. z ∷ p) first ∙ ap (λ zs. b ∷ zs) e.0, e.1, e.2)
      | inr (inl w) ↦ inr (inl (record { between = w.between; front = ap (λ z. z ∷ q) (sym first) ∙ ap (λ zs. a ∷ zs) w.front; rest = w.rest }))
      | inr (inr w) ↦ inr (inr (record { between = w.between; front = ap (λ z. z ∷ p) first ∙ ap (λ zs. b ∷ zs) w.front; rest = w.rest }))
    ]

-- ---- names

-- a name and a later one that is the same, a leading `r#` aside, are not apart
pub never_together : (before : List Named) (first : Named) (between : List Named) (found : Named) (after : List Named) → unraw first.text ≡ unraw found.text
    → AreApart (before ++ first ∷ (between ++ found ∷ after)) → ⊥
never_together [] first between found after same apart = all_at (λ later. unraw first.text ≢ unraw later.text) between after found apart.0 same
never_together (n ∷ ns) first between found after same apart = never_together ns first between found after same apart.1

-- where a name is repeated, the names are not apart
pub never_apart : (names : List Named) (found : Named) → IsRepeated found names → AreApart names → ⊥
never_apart names found is apart = never_together is.before is.first is.between found is.after is.same (subst AreApart is.is apart)

-- the list round the repeated name
around : (names : List Named) (found : Named) (is : IsRepeated found names) → names ≡ (is.before ++ is.first ∷ is.between) ++ found ∷ is.after
around names found is = is.is ∙ sym (append_assoc is.before (is.first ∷ is.between) (found ∷ is.after))

-- no name is repeated before the one that is
not_earlier : (names : List Named) (found other : Named) (is : IsRepeated found names) (was : IsRepeated other names)
    → StandsBefore (is.before ++ is.first ∷ is.between) found is.after (was.before ++ was.first ∷ was.between) other was.after → ⊥
not_earlier names found other is was earlier =
    let whole = earlier.front ∙ append_assoc is.before (is.first ∷ is.between) (found ∷ earlier.between) in
    never_together is.before is.first is.between found earlier.between is.same (subst AreApart whole was.apart)

-- one name of a list is repeated
pub one_repeated : (names : List Named) (found other : Named) → IsRepeated found names → IsRepeated other names → found ≡ other
one_repeated names found other is was =
    elim (places (is.before ++ is.first ∷ is.between) (was.before ++ was.first ∷ was.between) is.after was.after found other (sym (around names found is) ∙ around names other was)) [
      | inl e ↦ e.1
      | inr (inl earlier) ↦ absurd (not_earlier names found other is was earlier)
      | inr (inr earlier) ↦ absurd (not_earlier names other found was is earlier)
    ]

-- ---- scopes

-- the name of an earlier list stands before that of a later one only if it is written before it
not_both : (lists : List (List Named)) (found other : Named) (is : IsRepeatedIn found lists) (was : IsRepeatedIn other lists)
    → StandsBefore is.before is.names is.after was.before was.names was.after → ⊥
not_both lists found other is was earlier =
    let behind : other.span.start < found.span.start =
    all_at (λ names. (n : Named) → IsRepeated n names → other.span.start < n.span.start) is.before earlier.between is.names (subst (AreBehind other.span.start) earlier.front was.behind) found is.repeated in
    let not_before : found.span.start ≤ other.span.start =
    all_at (λ names. (n : Named) → IsRepeated n names → found.span.start ≤ n.span.start) earlier.between was.after was.names (subst (AreNotBefore found.span.start) earlier.rest is.not_before) other was.repeated in
    absurd (omega arith)

-- of the names that are repeated in some list one is written first
pub one_repeated_in : (lists : List (List Named)) (found other : Named) → IsRepeatedIn found lists → IsRepeatedIn other lists → found ≡ other
one_repeated_in lists found other is was =
    elim (places is.before was.before is.after was.after is.names was.names (sym is.is ∙ was.is)) [
      | inl e ↦ one_repeated was.names found other (subst (IsRepeated found) e.1 is.repeated) was.repeated
      | inr (inl earlier) ↦ absurd (not_both lists found other is was earlier)
      | inr (inr earlier) ↦ absurd (not_both lists other found was is earlier)
    ]

-- where a name is repeated in a list, not all names are apart
pub never_all_apart : (lists : List (List Named)) (found : Named) → IsRepeatedIn found lists → AllApart lists → ⊥
never_all_apart lists found is apart = never_apart is.names found is.repeated (all_at AreApart is.before is.after is.names (subst AllApart is.is apart))
