-- Of the names that are given twice in some lists the one that is written first; or in each list the names are apart.
use Rattle.std.proofs.Common.{◌≡◌, ◌≢◌, ◌⊎◌, inl, inr, ℕ, ◌<◌, ◌≤◌, List, [], ◌∷◌, ◌++◌, refl, ap, sym, subst, ◌∙◌, arith, append-nil, append_assoc, Option, Some, None}
use Rattle.std.specs.List.{AllByRecursion}
use Rattle.std.specs.Str.{bytes_eq}
use Rattle.std.proofs.lemmas.Bool.{cases_Bool, cases_order}
use Rattle.std.proofs.lemmas.Bool.Decides.{not_from_Decides}
use Rattle.std.proofs.lemmas.Slice.Eq.{bytes_eq-Decides}
use Rattle.educe_tree.specs.declared.derive.DeriveInput.{DeriveInput}
use Rattle.educe_tree.specs.Names.{unraw}
use Rattle.educe_grammar.specs.Naming.{Named, scopes, AreApart, AreNamesApart, IsRepeated, IsRepeatedIn, IsEarliest, AreBehind, AreNotBefore}
use Rattle.educe_grammar.proofs.Each.{all_append, all_more}
use Rattle.educe_grammar.proofs.Repeated.{never_apart, one_repeated}

-- ---- lists

-- what holds of each, and of one more
pub all_with_last : {A : Type 0} (P : A → Type 0) (xs : List A) (x : A) → AllByRecursion P xs → P x → AllByRecursion P (xs ++ x ∷ [])
all_with_last P [] x all last = (last, tt)
all_with_last P (y ∷ ys) x all last = (all.0, all_with_last P ys x all.1 last)

-- ---- names of one list

-- the name without a leading `r#`
abbrev pub bare : Named → List ℕ
bare name = unraw name.text

-- names, and one more that differs from each
pub apart_with_last : (names : List Named) (name : Named) → AreApart names → AllByRecursion (λ other. bare other ≢ bare name) names → AreApart (names ++ name ∷ [])
apart_with_last [] name apart new = (tt, tt)
apart_with_last (n ∷ ns) name apart new = (all_with_last (λ other. bare n ≢ bare other) ns name apart.0 new.0, apart_with_last ns name apart.1 new.1)

-- An earlier name of the list is the same, a leading `r#` aside.
pub record Earlier (before : List Named) (name : Named) : Type 0 where
  pub front : List Named
  pub first : Named
  pub between : List Named
  pub is : before ≡ front ++ first ∷ between
  pub same : bare first ≡ bare name

-- a name that is that of an earlier one is repeated, for the first time where those before are apart
pub repeated_behind : (before after : List Named) (name : Named) → Earlier before name → AreApart before → IsRepeated name (before ++ name ∷ after)
repeated_behind before after name e apart = record {
  before = e.front;
  first = e.first;
  between = e.between;
  after = after;
  is = ap (λ ms. ms ++ name ∷ after) e.is ∙ append_assoc e.front (e.first ∷ e.between) (name ∷ after);
  same = e.same;
  apart = subst AreApart e.is apart;
}

-- two names are the same, a leading `r#` aside, or they differ
same_or_not : (m n : Named) → (bare m ≡ bare n) ⊎ (bare m ≢ bare n)
same_or_not m n =
    let decides = bytes_eq-Decides (bare m) (bare n) in
    elim (cases_Bool (bytes_eq (bare m) (bare n))) [ inl same ↦ inl (decides.0 same) | inr other ↦ inr (not_from_Decides (bytes_eq (bare m) (bare n)) decides other) ]

-- one of the names before is the same, or each differs
earlier_or_new : (before : List Named) (name : Named) → Earlier before name ⊎ AllByRecursion (λ other. bare other ≢ bare name) before
earlier_or_new [] name = inr tt
earlier_or_new (n ∷ ns) name =
    elim (same_or_not n name) [
      | inl same ↦ inl (record { front = []; first = n; between = ns; is = refl; same = same })
      | inr other ↦ elim (earlier_or_new ns name) [
        | inl e ↦ inl (record { front = n ∷ e.front; first = e.first; between = e.between; is = (λ i. n ∷ e.is i); same = e.same })
        | inr differ ↦ inr (other, differ)
      ]
    ]

-- names are apart, or one is repeated among them
abbrev ListDecided : List Named → Type 0
ListDecided names = AreApart names ⊎ ((found : Named) × IsRepeated found names)

-- behind names that are apart
list_from : (before after : List Named) → AreApart before → ListDecided (before ++ after)
list_from before [] apart = inl (subst AreApart (sym (append-nil before)) apart)
list_from before (name ∷ after) apart =
    elim (earlier_or_new before name) [
      | inl e ↦ inr (name, repeated_behind before after name e apart)
      | inr differ ↦ subst ListDecided (append_assoc before (name ∷ []) after) (list_from (before ++ name ∷ []) after (apart_with_last before name apart differ))
    ]

-- ---- one more list

-- where a name of this list is repeated, it stands behind the place
abbrev IsBehind : ℕ → List Named → Type 0
IsBehind start names = (other : Named) → IsRepeated other names → start < other.span.start

-- or not before it
abbrev IsNotBefore : ℕ → List Named → Type 0
IsNotBefore start names = (other : Named) → IsRepeated other names → start ≤ other.span.start

-- one more list behind, in which no name is repeated before the place
one_more : (lists : List (List Named)) (names : List Named) (known : Named) → IsRepeatedIn known lists → IsNotBefore known.span.start names
    → IsRepeatedIn known (lists ++ names ∷ [])
one_more lists names known is not_before = record {
  before = is.before;
  names = is.names;
  after = is.after ++ names ∷ [];
  is = ap (λ ms. ms ++ names ∷ []) is.is ∙ append_assoc is.before (is.names ∷ is.after) (names ∷ []);
  repeated = is.repeated;
  behind = is.behind;
  not_before = all_with_last (IsNotBefore known.span.start) is.after names is.not_before not_before;
}

-- no repeated name is written before the earliest
none_before : (lists : List (List Named)) (known : Named) → IsRepeatedIn known lists → AreNotBefore known.span.start lists
none_before lists known is =
    let start = known.span.start in
    let here : IsNotBefore start is.names = λ other was. (let same : known.span.start ≡ other.span.start = ap (λ (n : Named). n.span.start) (one_repeated is.names known other is.repeated was) in omega arith) in
    let front = all_more (IsBehind start) (IsNotBefore start) (λ names behind other was. (let less = behind other was in omega arith)) is.before is.behind in
    subst (AreNotBefore start) (sym is.is) (all_append (IsNotBefore start) is.before (is.names ∷ is.after) front (here, is.not_before))

-- a name that is repeated in one more list, where those before have none that is written before it
one_new : (lists : List (List Named)) (names : List Named) (found : Named) → IsRepeated found names → AreBehind found.span.start lists
    → IsRepeatedIn found (lists ++ names ∷ [])
one_new lists names found repeated behind =
    record { before = lists; names = names; after = []; is = refl; repeated = repeated; behind = behind; not_before = tt }

-- ---- what is known of some lists, and of one more

-- no name is repeated in it
pub none_new : (known : Option Named) (lists : List (List Named)) (names : List Named) → IsEarliest known lists → AreApart names → IsEarliest known (lists ++ names ∷ [])
none_new None lists names known apart = all_with_last AreApart lists names known apart
none_new (Some name) lists names known apart = one_more lists names name known (λ other was. absurd (never_apart names other was apart))

-- one is repeated in it, and none before
pub first_new : (known : Option Named) (lists : List (List Named)) (names : List Named) (found : Named) → known ≡ None → IsEarliest known lists → IsRepeated found names
    → IsRepeatedIn found (lists ++ names ∷ [])
first_new None lists names found none known repeated =
    one_new lists names found repeated (all_more AreApart (IsBehind found.span.start) (λ ms apart other was. absurd (never_apart ms other was apart)) lists known)
first_new (Some name) lists names found none known repeated = absurd (cc)

-- one is repeated in it that is written before the one that is known
pub new_before : (known : Option Named) (name : Named) (lists : List (List Named)) (names : List Named) (found : Named) → known ≡ Some name → found.span.start < name.span.start
    → IsEarliest known lists → IsRepeated found names → IsRepeatedIn found (lists ++ names ∷ [])
new_before known name lists names found some less is repeated =
    let was = subst (λ k. IsEarliest k lists) some is in
    one_new lists names found repeated
    (all_more (IsNotBefore name.span.start) (IsBehind found.span.start) (λ ms not_before other was. (let least = not_before other was in omega arith)) lists (none_before lists name was))

-- one is repeated in it that is not
pub new_behind : (known : Option Named) (name : Named) (lists : List (List Named)) (names : List Named) (found : Named) → known ≡ Some name → name.span.start ≤ found.span.start
    → IsEarliest known lists → IsRepeated found names → IsRepeatedIn name (lists ++ names ∷ [])
new_behind known name lists names found some least is repeated =
    let was = subst (λ k. IsEarliest k lists) some is in
    one_more lists names name was
    (λ other again. (let same : found.span.start ≡ other.span.start = ap (λ (n : Named). n.span.start) (one_repeated names found other repeated again) in omega arith))

-- ---- several lists

-- of the names that are repeated in the lists, the one that is written first, or none
record Known (lists : List (List Named)) : Type 0 where
  pub name : Option Named
  pub is : IsEarliest name lists

-- with a list in which a name is repeated
with_repeated : (before : List (List Named)) (names : List Named) (found : Named) → IsRepeated found names → (known : Option Named) → IsEarliest known before → Known (before ++ names ∷ [])
with_repeated before names found twice None is = record { name = Some found; is = first_new None before names found refl is twice }
with_repeated before names found twice (Some name) is =
    elim (cases_order found.span.start name.span.start) [
      | inl at_once ↦ record { name = Some name; is = new_behind (Some name) name before names found refl (omega (arith, at_once)) is twice }
      | inr (inl first) ↦ record { name = Some found; is = new_before (Some name) name before names found refl first is twice }
      | inr (inr later) ↦ record { name = Some name; is = new_behind (Some name) name before names found refl (omega (arith, later)) is twice }
    ]

-- behind lists of which one is known
lists_from : (before after : List (List Named)) → Known before → Known (before ++ after)
lists_from before [] known = subst Known (sym (append-nil before)) known
lists_from before (names ∷ after) known =
    let more : Known (before ++ names ∷ []) = elim (list_from [] names tt) [
      | inl apart ↦ record { name = known.name; is = none_new known.name before names known.is apart }
      | inr twice ↦ with_repeated before names twice.0 twice.1 known.name known.is
    ] in
    subst Known (append_assoc before (names ∷ []) after) (lists_from (before ++ names ∷ []) after more)

-- where it is known which name it is
by_name : (d : DeriveInput) (name : Option Named) → IsEarliest name (scopes d) → AreNamesApart d ⊎ ((name : Named) × IsRepeatedIn name (scopes d))
by_name d None is = inl is
by_name d (Some name) is = inr (name, is)

-- The names of a definition are apart, or one of them is the first that is given twice.
pub names_decided : (d : DeriveInput) → AreNamesApart d ⊎ ((name : Named) × IsRepeatedIn name (scopes d))
names_decided d = let known = lists_from [] (scopes d) (record { name = None; is = tt }) in by_name d known.name known.is
