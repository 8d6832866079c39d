-- A meta says one thing, by the row of its place.
use Rattle.std.proofs.Common.{◌≡◌, List, [], ◌∷◌, ◌++◌, Option, Some, None, refl, sym, subst, ap, ◌∙◌, inl, inr}
use Rattle.std.specs.Prelude.{option_and_then}
use Rattle.std.proofs.lemmas.Option.{same_Some}
use Rattle.educe_tokens.specs.declared.span.Span.{Span}
use Rattle.educe_syntax.specs.Attributes.{metas}
use Rattle.educe_syntax.specs.Laws.{lawful_metas}
use Rattle.educe_syntax.specs.Meta.{Meta}
use Rattle.educe_syntax.specs.Meta.TheVariants as said
use Rattle.educe_syntax.specs.MetaPath.{MetaPath}
use Rattle.educe_syntax.specs.Parsed.{IsWhole}
use Rattle.educe_attrs_values.specs.declared.kind.ValueKind.{ValueKind}
use Rattle.educe_attrs_values.specs.Kinds.{ValueOf}
use Rattle.educe_attrs_values.specs.Sources.{inside}
use Rattle.educe_attrs_values.specs.Values.{Holds}
use Rattle.educe_attrs_values.specs.Words.{path_of, meta_place}
use Rattle.educe_attrs_values.proofs.ValueLaws.{lawful_kind}
use Rattle.educe_attrs_rows.specs.declared.param.Param.{Param}
use Rattle.educe_attrs_rows.specs.declared.param.Param.TheVariants.{Name, NamedField, New, Expression, Ignore, Method, Rank, Reverse, Bound}
use Rattle.educe_attrs_rows.specs.declared.row.Row.{Row}
use Rattle.educe_attrs_rows.specs.declared.values.Values.{Values}
use Rattle.educe_attrs_rows.specs.Among.{IsAmong}
use Rattle.educe_attrs_rows.specs.Causes.{param_in, Gives, IsGiven, IsReset, AreGiven, Says}
use Rattle.educe_attrs_rows.specs.Rows.{param_of}
use Rattle.educe_attrs_rows.specs.Settings.{values_at, bare_values, Given, given, kind_of, given_as, Behind, behind}
use Rattle.educe_attrs_rows.proofs.Among.{among_none, among_cases}
use Rattle.educe_attrs_rows.proofs.Chained.{ok_one}

-- ---- two items of a list

-- the one stands before the other
record Precedes {X : Type 0} (earlier later : X) (xs : List X) : Type 0 where
  front : List X
  between : List X
  rest : List X
  is : xs ≡ (front ++ earlier ∷ between) ++ later ∷ rest

precedes_first : {X : Type 0} (m n x : X) (xs : List X) → x ≡ m → IsAmong n xs → Precedes m n (x ∷ xs)
precedes_first m n x xs same a = record { front = []; between = a.front; rest = a.back; is = ap (λ x. x ∷ xs) same ∙ ap (λ xs. m ∷ xs) a.is }

precedes_more : {X : Type 0} (m n x : X) (xs : List X) → Precedes m n xs → Precedes m n (x ∷ xs)
precedes_more m n x xs p = record { front = x ∷ p.front; between = p.between; rest = p.rest; is = ap (λ xs. x ∷ xs) p.is }

-- they are one item, or one of them stands before the other
data Ordered {X : Type 0} (m n : X) (xs : List X) : Type 0 where
  one : m ≡ n → Ordered m n xs
  earlier : Precedes m n xs → Ordered m n xs
  later : Precedes n m xs → Ordered m n xs

ordered_more : {X : Type 0} (m n x : X) (xs : List X) → Ordered m n xs → Ordered m n (x ∷ xs)
ordered_more m n x xs (Ordered.one is) = Ordered.one is
ordered_more m n x xs (Ordered.earlier p) = Ordered.earlier (precedes_more m n x xs p)
ordered_more m n x xs (Ordered.later p) = Ordered.later (precedes_more n m x xs p)

ordered : {X : Type 0} (m n : X) (xs : List X) → IsAmong m xs → IsAmong n xs → Ordered m n xs
ordered m n [] a b = absurd (among_none m a)
ordered m n (x ∷ xs) a b = elim (among_cases m x xs a) [
  | inl first ↦ elim (among_cases n x xs b) [ inl other ↦ Ordered.one (sym first ∙ other) | inr more ↦ Ordered.earlier (precedes_first m n x xs first more) ]
  | inr here ↦ elim (among_cases n x xs b) [ inl other ↦ Ordered.later (precedes_first n m x xs other here) | inr more ↦ ordered_more m n x xs (ordered m n xs here more) ]
]

-- ---- a parameter

-- a meta says one value of a kind
value_one : (k : ValueKind) (path : MetaPath) (m : Meta) (v w : ValueOf k) → Holds k m v → Holds k m w → v ≡ w
value_one k path m v w h g = ok_one (sym ((lawful_kind k).back path m v h) ∙ (lawful_kind k).back path m w g)

module _ (row : Row) where
  -- a meta that is a parameter has a path
  param_path : (p : Param) (o : Option MetaPath) → option_and_then (param_of row) o ≡ Some p → MetaPath
  param_path p None is = absurd (cc)
  param_path p (Some path) is = path

  gives_one : (p : Param) (m : Meta) → MetaPath → (x y : Given p) → Gives row p m x → Gives row p m y → x ≡ y
  gives_one p m path x y g h = g.is ∙ (ap (given_as row p m) (value_one (kind_of row p) path m g.value h.value g.holds h.holds) ∙ sym h.is)

  -- a reset
  reset_of : (params : List Meta) (m n : Meta) (p : Param) → param_in row m ≡ Some p → param_in row n ≡ Some p → Precedes m n params → IsReset row params n p
  reset_of params m n p m_is n_is b = record { front = b.front; earlier = m; between = b.between; rest = b.rest; is = b.is; earlier_is = m_is; later_is = n_is }

  module _ (params : List Meta) (once : (m : Meta) (p : Param) → IsReset row params m p → ⊥) where
    -- one meta of the list is the parameter
    param_one : (p : Param) (m n : Meta) → param_in row m ≡ Some p → param_in row n ≡ Some p → Ordered m n params → m ≡ n
    param_one p m n m_is n_is (Ordered.one is) = is
    param_one p m n m_is n_is (Ordered.earlier b) = absurd (once n p (reset_of params m n p m_is n_is b))
    param_one p m n m_is n_is (Ordered.later b) = absurd (once m p (reset_of params n m p n_is m_is b))

    -- a list gives one value as the parameter
    given_one : (p : Param) (o q : Option (Given p)) → IsGiven row p params o → IsGiven row p params q → o ≡ q
    given_one p None None g h = refl
    given_one p None (Some y) g h = absurd (g h.0 h.1 h.2)
    given_one p (Some x) None g h = absurd (h g.0 g.1 g.2)
    given_one p (Some x) (Some y) g h =
        let same : h.0 ≡ g.0 = param_one p h.0 g.0 h.2 g.2 (ordered h.0 g.0 params h.1 g.1) in
        ap Some (gives_one p g.0 (param_path p (path_of g.0) g.2) x y g.3 (subst (λ m. Gives row p m y) same h.3))

  -- ---- all that is said

  values_same : (v w : Values) → ((p : Param) → given p v ≡ given p w) → v.flag ≡ w.flag → v.span ≡ w.span → v ≡ w
  values_same v w each flag span = λ i. record {
    name = each Name i;
    named_field = each NamedField i;
    new = each New i;
    expression = each Expression i;
    ignore = each Ignore i;
    method = each Method i;
    rank = each Rank i;
    reverse = each Reverse i;
    bound = each Bound i;
    flag = flag i;
    span = span i;
  }

  -- the metas of a list give one thing
  lists_one : (params : List Meta) (v w : Values) → AreGiven row params v → AreGiven row params w → v.span ≡ w.span → v ≡ w
  lists_one params v w g h span = values_same v w (λ p. given_one params g.once p (given p v) (given p w) (g.gives p) (h.gives p)) (g.flag ∙ sym h.flag) span

  -- what a value behind `=` says
  abbrev SaysBehind : Meta → Span → Values → Behind → Type 0
  SaysBehind m place v b = (x : ValueOf b.kind) × Holds b.kind m x × (v ≡ b.says x (values_at place))

  -- what is known of what a meta says, by its form
  abbrev SaysSo : Meta → Values → Type 0
  SaysSo (said.Word path) v = v ≡ bare_values (meta_place (said.Word path))
  SaysSo (said.List path tokens place) v = (found : List Meta) × IsWhole metas (inside tokens.tokens) found × AreGiven row found v × (v.span ≡ place)
  SaysSo (said.NameValue path x place) v = (b : Behind) × (behind row.equals ≡ Some b) × SaysBehind (said.NameValue path x place) place v b
  SaysSo (said.Doc t) v = ⊥
  SaysSo (said.Unread path tokens place) v = ⊥

  says_so : (m : Meta) (v : Values) → Says row m v → SaysSo m v
  says_so _ _ (Says.bare path flag) = refl
  says_so _ _ (Says.equals path x place b v is holds) = (b, is, (v, holds, refl))
  says_so _ v (Says.params path tokens place found _ whole given span_is) = (found, whole, given, span_is)

  behind_one : (path : MetaPath) (m : Meta) (place : Span) (v w : Values) (b : Behind) → SaysBehind m place v b → SaysBehind m place w b → v ≡ w
  behind_one path m place v w b s t = s.2 ∙ (ap (λ x. b.says x (values_at place)) (value_one b.kind path m s.0 t.0 s.1 t.1) ∙ sym t.2)

  so_one : (m : Meta) (v w : Values) → SaysSo m v → SaysSo m w → v ≡ w
  so_one (said.Word path) v w s t = s ∙ sym t
  so_one (said.List path tokens place) v w s t =
      let same : t.0 ≡ s.0 = lawful_metas.one_reading (inside tokens.tokens) t.0 s.0 t.1 s.1 in
      lists_one s.0 v w s.2 (subst (λ found. AreGiven row found w) same t.2) (s.3 ∙ sym t.3)
  so_one (said.NameValue path x place) v w s t =
      let m : Meta = said.NameValue path x place in
      let same : t.0 ≡ s.0 = same_Some t.0 s.0 (sym t.1 ∙ s.1) in
      behind_one path m place v w s.0 s.2 (subst (SaysBehind m place w) same t.2)
  so_one (said.Doc t) v w s u = absurd s
  so_one (said.Unread path tokens place) v w s t = absurd s

  -- what a meta says is one thing
  pub says_one : (m : Meta) (v w : Values) → Says row m v → Says row m w → v ≡ w
  says_one m v w s t = so_one m v w (says_so m v s) (says_so m w t)
