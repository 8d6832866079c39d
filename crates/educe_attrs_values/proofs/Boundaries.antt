-- Boundaries of tokens: places of what is read of a list, or of a part of it.
use Rattle.std.proofs.Common.{◌≡◌, ℕ, zero, suc, ◌-◌, true, false, List, [], ◌∷◌, ◌++◌, length, take, drop, refl, sym, subst, Option, Some, None, inl, inr}
use Rattle.std.specs.Prelude.{slice_get}
use Rattle.std.specs.List.{AllByRecursion}
use Rattle.std.proofs.lemmas.Option.{same_Some}
use Rattle.educe_tokens.specs.declared.error.EduceError.{EduceError}
use Rattle.educe_tokens.specs.declared.span.Span.{Span}
use Rattle.educe_tokens.specs.declared.token.Token.{Token}
use Rattle.educe_syntax.specs.Attributes.{between, metas}
use Rattle.educe_syntax.specs.Laws.{lawful_metas, lawful_places, place_has}
use Rattle.educe_syntax.specs.Meta.{Meta}
use Rattle.educe_syntax.specs.Meta.TheVariants as said
use Rattle.educe_syntax.specs.MetaPath.{MetaPath}
use Rattle.educe_syntax.specs.Parsed.{end_of, IsWhole, IsParseCause}
use Rattle.educe_syntax.specs.Placed.{HasPlace, IsPlace, AreWithin, IsSpan, IsMetaPlaced, AreMetasPlaced}
use Rattle.educe_attrs_values.specs.declared.source.Source.{Source}
use Rattle.educe_attrs_values.specs.Reports.{IsBoundary}
use Rattle.educe_attrs_values.specs.Sources.{inside, or_else, shown, value_source, value_place}
use Rattle.educe_attrs_values.specs.Words.{place_of, path_of, meta_place}

-- ---- lists

-- what follows of each holds of each
pub each_into : {X : Type 0} (P Q : X → Type 0) → ((x : X) → P x → Q x) → (xs : List X) → AllByRecursion P xs → AllByRecursion Q xs
each_into P Q into [] all = tt
each_into P Q into (x ∷ xs) all = (into x all.0, each_into P Q into xs all.1)

-- what holds of each of two lists holds of each of both
pub each_joined : {X : Type 0} (P : X → Type 0) (xs ys : List X) → AllByRecursion P xs → AllByRecursion P ys → AllByRecursion P (xs ++ ys)
each_joined P [] ys first second = second
each_joined P (x ∷ xs) ys first second = (first.0, each_joined P xs ys first.1 second)

-- what holds of each holds of the first few
each_taken : {X : Type 0} (P : X → Type 0) (n : ℕ) (xs : List X) → AllByRecursion P xs → AllByRecursion P (take n xs)
each_taken P zero [] all = tt
each_taken P zero (x ∷ xs) all = tt
each_taken P (suc n) [] all = tt
each_taken P (suc n) (x ∷ xs) all = (all.0, each_taken P n xs all.1)

-- what holds of each holds of those behind the first
each_behind : {X : Type 0} (P : X → Type 0) (xs : List X) → AllByRecursion P xs → AllByRecursion P (drop 1 xs)
each_behind P [] all = tt
each_behind P (x ∷ xs) all = all.1

-- what holds of each holds of the one at an index
each_get : {X : Type 0} (P : X → Type 0) (xs : List X) (n : ℕ) (x : X) → AllByRecursion P xs → slice_get xs n ≡ Some x → P x
each_get P [] n x all is = absurd (cc)
each_get P (y ∷ ys) zero x all is = subst P (same_Some y x is) all.0
each_get P (y ∷ ys) (suc n) x all is = each_get P ys n x all.1 is

-- ---- places

module _ (tokens : List Token) where
  -- the span starts at a boundary
  abbrev Starts : Span → Type 0
  Starts s = IsBoundary tokens s.start

  -- ---- parts

  module _ (part : List Token) (within : AreWithin tokens part) where
    -- a token of the part stands where one of the list does
    pub part_has : (place : Span) → HasPlace part place → HasPlace tokens place
    part_has place is = place_has (HasPlace tokens) part place within is

    -- what stands among the part stands among the list
    tokens_within : (ts : List Token) → AreWithin part ts → AreWithin tokens ts
    tokens_within ts all = each_into (λ (t : Token). HasPlace part t.span) (λ (t : Token). HasPlace tokens t.span) (λ t. part_has t.span) ts all

    span_within : (s : Span) → IsSpan part s → IsSpan tokens s
    span_within s is = record { first = is.first; last = is.last; first_stands = part_has is.first is.first_stands; last_stands = part_has is.last is.last_stands; is = is.is }

    meta_within : (m : Meta) → IsMetaPlaced part m → IsMetaPlaced tokens m
    meta_within (said.Word path) is = tokens_within path.written.tokens is
    meta_within (said.List path group place) is = (tokens_within path.written.tokens is.0, tokens_within group.tokens is.1, span_within place is.2)
    meta_within (said.NameValue path x place) is = (tokens_within path.written.tokens is.0, tokens_within x.written.tokens is.1, span_within place is.2)
    meta_within (said.Doc t) is = part_has t.span is
    meta_within (said.Unread path rest place) is = (tokens_within path.written.tokens is.0, tokens_within rest.tokens is.1, span_within place is.2)

    -- what stands between the first token and the last of a part stands among the list
    pub inside_within : AreWithin tokens (inside part)
    inside_within = each_taken (λ (t : Token). HasPlace tokens t.span) (length part - 2) (drop 1 part) (each_behind (λ (t : Token). HasPlace tokens t.span) part within)

    -- the part ends at a boundary
    end_boundary : IsBoundary tokens (end_of part)
    end_boundary = go (slice_get part (length part - 1)) refl
      where
        go : (o : Option Token) → slice_get part (length part - 1) ≡ o → IsBoundary tokens (end_of part)
        go None is = rw is IsBoundary.beginning
        go (Some t) is = rw is (IsBoundary.end t.span (each_get (λ (t : Token). HasPlace tokens t.span) part (length part - 1) t within is))

    -- a token of the part and its end start at one
    place_boundary : (place : Span) → IsPlace part place → Starts place
    place_boundary place (inl has) = IsBoundary.start place (part_has place has)
    place_boundary place (inr is) = subst Starts (sym is) end_boundary

  -- the first of the part starts at one; no tokens start at the beginning
  first_by : (t : Token) (last : Option Token) → HasPlace tokens t.span → Starts (between (Some t) last)
  first_by t None has = IsBoundary.beginning
  first_by t (Some last) has = IsBoundary.start t.span has

  pub first_boundary : (part : List Token) → AreWithin tokens part → Starts (place_of part)
  first_boundary [] within = IsBoundary.beginning
  first_boundary (t ∷ ts) within = first_by t (slice_get (t ∷ ts) (length (t ∷ ts) - 1)) within.0

  span_boundary : (s : Span) → IsSpan tokens s → Starts s
  span_boundary s is = subst Starts (sym is.is) (IsBoundary.start is.first is.first_stands)

  -- ---- metas

  -- the metas in a bracket pair stand among the tokens where the pair does
  pub metas_within : (pair : List Token) → AreWithin tokens pair → (found : List Meta) → IsWhole metas (inside pair) found → AreMetasPlaced tokens found
  metas_within pair within found whole =
      each_into (IsMetaPlaced (inside pair)) (IsMetaPlaced tokens) (meta_within (inside pair) (inside_within pair within)) found (lawful_places.metas (inside pair) found whole)

  -- a pair whose tokens are no metas is rejected at a boundary
  pub pair_placed : (pair : List Token) → AreWithin tokens pair → (e : EduceError) → IsParseCause metas (inside pair) e → Starts e.span
  pair_placed pair within e cause = elim (lawful_metas.reported (inside pair) e cause).place [
    | inl is ↦ place_boundary (inside pair) (inside_within pair within) e.span is
    | inr short ↦ subst (λ (e : EduceError). Starts e.span) (sym short) IsBoundary.beginning
  ]

  -- the name of a meta stands among them
  pub path_within : (m : Meta) → IsMetaPlaced tokens m → (path : MetaPath) → path_of m ≡ Some path → AreWithin tokens path.written.tokens
  path_within (said.Word p) placed path is = subst (λ (p : MetaPath). AreWithin tokens p.written.tokens) (same_Some p path is) placed
  path_within (said.List p group place) placed path is = subst (λ (p : MetaPath). AreWithin tokens p.written.tokens) (same_Some p path is) placed.0
  path_within (said.NameValue p x place) placed path is = subst (λ (p : MetaPath). AreWithin tokens p.written.tokens) (same_Some p path is) placed.0
  path_within (said.Doc t) placed path is = absurd (cc)
  path_within (said.Unread p rest place) placed path is = subst (λ (p : MetaPath). AreWithin tokens p.written.tokens) (same_Some p path is) placed.0

  -- the name of a meta starts at a boundary
  pub name_boundary : (m : Meta) → IsMetaPlaced tokens m → (path : MetaPath) → path_of m ≡ Some path → Starts (place_of path.written.tokens)
  name_boundary m placed path is = first_boundary path.written.tokens (path_within m placed path is)

  -- a meta starts at a boundary
  pub meta_boundary : (m : Meta) → IsMetaPlaced tokens m → Starts (meta_place m)
  meta_boundary (said.Word path) placed = first_boundary path.written.tokens placed
  meta_boundary (said.List path group place) placed = span_boundary place placed.2
  meta_boundary (said.NameValue path x place) placed = span_boundary place placed.2
  meta_boundary (said.Doc t) placed = IsBoundary.start t.span placed
  meta_boundary (said.Unread path rest place) placed = span_boundary place placed.2

  -- ---- values

  -- the tokens of a value stand among them
  pub source_within : (m : Meta) → IsMetaPlaced tokens m → (s : Source) → value_source m ≡ Some s → AreWithin tokens s.tokens
  source_within (said.Word path) placed s is = absurd (cc)
  source_within (said.List path group place) placed s is =
      subst (λ (s : Source). AreWithin tokens s.tokens) (same_Some (record { tokens = inside group.tokens; enclosed = true }) s is) (inside_within group.tokens placed.1)
  source_within (said.NameValue path x place) placed s is =
      subst (λ (s : Source). AreWithin tokens s.tokens) (same_Some (record { tokens = x.written.tokens; enclosed = false }) s is) placed.1
  source_within (said.Doc t) placed s is = absurd (cc)
  source_within (said.Unread path rest place) placed s is = absurd (cc)

  else_within : (others ts : List Token) → AreWithin tokens others → AreWithin tokens ts → AreWithin tokens (or_else others ts)
  else_within others [] first second = first
  else_within others (t ∷ ts) first second = second

  -- the place at which a value is rejected starts at a boundary
  pub value_boundary : (m : Meta) → IsMetaPlaced tokens m → Starts (value_place m)
  value_boundary (said.Word path) placed = IsBoundary.beginning
  value_boundary (said.List path group place) placed =
      first_boundary (shown group.tokens) (else_within group.tokens (inside group.tokens) placed.1 (inside_within group.tokens placed.1))
  value_boundary (said.NameValue path x place) placed = first_boundary x.written.tokens placed.1
  value_boundary (said.Doc t) placed = IsBoundary.beginning
  value_boundary (said.Unread path rest place) placed = IsBoundary.beginning
