-- What a parameter says, and why its value is rejected.
use Rattle.std.proofs.Common.{◌≡◌, ℕ, Bool, true, false, IsTrue, List, [], ◌∷◌, refl, sym, subst, ◌∙◌, ap, Option, Some, None, Result, Ok, Err}
use Rattle.std.specs.Prelude.{◌&&◌, ◌||◌, if◌then◌else◌, is_some}
use Rattle.std.proofs.lemmas.Bool.{and_parts, and_from, false≢true}
use Rattle.educe_tokens.specs.declared.error.EduceError.{EduceError}
use Rattle.educe_tokens.specs.declared.token.Token.{Token}
use Rattle.educe_syntax.specs.Laws.{lawful_name, lawful_path, lawful_expression, lawful_predicates}
use Rattle.educe_syntax.specs.Meta.{Meta}
use Rattle.educe_syntax.specs.MetaPath.{MetaPath}
use Rattle.educe_syntax.specs.WherePredicate.{WherePredicate}
use Rattle.educe_syntax.specs.GenericParams.{predicates}
use Rattle.educe_tokens.specs.declared.span.Span.{Span}
use Rattle.educe_attrs_values.specs.declared.choices.IdentOrBool.{IdentOrBool}
use Rattle.educe_attrs_values.specs.declared.choices.IdentOrBool.TheVariants as choice
use Rattle.educe_attrs_values.specs.declared.choices.WherePredicatesOrBool.{WherePredicatesOrBool}
use Rattle.educe_attrs_values.specs.declared.choices.WherePredicatesOrBool.TheVariants as bound
use Rattle.educe_attrs_values.specs.declared.fault.Fault.{Fault}
use Rattle.educe_attrs_values.specs.declared.fault.Fault.TheVariants as fault
use Rattle.educe_attrs_values.specs.declared.kind.ValueKind.{ValueKind}
use Rattle.educe_attrs_values.specs.declared.kind.ValueKind.TheVariants as kind
use Rattle.educe_attrs_values.specs.declared.source.Source.{Source}
use Rattle.educe_attrs_values.specs.declared.stop.Stop.{Stop}
use Rattle.educe_attrs_values.specs.declared.stop.Stop.TheVariants.{Memory, Refused}
use Rattle.educe_attrs_values.specs.Causes.{IsValueCause}
use Rattle.educe_attrs_values.specs.Chains.{map_ok}
use Rattle.educe_attrs_values.specs.Integers.{integer_in}
use Rattle.educe_attrs_values.specs.Kinds.{ValueOf, bare, opens_strings}
use Rattle.educe_attrs_values.specs.Laws.{ValueLaws}
use Rattle.educe_attrs_values.specs.Readings.{truth_in, or_wrong, standing, plain, is_empty_text, named, name_or, name_in, is_star, may_be_predicates, bounded, bound_or, bound_in, reading, or_refused, or_missing, value_among, value_of}
use Rattle.educe_attrs_values.specs.Sources.{value_source, value_place}
use Rattle.educe_attrs_values.specs.Texts.{only_text}
use Rattle.educe_attrs_values.specs.Values.{ReadsPlain, ReadsBy, IsName, IsBound, Reads, HasNoValue, HoldsAmong, Holds}
use Rattle.educe_attrs_values.proofs.ByRule.{ok_one, err_one, ok_no_err, plain_is, plain_back, found_is, found_back, Explains, carried_standing, carried_closed, standing_explained, plain_explained}
use Rattle.educe_attrs_values.proofs.Integers.{integer_is, integer_read}
use Rattle.educe_attrs_values.proofs.OneWord.{truth_is, truth_read, truth_none, no_truth, string_no_truth, string_no_star, star_is, star_read, star_no_truth, star_none}

wrong_ok : {A : Type 0} (o : Option A) (x : A) → or_wrong o ≡ Ok x → o ≡ Some x
wrong_ok (Some y) x h = ap Some (ok_one h)
wrong_ok None x h = absurd (cc)

wrong_err : {A : Type 0} (k : ValueKind) (s : Source) → opens_strings k ≡ false → (o : Option A) (f : Fault) → or_wrong o ≡ Err f → Explains k s f
wrong_err k s closed (Some x) f h = absurd (cc)
wrong_err k s closed None f h = subst (Explains k s) (err_one h) (Explains.wrong (carried_closed k s closed))

map_ok_is : {A B E : Type 0} (f : A → B) (r : Result A E) (y : B) → map_ok f r ≡ Ok y → (x : A) × (r ≡ Ok x) × (f x ≡ y)
map_ok_is f (Ok x) y h = (x, refl, ok_one h)
map_ok_is f (Err e) y h = absurd (cc)

map_ok_err : {A B E : Type 0} (f : A → B) (r : Result A E) (e : E) → map_ok f r ≡ Err e → r ≡ Err e
map_ok_err f (Ok x) e h = absurd (cc)
map_ok_err f (Err d) e h = ap Err (err_one h)

-- ---- names

empty_is : (o : Option (List ℕ)) → is_empty_text o ≡ true → o ≡ Some []
empty_is None h = absurd (cc)
empty_is (Some []) h = refl
empty_is (Some (c ∷ cs)) h = absurd (cc)

not_empty : (o : Option (List ℕ)) → ¬ (o ≡ Some []) → is_empty_text o ≡ false
not_empty None h = refl
not_empty (Some []) h = absurd (h refl)
not_empty (Some (c ∷ cs)) h = refl

empty_no : (o : Option (List ℕ)) → is_empty_text o ≡ false → ¬ (o ≡ Some [])
empty_no o h is = false≢true (sym h ∙ ap is_empty_text is)

module _ (tokens : List Token) where
  -- the name, where the text is empty or not
  abbrev named_if : Bool → Result IdentOrBool Fault
  named_if b = if b then Ok (choice.Bool false) else named tokens

  name_if : truth_in tokens ≡ None → (b : Bool) → is_empty_text (only_text tokens) ≡ b → (v : IdentOrBool) → named_if b ≡ Ok v → IsName tokens v
  name_if none true is v h = subst (IsName tokens) (ok_one h) (IsName.empty (empty_is (only_text tokens) is))
  name_if none false is v h =
      let m = map_ok_is choice.Ident (plain lawful_name tokens) v h in
      subst (IsName tokens) m.2 (IsName.ident m.0 (no_truth tokens none) (empty_no (only_text tokens) is) (plain_is lawful_name tokens m.0 m.1))

  name_by : (o : Option Bool) → truth_in tokens ≡ o → (v : IdentOrBool) → name_or o tokens ≡ Ok v → IsName tokens v
  name_by (Some b) is v h = subst (IsName tokens) (ok_one h) (IsName.truth b (truth_is tokens b is))
  name_by None is v h = name_if is (is_empty_text (only_text tokens)) refl v h

  -- what is read is the name or truth value
  name_is : (v : IdentOrBool) → name_in tokens ≡ Ok v → IsName tokens v
  name_is v h = name_by (truth_in tokens) refl v h

  -- the name or truth value is read
  name_back : (v : IdentOrBool) → IsName tokens v → name_in tokens ≡ Ok v
  name_back _ (IsName.truth b is) = ap (λ o. name_or o tokens) (truth_read tokens b is)
  name_back _ (IsName.empty is) = ap (λ o. name_or o tokens) (string_no_truth tokens [] is) ∙ ap named_if (ap is_empty_text is)
  name_back _ (IsName.ident x no_truth not_empty_is is) =
      ap (λ o. name_or o tokens) (truth_none tokens no_truth)
      ∙ (ap named_if (not_empty (only_text tokens) not_empty_is) ∙ ap (map_ok choice.Ident) (plain_back lawful_name tokens x is))

module _ (k : ValueKind) (s : Source) (opens : IsTrue (opens_strings k)) where
  name_err_if : (b : Bool) (f : Fault) → named_if s.tokens b ≡ Err f → Explains k s f
  name_err_if true f h = absurd (cc)
  name_err_if false f h = plain_explained k s lawful_name opens f (map_ok_err choice.Ident (plain lawful_name s.tokens) f h)

  name_err : (o : Option Bool) (f : Fault) → name_or o s.tokens ≡ Err f → Explains k s f
  name_err (Some b) f h = absurd (cc)
  name_err None f h = name_err_if (is_empty_text (only_text s.tokens)) f h

-- ---- bounds

-- a text is there where the test says so
no_text : (o : Option (List ℕ)) (enclosed : Bool) → (enclosed || is_some o) ≡ false → o ≡ None
no_text None enclosed h = refl
no_text (Some text) true h = absurd (cc)
no_text (Some text) false h = absurd (cc)

no_text_enclosed : (o : Option (List ℕ)) (enclosed : Bool) → (enclosed || is_some o) ≡ true → o ≡ None → enclosed ≡ true
no_text_enclosed o true h none = refl
no_text_enclosed o false h none = absurd (false≢true (sym (ap is_some none) ∙ h))

text_enclosed : (o : Option (List ℕ)) (text : List ℕ) (enclosed : Bool) → o ≡ Some text → (enclosed || is_some o) ≡ true
text_enclosed o text true is = refl
text_enclosed o text false is = ap is_some is

star_outside : (enclosed star : Bool) → enclosed ≡ true → (enclosed && star) ≡ false → star ≡ false
star_outside true star is h = h
star_outside false star is h = absurd (cc)

and_none : (enclosed star : Bool) → star ≡ false → (enclosed && star) ≡ false
and_none true star is = is
and_none false star is = refl

module _ (s : Source) where
  -- the predicates, where they may stand there or not
  abbrev bounded_if : Bool → Result WherePredicatesOrBool Fault
  bounded_if b = if b then bounded s.tokens else Err fault.Wrong

  abbrev starred_if : Bool → Result WherePredicatesOrBool Fault
  starred_if b = if b then Ok bound.All else bounded_if (may_be_predicates s)

  abbrev star : Bool
  star = s.enclosed && is_star s.tokens

  found_if : truth_in s.tokens ≡ None → star ≡ false → may_be_predicates s ≡ true → (o : Option (List ℕ)) → only_text s.tokens ≡ o → (found : List WherePredicate)
      → ReadsBy predicates o s.tokens found → IsBound s (bound.WherePredicates found)
  found_if none no_star may (Some text) is found h = IsBound.quoted text found is h
  found_if none no_star may None is found h =
      let enclosed = no_text_enclosed (only_text s.tokens) s.enclosed may is in
      IsBound.standing found enclosed (no_truth s.tokens none) (λ st. false≢true (sym (star_outside s.enclosed (is_star s.tokens) enclosed no_star) ∙ star_read s.tokens st)) is h

  bounded_by : truth_in s.tokens ≡ None → star ≡ false → (b : Bool) → may_be_predicates s ≡ b → (v : WherePredicatesOrBool) → bounded_if b ≡ Ok v → IsBound s v
  bounded_by none no_star true may v h =
      let m = map_ok_is bound.WherePredicates (plain lawful_predicates s.tokens) v h in
      subst (IsBound s) m.2 (found_if none no_star may (only_text s.tokens) refl m.0 (plain_is lawful_predicates s.tokens m.0 m.1))
  bounded_by none no_star false may v h = absurd (cc)

  starred_by : truth_in s.tokens ≡ None → (b : Bool) → star ≡ b → (v : WherePredicatesOrBool) → starred_if b ≡ Ok v → IsBound s v
  starred_by none true is v h =
      let parts = and_parts s.enclosed (is_star s.tokens) is in
      subst (IsBound s) (ok_one h) (IsBound.all parts.0 (star_is s.tokens parts.1))
  starred_by none false is v h = bounded_by none is (may_be_predicates s) refl v h

  bound_by : (o : Option Bool) → truth_in s.tokens ≡ o → (v : WherePredicatesOrBool) → bound_or o s ≡ Ok v → IsBound s v
  bound_by (Some b) is v h = subst (IsBound s) (ok_one h) (IsBound.truth b (truth_is s.tokens b is))
  bound_by None is v h = starred_by is star refl v h

  -- what is read is the bound
  bound_is : (v : WherePredicatesOrBool) → bound_in s ≡ Ok v → IsBound s v
  bound_is v h = bound_by (truth_in s.tokens) refl v h

  -- predicates are read
  bounded_back : truth_in s.tokens ≡ None → is_star s.tokens ≡ false → may_be_predicates s ≡ true → (o : Option (List ℕ)) → only_text s.tokens ≡ o → (found : List WherePredicate)
      → ReadsBy predicates o s.tokens found → bound_in s ≡ Ok (bound.WherePredicates found)
  bounded_back none no_star may o is found h =
      let reads : ReadsPlain predicates s.tokens found = subst (λ o. ReadsBy predicates o s.tokens found) (sym is) h in
      ap (λ o. bound_or o s) none
      ∙ (ap starred_if (and_none s.enclosed (is_star s.tokens) no_star) ∙ (ap bounded_if may ∙ ap (map_ok bound.WherePredicates) (plain_back lawful_predicates s.tokens found reads)))

  -- the bound is read
  bound_back : (v : WherePredicatesOrBool) → IsBound s v → bound_in s ≡ Ok v
  bound_back _ (IsBound.truth b is) = ap (λ o. bound_or o s) (truth_read s.tokens b is)
  bound_back _ (IsBound.all enclosed st) =
      ap (λ o. bound_or o s) (star_no_truth s.tokens st) ∙ ap starred_if (and_from s.enclosed (is_star s.tokens) enclosed (star_read s.tokens st))
  bound_back _ (IsBound.quoted text found is reads) =
      bounded_back (string_no_truth s.tokens text is) (string_no_star s.tokens text is) (text_enclosed (only_text s.tokens) text s.enclosed is) (Some text) is found reads
  bound_back _ (IsBound.standing found enclosed no_truth no_star is reads) =
      bounded_back (truth_none s.tokens no_truth) (star_none s.tokens no_star) (ap (λ b. b || is_some (only_text s.tokens)) enclosed) None is found reads

  bounded_err : (b : Bool) → may_be_predicates s ≡ b → (f : Fault) → bounded_if b ≡ Err f → Explains kind.Bound s f
  bounded_err true may f h = plain_explained kind.Bound s lawful_predicates refl f (map_ok_err bound.WherePredicates (plain lawful_predicates s.tokens) f h)
  bounded_err false may f h = subst (Explains kind.Bound s) (err_one h) (Explains.wrong (carried_standing kind.Bound s (no_text (only_text s.tokens) s.enclosed may)))

  starred_err : (b : Bool) (f : Fault) → starred_if b ≡ Err f → Explains kind.Bound s f
  starred_err true f h = absurd (cc)
  starred_err false f h = bounded_err (may_be_predicates s) refl f h

  bound_err : (o : Option Bool) (f : Fault) → bound_or o s ≡ Err f → Explains kind.Bound s f
  bound_err (Some b) f h = absurd (cc)
  bound_err None f h = starred_err star f h

-- ---- each kind

-- what is read is a value
pub reading_is : (k : ValueKind) (s : Source) (v : ValueOf k) → reading k s ≡ Ok v → Reads k s v
reading_is kind.Ident s v h = plain_is lawful_name s.tokens v h
reading_is kind.Name s v h = name_is s.tokens v h
reading_is kind.Truth s v h = truth_is s.tokens v (wrong_ok (truth_in s.tokens) v h)
reading_is kind.Flag s v h = truth_is s.tokens v (wrong_ok (truth_in s.tokens) v h)
reading_is kind.Path s v h = plain_is lawful_path s.tokens v h
reading_is kind.Integer s v h = integer_is s.tokens v (wrong_ok (integer_in s.tokens) v h)
reading_is kind.Expr s v h = found_is lawful_expression (standing s.tokens) v h
reading_is kind.Bound s v h = bound_is s v h

-- a value is read
pub reads_back : (k : ValueKind) (s : Source) (v : ValueOf k) → Reads k s v → reading k s ≡ Ok v
reads_back kind.Ident s v h = plain_back lawful_name s.tokens v h
reads_back kind.Name s v h = name_back s.tokens v h
reads_back kind.Truth s v h = ap or_wrong (truth_read s.tokens v h)
reads_back kind.Flag s v h = ap or_wrong (truth_read s.tokens v h)
reads_back kind.Path s v h = plain_back lawful_path s.tokens v h
reads_back kind.Integer s v h = ap or_wrong (integer_read s.tokens v h)
reads_back kind.Expr s v h = found_back lawful_expression (standing s.tokens) v h
reads_back kind.Bound s v h = bound_back s v h

-- a fault is explained
reading_explained : (k : ValueKind) (s : Source) (f : Fault) → reading k s ≡ Err f → Explains k s f
reading_explained kind.Ident s f h = plain_explained kind.Ident s lawful_name refl f h
reading_explained kind.Name s f h = name_err kind.Name s refl (truth_in s.tokens) f h
reading_explained kind.Truth s f h = wrong_err kind.Truth s refl (truth_in s.tokens) f h
reading_explained kind.Flag s f h = wrong_err kind.Flag s refl (truth_in s.tokens) f h
reading_explained kind.Path s f h = plain_explained kind.Path s lawful_path refl f h
reading_explained kind.Integer s f h = wrong_err kind.Integer s refl (integer_in s.tokens) f h
reading_explained kind.Expr s f h = standing_explained kind.Expr s lawful_expression (carried_closed kind.Expr s refl) f h
reading_explained kind.Bound s f h = bound_err s (truth_in s.tokens) f h

-- what has a fault is no value
no_value : (k : ValueKind) (s : Source) (f : Fault) → reading k s ≡ Err f → HasNoValue k s
no_value k s f h v is = ok_no_err (reading k s) v f (reads_back k s v is) h

-- ---- all kinds

module _ (k : ValueKind) (path : MetaPath) where
  missing_ok : (o : Option (ValueOf k)) (v : ValueOf k) → or_missing k path o ≡ Ok v → o ≡ Some v
  missing_ok (Some x) v h = ap Some (ok_one h)
  missing_ok None v h = absurd (cc)

  refused_ok : (place : Span) (r : Result (ValueOf k) Fault) (v : ValueOf k) → or_refused k path place r ≡ Ok v → r ≡ Ok v
  refused_ok place (Ok x) v h = ap Ok (ok_one h)
  refused_ok place (Err fault.Wrong) v h = absurd (cc)
  refused_ok place (Err (fault.TooDeep deep)) v h = absurd (cc)
  refused_ok place (Err fault.TooDeepText) v h = absurd (cc)
  refused_ok place (Err (fault.NotCarried words)) v h = absurd (cc)
  refused_ok place (Err fault.Memory) v h = absurd (cc)

  among_holds : (place : Span) (among : Option Source) (v : ValueOf k) → value_among k path place among ≡ Ok v → HoldsAmong k among v
  among_holds place None v h = missing_ok (bare k) v h
  among_holds place (Some s) v h = reading_is k s v (refused_ok place (reading k s) v h)

  among_back : (place : Span) (among : Option Source) (v : ValueOf k) → HoldsAmong k among v → value_among k path place among ≡ Ok v
  among_back place None v h = ap (or_missing k path) h
  among_back place (Some s) v h = ap (or_refused k path place) (reads_back k s v h)

  -- what is read is what the parameter says
  pub value_holds : (meta : Meta) (v : ValueOf k) → value_of k path meta ≡ Ok v → Holds k meta v
  value_holds meta v h = among_holds (value_place meta) (value_source meta) v h

  -- what it says is read
  pub value_back : (meta : Meta) (v : ValueOf k) → Holds k meta v → value_of k path meta ≡ Ok v
  value_back meta v h = among_back (value_place meta) (value_source meta) v h

  module _ (meta : Meta) where
    -- why the reading stops: a cause stands, and it is not out of memory
    abbrev IsStopped : Stop → Type 0
    IsStopped Memory = ⊥
    IsStopped (Refused e) = IsValueCause k path meta e

    missing_err : (o : Option (ValueOf k)) → bare k ≡ o → value_source meta ≡ None → (st : Stop) → or_missing k path o ≡ Err st → IsStopped st
    missing_err (Some x) is none st h = absurd (cc)
    missing_err None is none st h = subst IsStopped (err_one h) (IsValueCause.missing none is)

    explained_err : (s : Source) → value_source meta ≡ Some s → HasNoValue k s → (f : Fault) → Explains k s f → (st : Stop)
        → or_refused {A = ValueOf k} k path (value_place meta) (Err f) ≡ Err st → IsStopped st
    explained_err s some none _ (Explains.wrong carried) st h = subst IsStopped (err_one h) (IsValueCause.wrong s some none carried)
    explained_err s some none _ (Explains.deep_token t deep) st h = subst IsStopped (err_one h) (IsValueCause.too_deep s t some none deep)
    explained_err s some none _ (Explains.deep_text text is deep) st h = subst IsStopped (err_one h) (IsValueCause.deep_text s text some none is deep)
    explained_err s some none _ (Explains.literal text e is uncarried) st h = subst IsStopped (err_one h) (IsValueCause.not_carried s text e some none is uncarried)

    refused_err : (s : Source) → value_source meta ≡ Some s → (r : Result (ValueOf k) Fault) → reading k s ≡ r → (st : Stop) → or_refused k path (value_place meta) r ≡ Err st → IsStopped st
    refused_err s some (Ok x) is st h = absurd (cc)
    refused_err s some (Err f) is st h = explained_err s some (no_value k s f is) f (reading_explained k s f is) st h

    err_by : (among : Option Source) → value_source meta ≡ among → (st : Stop) → value_among k path (value_place meta) among ≡ Err st → IsStopped st
    err_by None is st h = missing_err (bare k) refl is st h
    err_by (Some s) is st h = refused_err s is (reading k s) refl st h

    -- what stops the reading
    value_stopped : (st : Stop) → value_of k path meta ≡ Err st → IsStopped st
    value_stopped st h = err_by (value_source meta) refl st h

    -- a rejection has a cause
    pub value_cause : (e : EduceError) → value_of k path meta ≡ Err (Refused e) → IsValueCause k path meta e
    value_cause e h = value_stopped (Refused e) h

    -- nothing else stops it
    pub value_told : value_of k path meta ≡ Err Memory → ⊥
    value_told h = value_stopped Memory h

    holds_of : (among : Option Source) → value_source meta ≡ among → (v : ValueOf k) → Holds k meta v → HoldsAmong k among v
    holds_of among is v h = subst (λ among. HoldsAmong k among v) is h

    -- with a cause it says nothing
    pub cause_excludes : (e : EduceError) → IsValueCause k path meta e → (v : ValueOf k) → Holds k meta v → ⊥
    cause_excludes _ (IsValueCause.missing none bare_is) v h = let some : None ≡ Some v = sym bare_is ∙ holds_of None none v h in cc
    cause_excludes _ (IsValueCause.wrong s some none_is carried) v h = none_is v (holds_of (Some s) some v h)
    cause_excludes _ (IsValueCause.too_deep s t some none_is deep) v h = none_is v (holds_of (Some s) some v h)
    cause_excludes _ (IsValueCause.deep_text s text some none_is is deep) v h = none_is v (holds_of (Some s) some v h)
    cause_excludes _ (IsValueCause.not_carried s text e some none_is is uncarried) v h = none_is v (holds_of (Some s) some v h)

-- the laws of a kind
pub lawful_kind : (k : ValueKind) → ValueLaws k
lawful_kind k = record { holds = value_holds k; back = value_back k; cause = value_cause k; excludes = cause_excludes k; told = value_told k }
