-- The parameters in a list, one behind the other.
use Rattle.std.proofs.Common.{◌≡◌, List, [], ◌∷◌, ◌++◌, refl, sym, subst, ◌∙◌, ap, Bool, true, false, Option, Some, None, Result, Ok, Err, ◌⊎◌, inl, inr}
use Rattle.std.specs.Prelude.{is_some, if◌then◌else◌, option_and_then}
use Rattle.std.proofs.lemmas.Bool.{false≢true}
use Rattle.educe_tokens.specs.declared.error.EduceError.{EduceError}
use Rattle.educe_tokens.specs.declared.span.Span.{Span}
use Rattle.educe_syntax.specs.Meta.{Meta}
use Rattle.educe_syntax.specs.MetaPath.{MetaPath}
use Rattle.educe_attrs_values.specs.declared.kind.ValueKind.TheVariants as value
use Rattle.educe_attrs_values.specs.declared.stop.Stop.{Stop}
use Rattle.educe_attrs_values.specs.declared.stop.Stop.TheVariants.{Refused}
use Rattle.educe_attrs_values.specs.Causes.{IsValueCause}
use Rattle.educe_attrs_values.specs.Chains.{and_then, map_ok}
use Rattle.educe_attrs_values.specs.Readings.{value_of}
use Rattle.educe_attrs_values.specs.Words.{path_of}
use Rattle.educe_attrs_values.proofs.ValueLaws.{lawful_kind}
use Rattle.educe_attrs_rows.specs.declared.param.Param.{Param}
use Rattle.educe_attrs_rows.specs.declared.param.Param.TheVariants.{Name, NamedField, New, Expression, Ignore, Method, Rank, Reverse, Bound}
use Rattle.educe_attrs_rows.specs.declared.row.NameKind.{NameKind}
use Rattle.educe_attrs_rows.specs.declared.row.NameKind.TheVariants as named
use Rattle.educe_attrs_rows.specs.declared.row.Row.{Row}
use Rattle.educe_attrs_rows.specs.declared.values.Values.{Values}
use Rattle.educe_attrs_rows.specs.Among.{IsAmong}
use Rattle.educe_attrs_rows.specs.Causes.{param_in, Gives, IsGiven, IsReset}
use Rattle.educe_attrs_rows.specs.Program.{add_param, add_named, next_param, read_params}
use Rattle.educe_attrs_rows.specs.Refusals.{incorrect_format, parameter_reset}
use Rattle.educe_attrs_rows.specs.Rows.{param_of}
use Rattle.educe_attrs_rows.specs.Settings.{values_at, bare_values, Given, given, set, has, kind_of, name_kind, name_as, given_as, give, name_by, with_param}
use Rattle.educe_attrs_rows.proofs.Among.{among_none, among_first, among_more, among_cases}
use Rattle.educe_attrs_rows.proofs.Chained.{ok_one, chained, mapped, mapped_err, twice_mapped, mapped_same, refused_one}

-- ---- what is set

set_same : (p : Param) (x : Given p) (v : Values) → given p (set p x v) ≡ Some x
set_same Name x v = refl
set_same NamedField x v = refl
set_same New x v = refl
set_same Expression x v = refl
set_same Ignore x v = refl
set_same Method x v = refl
set_same Rank x v = refl
set_same Reverse x v = refl
set_same Bound x v = refl

-- another parameter keeps its value
set_other : (p q : Param) (x : Given p) (v : Values) → (p ≡ q) ⊎ (given q (set p x v) ≡ given q v)
set_other Name Name x v = inl refl
set_other Name NamedField x v = inr refl
set_other Name New x v = inr refl
set_other Name Expression x v = inr refl
set_other Name Ignore x v = inr refl
set_other Name Method x v = inr refl
set_other Name Rank x v = inr refl
set_other Name Reverse x v = inr refl
set_other Name Bound x v = inr refl
set_other NamedField Name x v = inr refl
set_other NamedField NamedField x v = inl refl
set_other NamedField New x v = inr refl
set_other NamedField Expression x v = inr refl
set_other NamedField Ignore x v = inr refl
set_other NamedField Method x v = inr refl
set_other NamedField Rank x v = inr refl
set_other NamedField Reverse x v = inr refl
set_other NamedField Bound x v = inr refl
set_other New Name x v = inr refl
set_other New NamedField x v = inr refl
set_other New New x v = inl refl
set_other New Expression x v = inr refl
set_other New Ignore x v = inr refl
set_other New Method x v = inr refl
set_other New Rank x v = inr refl
set_other New Reverse x v = inr refl
set_other New Bound x v = inr refl
set_other Expression Name x v = inr refl
set_other Expression NamedField x v = inr refl
set_other Expression New x v = inr refl
set_other Expression Expression x v = inl refl
set_other Expression Ignore x v = inr refl
set_other Expression Method x v = inr refl
set_other Expression Rank x v = inr refl
set_other Expression Reverse x v = inr refl
set_other Expression Bound x v = inr refl
set_other Ignore Name x v = inr refl
set_other Ignore NamedField x v = inr refl
set_other Ignore New x v = inr refl
set_other Ignore Expression x v = inr refl
set_other Ignore Ignore x v = inl refl
set_other Ignore Method x v = inr refl
set_other Ignore Rank x v = inr refl
set_other Ignore Reverse x v = inr refl
set_other Ignore Bound x v = inr refl
set_other Method Name x v = inr refl
set_other Method NamedField x v = inr refl
set_other Method New x v = inr refl
set_other Method Expression x v = inr refl
set_other Method Ignore x v = inr refl
set_other Method Method x v = inl refl
set_other Method Rank x v = inr refl
set_other Method Reverse x v = inr refl
set_other Method Bound x v = inr refl
set_other Rank Name x v = inr refl
set_other Rank NamedField x v = inr refl
set_other Rank New x v = inr refl
set_other Rank Expression x v = inr refl
set_other Rank Ignore x v = inr refl
set_other Rank Method x v = inr refl
set_other Rank Rank x v = inl refl
set_other Rank Reverse x v = inr refl
set_other Rank Bound x v = inr refl
set_other Reverse Name x v = inr refl
set_other Reverse NamedField x v = inr refl
set_other Reverse New x v = inr refl
set_other Reverse Expression x v = inr refl
set_other Reverse Ignore x v = inr refl
set_other Reverse Method x v = inr refl
set_other Reverse Rank x v = inr refl
set_other Reverse Reverse x v = inl refl
set_other Reverse Bound x v = inr refl
set_other Bound Name x v = inr refl
set_other Bound NamedField x v = inr refl
set_other Bound New x v = inr refl
set_other Bound Expression x v = inr refl
set_other Bound Ignore x v = inr refl
set_other Bound Method x v = inr refl
set_other Bound Rank x v = inr refl
set_other Bound Reverse x v = inr refl
set_other Bound Bound x v = inl refl

-- whether the list is empty, and the place of the whole, stay
set_flag : (p : Param) (x : Given p) (v : Values) → (set p x v).flag ≡ v.flag
set_flag Name x v = refl
set_flag NamedField x v = refl
set_flag New x v = refl
set_flag Expression x v = refl
set_flag Ignore x v = refl
set_flag Method x v = refl
set_flag Rank x v = refl
set_flag Reverse x v = refl
set_flag Bound x v = refl

set_span : (p : Param) (x : Given p) (v : Values) → (set p x v).span ≡ v.span
set_span Name x v = refl
set_span NamedField x v = refl
set_span New x v = refl
set_span Expression x v = refl
set_span Ignore x v = refl
set_span Method x v = refl
set_span Rank x v = refl
set_span Reverse x v = refl
set_span Bound x v = refl

-- no parameter has a value yet
pub none_has : (place : Span) (p : Param) → has p (values_at place) ≡ false
none_has place Name = refl
none_has place NamedField = refl
none_has place New = refl
none_has place Expression = refl
none_has place Ignore = refl
none_has place Method = refl
none_has place Rank = refl
none_has place Reverse = refl
none_has place Bound = refl

pub none_given : (place : Span) (p : Param) → given p (values_at place) ≡ None
none_given place Name = refl
none_given place NamedField = refl
none_given place New = refl
none_given place Expression = refl
none_given place Ignore = refl
none_given place Method = refl
none_given place Rank = refl
none_given place Reverse = refl
none_given place Bound = refl

pub bare_given : (place : Span) (p : Param) → given p (bare_values place) ≡ None
bare_given place Name = refl
bare_given place NamedField = refl
bare_given place New = refl
bare_given place Expression = refl
bare_given place Ignore = refl
bare_given place Method = refl
bare_given place Rank = refl
bare_given place Reverse = refl
bare_given place Bound = refl

-- ---- the value of a parameter

name_is : (kind : Option NameKind) (path : MetaPath) (m : Meta) → name_by kind path m ≡ map_ok (name_as kind) (value_of (name_kind kind) path m)
name_is None path m = sym (mapped_same (value_of value.Name path m))
name_is (Some named.Ident) path m = refl
name_is (Some (named.Name b)) path m = sym (mapped_same (value_of value.Name path m))

module _ (row : Row) where
  -- what a meta gives, it says
  give_gives : (p : Param) (path : MetaPath) (m : Meta) (x : Given p) → give row p path m ≡ Ok x → Gives row p m x
  give_gives p path m x h =
      let r = mapped (given_as row p m) (value_of (kind_of row p) path m) x h in
      record { value = r.0; holds = (lawful_kind (kind_of row p)).holds path m r.0 r.1; is = sym r.2 }

  -- it is rejected for the value
  give_cause : (p : Param) (path : MetaPath) (m : Meta) (e : EduceError) → give row p path m ≡ Err (Refused e) → IsValueCause (kind_of row p) path m e
  give_cause p path m e h = (lawful_kind (kind_of row p)).cause path m e (mapped_err (given_as row p m) (value_of (kind_of row p) path m) (Refused e) h)

  -- a meta that is rejected for its value gives nothing
  cause_gives : (p : Param) (path : MetaPath) (m : Meta) (e : EduceError) → IsValueCause (kind_of row p) path m e → (x : Given p) → Gives row p m x → ⊥
  cause_gives p path m e cause x gives = (lawful_kind (kind_of row p)).excludes path m e cause gives.value gives.holds

  -- the values with what one more parameter gives
  with_is : (p : Param) (path : MetaPath) (m : Meta) (v : Values) → with_param row p path m v ≡ map_ok (λ x. set p x v) (give row p path m)
  with_is Name path m v = ap (map_ok (λ x. set Name x v)) (name_is row.name path m)
  with_is NamedField path m v = twice_mapped (given_as row NamedField m) (λ x. set NamedField x v) (value_of value.Truth path m)
  with_is New path m v = twice_mapped (given_as row New m) (λ x. set New x v) (value_of value.Flag path m)
  with_is Expression path m v = twice_mapped (given_as row Expression m) (λ x. set Expression x v) (value_of value.Expr path m)
  with_is Ignore path m v = twice_mapped (given_as row Ignore m) (λ x. set Ignore x v) (value_of value.Flag path m)
  with_is Method path m v = twice_mapped (given_as row Method m) (λ x. set Method x v) (value_of value.Path path m)
  with_is Rank path m v = refl
  with_is Reverse path m v = twice_mapped (given_as row Reverse m) (λ x. set Reverse x v) (value_of value.Flag path m)
  with_is Bound path m v = twice_mapped (given_as row Bound m) (λ x. set Bound x v) (value_of value.Bound path m)

-- ---- one more meta

module _ (row : Row) (name : MetaPath) where
  -- the meta adds a parameter that did not stand there
  pub record Added (m : Meta) (v w : Values) : Type 0 where
    pub path : MetaPath
    pub param : Param
    pub path_is : path_of m ≡ Some path
    pub param_is : param_of row path ≡ Some param
    pub absent : has param v ≡ false
    pub value : Given param
    pub gives : Gives row param m value
    pub new_is : w ≡ set param value v

  with_ok : (m : Meta) (v w : Values) (path : MetaPath) → path_of m ≡ Some path → (p : Param) → param_of row path ≡ Some p → (b : Bool) → has p v ≡ b
      → (if b then Err (Refused (parameter_reset path)) else with_param row p path m v) ≡ Ok w → Added m v w
  with_ok m v w path path_is p param_is true stands h = absurd (cc)
  with_ok m v w path path_is p param_is false stands h =
      let r = mapped (λ x. set p x v) (give row p path m) w (sym (with_is row p path m v) ∙ h) in
      record { path = path; param = p; path_is = path_is; param_is = param_is; absent = stands; value = r.0; gives = give_gives row p path m r.0 r.1; new_is = sym r.2 }

  param_ok : (m : Meta) (v w : Values) (path : MetaPath) → path_of m ≡ Some path → (o : Option Param) → param_of row path ≡ o → add_param row name path m v o ≡ Ok w → Added m v w
  param_ok m v w path path_is None is h = absurd (cc)
  param_ok m v w path path_is (Some p) is h = with_ok m v w path path_is p is (has p v) refl h

  named_ok : (m : Meta) (v w : Values) (o : Option MetaPath) → path_of m ≡ o → add_named row name m v o ≡ Ok w → Added m v w
  named_ok m v w None is h = absurd (cc)
  named_ok m v w (Some path) is h = param_ok m v w path is (param_of row path) refl h

  pub next_ok : (m : Meta) (v w : Values) → next_param row name m v ≡ Ok w → Added m v w
  next_ok m v w h = named_ok m v w (path_of m) refl h

  -- the parameter that it is
  added_in : (m : Meta) (v w : Values) (a : Added m v w) → param_in row m ≡ Some a.param
  added_in m v w a = ap (option_and_then (param_of row)) a.path_is ∙ a.param_is

  -- it stands there then
  added_has : (m : Meta) (v w : Values) (a : Added m v w) → given a.param w ≡ Some a.value
  added_has m v w a = ap (given a.param) a.new_is ∙ set_same a.param a.value v

  -- each parameter that has a value keeps one
  added_keeps : (m : Meta) (v w : Values) → Added m v w → (p : Param) → has p v ≡ true → has p w ≡ true
  added_keeps m v w a p h = elim (set_other a.param p a.value v) [
    | inl same ↦ subst (λ q. has q w ≡ true) same (ap is_some (added_has m v w a))
    | inr other ↦ ap (has p) a.new_is ∙ (ap is_some other ∙ h)
  ]

  pub data StepCause (m : Meta) (v : Values) : EduceError → Type 0 where
    unknown : param_in row m ≡ None → StepCause m v (incorrect_format row name)
    again : (path : MetaPath) (p : Param) → path_of m ≡ Some path → param_of row path ≡ Some p → has p v ≡ true → StepCause m v (parameter_reset path)
    bad_value : {e : EduceError} (path : MetaPath) (p : Param) → path_of m ≡ Some path → param_of row path ≡ Some p → IsValueCause (kind_of row p) path m e → StepCause m v e

  with_err : (m : Meta) (v : Values) (e : EduceError) (path : MetaPath) → path_of m ≡ Some path → (p : Param) → param_of row path ≡ Some p → (b : Bool) → has p v ≡ b
      → (if b then Err (Refused (parameter_reset path)) else with_param row p path m v) ≡ Err (Refused e) → StepCause m v e
  with_err m v e path path_is p param_is true stands h = subst (StepCause m v) (refused_one h) (StepCause.again path p path_is param_is stands)
  with_err m v e path path_is p param_is false stands h =
      StepCause.bad_value path p path_is param_is (give_cause row p path m e (mapped_err (λ x. set p x v) (give row p path m) (Refused e) (sym (with_is row p path m v) ∙ h)))

  param_err : (m : Meta) (v : Values) (e : EduceError) (path : MetaPath) → path_of m ≡ Some path → (o : Option Param) → param_of row path ≡ o → add_param row name path m v o ≡ Err (Refused e) → StepCause m v e
  param_err m v e path path_is None is h = subst (StepCause m v) (refused_one h) (StepCause.unknown (ap (option_and_then (param_of row)) path_is ∙ is))
  param_err m v e path path_is (Some p) is h = with_err m v e path path_is p is (has p v) refl h

  named_err : (m : Meta) (v : Values) (e : EduceError) (o : Option MetaPath) → path_of m ≡ o → add_named row name m v o ≡ Err (Refused e) → StepCause m v e
  named_err m v e None is h = subst (StepCause m v) (refused_one h) (StepCause.unknown (ap (option_and_then (param_of row)) is))
  named_err m v e (Some path) is h = param_err m v e path is (param_of row path) refl h

  next_err : (m : Meta) (v : Values) (e : EduceError) → next_param row name m v ≡ Err (Refused e) → StepCause m v e
  next_err m v e h = named_err m v e (path_of m) refl h

  -- ---- a list that is read

  pub record Passes (front : List Meta) (m : Meta) (back : List Meta) (v w : Values) : Type 0 where
    pub before : Values
    pub behind : Values
    pub front_read : read_params row name front v ≡ Ok before
    pub added : Added m before behind
    pub back_read : read_params row name back behind ≡ Ok w

  passes : (front : List Meta) (m : Meta) (back : List Meta) (v w : Values) → read_params row name (front ++ m ∷ back) v ≡ Ok w → Passes front m back v w
  passes [] m back v w h =
      let r = chained (read_params row name back) (next_param row name m v) w h in
      record { before = v; behind = r.0; front_read = refl; added = next_ok m v r.0 r.1; back_read = r.2 }
  passes (f ∷ front) m back v w h =
      let r = chained (read_params row name (front ++ m ∷ back)) (next_param row name f v) w h in
      let more = passes front m back r.0 w r.2 in
      record {
        before = more.before;
        behind = more.behind;
        front_read = ap (and_then (read_params row name front)) r.1 ∙ more.front_read;
        added = more.added;
        back_read = more.back_read;
      }

  -- a meta that is among those of the list passes
  pub passes_among : (m : Meta) (ms : List Meta) (v w : Values) (a : IsAmong m ms) → read_params row name ms v ≡ Ok w → Passes a.front m a.back v w
  passes_among m ms v w a h = passes a.front m a.back v w (subst (λ ms. read_params row name ms v ≡ Ok w) a.is h)

  -- what stood there stands there
  keeps : (ms : List Meta) (v w : Values) → read_params row name ms v ≡ Ok w → (p : Param) → has p v ≡ true → has p w ≡ true
  keeps [] v w h p stands = subst (λ w. has p w ≡ true) (ok_one h) stands
  keeps (m ∷ ms) v w h p stands =
      let r = chained (read_params row name ms) (next_param row name m v) w h in
      keeps ms r.0 w r.2 p (added_keeps m v r.0 (next_ok m v r.0 r.1) p stands)

  -- whether the list is empty, and the place of the whole, stay
  pub stay : (ms : List Meta) (v w : Values) → read_params row name ms v ≡ Ok w → (w.flag ≡ v.flag) × (w.span ≡ v.span)
  stay [] v w h = (ap (λ (u : Values). u.flag) (sym (ok_one h)), ap (λ (u : Values). u.span) (sym (ok_one h)))
  stay (m ∷ ms) v w h =
      let r = chained (read_params row name ms) (next_param row name m v) w h in
      let a = next_ok m v r.0 r.1 in
      let more = stay ms r.0 w r.2 in (
        more.0 ∙ (ap (λ (u : Values). u.flag) a.new_is ∙ set_flag a.param a.value v),
        more.1 ∙ (ap (λ (u : Values). u.span) a.new_is ∙ set_span a.param a.value v),
      )

  -- a meta that passes is this parameter
  same_param : (p q : Param) (o : Option Param) → o ≡ Some p → o ≡ Some q → p ≡ q
  same_param p q o h k = let same : Some p ≡ Some q = sym h ∙ k in cc

  -- no parameter stands there twice
  pub no_reset : (ms : List Meta) (v w : Values) → read_params row name ms v ≡ Ok w → (m : Meta) (p : Param) → IsReset row ms m p → ⊥
  no_reset ms v w h m p reset =
      let later = passes (reset.front ++ reset.earlier ∷ reset.between) m reset.rest v w (subst (λ ms. read_params row name ms v ≡ Ok w) reset.is h) in
      let earlier = passes reset.front reset.earlier reset.between v later.before later.front_read in
      let earlier_is : earlier.added.param ≡ p = same_param _ _ _ (added_in reset.earlier earlier.before earlier.behind earlier.added) reset.earlier_is in
      let later_is : later.added.param ≡ p = same_param _ _ _ (added_in m later.before later.behind later.added) reset.later_is in
      let stands : has earlier.added.param earlier.behind ≡ true = ap is_some (added_has reset.earlier earlier.before earlier.behind earlier.added) in
      let kept : has p later.before ≡ true = keeps reset.between earlier.behind later.before earlier.back_read p (subst (λ q. has q earlier.behind ≡ true) earlier_is stands) in
      false≢true (sym (subst (λ q. has q later.before ≡ false) later_is later.added.absent) ∙ kept)

  -- each is a parameter of the row
  pub all_known : (ms : List Meta) (v w : Values) → read_params row name ms v ≡ Ok w → (m : Meta) → IsAmong m ms → param_in row m ≡ None → ⊥
  all_known ms v w h m a none =
      let p = passes_among m ms v w a h in
      let some : Some p.added.param ≡ None = sym (added_in m p.before p.behind p.added) ∙ none in cc

  -- none has a cause
  pub no_cause : (ms : List Meta) (v w : Values) → read_params row name ms v ≡ Ok w → (m : Meta) (path : MetaPath) (p : Param) (e : EduceError) → IsAmong m ms
      → path_of m ≡ Some path → param_of row path ≡ Some p → IsValueCause (kind_of row p) path m e → ⊥
  no_cause ms v w h m path p e a path_is param_is cause =
      let here = passes_among m ms v w a h in
      let same : here.added.param ≡ p = same_param _ _ _ (added_in m here.before here.behind here.added) (ap (option_and_then (param_of row)) path_is ∙ param_is) in
      let cause_here : IsValueCause (kind_of row here.added.param) path m e = subst (λ q. IsValueCause (kind_of row q) path m e) (sym same) cause in
      cause_gives row here.added.param path m e cause_here here.added.value here.added.gives

  -- ---- what it gives

  -- the parameter is what it was, and no meta is it; or it is what one of them gives
  abbrev Came : (p : Param) → List Meta → Values → Values → Type 0
  Came p ms v w =
      ((given p w ≡ given p v) × ((m : Meta) → IsAmong m ms → param_in row m ≡ Some p → ⊥))
      ⊎ ((x : Given p) × (given p w ≡ Some x) × (m : Meta) × IsAmong m ms × (param_in row m ≡ Some p) × Gives row p m x)

  came_more : (p : Param) (m : Meta) (ms : List Meta) (v u w : Values) → Added m v u → Came p ms u w → Came p (m ∷ ms) v w
  came_more p m ms v u w a (inr found) = inr (found.0, found.1, found.2, among_more m found.2 ms found.3, found.4, found.5)
  came_more p m ms v u w a (inl kept) = elim (set_other a.param p a.value v) [
    | inl same ↦ (
        let At : Param → Type 0 = λ q. (x : Given q) × (given q u ≡ Some x) × (param_in row m ≡ Some q) × Gives row q m x in
        let here : At p = subst At same (a.value, added_has m v u a, added_in m v u a, a.gives) in
        inr (here.0, kept.0 ∙ here.1, m, among_first m ms, here.2, here.3)
        )
    | inr other ↦ (
        let was : given p u ≡ given p v = ap (given p) a.new_is ∙ other in
        inl (
          kept.0 ∙ was,
          λ n among is. elim (among_cases n m ms among) [
            | inl same ↦ (
                let is_here : param_in row m ≡ Some p = subst (λ n. param_in row n ≡ Some p) (sym same) is in
                let p_is : a.param ≡ p = same_param _ _ _ (added_in m v u a) is_here in
                let now : has p u ≡ true = subst (λ q. has q u ≡ true) p_is (ap is_some (added_has m v u a)) in
                let before : has p v ≡ false = subst (λ q. has q v ≡ false) p_is a.absent in
                false≢true (sym before ∙ (ap is_some (sym was) ∙ now))
                )
            | inr later ↦ kept.1 n later is
          ],
        )
        )
  ]

  came : (p : Param) (ms : List Meta) (v w : Values) → read_params row name ms v ≡ Ok w → Came p ms v w
  came p [] v w h = inl (ap (given p) (sym (ok_one h)), λ m a is. among_none m a)
  came p (m ∷ ms) v w h =
      let r = chained (read_params row name ms) (next_param row name m v) w h in
      came_more p m ms v r.0 w (next_ok m v r.0 r.1) (came p ms r.0 w r.2)

  -- each parameter of the values is what one of the metas gives
  pub all_given : (ms : List Meta) (v w : Values) → read_params row name ms v ≡ Ok w → (p : Param) → given p v ≡ None → IsGiven row p ms (given p w)
  all_given ms v w h p absent = elim (came p ms v w h) [
    | inl none ↦ subst (IsGiven row p ms) (sym (none.0 ∙ absent)) none.1
    | inr found ↦ subst (IsGiven row p ms) (sym found.1) (found.2, found.3, found.4, found.5)
  ]

  -- ---- why a list is rejected

  pub data ListCause (ms : List Meta) (v : Values) : EduceError → Type 0 where
    unknown : (m : Meta) → IsAmong m ms → param_in row m ≡ None → ListCause ms v (incorrect_format row name)
    bad_value : {e : EduceError} (m : Meta) (path : MetaPath) (p : Param) → IsAmong m ms → path_of m ≡ Some path → param_of row path ≡ Some p → IsValueCause (kind_of row p) path m e → ListCause ms v e
    again : (m : Meta) (path : MetaPath) (p : Param) → IsReset row ms m p → path_of m ≡ Some path → param_of row path ≡ Some p → ListCause ms v (parameter_reset path)
    against : (m : Meta) (path : MetaPath) (p : Param) (front rest : List Meta) → ms ≡ front ++ m ∷ rest → path_of m ≡ Some path → param_of row path ≡ Some p → has p v ≡ true
        → ListCause ms v (parameter_reset path)

  list_here : (m : Meta) (ms : List Meta) (v : Values) (e : EduceError) → StepCause m v e → ListCause (m ∷ ms) v e
  list_here m ms v e (StepCause.unknown none) = ListCause.unknown m (among_first m ms) none
  list_here m ms v e (StepCause.again path p path_is param_is stands) = ListCause.against m path p [] ms refl path_is param_is stands
  list_here m ms v e (StepCause.bad_value path p path_is param_is cause) = ListCause.bad_value m path p (among_first m ms) path_is param_is cause

  list_later : (f : Meta) (ms : List Meta) (v u : Values) → Added f v u → (e : EduceError) → ListCause ms u e → ListCause (f ∷ ms) v e
  list_later f ms v u a e (ListCause.unknown m among none) = ListCause.unknown m (among_more f m ms among) none
  list_later f ms v u a e (ListCause.bad_value m path p among path_is param_is cause) = ListCause.bad_value m path p (among_more f m ms among) path_is param_is cause
  list_later f ms v u a e (ListCause.again m path p reset path_is param_is) =
      ListCause.again m path p
      (record { front = f ∷ reset.front; earlier = reset.earlier; between = reset.between; rest = reset.rest; is = ap (λ xs. f ∷ xs) reset.is; earlier_is = reset.earlier_is; later_is = reset.later_is })
      path_is param_is
  list_later f ms v u a e (ListCause.against m path p front rest is path_is param_is stands) = elim (set_other a.param p a.value v) [
    | inl same ↦ ListCause.again m path p
        (record { front = []; earlier = f; between = front; rest = rest; is = ap (λ xs. f ∷ xs) is; earlier_is = subst (λ q. param_in row f ≡ Some q) same (added_in f v u a); later_is = ap (option_and_then (param_of row)) path_is ∙ param_is })
        path_is param_is
    | inr other ↦ ListCause.against m path p (f ∷ front) rest (ap (λ xs. f ∷ xs) is) path_is param_is (ap is_some (sym other) ∙ (ap (has p) (sym a.new_is) ∙ stands))
  ]

  params_err_by : (m : Meta) (ms : List Meta) (v : Values) (e : EduceError) (r : Result Values Stop) → next_param row name m v ≡ r → and_then (read_params row name ms) r ≡ Err (Refused e)
      → ((u : Values) → read_params row name ms u ≡ Err (Refused e) → ListCause ms u e) → ListCause (m ∷ ms) v e
  params_err_by m ms v e (Ok u) is h more = list_later m ms v u (next_ok m v u is) e (more u h)
  params_err_by m ms v e (Err s) is h more = list_here m ms v e (next_err m v e (is ∙ h))

  params_err : (ms : List Meta) (v : Values) (e : EduceError) → read_params row name ms v ≡ Err (Refused e) → ListCause ms v e
  params_err [] v e h = absurd (cc)
  params_err (m ∷ ms) v e h = params_err_by m ms v e (next_param row name m v) refl h (λ u k. params_err ms u e k)

  -- a list that is rejected has a cause
  pub list_cause : (ms : List Meta) (v : Values) (e : EduceError) → read_params row name ms v ≡ Err (Refused e) → ListCause ms v e
  list_cause ms v e h = params_err ms v e h
