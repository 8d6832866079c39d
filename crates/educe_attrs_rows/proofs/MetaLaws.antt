-- What an attribute says, and why it is rejected: by the program of a row.
use Rattle.std.proofs.Common.{◌≡◌, List, [], ◌∷◌, ◌++◌, refl, sym, subst, ◌∙◌, ap, Bool, true, false, Option, Some, None, Result, Ok, Err, ◌⊎◌, inl, inr}
use Rattle.std.specs.Prelude.{◌≢◌, if◌then◌else◌}
use Rattle.std.proofs.lemmas.Bool.{false≢true}
use Rattle.educe_tokens.specs.declared.error.EduceError.{EduceError}
use Rattle.educe_tokens.specs.declared.error.Kind.TheVariants.{Alloc}
use Rattle.educe_tokens.specs.declared.span.Span.{Span}
use Rattle.educe_tokens.specs.declared.token.Token.{Token}
use Rattle.educe_tokens.specs.declared.written.Written.{Written}
use Rattle.educe_syntax.specs.Attributes.{metas}
use Rattle.educe_syntax.specs.Expr.{Expr}
use Rattle.educe_syntax.specs.Laws.{lawful_metas}
use Rattle.educe_syntax.specs.Meta.{Meta}
use Rattle.educe_syntax.specs.Meta.TheVariants as said
use Rattle.educe_syntax.specs.MetaPath.{MetaPath}
use Rattle.educe_syntax.specs.Parsed.{IsWhole}
use Rattle.educe_attrs_values.specs.declared.stop.Stop.{Stop}
use Rattle.educe_attrs_values.specs.declared.stop.Stop.TheVariants.{Memory, Refused}
use Rattle.educe_attrs_values.specs.Causes.{IsValueCause}
use Rattle.educe_attrs_values.specs.Chains.{Gives, and_then}
use Rattle.educe_attrs_values.specs.Readings.{value_of}
use Rattle.educe_attrs_values.specs.Refusals.{error_of}
use Rattle.educe_attrs_values.specs.Sources.{inside}
use Rattle.educe_attrs_values.specs.Words.{path_of, meta_place}
use Rattle.educe_attrs_values.proofs.ValueLaws.{lawful_kind}
use Rattle.educe_attrs_rows.specs.declared.param.Param.{Param}
use Rattle.educe_attrs_rows.specs.declared.row.Row.{Row}
use Rattle.educe_attrs_rows.specs.declared.values.Values.{Values}
use Rattle.educe_attrs_rows.specs.Among.{IsAmong}
use Rattle.educe_attrs_rows.specs.Causes.{AreGiven, Lists, Says, HasWrongForm, HasValue, IsListCause, IsMetaCause, IsOwnCause, IsCause, HasNoCause}
use Rattle.educe_attrs_rows.specs.Metas.{metas_in}
use Rattle.educe_attrs_rows.specs.Program.{read_bare, read_word, equals_as, read_equals, read_metas, read_list, placed, read_meta}
use Rattle.educe_attrs_rows.specs.Refusals.{incorrect_place, incorrect_format}
use Rattle.educe_attrs_rows.specs.Rows.{param_of, is_empty}
use Rattle.educe_attrs_rows.specs.Settings.{values_at, bare_values, kind_of, Behind, behind}
use Rattle.educe_attrs_rows.proofs.Among.{among_none}
use Rattle.educe_attrs_rows.proofs.Chained.{ok_one, err_one, chained, mapped, mapped_err, refused_one}
use Rattle.educe_attrs_rows.proofs.Listed.{metas_read, metas_back, metas_refused}
use Rattle.educe_attrs_rows.proofs.ParamLaws.{none_has, none_given, bare_given, all_known, no_reset, all_given, stay, no_cause, ListCause, list_cause}

module _ (row : Row) where
  -- ---- forms

  placed_if : (name : MetaPath) (r : Result Values Stop) (v : Values) (b : Bool) → is_empty row ≡ b → (if b then Err (Refused (incorrect_place name)) else r) ≡ Ok v → (is_empty row ≡ false) × (r ≡ Ok v)
  placed_if name r v true is h = absurd (cc)
  placed_if name r v false is h = (is, h)

  placed_ok : (name : MetaPath) (r : Result Values Stop) (v : Values) → placed row name r ≡ Ok v → (is_empty row ≡ false) × (r ≡ Ok v)
  placed_ok name r v h = placed_if name r v (is_empty row) refl h

  placed_err_if : (name : MetaPath) (r : Result Values Stop) (e : EduceError) (b : Bool) → is_empty row ≡ b → (if b then Err (Refused (incorrect_place name)) else r) ≡ Err (Refused e)
      → ((is_empty row ≡ true) × (incorrect_place name ≡ e)) ⊎ ((is_empty row ≡ false) × (r ≡ Err (Refused e)))
  placed_err_if name r e true is h = inl (is, refused_one h)
  placed_err_if name r e false is h = inr (is, h)

  placed_err : (name : MetaPath) (r : Result Values Stop) (e : EduceError) → placed row name r ≡ Err (Refused e)
      → ((is_empty row ≡ true) × (incorrect_place name ≡ e)) ⊎ ((is_empty row ≡ false) × (r ≡ Err (Refused e)))
  placed_err name r e h = placed_err_if name r e (is_empty row) refl h

  bare_if : (name : MetaPath) (place : Span) (v : Values) (b : Bool) → row.flag ≡ b → (if b then Ok (bare_values place) else Err (Refused (incorrect_format row name))) ≡ Ok v → (row.flag ≡ true) × (bare_values place ≡ v)
  bare_if name place v true is h = (is, ok_one h)
  bare_if name place v false is h = absurd (cc)

  bare_ok : (name : MetaPath) (place : Span) (v : Values) → read_bare row name place ≡ Ok v → (row.flag ≡ true) × (bare_values place ≡ v)
  bare_ok name place v h = bare_if name place v row.flag refl h

  bare_err_if : (name : MetaPath) (place : Span) (e : EduceError) (b : Bool) → row.flag ≡ b → (if b then Ok (bare_values place) else Err (Refused (incorrect_format row name))) ≡ Err (Refused e)
      → (row.flag ≡ false) × (incorrect_format row name ≡ e)
  bare_err_if name place e true is h = absurd (cc)
  bare_err_if name place e false is h = (is, refused_one h)

  bare_err : (name : MetaPath) (place : Span) (e : EduceError) → read_bare row name place ≡ Err (Refused e) → (row.flag ≡ false) × (incorrect_format row name ≡ e)
  bare_err name place e h = bare_err_if name place e row.flag refl h

  -- ---- lists

  -- the metas that are read are those of the list
  list_ok : (name : MetaPath) (tokens : List Token) (place : Span) (v : Values) → read_list row name tokens place ≡ Ok v
      → (params : List Meta) × IsWhole metas (inside tokens) params × (read_metas row name place params ≡ Ok v)
  list_ok name tokens place v h =
      let r = chained (read_metas row name place) (metas_in tokens) v h in
      (r.0, metas_read tokens r.0 r.1, r.2)

  -- the metas of the list are read
  list_reads : (name : MetaPath) (tokens : List Token) (place : Span) (params : List Meta) → IsWhole metas (inside tokens) params → read_list row name tokens place ≡ read_metas row name place params
  list_reads name tokens place params h = ap (and_then (read_metas row name place)) (metas_back tokens params h)

  -- why a list is rejected
  abbrev ListErr : MetaPath → List Token → Span → EduceError → Type 0
  ListErr name tokens place e =
      ((params : List Meta) × IsWhole metas (inside tokens) params × (read_metas row name place params ≡ Err (Refused e)))
      ⊎ (metas_in tokens ≡ Err (Refused e))

  list_err_by : (name : MetaPath) (tokens : List Token) (place : Span) (e : EduceError) (r : Result (List Meta) Stop) → metas_in tokens ≡ r
      → and_then (read_metas row name place) r ≡ Err (Refused e) → ListErr name tokens place e
  list_err_by name tokens place e (Ok params) is h = inl (params, metas_read tokens params is, h)
  list_err_by name tokens place e (Err s) is h = inr (is ∙ ap Err (err_one h))

  list_err : (name : MetaPath) (tokens : List Token) (place : Span) (e : EduceError) → read_list row name tokens place ≡ Err (Refused e) → ListErr name tokens place e
  list_err name tokens place e h = list_err_by name tokens place e (metas_in tokens) refl h

  -- where a list is read, these are its values
  metas_ok : (name : MetaPath) (place : Span) (params : List Meta) (v : Values) → read_metas row name place params ≡ Ok v → AreGiven row params v
  metas_ok name place [] v h =
      let bare = bare_ok name place v h in
      record {
        form = λ none. bare.0;
        known = λ m a none. among_none m a;
        once = λ m p reset. among_none m (record { front = reset.front ++ reset.earlier ∷ reset.between; back = reset.rest; is = reset.is });
        gives = λ p. all_given row name [] (bare_values place) v (ap Ok bare.1) p (bare_given place p);
        flag = ap (λ (u : Values). u.flag) (sym bare.1);
      }
  metas_ok name place (m ∷ ms) v h = record {
    form = λ none. absurd (cc);
    known = all_known row name (m ∷ ms) (values_at place) v h;
    once = no_reset row name (m ∷ ms) (values_at place) v h;
    gives = λ p. all_given row name (m ∷ ms) (values_at place) v h p (none_given place p);
    flag = (stay row name (m ∷ ms) (values_at place) v h).0;
  }

  -- with the place of the whole
  metas_place : (name : MetaPath) (place : Span) (params : List Meta) (v : Values) → read_metas row name place params ≡ Ok v → v.span ≡ place
  metas_place name place [] v h = ap (λ (u : Values). u.span) (sym (bare_ok name place v h).1)
  metas_place name place (m ∷ ms) v h = (stay row name (m ∷ ms) (values_at place) v h).1

  -- no meta of it has a cause
  metas_uncaused : (name : MetaPath) (place : Span) (params : List Meta) (v : Values) → read_metas row name place params ≡ Ok v → (m : Meta) (path : MetaPath) (p : Param) (e : EduceError)
      → IsAmong m params → path_of m ≡ Some path → param_of row path ≡ Some p → IsValueCause (kind_of row p) path m e → ⊥
  metas_uncaused name place [] v h m path p e a path_is param_is cause = among_none m a
  metas_uncaused name place (n ∷ ns) v h m path p e a path_is param_is cause = no_cause row name (n ∷ ns) (values_at place) v h m path p e a path_is param_is cause

  -- ---- what a meta says

  equals_says : (path : MetaPath) (x : Expr) (place : Span) (v : Values) (o : Option Behind) → behind row.equals ≡ o → equals_as row path (said.NameValue path x place) o ≡ Ok v
      → Says row (said.NameValue path x place) v
  equals_says path x place v None is h = absurd (cc)
  equals_says path x place v (Some b) is h =
      let meta : Meta = said.NameValue path x place in
      let r = mapped (λ y. b.says y (values_at place)) (value_of b.kind path meta) v h in
      subst (Says row meta) r.2 (Says.equals path x place b r.0 is ((lawful_kind b.kind).holds path meta r.0 r.1))

  -- what is read is what it says
  pub meta_says : (meta : Meta) (v : Values) → read_meta row meta ≡ Ok v → Says row meta v
  meta_says (said.Word path) v h =
      let place : Span = meta_place (said.Word path) in
      let bare = bare_ok path place v (placed_ok path (read_bare row path place) v h).1 in
      subst (Says row (said.Word path)) bare.1 (Says.bare path bare.0)
  meta_says (said.List path tokens place) v h =
      let list = list_ok path tokens.tokens place v (placed_ok path (read_list row path tokens.tokens place) v h).1 in
      Says.params path tokens place list.0 v list.1 (metas_ok path place list.0 v list.2) (metas_place path place list.0 v list.2)
  meta_says (said.NameValue path x place) v h =
      equals_says path x place v (behind row.equals) refl (placed_ok path (read_equals row path (said.NameValue path x place)) v h).1
  meta_says (said.Doc t) v h = absurd (cc)
  meta_says (said.Unread path tokens place) v h = absurd (cc)

  -- ---- why it is rejected

  -- the cause of a list is one of its meta
  from_list : (name : MetaPath) (meta : Meta) (place : Span) (params : List Meta) (e : EduceError) → is_empty row ≡ false → Lists meta params → ListCause row name params (values_at place) e
      → IsMetaCause row name meta e
  from_list name meta place params e some lists (ListCause.unknown m a none) = IsMetaCause.format some (HasWrongForm.param meta m params lists a none)
  from_list name meta place params e some lists (ListCause.bad_value m path p a path_is param_is cause) = IsMetaCause.param params m path p some lists a path_is param_is cause
  from_list name meta place params e some lists (ListCause.again m path p reset path_is param_is) = IsMetaCause.reset params m path p some lists reset path_is param_is
  from_list name meta place params e some lists (ListCause.against m path p front rest is path_is param_is stands) = absurd (false≢true (sym (none_has place p) ∙ stands))

  metas_err : (name : MetaPath) (meta : Meta) (place : Span) (params : List Meta) (e : EduceError) → is_empty row ≡ false → Lists meta params → read_metas row name place params ≡ Err (Refused e)
      → IsMetaCause row name meta e
  metas_err name meta place [] e some lists h =
      let bare = bare_err name place e h in
      subst (IsMetaCause row name meta) bare.1 (IsMetaCause.format some (HasWrongForm.empty meta lists bare.0))
  metas_err name meta place (m ∷ ms) e some lists h = from_list name meta place (m ∷ ms) e some lists (list_cause row name (m ∷ ms) (values_at place) e h)

  list_cause_of : (path : MetaPath) (tokens : Written) (place : Span) (e : EduceError) → is_empty row ≡ false → ListErr path tokens.tokens place e → IsMetaCause row path (said.List path tokens place) e
  list_cause_of path tokens place e some (inl read) = metas_err path (said.List path tokens place) place read.0 e some read.1 read.2
  list_cause_of path tokens place e some (inr refused) = IsMetaCause.list some (metas_refused tokens.tokens e refused)

  equals_cause : (path : MetaPath) (x : Expr) (place : Span) (e : EduceError) → is_empty row ≡ false → (o : Option Behind) → behind row.equals ≡ o
      → equals_as row path (said.NameValue path x place) o ≡ Err (Refused e) → IsMetaCause row path (said.NameValue path x place) e
  equals_cause path x place e some None is h = subst (IsMetaCause row path (said.NameValue path x place)) (refused_one h) (IsMetaCause.no_value some tt is)
  equals_cause path x place e some (Some b) is h =
      let meta : Meta = said.NameValue path x place in
      IsMetaCause.equals b some tt is ((lawful_kind b.kind).cause path meta e (mapped_err (λ y. b.says y (values_at place)) (value_of b.kind path meta) (Refused e) h))

  -- by the form, where one may stand there
  form_cause : (name : MetaPath) (meta : Meta) (e : EduceError) (r : Result Values Stop) → placed row name r ≡ Err (Refused e) → (is_empty row ≡ false → r ≡ Err (Refused e) → IsMetaCause row name meta e)
      → IsMetaCause row name meta e
  form_cause name meta e r h inner = elim (placed_err name r e h) [
    | inl empty ↦ subst (IsMetaCause row name meta) empty.1 (IsMetaCause.place empty.0)
    | inr form ↦ inner form.0 form.1
  ]

  -- a rejection has a cause
  pub meta_cause : (meta : Meta) (e : EduceError) → read_meta row meta ≡ Err (Refused e) → IsOwnCause row meta e
  meta_cause (said.Word path) e h = (
    path,
    refl,
    form_cause path (said.Word path) e (read_bare row path (meta_place (said.Word path))) h (λ some bare.
        let r = bare_err path (meta_place (said.Word path)) e bare in
        subst (IsMetaCause row path (said.Word path)) r.1 (IsMetaCause.format some (HasWrongForm.bare path r.0))),
  )
  meta_cause (said.List path tokens place) e h = (
    path,
    refl,
    form_cause path (said.List path tokens place) e (read_list row path tokens.tokens place) h (λ some list.
        list_cause_of path tokens place e some (list_err path tokens.tokens place e list)),
  )
  meta_cause (said.NameValue path x place) e h = (
    path,
    refl,
    form_cause path (said.NameValue path x place) e (read_equals row path (said.NameValue path x place)) h (λ some equals.
        equals_cause path x place e some (behind row.equals) refl equals),
  )
  meta_cause (said.Doc t) e h = let same : Memory ≡ Refused e = err_one h in absurd (cc)
  meta_cause (said.Unread path tokens place) e h = let same : Memory ≡ Refused e = err_one h in absurd (cc)

  -- ---- with a cause nothing is said

  -- where something is read, a form may stand there
  some_form : (meta : Meta) (v : Values) → read_meta row meta ≡ Ok v → is_empty row ≡ false
  some_form (said.Word path) v h = (placed_ok path (read_bare row path (meta_place (said.Word path))) v h).0
  some_form (said.List path tokens place) v h = (placed_ok path (read_list row path tokens.tokens place) v h).0
  some_form (said.NameValue path x place) v h = (placed_ok path (read_equals row path (said.NameValue path x place)) v h).0
  some_form (said.Doc t) v h = absurd (cc)
  some_form (said.Unread path tokens place) v h = absurd (cc)

  -- the metas of a list are read
  lists_read : (meta : Meta) (v : Values) → read_meta row meta ≡ Ok v → (params : List Meta) → Lists meta params → (name : MetaPath) × (place : Span) × (read_metas row name place params ≡ Ok v)
  lists_read (said.Word path) v h params lists = absurd lists
  lists_read (said.List path tokens place) v h params lists =
      (path, place, sym (list_reads path tokens.tokens place params lists) ∙ (placed_ok path (read_list row path tokens.tokens place) v h).1)
  lists_read (said.NameValue path x place) v h params lists = absurd lists
  lists_read (said.Doc t) v h params lists = absurd lists
  lists_read (said.Unread path tokens place) v h params lists = absurd lists

  lists_given : (meta : Meta) (v : Values) → read_meta row meta ≡ Ok v → (params : List Meta) → Lists meta params → AreGiven row params v
  lists_given meta v h params lists = let r = lists_read meta v h params lists in metas_ok r.0 r.1 params v r.2

  no_list_cause : (meta : Meta) (v : Values) → read_meta row meta ≡ Ok v → (e : EduceError) → IsListCause meta e → ⊥
  no_list_cause (said.Word path) v h e cause = cause
  no_list_cause (said.List path tokens place) v h e cause =
      let list = list_ok path tokens.tokens place v (placed_ok path (read_list row path tokens.tokens place) v h).1 in
      cause.1 (lawful_metas.uncaused (inside tokens.tokens) list.0 list.1 e cause.0)
  no_list_cause (said.NameValue path x place) v h e cause = cause
  no_list_cause (said.Doc t) v h e cause = cause
  no_list_cause (said.Unread path tokens place) v h e cause = cause

  value_says : (meta : Meta) (v : Values) → read_meta row meta ≡ Ok v → HasValue meta → (name : MetaPath) × ((o : Option Behind) → behind row.equals ≡ o → equals_as row name meta o ≡ Ok v)
  value_says (said.Word path) v h has = absurd has
  value_says (said.List path tokens place) v h has = absurd has
  value_says (said.NameValue path x place) v h has =
      (path, λ o is. subst (λ o. equals_as row path (said.NameValue path x place) o ≡ Ok v) is (placed_ok path (read_equals row path (said.NameValue path x place)) v h).1)
  value_says (said.Doc t) v h has = absurd has
  value_says (said.Unread path tokens place) v h has = absurd has

  no_equals : (meta : Meta) (v : Values) → read_meta row meta ≡ Ok v → HasValue meta → behind row.equals ≡ None → ⊥
  no_equals meta v h has is = let r = value_says meta v h has in let none = r.1 None is in cc

  no_equals_cause : (name : MetaPath) (meta : Meta) (v : Values) → read_meta row meta ≡ Ok v → HasValue meta → (b : Behind) → behind row.equals ≡ Some b → (e : EduceError) → IsValueCause b.kind name meta e → ⊥
  no_equals_cause name meta v h has b is e cause =
      let r = value_says meta v h has in
      let m = mapped (λ y. b.says y (values_at (meta_place meta))) (value_of b.kind r.0 meta) v (r.1 (Some b) is) in
      (lawful_kind b.kind).excludes name meta e cause m.0 ((lawful_kind b.kind).holds r.0 meta m.0 m.1)

  wrong_form : (meta : Meta) (v : Values) → read_meta row meta ≡ Ok v → HasWrongForm row meta → ⊥
  wrong_form _ v h (HasWrongForm.bare path none) =
      false≢true (sym none ∙ (bare_ok path (meta_place (said.Word path)) v (placed_ok path (read_bare row path (meta_place (said.Word path))) v h).1).0)
  wrong_form _ v h (HasWrongForm.empty meta lists none) = false≢true (sym none ∙ (lists_given meta v h [] lists).form refl)
  wrong_form _ v h (HasWrongForm.param meta m params lists a none) = (lists_given meta v h params lists).known m a none

  excluded : (name : MetaPath) (meta : Meta) (v : Values) → read_meta row meta ≡ Ok v → (e : EduceError) → IsMetaCause row name meta e → ⊥
  excluded name meta v h e (IsMetaCause.place empty) = false≢true (sym (some_form meta v h) ∙ empty)
  excluded name meta v h e (IsMetaCause.format some form) = wrong_form meta v h form
  excluded name meta v h e (IsMetaCause.no_value some has is) = no_equals meta v h has is
  excluded name meta v h e (IsMetaCause.reset params later path p some lists reset path_is param_is) = (lists_given meta v h params lists).once later p reset
  excluded name meta v h e (IsMetaCause.param params m path p some lists a path_is param_is cause) =
      let r = lists_read meta v h params lists in metas_uncaused r.0 r.1 params v r.2 m path p e a path_is param_is cause
  excluded name meta v h e (IsMetaCause.equals b some has is cause) = no_equals_cause name meta v h has b is e cause
  excluded name meta v h e (IsMetaCause.list some cause) = no_list_cause meta v h e cause

  -- where something is read, no cause of its own stands
  pub meta_excludes : (meta : Meta) (v : Values) → read_meta row meta ≡ Ok v → (e : EduceError) → IsOwnCause row meta e → ⊥
  meta_excludes meta v h e cause = excluded cause.0 meta v h e cause.2

  -- no cause stands but out of memory
  pub meta_uncaused : (meta : Meta) (v : Values) → read_meta row meta ≡ Ok v → HasNoCause row meta
  meta_uncaused meta v h = record { none_stands = λ e cause. by_memory e cause }
    where
      by_memory : (e : EduceError) → IsCause row meta e → e.kind ≡ Alloc
      by_memory e (IsCause.own cause) = absurd (meta_excludes meta v h e cause)
      by_memory e IsCause.memory = refl

  -- what stops the reading is a cause
  pub stop_cause : (meta : Meta) (s : Stop) → (s ≢ Memory → read_meta row meta ≡ Err s) → IsCause row meta (error_of s)
  stop_cause meta Memory h = IsCause.memory
  stop_cause meta (Refused e) h = IsCause.own (meta_cause meta e (h (λ same. cc)))

  -- a word, where a form may stand there
  pub word_answer : (meta : Meta) (path name : MetaPath) (empty : Bool) (r : Result Values Stop) → meta ≡ said.Word path → Some name ≡ path_of meta → empty ≡ is_empty row → empty ≡ false
      → Gives Memory (read_word row name) r → Gives Memory (read_meta row meta) r
  word_answer meta path name empty r is name_is empty_is some gives =
      let same : Some name ≡ Some path = name_is ∙ ap path_of is in
      let path_is : name ≡ path = cc in
      subst (λ m. Gives Memory (read_meta row m) r) (sym is)
      (subst (λ b. Gives Memory (if b then Err (Refused (incorrect_place path)) else read_word row path) r) (sym some ∙ empty_is) (subst (λ p. Gives Memory (read_word row p) r) path_is gives))
