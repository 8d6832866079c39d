-- The metas of the `educe` lists of a place, as they are read.
use Rattle.std.proofs.Common.{◌≡◌, ◌≢◌, List, [], ◌∷◌, ◌++◌, refl, sym, subst, ◌∙◌, ap, append_assoc, append-nil, Bool, true, false, Some, Result, Ok, Err, inl, inr}
use Rattle.std.specs.Prelude.{if◌then◌else◌}
use Rattle.std.proofs.lemmas.Bool.{false≢true}
use Rattle.educe_tokens.specs.declared.error.EduceError.{EduceError}
use Rattle.educe_tokens.specs.declared.error.Kind.TheVariants.{Alloc}
use Rattle.educe_tokens.specs.declared.span.Span.{Span}
use Rattle.educe_tokens.specs.declared.token.Token.{Token}
use Rattle.educe_tokens.specs.declared.written.Written.{Written}
use Rattle.educe_syntax.specs.Attribute.{Attribute}
use Rattle.educe_syntax.specs.Attributes.{metas}
use Rattle.educe_syntax.specs.Laws.{lawful_metas}
use Rattle.educe_syntax.specs.Meta.{Meta}
use Rattle.educe_syntax.specs.Meta.TheVariants as said
use Rattle.educe_syntax.specs.MetaPath.{MetaPath}
use Rattle.educe_syntax.specs.Parsed.{IsWhole, IsParseCause}
use Rattle.educe_attrs_values.specs.Chains.{and_then}
use Rattle.educe_attrs_values.specs.declared.stop.Stop.{Stop}
use Rattle.educe_attrs_values.specs.declared.stop.Stop.TheVariants.{Refused}
use Rattle.educe_attrs_values.specs.Sources.{inside}
use Rattle.educe_attrs_rows.specs.Among.{IsAmong}
use Rattle.educe_attrs_values.specs.Metas.{IsNamed}
use Rattle.educe_attrs_rows.specs.Metas.{metas_in}
use Rattle.educe_attrs_values.specs.Words.{path_of}
use Rattle.educe_attrs_places.specs.Lists.{is_educe, metas_of, all_metas, IsEduce, AreOwn, AreMetas, IsNameIn, IsListCause}
use Rattle.educe_attrs_rows.proofs.Listed.{metas_read, metas_back, metas_refused}
use Rattle.educe_attrs_rows.proofs.Among.{among_none, among_first, among_more, among_cases, among_left, among_right, among_both}
use Rattle.educe_attrs_rows.proofs.Chained.{ok_one, chained}

-- ---- one attribute

-- why a bracket pair has no metas
abbrev PairErr : List Token → EduceError → Type 0
PairErr tokens e = IsParseCause metas (inside tokens) e × (e.kind ≢ Alloc)

module _ (a : Attribute) where
  -- what is no list is no `educe` list
  not_list : (m : Meta) → a.meta ≡ m → ((path : MetaPath) (written : Written) (place : Span) → m ≡ said.List path written place → ⊥) → (tokens : List Token) → IsEduce a tokens → ⊥
  not_list m is none tokens e = none e.path e.written e.place (sym is ∙ e.is)

  -- a list of another name is none
  not_named : (path : MetaPath) (written : Written) (place : Span) → a.meta ≡ said.List path written place → is_educe path ≡ false → (tokens : List Token) → IsEduce a tokens → ⊥
  not_named path written place is named tokens e =
      let same : said.List path written place ≡ said.List e.path e.written e.place = sym is ∙ e.is in
      let one : path ≡ e.path = cc in
      false≢true (sym named ∙ (ap is_educe one ∙ e.named))

  own_list : (path : MetaPath) (written : Written) (place : Span) → a.meta ≡ said.List path written place → (b : Bool) → is_educe path ≡ b → (found : List Meta)
      → (if b then metas_in written.tokens else Ok []) ≡ Ok found → AreOwn a found
  own_list path written place is true named found h =
      AreOwn.educe written.tokens found (record { path = path; written = written; place = place; is = is; tokens_are = refl; named = named }) (metas_read written.tokens found h)
  own_list path written place is false named found h = subst (AreOwn a) (ok_one h) (AreOwn.other (not_named path written place is named))

  own_by : (m : Meta) → a.meta ≡ m → (found : List Meta) → metas_of m ≡ Ok found → AreOwn a found
  own_by (said.Word path) is found h = subst (AreOwn a) (ok_one h) (AreOwn.other (not_list (said.Word path) is (λ p w s e. cc)))
  own_by (said.List path written place) is found h = own_list path written place is (is_educe path) refl found h
  own_by (said.NameValue path x place) is found h = subst (AreOwn a) (ok_one h) (AreOwn.other (not_list (said.NameValue path x place) is (λ p w s e. cc)))
  own_by (said.Doc t) is found h = subst (AreOwn a) (ok_one h) (AreOwn.other (not_list (said.Doc t) is (λ p w s e. cc)))
  own_by (said.Unread path written place) is found h = subst (AreOwn a) (ok_one h) (AreOwn.other (not_list (said.Unread path written place) is (λ p w s e. cc)))

  own_ok : (found : List Meta) → metas_of a.meta ≡ Ok found → AreOwn a found
  own_ok found h = own_by a.meta refl found h

  none_by : (m : Meta) → a.meta ≡ m → ((tokens : List Token) → IsEduce a tokens → ⊥) → metas_of m ≡ Ok []
  none_by (said.Word path) is none = refl
  none_by (said.List path written place) is none = other (is_educe path) refl
    where
      other : (b : Bool) → is_educe path ≡ b → (if b then metas_in written.tokens else Ok []) ≡ Ok []
      other true named = absurd (none written.tokens (record { path = path; written = written; place = place; is = is; tokens_are = refl; named = named }))
      other false named = refl
  none_by (said.NameValue path x place) is none = refl
  none_by (said.Doc t) is none = refl
  none_by (said.Unread path written place) is none = refl

  own_read : (found : List Meta) → AreOwn a found → metas_of a.meta ≡ Ok found
  own_read found (AreOwn.educe tokens _ e whole) =
      ap metas_of e.is
      ∙ (ap (λ b. if b then metas_in e.written.tokens else Ok []) e.named ∙ (ap metas_in (sym e.tokens_are) ∙ metas_back tokens found whole))
  own_read _ (AreOwn.other none) = none_by a.meta refl none

  own_one : (xs ys : List Meta) → AreOwn a xs → AreOwn a ys → xs ≡ ys
  own_one xs ys h k = ok_one (sym (own_read xs h) ∙ own_read ys k)

  abbrev OwnErr : EduceError → Type 0
  OwnErr e = (tokens : List Token) × IsEduce a tokens × PairErr tokens e

  list_err : (path : MetaPath) (written : Written) (place : Span) → a.meta ≡ said.List path written place → (b : Bool) → is_educe path ≡ b → (e : EduceError)
      → (if b then metas_in written.tokens else Ok []) ≡ Err (Refused e) → OwnErr e
  list_err path written place is true named e h = (written.tokens, record { path = path; written = written; place = place; is = is; tokens_are = refl; named = named }, metas_refused written.tokens e h)
  list_err path written place is false named e h = absurd (cc)

  err_by : (m : Meta) → a.meta ≡ m → (e : EduceError) → metas_of m ≡ Err (Refused e) → OwnErr e
  err_by (said.Word path) is e h = absurd (cc)
  err_by (said.List path written place) is e h = list_err path written place is (is_educe path) refl e h
  err_by (said.NameValue path x place) is e h = absurd (cc)
  err_by (said.Doc t) is e h = absurd (cc)
  err_by (said.Unread path written place) is e h = absurd (cc)

  own_err : (e : EduceError) → metas_of a.meta ≡ Err (Refused e) → OwnErr e
  own_err e h = err_by a.meta refl e h

-- ---- all attributes

-- what is read is the metas of the place, behind what was there
pub metas_are : (before : List Meta) (attributes : List Attribute) (all : List Meta) → all_metas before attributes ≡ Ok all → (found : List Meta) × AreMetas attributes found × (all ≡ before ++ found)
metas_are before [] all h = ([], AreMetas.none_left, sym (ok_one h) ∙ sym (append-nil before))
metas_are before (a ∷ more) all h =
    let r = chained (λ front. all_metas (before ++ front) more) (metas_of a.meta) all h in
    let rest = metas_are (before ++ r.0) more all r.2 in
    (r.0 ++ rest.0, AreMetas.one_more a more r.0 rest.0 (own_ok a r.0 r.1) rest.1, rest.2 ∙ append_assoc before r.0 rest.0)

-- the metas of the place are read
pub place_read : (before : List Meta) (attributes : List Attribute) (found : List Meta) → AreMetas attributes found → all_metas before attributes ≡ Ok (before ++ found)
place_read before _ _ AreMetas.none_left = ap Ok (sym (append-nil before))
place_read before _ _ (AreMetas.one_more a more front found own rest) =
    ap (and_then (λ xs. all_metas (before ++ xs) more)) (own_read a front own) ∙ (place_read (before ++ front) more found rest ∙ ap Ok (append_assoc before front found))

pub metas_one : (attributes : List Attribute) (xs ys : List Meta) → AreMetas attributes xs → AreMetas attributes ys → xs ≡ ys
metas_one attributes xs ys h k = ok_one (sym (place_read [] attributes xs h) ∙ place_read [] attributes ys k)

-- a place is rejected for one of its attributes
abbrev AttributeErr : List Attribute → EduceError → Type 0
AttributeErr attributes e = (a : Attribute) × IsAmong a attributes × OwnErr a e

attribute_err_by : (before : List Meta) (a : Attribute) (more : List Attribute) (e : EduceError) (r : Result (List Meta) Stop) → metas_of a.meta ≡ r
    → and_then (λ front. all_metas (before ++ front) more) r ≡ Err (Refused e) → ((front : List Meta) → all_metas (before ++ front) more ≡ Err (Refused e) → AttributeErr more e) → AttributeErr (a ∷ more) e
attribute_err_by before a more e (Ok front) is h later = let r = later front h in (r.0, among_more a r.0 more r.1, r.2)
attribute_err_by before a more e (Err s) is h later = (a, among_first a more, own_err a e (is ∙ h))

attribute_err : (before : List Meta) (attributes : List Attribute) (e : EduceError) → all_metas before attributes ≡ Err (Refused e) → AttributeErr attributes e
attribute_err before [] e h = absurd (cc)
attribute_err before (a ∷ more) e h = attribute_err_by before a more e (metas_of a.meta) refl h (λ front k. attribute_err (before ++ front) more e k)

-- each meta of the place is one of an attribute
metas_from : (attributes : List Attribute) (found : List Meta) → AreMetas attributes found → (m : Meta) → IsAmong m found → (a : Attribute) × (front : List Meta) × IsAmong a attributes × AreOwn a front × IsAmong m front
metas_from _ _ AreMetas.none_left m among = absurd (among_none m among)
metas_from _ _ (AreMetas.one_more a more front found own rest) m among = elim (among_both m front found among) [
  | inl here ↦ (a, front, among_first a more, own, here)
  | inr later ↦ (let r = metas_from more found rest m later in (r.0, r.1, among_more a r.0 more r.2, r.3, r.4))
]

-- each of an attribute is one of the place
metas_into : (attributes : List Attribute) (found : List Meta) → AreMetas attributes found → (b : Attribute) (own : List Meta) → IsAmong b attributes → AreOwn b own → (m : Meta) → IsAmong m own → IsAmong m found
metas_into _ _ AreMetas.none_left b own among are m in_own = absurd (among_none b among)
metas_into _ _ (AreMetas.one_more a more front found first rest) b own among are m in_own = elim (among_cases b a more among) [
  | inl same ↦ among_left m front found (subst (IsAmong m) (own_one b own front are (subst (λ a. AreOwn a front) same first)) in_own)
  | inr later ↦ among_right m front found (metas_into more found rest b own later are m in_own)
]

-- the metas that are read of all attributes are those of the place
pub all_are : (attributes : List Attribute) (all : List Meta) → all_metas [] attributes ≡ Ok all → AreMetas attributes all
all_are attributes all h = let r = metas_are [] attributes all h in subst (AreMetas attributes) (sym r.2) r.1

-- ---- causes

-- an attribute that is rejected is a cause
pub lists_cause : (attributes : List Attribute) (e : EduceError) → all_metas [] attributes ≡ Err (Refused e) → IsListCause attributes e
lists_cause attributes e h =
    let r = attribute_err [] attributes e h in
    record { attribute = r.0; tokens = r.2.0; stands = r.1; educe = r.2.1; cause = r.2.2.0; has_place = r.2.2.1 }

-- an attribute of a place whose metas are read is read
own_of : (attributes : List Attribute) (found : List Meta) → AreMetas attributes found → (a : Attribute) → IsAmong a attributes → (own : List Meta) × AreOwn a own
own_of _ _ AreMetas.none_left a among = absurd (among_none a among)
own_of _ _ (AreMetas.one_more b more front found own rest) a among = elim (among_cases a b more among) [
  | inl same ↦ (front, subst (λ b. AreOwn b front) same own)
  | inr later ↦ own_of more found rest a later
]

own_uncaused : (a : Attribute) (tokens : List Token) (e : EduceError) → IsEduce a tokens → IsParseCause metas (inside tokens) e → e.kind ≢ Alloc → (own : List Meta) → AreOwn a own → ⊥
own_uncaused a tokens e educe cause some own (AreOwn.educe others _ other whole) =
    let same : said.List educe.path educe.written educe.place ≡ said.List other.path other.written other.place = sym educe.is ∙ other.is in
    let written : educe.written ≡ other.written = cc in
    let tokens_one : others ≡ tokens = other.tokens_are ∙ (ap (λ (w : Written). w.tokens) (sym written) ∙ sym educe.tokens_are) in
    some (lawful_metas.uncaused (inside tokens) own (subst (λ ts. IsWhole metas (inside ts) own) tokens_one whole) e cause)
own_uncaused a tokens e educe cause some _ (AreOwn.other none) = none tokens educe

-- where the metas of a place are read, no list is rejected
pub lists_uncaused : (attributes : List Attribute) (found : List Meta) → AreMetas attributes found → (e : EduceError) → IsListCause attributes e → ⊥
lists_uncaused attributes found are e c =
    let own = own_of attributes found are c.attribute c.stands in
    own_uncaused c.attribute c.tokens e c.educe c.cause c.has_place own.0 own.1

-- ---- names

-- a name in one of the lists is that of a meta of the place
pub record Meets (found : List Meta) (path : MetaPath) : Type 0 where
  pub meta : Meta
  pub among : IsAmong meta found
  pub named : IsNamed meta
  pub path_is : path_of meta ≡ Some path

pub name_met : (attributes : List Attribute) (found : List Meta) → AreMetas attributes found → (path : MetaPath) → IsNameIn attributes path → Meets found path
name_met attributes found are path n =
    record { meta = n.meta; among = metas_into attributes found are n.attribute n.found n.stands n.own n.meta n.among; named = n.named; path_is = n.path_is }

-- the name of a meta of the place is a name in one of the lists
pub name_in : (attributes : List Attribute) (found : List Meta) → AreMetas attributes found → (m : Meta) → IsAmong m found → (path : MetaPath) → IsNamed m → path_of m ≡ Some path → IsNameIn attributes path
name_in attributes found are m among path named path_is =
    let from = metas_from attributes found are m among in
    record { attribute = from.0; found = from.1; meta = m; stands = from.2; own = from.3; among = from.4; named = named; path_is = path_is }
