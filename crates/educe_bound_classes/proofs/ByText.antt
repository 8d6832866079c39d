-- Classes go by the tokens of types that are read: so the own predicates of the automatic mode suffice, and none can be dropped.
use Rattle.std.proofs.Common.{◌≡◌, ℕ, Bool, true, false, not, ◌&&◌, ◌||◌, List, [], ◌∷◌, refl, ap, sym, subst, ◌∙◌, Option, Some, None, filter, cond, codes}
use Rattle.std.specs.Prelude.{IfSome, slice_get, if◌then◌else◌}
use Rattle.std.specs.List.{AllByRecursion, list_any, filter_map}
use Rattle.std.proofs.lemmas.List.{append_cancel_right}
use Rattle.std.specs.Str.{bytes_eq}
use Rattle.std.proofs.lemmas.Slice.Eq.{bytes_eq-Decides}
use Rattle.educe_tokens.specs.TokenKind.TheVariants as kind
use Rattle.educe_tokens.specs.declared.token.Token.{Token}
use Rattle.educe_tokens.specs.declared.written.Written.{Written}
use Rattle.educe_tokens.specs.Lexes.{Lexeme}
use Rattle.educe_tree.specs.declared.generics.GenericParam.{GenericParam}
use Rattle.educe_tree.specs.declared.generics.GenericParam.TheVariants as param
use Rattle.educe_tree.specs.declared.ty.Ty.{Ty}
use Rattle.educe_tree.specs.declared.path.Path.{out-Path, out-roll-Path}
use Rattle.educe_grammar.specs.declared.terminal.Terminal.TheVariants as terminal
use Rattle.educe_grammar.specs.Terminals.{accepts}
use Rattle.educe_grammar.specs.Steps.{Found}
use Rattle.educe_grammar.specs.Reads.{Reads}
use Rattle.educe_grammar.specs.Readings.{IsName}
use Rattle.educe_grammar.specs.Types.{any_type}
use Rattle.educe_grammar.specs.Alike.{lexeme_aside, lexemes_aside}
use Rattle.educe_grammar.proofs.AlikeByTokens.{types_alike}
use Rattle.educe_grammar.proofs.Each.{all_found}
use Rattle.educe_tokens.proofs.Lists.{cons_parts, nil_not_cons}
use Rattle.educe_bound_classes.specs.Exceptions.{Exceptions}
use Rattle.educe_bound_classes.specs.Deriving.{forwarding, mentioning, other, IsByText}
use Rattle.educe_bound_classes.specs.Params.{is_named, is_type_named, is_param, is_type_param}
use Rattle.educe_bound_classes.specs.Paths.{name_passes, begins_with}
use Rattle.educe_bound_classes.specs.Walk.{in_type, in_segments}
use Rattle.educe_bound_classes.specs.Questions.{mention_of, use_of, uses_params}
use Rattle.educe_bound_classes.specs.Classes.{has_angle, args_at, is_named_at, matches_at, last_segment, is_unconditional, forwards, parts_of, type_name, name_of, names_in, mentions, class_by, class_of}
use Rattle.educe_bound_classes.specs.Needs.{IsReading, AreNames, own_of, param_of, AreOwn, Suffices, AreMinimal}
use Rattle.educe_bound_classes.proofs.Walks.{in_form-Path, in_path-here, in_path-nowhere}
use Rattle.educe_bound_classes.proofs.ClassLikeness.{other_alike}
use Rattle.educe_bound_classes.proofs.OneName.{ident_aside, name_path, name_type, lone_type}
use Rattle.educe_bound_classes.proofs.Inside.{parts_reading}
use Rattle.educe_bound_classes.proofs.Bounds.{automatic_suffices, automatic_minimal}

-- ---- a type parameter by itself

-- the path of one name begins with it
begins-alone : (test : List ℕ → Bool) (found : Found (accepts terminal.PathSegment)) → begins_with test (name_path found) ≡ test found.token.spelling
begins-alone test found = ap (λ r. not r.leading && name_passes test (slice_get r.segments 0)) (out-roll-Path _)

-- a type parameter is a parameter
type_is_named : (name : List ℕ) (p : GenericParam) → is_type_named name p ≡ true → is_named name p ≡ true
type_is_named name (param.Lifetime p) h = h
type_is_named name (param.TypeParam p) h = h
type_is_named name (param.Const p) h = absurd (cc)

either_same : (a b c d : Bool) → (a ≡ true → c ≡ true) → (b ≡ true → d ≡ true) → (a || b) ≡ true → (c || d) ≡ true
either_same true b c d f g h = ap (λ x. x || d) (f refl)
either_same false true true d f g h = refl
either_same false true false d f g h = g refl
either_same false false c d f g h = absurd (cc)

type_is_param : (params : List GenericParam) (name : List ℕ) → is_type_param params name ≡ true → is_param params name ≡ true
type_is_param [] name h = h
type_is_param (p ∷ params) name h =
    either_same (is_type_named name p) (is_type_param params name) (is_named name p) (is_param params name) (type_is_named name p) (type_is_param params name) h

or_second : (a b : Bool) → b ≡ true → (a || b) ≡ true
or_second true b h = refl
or_second false b h = h

-- tests that fail where the path begins with a type parameter
none_of : (a b : Bool) → a ≡ true → (not a && b) ≡ false
none_of a b h = ap (λ x. not x && b) h

none_of_two : (a b c : Bool) → a ≡ true → ((not a && b) || (not a && c)) ≡ false
none_of_two a b c h = ap (λ x. (not x && b) || (not x && c)) h

none_of_both : (a b c : Bool) → a ≡ true → ((not a && b) && c) ≡ false
none_of_both a b c h = ap (λ x. (not x && b) && c) h

no_types : (b : Bool) (ts : List Ty) → b ≡ false → ◌≡◌ {A = Option (List Ty)} (if b then Some ts else None) None
no_types b ts h = ap (λ x. if x then Some ts else None) h

module _ (ex : Exceptions) (params : List GenericParam) (self : List ℕ) where
  -- its type is of the class `other`
  name_other : (found : Found (accepts terminal.PathSegment)) (w : Written) → is_type_param params found.token.spelling ≡ true → class_of params ex self (name_type found w) ≡ other
  name_other found w is =
      let name = found.token.spelling in
      let p = name_path found in
      let begins : begins_with (is_type_param params) p ≡ true = begins-alone (is_type_param params) found ∙ is in
      let starts : begins_with (is_param params) p ≡ true = begins-alone (is_param params) found ∙ type_is_param params name is in
      let not_unconditional : is_unconditional params ex (name_type found w) ≡ false =
      none_of_two (begins_with (is_type_param params) p) (is_named_at (codes "PhantomData") (last_segment p)) (matches_at ex.unconditional (last_segment p)) begins in
      let uses : uses_params params (name_type found w) ≡ true =
      in_form-Path (use_of params) None p ∙ in_path-here (use_of params) false p refl starts in
      let no_parts : parts_of params ex (name_type found w) ≡ None =
      no_types (forwards params ex p) _ (none_of_both (begins_with (is_type_param params) p) (matches_at ex.forwarding (last_segment p)) (has_angle (args_at (last_segment p))) begins) in
      let none_inside : in_segments (mention_of params self) (out-Path p).segments ≡ false = ap (in_segments (mention_of params self)) (ap (λ r. r.segments) (out-roll-Path _)) in
      let mentions_none : mentions params ex self (name_type found w) ≡ false =
      in_form-Path (mention_of params self) None p
      ∙ in_path-nowhere (mention_of params self) false p (out-Path p).segments refl refl
      (none_of (begins_with (is_type_param params) p) (list_any (λ s. bytes_eq self s.ident.text) (out-Path p).segments || begins_with (λ text. bytes_eq (codes "Self") text) p) begins) none_inside in
      λ i. class_by params ex self (not_unconditional i) (uses i) (no_parts i) (mentions_none i) (names_in params ex (name_type found w))

  -- ---- by text

  -- tokens that are one name, aside
  one_token : (ts : List Token) (l : Lexeme) → lexemes_aside ts ≡ l ∷ [] → (t : Token) × (ts ≡ t ∷ []) × (lexeme_aside t ≡ l)
  one_token [] l same = absurd (nil_not_cons l [] same)
  one_token (t ∷ []) l same = (t, refl, (cons_parts _ _ _ _ same).0)
  one_token (t ∷ u ∷ ts) l same = absurd (nil_not_cons _ _ (sym (cons_parts _ _ _ _ same).1))

  -- a type parameter has this name
  abbrev IsTypeParam : List ℕ → Type 0
  IsTypeParam name = is_type_param params name ≡ true

  -- a type whose tokens are a type parameter is of the class `other`
  param_other : (x : Ty) (n : List ℕ) → IsReading x → IsTypeParam n → lexemes_aside x.written.tokens ≡ record { kind = kind.Ident; spelling = n } ∷ [] → class_of params ex self x ≡ other
  param_other x n read is same =
      let one = one_token x.written.tokens _ same in
      let t = one.0 in
      let ident : t.kind ≡ kind.Ident = ident_aside t.kind (ap (λ (l : Lexeme). l.kind) one.2) in
      let spelling : t.spelling ≡ n = ap (λ (l : Lexeme). l.spelling) one.2 in
      let alone = lone_type read.0 t ident x (subst (λ (ts : List Token). Reads read.0 any_type ts x) one.1 read.1) in
      let declared : IsTypeParam alone.0.token.spelling = ap (λ (u : Token). is_type_param params u.spelling) alone.1 ∙ ap (is_type_param params) spelling ∙ is in
      ap (class_of params ex self) alone.3 ∙ name_other alone.0 alone.2 declared

  -- ---- the names that a class names

  -- what holds of each name holds of those that are kept
  kept_name : (P : List ℕ → Type 0) (b : Bool) (n : List ℕ) (more : List (List ℕ)) → P n → AllByRecursion P more → AllByRecursion P (cond b (n ∷ more) more)
  kept_name P true n more is rest = (is, rest)
  kept_name P false n more is rest = rest

  kept_names : (P : List ℕ → Type 0) (test : List ℕ → Bool) (names : List (List ℕ)) → AllByRecursion P names → AllByRecursion P (filter test names)
  kept_names P test [] all = tt
  kept_names P test (n ∷ names) all = kept_name P (test n) n (filter test names) all.0 (kept_names P test names all.1)

  -- those that are declared are type parameters
  declared_names : (ps : List GenericParam) → ((n : List ℕ) → is_type_param ps n ≡ true → IsTypeParam n) → AllByRecursion IsTypeParam (filter_map type_name ps)
  declared_names [] into = tt
  declared_names (param.Lifetime p ∷ ps) into = declared_names ps (λ n h. into n h)
  declared_names (param.Const p ∷ ps) into = declared_names ps (λ n h. into n h)
  declared_names (param.TypeParam p ∷ ps) into = (
    into p.ident.text (ap (λ b. b || is_type_param ps p.ident.text) ((bytes_eq-Decides p.ident.text p.ident.text).1 refl)),
    declared_names ps (λ n h. into n (or_second (bytes_eq n p.ident.text) (is_type_param ps n) h)),
  )

  names_are : (x : Ty) → AllByRecursion IsTypeParam (names_in params ex x)
  names_are x = kept_names IsTypeParam (λ name. in_type (name_of params ex name) x) (filter_map type_name params) (declared_names params (λ n h. h))

  -- where the name of each type parameter is one, so are they
  pub names_named : (x : Ty) → AreNames params → AllByRecursion IsName (names_in params ex x)
  names_named x names =
      kept_names IsName (λ name. in_type (name_of params ex name) x) (filter_map type_name params)
      (all_found type_name (λ p. IfSome (type_name p) IsName) IsName (λ p is. is) params names)

  -- ---- classes

  -- the parts of a class are those of the type
  forwarding_parts : (a b c : Bool) (o : Option (List Ty)) (names : List (List ℕ)) (ts : List Ty) → class_by params ex self a b o c names ≡ forwarding ts → o ≡ Some ts
  forwarding_parts true b c o names ts h = absurd (cc)
  forwarding_parts false false c o names ts h = absurd (cc)
  forwarding_parts false true c (Some us) names ts h = ap Some (let e : us ≡ ts = cc in e)
  forwarding_parts false true true None names ts h = absurd (cc)
  forwarding_parts false true false None names ts h = absurd (cc)

  -- the names of a class are those in the type
  mentioning_names : (a b c : Bool) (o : Option (List Ty)) (names ns : List (List ℕ)) → class_by params ex self a b o c names ≡ mentioning ns → names ≡ ns
  mentioning_names true b c o names ns h = absurd (cc)
  mentioning_names false false c o names ns h = absurd (cc)
  mentioning_names false true c (Some us) names ns h = absurd (cc)
  mentioning_names false true true None names ns h = cc
  mentioning_names false true false None names ns h = absurd (cc)

  -- Classes go by the tokens of types.
  pub by_text : (bound : List Lexeme) → IsByText (class_of params ex self) (own_of bound) (param_of bound) IsReading IsTypeParam
  by_text bound = record {
    parts_read = λ x ts read is. parts_reading params ex x ts read (forwarding_parts (is_unconditional params ex x) (uses_params params x) (mentions params ex self x) (parts_of params ex x) (names_in params ex x) ts is);
    names_are = λ x ns read is.
        subst (AllByRecursion IsTypeParam) (mentioning_names (is_unconditional params ex x) (uses_params params x) (mentions params ex self x) (parts_of params ex x) (names_in params ex x) ns is) (names_are x);
    others = λ x y read reading same is.
        other_alike params ex self
        (types_alike read.0 reading.0 x.written.tokens y.written.tokens x y (append_cancel_right (lexemes_aside x.written.tokens) (lexemes_aside y.written.tokens) bound same) read.1 reading.1) is;
    params = λ x n read is same. param_other x n read is (append_cancel_right (lexemes_aside x.written.tokens) (record { kind = kind.Ident; spelling = n } ∷ []) bound same);
  }

  -- The own predicates of the automatic mode suffice.
  pub own_suffices : (bound : List Lexeme) (types : List Ty) (own : List (List Lexeme)) → AreOwn ex params self bound types own → Suffices ex params self bound types own
  own_suffices bound types own is = automatic_suffices (class_of params ex self) (own_of bound) (param_of bound) types own is

  -- None of them can be dropped, where the types are readings of their tokens.
  pub own_minimal : (bound : List Lexeme) (types : List Ty) (own : List (List Lexeme)) → AllByRecursion IsReading types → AreOwn ex params self bound types own
      → AreMinimal ex params self bound types own
  own_minimal bound types own read is =
      automatic_minimal (class_of params ex self) (own_of bound) (param_of bound) IsReading IsTypeParam (by_text bound) types own read is
