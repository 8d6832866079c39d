-- The values of tokens by a rule, and why they have none.
use Rattle.std.proofs.Common.{◌≡◌, ℕ, ◌≤◌, Bool, true, false, IsTrue, List, length, refl, sym, subst, ◌∙◌, ap, Option, Some, None, Result, Ok, Err, encode_utf8_all}
use Rattle.std.specs.Prelude.{◌≢◌, if◌then◌else◌, nat_le}
use Rattle.educe_tokens.specs.declared.error.EduceError.{EduceError}
use Rattle.educe_tokens.specs.declared.error.Kind.TheVariants as kind
use Rattle.educe_tokens.specs.declared.span.TheConstants.{SOURCE_LIMIT}
use Rattle.educe_tokens.specs.declared.token.Token.{Token}
use Rattle.educe_tokens.specs.Causes.{IsLexicalCause, IsLexicalCauseWithin}
use Rattle.educe_tokens.specs.Steps.{IsReading}
use Rattle.educe_syntax.specs.Laws.{RuleLaws}
use Rattle.educe_syntax.specs.Parsed.{IsWhole, IsCauseWithin, IsParseCause}
use Rattle.educe_syntax.specs.Rules.{Rule}
use Rattle.educe_syntax.specs.TokenLaws.{lawful_lexing}
use Rattle.educe_attrs_values.specs.declared.fault.Fault.{Fault}
use Rattle.educe_attrs_values.specs.declared.fault.Fault.TheVariants as fault
use Rattle.educe_attrs_values.specs.declared.kind.ValueKind.{ValueKind}
use Rattle.educe_attrs_values.specs.declared.opening.Opened.{Opened}
use Rattle.educe_attrs_values.specs.declared.source.Source.{Source}
use Rattle.educe_attrs_values.specs.Causes.{IsTooDeep, IsOpened, IsTextTooDeep, IsUncarried, IsCarried}
use Rattle.educe_attrs_values.specs.Chains.{and_then, map_ok, map_err}
use Rattle.educe_attrs_values.specs.Decisions.{lexed, parsed}
use Rattle.educe_attrs_values.specs.Kinds.{opens_strings}
use Rattle.educe_attrs_values.specs.Readings.{fault_of, standing, of_string, opened_text, opened_by, found, plain}
use Rattle.educe_attrs_values.specs.Texts.{only_text}
use Rattle.educe_attrs_values.specs.Values.{ReadsText, ReadsBy, ReadsPlain}
use Rattle.educe_attrs_values.proofs.Deciding.{lexed_ok, lexed_is, lexed_cause, parsed_ok, parsed_is, parsed_cause}
use Rattle.educe_attrs_values.proofs.Integers.{within, is_within}

-- ---- inversions

pub ok_one : {A E : Type 0} {x y : A} → ◌≡◌ {A = Result A E} (Ok x) (Ok y) → x ≡ y
ok_one h = cc

pub err_one : {A E : Type 0} {x y : E} → ◌≡◌ {A = Result A E} (Err x) (Err y) → x ≡ y
err_one h = cc

pub ok_no_err : {A E : Type 0} (r : Result A E) (x : A) (e : E) → r ≡ Ok x → r ≡ Err e → ⊥
ok_no_err {A = A} {E = E} r x e h k = let same : ◌≡◌ {A = Result A E} (Ok x) (Err e) = sym h ∙ k in cc

pub mapped_ok : {A D E : Type 0} (f : D → E) (r : Result A D) (x : A) → map_err f r ≡ Ok x → r ≡ Ok x
mapped_ok f (Ok y) x h = ap Ok (ok_one h)
mapped_ok f (Err e) x h = absurd (cc)

-- ---- values

module _ {A : Type 0} {g : Rule A} (laws : RuleLaws g) where
  -- what is found is the value
  pub found_is : (o : Opened) (x : A) → found laws o ≡ Ok x → IsWhole g o.tokens x
  found_is o x h = parsed_is laws o.tokens x (mapped_ok (fault_of o.quoted) (parsed laws o.tokens) x h)

  -- the value is found
  pub found_back : (o : Opened) (x : A) → IsWhole g o.tokens x → found laws o ≡ Ok x
  found_back o x is = ap (map_err (fault_of o.quoted)) (parsed_ok laws o.tokens x is)

  module _ (text : List ℕ) where
    -- what is read for the text, where it is within the limit or not
    abbrev limited : Bool → Result Opened Fault
    limited b = if b then map_ok of_string (map_err (fault_of true) (lexed text)) else Err fault.Wrong

    -- what is read for the text, where it has these tokens or none
    abbrev lexed_to : Result (List Token) EduceError → Result A Fault
    lexed_to r = and_then (found laws) (map_ok of_string (map_err (fault_of true) r))

    lexed_by : length (encode_utf8_all text) ≤ SOURCE_LIMIT → (r : Result (List Token) EduceError) → lexed text ≡ r → (x : A) → lexed_to r ≡ Ok x → ReadsText g text x
    lexed_by within (Ok inner) is x h = record { within = within; inner = inner; reading = lexed_is text inner is; whole = found_is (of_string inner) x h }
    lexed_by within (Err e) is x h = absurd (cc)

    limit_by : (b : Bool) → nat_le (length (encode_utf8_all text)) SOURCE_LIMIT ≡ b → (x : A) → and_then (found laws) (limited b) ≡ Ok x → ReadsText g text x
    limit_by true is x h = lexed_by (within (length (encode_utf8_all text)) SOURCE_LIMIT is) (lexed text) refl x h
    limit_by false is x h = absurd (cc)

    text_is : (x : A) → and_then (found laws) (opened_text text) ≡ Ok x → ReadsText g text x
    text_is x h = limit_by (nat_le (length (encode_utf8_all text)) SOURCE_LIMIT) refl x h

    text_back : (x : A) → ReadsText g text x → and_then (found laws) (opened_text text) ≡ Ok x
    text_back x h =
        ap (λ b. and_then (found laws) (limited b)) (is_within (length (encode_utf8_all text)) SOURCE_LIMIT h.within)
        ∙ (ap lexed_to (lexed_ok text h.inner h.reading) ∙ found_back (of_string h.inner) x h.whole)

  by_is : (o : Option (List ℕ)) (tokens : List Token) (x : A) → and_then (found laws) (opened_by o tokens) ≡ Ok x → ReadsBy g o tokens x
  by_is None tokens x h = found_is (standing tokens) x h
  by_is (Some text) tokens x h = text_is text x h

  pub by_back : (o : Option (List ℕ)) (tokens : List Token) (x : A) → ReadsBy g o tokens x → and_then (found laws) (opened_by o tokens) ≡ Ok x
  by_back None tokens x h = found_back (standing tokens) x h
  by_back (Some text) tokens x h = text_back text x h

  -- what is read is the value
  pub plain_is : (tokens : List Token) (x : A) → plain laws tokens ≡ Ok x → ReadsPlain g tokens x
  plain_is tokens x h = by_is (only_text tokens) tokens x h

  -- the value is read
  pub plain_back : (tokens : List Token) (x : A) → ReadsPlain g tokens x → plain laws tokens ≡ Ok x
  plain_back tokens x h = by_back (only_text tokens) tokens x h

-- ---- faults

-- What a fault says: no literal is to blame; or more openers count at a token, or in the text; or a literal of the text is.
pub data Explains (k : ValueKind) (s : Source) : Fault → Type 0 where
  wrong : IsCarried k s → Explains k s fault.Wrong
  deep_token : (t : Token) → IsTooDeep s.tokens t → Explains k s (fault.TooDeep t.span)
  deep_text : (text : List ℕ) → IsOpened k s text → IsTextTooDeep text → Explains k s fault.TooDeepText
  literal : (text : List ℕ) (e : EduceError) → IsOpened k s text → IsUncarried text e → Explains k s (fault.NotCarried e.words)

module _ (k : ValueKind) (s : Source) where
  -- no text is read for tokens that are no string
  pub carried_standing : only_text s.tokens ≡ None → IsCarried k s
  carried_standing none text e o u = let both : None ≡ Some text = sym none ∙ o.is in cc

  -- no text is read where the kind reads none
  pub carried_closed : opens_strings k ≡ false → IsCarried k s
  carried_closed closed text e o u = let both : false ≡ true = sym closed ∙ o.opens in cc

  -- texts that are read are this one
  module _ (text : List ℕ) (is : only_text s.tokens ≡ Some text) where
    same_text : (other : List ℕ) → IsOpened k s other → other ≡ text
    same_text other o = let both : Some other ≡ Some text = sym o.is ∙ is in cc

    -- without a cause of the kind no literal is to blame
    carried_text : ((e : EduceError) → IsUncarried text e → ⊥) → IsCarried k s
    carried_text none other e o u = none e (subst (λ t. IsUncarried t e) (same_text other o) u)

    carried_long : nat_le (length (encode_utf8_all text)) SOURCE_LIMIT ≡ false → IsCarried k s
    carried_long long other e o u =
        let fits : nat_le (length (encode_utf8_all other)) SOURCE_LIMIT ≡ true = is_within (length (encode_utf8_all other)) SOURCE_LIMIT o.within in
        let both : true ≡ false = sym (subst (λ t. nat_le (length (encode_utf8_all t)) SOURCE_LIMIT ≡ true) (same_text other o) fits) ∙ long in cc

    -- a text with tokens has no cause
    carried_lexed : (inner : List Token) → IsReading text inner → IsCarried k s
    carried_lexed inner reading =
        carried_text (λ e u. let alloc : kind.NotCarried ≡ kind.Alloc = sym u.kind ∙ lawful_lexing.uncaused text inner reading e u.cause in cc)

    -- a text with another cause has no unsupported literal as its cause
    carried_other : (e : EduceError) → IsLexicalCause text e → e.kind ≢ kind.Alloc → e.kind ≢ kind.NotCarried → IsCarried k s
    carried_other e cause told other =
        carried_text (λ f u. other (ap (λ (e : EduceError). e.kind) (lawful_lexing.one_cause text e f cause u.cause told (λ alloc. let both : kind.NotCarried ≡ kind.Alloc = sym u.kind ∙ alloc in cc)) ∙ u.kind))

  module _ {A : Type 0} {g : Rule A} (laws : RuleLaws g) where
    -- tokens as they stand
    standing_by : IsCarried k s → (e : EduceError) → IsParseCause g s.tokens e → e.kind ≢ kind.Alloc → Explains k s (fault_of false e)
    standing_by carried _ (IsCauseWithin.syntax left none stop) told = Explains.wrong carried
    standing_by carried _ (IsCauseWithin.too_deep front rest t none stop is many) told = Explains.deep_token t (record { front = front; rest = rest; is = is; many = many })
    standing_by carried _ IsCauseWithin.memory told = absurd (told refl)

    standing_if : IsCarried k s → (r : Result A EduceError) → parsed laws s.tokens ≡ r → (f : Fault) → map_err (fault_of false) r ≡ Err f → Explains k s f
    standing_if carried (Ok x) is f h = absurd (cc)
    standing_if carried (Err e) is f h = let cause = parsed_cause laws s.tokens e is in subst (Explains k s) (err_one h) (standing_by carried e cause.0 cause.1)

    -- a fault of tokens as they stand
    pub standing_explained : IsCarried k s → (f : Fault) → found laws (standing s.tokens) ≡ Err f → Explains k s f
    standing_explained carried f h = standing_if carried (parsed laws s.tokens) refl f h

    module _ (text : List ℕ) (opens : IsTrue (opens_strings k)) (is : only_text s.tokens ≡ Some text) (within : length (encode_utf8_all text) ≤ SOURCE_LIMIT) where
      abbrev text_opened : IsOpened k s text
      text_opened = record { opens = opens; is = is; within = within }

      inner_by : (inner : List Token) → IsReading text inner → (e : EduceError) → IsParseCause g inner e → e.kind ≢ kind.Alloc → Explains k s (fault_of true e)
      inner_by inner reading _ (IsCauseWithin.syntax left none stop) told = Explains.wrong (carried_lexed text is inner reading)
      inner_by inner reading _ (IsCauseWithin.too_deep front rest t none stop whole many) told =
          Explains.deep_text text text_opened (IsTextTooDeep.openers inner t reading (record { front = front; rest = rest; is = whole; many = many }))
      inner_by inner reading _ IsCauseWithin.memory told = absurd (told refl)

      inner_if : (inner : List Token) → IsReading text inner → (r : Result A EduceError) → parsed laws inner ≡ r → (f : Fault) → map_err (fault_of true) r ≡ Err f → Explains k s f
      inner_if inner reading (Ok x) read f h = absurd (cc)
      inner_if inner reading (Err e) read f h = let cause = parsed_cause laws inner e read in subst (Explains k s) (err_one h) (inner_by inner reading e cause.0 cause.1)

      lexical_by : (e : EduceError) → IsLexicalCause text e → e.kind ≢ kind.Alloc → Explains k s (fault_of true e)
      lexical_by _ (IsLexicalCauseWithin.not_carried before piece what rest reads carried uncarried) told =
          Explains.literal text _ text_opened (record { cause = IsLexicalCauseWithin.not_carried before piece what rest reads carried uncarried; kind = refl })
      lexical_by _ (IsLexicalCauseWithin.no_piece before rest reads carried some fits) told =
          Explains.wrong (carried_other text is _ (IsLexicalCauseWithin.no_piece before rest reads carried some fits) told (λ same. cc))
      lexical_by _ (IsLexicalCauseWithin.wrong_close before t behind outer meets close) told =
          Explains.wrong (carried_other text is _ (IsLexicalCauseWithin.wrong_close before t behind outer meets close) told (λ same. cc))
      lexical_by _ (IsLexicalCauseWithin.unclosed tokens innermost outer lexes opened shallow) told =
          Explains.wrong (carried_other text is _ (IsLexicalCauseWithin.unclosed tokens innermost outer lexes opened shallow) told (λ same. cc))
      lexical_by _ (IsLexicalCauseWithin.too_deep before t behind outer b meets start many) told =
          Explains.deep_text text text_opened (IsTextTooDeep.brackets _ (IsLexicalCauseWithin.too_deep before t behind outer b meets start many) refl)
      lexical_by _ IsLexicalCauseWithin.memory told = absurd (told refl)

      lexed_if : (r : Result (List Token) EduceError) → lexed text ≡ r → (f : Fault) → lexed_to laws text r ≡ Err f → Explains k s f
      lexed_if (Ok inner) read f h = inner_if inner (lexed_is text inner read) (parsed laws inner) refl f h
      lexed_if (Err e) read f h = let cause = lexed_cause text e read in subst (Explains k s) (err_one h) (lexical_by e cause.0 cause.1)

    limit_if : (text : List ℕ) → IsTrue (opens_strings k) → only_text s.tokens ≡ Some text → (b : Bool) → nat_le (length (encode_utf8_all text)) SOURCE_LIMIT ≡ b
        → (f : Fault) → and_then (found laws) (limited laws text b) ≡ Err f → Explains k s f
    limit_if text opens is true fits f h = lexed_if text opens is (within (length (encode_utf8_all text)) SOURCE_LIMIT fits) (lexed text) refl f h
    limit_if text opens is false fits f h = subst (Explains k s) (err_one h) (Explains.wrong (carried_long text is fits))

    plain_if : IsTrue (opens_strings k) → (o : Option (List ℕ)) → only_text s.tokens ≡ o → (f : Fault) → and_then (found laws) (opened_by o s.tokens) ≡ Err f → Explains k s f
    plain_if opens None is f h = standing_explained (carried_standing is) f h
    plain_if opens (Some text) is f h = limit_if text opens is (nat_le (length (encode_utf8_all text)) SOURCE_LIMIT) refl f h

    -- a fault of tokens or of the text that is all of them
    pub plain_explained : IsTrue (opens_strings k) → (f : Fault) → plain laws s.tokens ≡ Err f → Explains k s f
    plain_explained opens f h = plain_if opens (only_text s.tokens) refl f h
