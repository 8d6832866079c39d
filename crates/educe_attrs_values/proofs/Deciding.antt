-- What follows from decisions: of texts, and of tokens by a rule.
use Rattle.std.proofs.Common.{◌≡◌, ℕ, List, sym, subst, ◌∙◌, ap, Ok, Err, ◌⊎◌, inl, inr}
use Rattle.std.specs.Prelude.{◌≢◌}
use Rattle.educe_tokens.specs.declared.error.EduceError.{EduceError}
use Rattle.educe_tokens.specs.declared.error.Kind.TheVariants.{Alloc}
use Rattle.educe_tokens.specs.declared.token.Token.{Token}
use Rattle.educe_tokens.specs.Causes.{HasCause, IsLexicalCause}
use Rattle.educe_tokens.specs.Steps.{IsReading}
use Rattle.educe_syntax.specs.Laws.{RuleLaws}
use Rattle.educe_syntax.specs.Parsed.{IsWhole, IsParseCause}
use Rattle.educe_syntax.specs.Rules.{Rule}
use Rattle.educe_syntax.specs.Steps.{Tokens}
use Rattle.educe_attrs_values.specs.declared.fault.Fault.{Fault}
use Rattle.educe_attrs_values.specs.declared.fault.Fault.TheVariants.{Memory}
use Rattle.educe_attrs_values.specs.declared.opening.Opened.{Opened}
use Rattle.educe_attrs_values.specs.Chains.{map_err}
use Rattle.educe_attrs_values.specs.Decisions.{Decision, answer_of, of_text, by_rule, lexed, parsed}
use Rattle.educe_attrs_values.specs.Readings.{fault_by, fault_of, found}

-- ---- any decision

module _ {A : Type 0} {Is : A → Type 0} {IsCause : EduceError → Type 0} (d : Decision Is IsCause) where
  abbrev IsDecided : Type 0
  IsDecided = ((x : A) × Is x) ⊎ HasCause IsCause

  ok_by : (found : IsDecided) (x : A) → Is x → answer_of found ≡ Ok x
  ok_by (inl found) x is = ap Ok (d.one found.0 x found.1 is)
  ok_by (inr cause) x is = absurd (cause.is_told (d.uncaused x is cause.error cause.stands))

  -- the value is answered
  pub answer_ok : (x : A) → Is x → answer_of d.decided ≡ Ok x
  answer_ok x is = ok_by d.decided x is

  is_by : (found : IsDecided) (x : A) → answer_of found ≡ Ok x → Is x
  is_by (inl found) x h = let same : found.0 ≡ x = cc in subst Is same found.1
  is_by (inr cause) x h = absurd (cc)

  -- what is answered is the value
  pub answer_is : (x : A) → answer_of d.decided ≡ Ok x → Is x
  answer_is x h = is_by d.decided x h

  err_by : (found : IsDecided) (e : EduceError) → IsCause e → e.kind ≢ Alloc → answer_of found ≡ Err e
  err_by (inl found) e cause told = absurd (told (d.uncaused found.0 found.1 e cause))
  err_by (inr found) e cause told = ap Err (d.single found.error e found.stands cause found.is_told told)

  -- a cause is the one that is answered
  pub answer_err : (e : EduceError) → IsCause e → e.kind ≢ Alloc → answer_of d.decided ≡ Err e
  answer_err e cause told = err_by d.decided e cause told

  abbrev IsTold : EduceError → Type 0
  IsTold e = IsCause e × (e.kind ≢ Alloc)

  cause_by : (found : IsDecided) (e : EduceError) → answer_of found ≡ Err e → IsTold e
  cause_by (inl found) e h = absurd (cc)
  cause_by (inr found) e h = let same : found.error ≡ e = cc in subst IsTold same (found.stands, found.is_told)

  -- an error that is answered is a cause, and not out of memory
  pub answer_cause : (e : EduceError) → answer_of d.decided ≡ Err e → IsCause e × (e.kind ≢ Alloc)
  answer_cause e h = cause_by d.decided e h

-- ---- texts

module _ (text : List ℕ) where
  pub lexed_ok : (tokens : List Token) → IsReading text tokens → lexed text ≡ Ok tokens
  unfolding lexed
  lexed_ok tokens reading = answer_ok (of_text text) tokens reading

  pub lexed_is : (tokens : List Token) → lexed text ≡ Ok tokens → IsReading text tokens
  unfolding lexed
  lexed_is tokens h = answer_is (of_text text) tokens h

  pub lexed_err : (e : EduceError) → IsLexicalCause text e → e.kind ≢ Alloc → lexed text ≡ Err e
  unfolding lexed
  lexed_err e cause told = answer_err (of_text text) e cause told

  pub lexed_cause : (e : EduceError) → lexed text ≡ Err e → IsLexicalCause text e × (e.kind ≢ Alloc)
  unfolding lexed
  lexed_cause e h = answer_cause (of_text text) e h

-- ---- tokens

module _ {A : Type 0} {g : Rule A} (laws : RuleLaws g) where
  pub parsed_ok : (tokens : Tokens) (x : A) → IsWhole g tokens x → parsed laws tokens ≡ Ok x
  unfolding parsed
  parsed_ok tokens x is = answer_ok (by_rule laws tokens) x is

  pub parsed_is : (tokens : Tokens) (x : A) → parsed laws tokens ≡ Ok x → IsWhole g tokens x
  unfolding parsed
  parsed_is tokens x h = answer_is (by_rule laws tokens) x h

  pub parsed_err : (tokens : Tokens) (e : EduceError) → IsParseCause g tokens e → e.kind ≢ Alloc → parsed laws tokens ≡ Err e
  unfolding parsed
  parsed_err tokens e cause told = answer_err (by_rule laws tokens) e cause told

  pub parsed_cause : (tokens : Tokens) (e : EduceError) → parsed laws tokens ≡ Err e → IsParseCause g tokens e × (e.kind ≢ Alloc)
  unfolding parsed
  parsed_cause tokens e h = answer_cause (by_rule laws tokens) e h

  -- ---- opened tokens

  -- their value is found
  pub found_ok : (o : Opened) (x : A) → IsWhole g o.tokens x → found laws o ≡ Ok x
  found_ok o x is = ap (map_err (fault_of o.quoted)) (parsed_ok o.tokens x is)

  -- or the fault of their cause
  pub found_err : (o : Opened) (e : EduceError) → IsParseCause g o.tokens e → (f : Fault) → f ≡ fault_of o.quoted e → f ≢ Memory → found laws o ≡ Err f
  found_err o e cause f is told =
      let kind : e.kind ≢ Alloc = λ alloc. told (is ∙ ap (fault_by o.quoted e.span e.words) alloc) in
      ap (map_err (fault_of o.quoted)) (parsed_err o.tokens e cause kind) ∙ ap Err (sym is)
