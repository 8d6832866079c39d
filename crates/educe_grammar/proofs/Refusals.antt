-- Why tokens are rejected is one thing: two rejections of the same tokens, neither out of memory, are equal; and what has a
-- reading is not rejected.
use Rattle.std.proofs.Common.{◌≡◌, ◌≢◌, ℕ, ◌++◌, ◌∷◌, length, refl, ap, sym, subst, ◌∙◌, inl, inr, arith, Option, Some, [], length-append}
use Rattle.educe_tokens.specs.declared.token.Token.{Token}
use Rattle.educe_tokens.specs.declared.error.EduceError.{EduceError}
use Rattle.educe_tokens.specs.declared.error.Kind.TheVariants.{Syntax, TooDeep, Alloc}
use Rattle.educe_tree.specs.declared.derive.DeriveInput.{DeriveInput}
use Rattle.educe_grammar.specs.declared.parse_error.ParseError.{ParseError}
use Rattle.educe_grammar.specs.Definitions.{definition}
use Rattle.educe_grammar.specs.Causes.{IsUncaused}
use Rattle.educe_grammar.specs.Naming.{Named, scopes, duplicate_of, IsRepeatedIn, AreNamesApart}
use Rattle.educe_grammar.specs.Parsed.{depth_limit, IsWhole, IsCauseWithin, IsParseCause, place_at}
use Rattle.educe_grammar.specs.Refusal.{IsDefinition, union_of, IsRefusalOf}
use Rattle.educe_grammar.specs.Reads.{Reads}
use Rattle.educe_grammar.specs.Rules.{Rule}
use Rattle.educe_grammar.specs.Steps.{Tokens}
use Rattle.educe_grammar.proofs.ReadsAgain.{definition_again, one_reading}
use Rattle.educe_grammar.proofs.Repeated.{StandsBefore, places, one_repeated_in, never_all_apart}
use Rattle.educe_grammar.proofs.Unions.{one_union, union_undefined}

-- ---- the grammar

-- a program stops at one place
one_stop : {A B : ParseError} {o : Option ParseError} → o ≡ Some A → o ≡ Some B → A ≡ B
one_stop h k = cc

-- a token behind another has fewer behind it
fewer_left : (front rest others more : Tokens) (t u : Token) → StandsBefore front t rest others u more → length (t ∷ rest) ≡ length (u ∷ more) → ⊥
fewer_left front rest others more t u earlier same =
    let behind : length rest ≡ length (earlier.between ++ u ∷ more) = ap length earlier.rest in
    absurd (omega (arith, length-append earlier.between (u ∷ more)))

-- two tokens at which equally many are left are one
one_place : (front rest others more : Tokens) (t u : Token) → front ++ t ∷ rest ≡ others ++ u ∷ more → length (t ∷ rest) ≡ length (u ∷ more) → t ≡ u
one_place front rest others more t u same left =
    elim (places front others rest more t u same) [
      | inl e ↦ e.1
      | inr (inl earlier) ↦ absurd (fewer_left front rest others more t u earlier left)
      | inr (inr earlier) ↦ absurd (fewer_left others more front rest u t earlier (sym left))
    ]

-- a whole list has one cause at most why it is rejected
pub one_cause : {A : Type 0} (budget : ℕ) (g : Rule A) (tokens : Tokens) (e f : EduceError) → IsCauseWithin budget g tokens e → IsCauseWithin budget g tokens f → e.kind ≢ Alloc → f.kind ≢ Alloc → e ≡ f
one_cause budget g tokens e f (IsCauseWithin.syntax left never stop) (IsCauseWithin.syntax other none at) some more =
    let same : left ≡ other = let at_one = one_stop stop at in cc in
    ap (λ n. record { kind = Syntax; span = place_at tokens n; words = [] }) same
one_cause budget g tokens e f (IsCauseWithin.syntax left never stop) (IsCauseWithin.too_deep front rest t none at is many) some more = let at_one = one_stop stop at in absurd (cc)
one_cause budget g tokens e f (IsCauseWithin.syntax left never stop) IsCauseWithin.memory some more = absurd (more refl)
one_cause budget g tokens e f (IsCauseWithin.too_deep front rest t never stop is many) (IsCauseWithin.syntax left none at) some more = let at_one = one_stop stop at in absurd (cc)
one_cause budget g tokens e f (IsCauseWithin.too_deep front rest t never stop is many) (IsCauseWithin.too_deep others left u none at was much) some more =
    let same : length (t ∷ rest) ≡ length (u ∷ left) = let at_one = one_stop stop at in cc in
    ap (λ (token : Token). record { kind = TooDeep; span = token.span; words = [] }) (one_place front rest others left t u (sym is ∙ was) same)
one_cause budget g tokens e f (IsCauseWithin.too_deep front rest t never stop is many) IsCauseWithin.memory some more = absurd (more refl)
one_cause budget g tokens e f IsCauseWithin.memory c some more = absurd (some refl)

-- what has a reading has no cause but out of memory
pub whole_uncaused : {A : Type 0} (budget : ℕ) (g : Rule A) (tokens : Tokens) (x : A) → Reads budget g tokens x → IsUncaused (IsCauseWithin budget g tokens)
whole_uncaused budget g tokens x whole e (IsCauseWithin.syntax left never stop) = absurd (never x whole)
whole_uncaused budget g tokens x whole e (IsCauseWithin.too_deep front rest t never stop is many) = absurd (never x whole)
whole_uncaused budget g tokens x whole e IsCauseWithin.memory = refl

-- ---- definitions

-- a definition is not rejected by the grammar
refused_undefined : (tokens : Tokens) (e : EduceError) (found : DeriveInput) → IsParseCause definition tokens e → IsWhole definition tokens found → e.kind ≢ Alloc → ⊥
refused_undefined tokens e found cause whole some = some (whole_uncaused depth_limit definition tokens found whole e cause)

-- one name of the definition that the tokens are is reported
one_name : (tokens : Tokens) (found other : DeriveInput) (name again : Named) → IsWhole definition tokens found → IsWhole definition tokens other
    → IsRepeatedIn name (scopes found) → IsRepeatedIn again (scopes other) → name ≡ again
one_name tokens found other name again whole all twice much =
    let same : found ≡ other = one_reading definition definition_again depth_limit tokens found other whole all in
    one_repeated_in (scopes other) name again (subst (λ (d : DeriveInput). IsRepeatedIn name (scopes d)) same twice) much

-- the tokens of a definition are rejected for one reason
pub one_refusal : (tokens : Tokens) (e f : EduceError) → IsRefusalOf tokens e → IsRefusalOf tokens f → e.kind ≢ Alloc → f.kind ≢ Alloc → e ≡ f
one_refusal tokens e f (IsRefusalOf.union word is) (IsRefusalOf.union other was) some more = ap union_of (one_union tokens word other is was)
one_refusal tokens e f (IsRefusalOf.union word is) (IsRefusalOf.grammar never cause) some more = absurd (never word is)
one_refusal tokens e f (IsRefusalOf.union word is) IsRefusalOf.memory some more = absurd (more refl)
one_refusal tokens e f (IsRefusalOf.union word is) (IsRefusalOf.repeated found name whole twice) some more = absurd (union_undefined tokens word found is whole)
one_refusal tokens e f (IsRefusalOf.grammar never cause) (IsRefusalOf.union word is) some more = absurd (never word is)
one_refusal tokens e f (IsRefusalOf.grammar never cause) (IsRefusalOf.grammar none other) some more = one_cause depth_limit definition tokens e f cause other some more
one_refusal tokens e f (IsRefusalOf.grammar never cause) IsRefusalOf.memory some more = absurd (more refl)
one_refusal tokens e f (IsRefusalOf.grammar never cause) (IsRefusalOf.repeated found name whole twice) some more = absurd (refused_undefined tokens e found cause whole some)
one_refusal tokens e f IsRefusalOf.memory other some more = absurd (some refl)
one_refusal tokens e f (IsRefusalOf.repeated found name whole twice) (IsRefusalOf.union word is) some more = absurd (union_undefined tokens word found is whole)
one_refusal tokens e f (IsRefusalOf.repeated found name whole twice) (IsRefusalOf.grammar never cause) some more = absurd (refused_undefined tokens f found cause whole more)
one_refusal tokens e f (IsRefusalOf.repeated found name whole twice) IsRefusalOf.memory some more = absurd (more refl)
one_refusal tokens e f (IsRefusalOf.repeated found name whole twice) (IsRefusalOf.repeated other again all much) some more =
    ap duplicate_of (one_name tokens found other name again whole all twice much)

-- a definition whose names are apart has no cause but out of memory
pub definition_uncaused : (tokens : Tokens) (found : DeriveInput) → IsDefinition tokens found → IsUncaused (IsRefusalOf tokens)
definition_uncaused tokens found is e (IsRefusalOf.union word union) = absurd (union_undefined tokens word found union is.whole)
definition_uncaused tokens found is e (IsRefusalOf.grammar never cause) = whole_uncaused depth_limit definition tokens found is.whole e cause
definition_uncaused tokens found is e IsRefusalOf.memory = refl
definition_uncaused tokens found is e (IsRefusalOf.repeated other name whole twice) =
    let same : found ≡ other = one_reading definition definition_again depth_limit tokens found other is.whole whole in
    absurd (never_all_apart (scopes other) name twice (subst (λ (d : DeriveInput). AreNamesApart d) same is.apart))
