-- What the causes of errors report: the words of their messages, and places where tokens stand, or the end.
use Rattle.std.proofs.Common.{◌≡◌, ℕ, zero, suc, ◌-◌, [], ◌∷◌, ◌++◌, length, refl, ap, sym, subst, ◌∙◌, inl, inr, Option, Some, None, append_assoc}
use Rattle.std.specs.Prelude.{slice_get}
use Rattle.std.specs.List.{AllByRecursion}
use Rattle.std.proofs.lemmas.Option.{same_Some}
use Rattle.educe_tokens.specs.declared.error.EduceError.{EduceError}
use Rattle.educe_tokens.specs.declared.token.Token.{Token}
use Rattle.educe_tree.specs.declared.derive.DeriveInput.{DeriveInput}
use Rattle.educe_grammar.specs.Steps.{Tokens}
use Rattle.educe_grammar.specs.Rules.{Rule}
use Rattle.educe_grammar.specs.Definitions.{definition}
use Rattle.educe_grammar.specs.Parsed.{depth_limit, IsWhole, IsCauseWithin, place_at}
use Rattle.educe_grammar.specs.Naming.{Named, scopes, IsRepeatedIn}
use Rattle.educe_grammar.specs.Refusal.{IsRefusalOf}
use Rattle.educe_grammar.specs.Placed.{HasPlace, IsPlace}
use Rattle.educe_grammar.specs.Causes.{IsReported}
use Rattle.educe_grammar.proofs.Placed.{definition_stands}
use Rattle.educe_grammar.proofs.Repeated.{all_at}

-- a token that is found by its number is one of the list
found_place : (tokens : Tokens) (n : ℕ) (t : Token) → slice_get tokens n ≡ Some t → HasPlace tokens t.span
found_place [] n t is = absurd (cc)
found_place (u ∷ ts) zero t is = record { front = []; found = u; rest = ts; is = refl; at_place = ap (λ (v : Token). v.span) (same_Some u t is) }
found_place (u ∷ ts) (suc n) t is =
    let p = found_place ts n t is in record { front = u ∷ p.front; found = p.found; rest = p.rest; is = ap (λ us. u ∷ us) p.is; at_place = p.at_place }

-- the place of a rejection of the grammar
place_at_placed : (tokens : Tokens) (left : ℕ) → IsPlace tokens (place_at tokens left)
place_at_placed tokens left = go (slice_get tokens (length tokens - left)) refl
  where
    go : (o : Option Token) → slice_get tokens (length tokens - left) ≡ o → IsPlace tokens (place_at tokens left)
    go None e = inr (rw e refl)
    go (Some t) e = inl (rw e (found_place tokens (length tokens - left) t e))

-- a name that is given twice stands where a token does
repeated_placed : (tokens : Tokens) (found : DeriveInput) (again : Named) → IsWhole definition tokens found → IsRepeatedIn again (scopes found) → HasPlace tokens again.span
repeated_placed tokens found again whole twice =
    let all = subst (AllByRecursion (AllByRecursion (λ (n : Named). HasPlace tokens n.span))) twice.is (definition_stands tokens found whole).names in
    let names = all_at (AllByRecursion (λ (n : Named). HasPlace tokens n.span)) twice.before twice.after twice.names all in
    let r = twice.repeated in
    let split : twice.names ≡ (r.before ++ r.first ∷ r.between) ++ again ∷ r.after = r.is ∙ sym (append_assoc r.before (r.first ∷ r.between) (again ∷ r.after)) in
    all_at (λ (n : Named). HasPlace tokens n.span) (r.before ++ r.first ∷ r.between) r.after again (subst (AllByRecursion (λ (n : Named). HasPlace tokens n.span)) split names)

-- A cause of the grammar reports its place, and no words.
pub cause_reported : {A : Type 0} (budget : ℕ) (g : Rule A) (tokens : Tokens) (e : EduceError) → IsCauseWithin budget g tokens e → IsReported tokens e
cause_reported budget g tokens e (IsCauseWithin.syntax left never stop) = record { words = refl; place = inl (place_at_placed tokens left) }
cause_reported budget g tokens e (IsCauseWithin.too_deep front rest t never stop is many) =
    record { words = refl; place = inl (inl (record { front = front; found = t; rest = rest; is = is; at_place = refl })) }
cause_reported budget g tokens e IsCauseWithin.memory = record { words = refl; place = inr refl }

-- a cause of the rejection of a definition has its place and the words that its message cites
pub refusal_reported : (tokens : Tokens) (e : EduceError) → IsRefusalOf tokens e → IsReported tokens e
refusal_reported tokens e (IsRefusalOf.union word is) =
    record { words = refl; place = inl (inl (record { front = is.front; found = word; rest = is.rest; is = is.is; at_place = refl })) }
refusal_reported tokens e (IsRefusalOf.grammar never cause) = cause_reported depth_limit definition tokens e cause
refusal_reported tokens e IsRefusalOf.memory = record { words = refl; place = inr refl }
refusal_reported tokens e (IsRefusalOf.repeated found again whole twice) = record { words = refl; place = inl (inl (repeated_placed tokens found again whole twice)) }
