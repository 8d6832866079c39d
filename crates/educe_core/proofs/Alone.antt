-- A text that is no definition has one cause to be rejected, out of memory aside.
use Rattle.std.proofs.Common.{◌≡◌, ◌≢◌, ℕ, List, refl, subst, chars}
use Rattle.educe_tokens.specs.declared.error.EduceError.{EduceError}
use Rattle.educe_tokens.specs.declared.error.Kind.TheVariants.{Alloc}
use Rattle.educe_tokens.specs.declared.token.Token.{Token}
use Rattle.educe_tokens.specs.Causes.{IsLexicalCause}
use Rattle.educe_tokens.specs.Steps.{IsReading}
use Rattle.educe_syntax.specs.Refusal.{IsRefusalOf}
use Rattle.educe_syntax.specs.Laws.{lawful_definitions}
use Rattle.educe_syntax.specs.TokenLaws.{lawful_lexing}
use Rattle.educe_core.specs.Headline.{IsCause, IsUndefined, IsAlone}

module _ (source : List ℕ) (undefined : IsUndefined source) where
  -- a text that has tokens whose brackets close in order, not too deep, has no lexical cause
  not_lexical : {X : Type 0} (tokens : List Token) (e : EduceError) → IsReading (chars source) tokens → IsLexicalCause (chars source) e → e.kind ≢ Alloc → X
  not_lexical tokens e are cause kind = absurd (kind (lawful_lexing.uncaused (chars source) tokens are e cause))

  -- two causes are one
  cause_once : (e f : EduceError) → IsCause source e → IsCause source f → e.kind ≢ Alloc → f.kind ≢ Alloc → e ≡ f
  cause_once e f IsCause.memory also kind kind_also = absurd (kind refl)
  cause_once e f (IsCause.handled d defines cause) also kind kind_also = absurd (undefined d defines)
  cause_once e f cause IsCause.memory kind kind_also = absurd (kind_also refl)
  cause_once e f cause (IsCause.handled d defines also) kind kind_also = absurd (undefined d defines)
  cause_once e f (IsCause.lexical cause) (IsCause.lexical also) kind kind_also = lawful_lexing.one_cause (chars source) e f cause also kind kind_also
  cause_once e f (IsCause.lexical cause) (IsCause.grammatical ts are refusal) kind kind_also = not_lexical ts e are cause kind
  cause_once e f (IsCause.grammatical ts are refusal) (IsCause.lexical cause) kind kind_also = not_lexical ts f are cause kind_also
  cause_once e f (IsCause.grammatical ts are refusal) (IsCause.grammatical us are_also also) kind kind_also =
      lawful_definitions.one_cause us e f (subst (λ (xs : List Token). IsRefusalOf xs e) (lawful_lexing.one_list (chars source) ts us are.lexes are_also.lexes) refusal) also kind kind_also

  -- a rejection with a cause is the only one
  pub alone : (e : EduceError) → IsCause source e → e.kind ≢ Alloc → IsAlone source e
  alone e cause kind other kind_also also = cause_once other e also cause kind_also kind
