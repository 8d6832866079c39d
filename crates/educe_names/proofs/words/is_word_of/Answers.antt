use Rattle.std.proofs.Common.{sym, subst, List, ℕ, chars}
use Rattle.std.proofs.lemmas.Bool.{false≢true}
use Rattle.educe_tokens.specs.Lexes.{lexeme_of}
use Rattle.educe_tokens.specs.StringValue.{IsStringValue}
use Rattle.educe_names.proofs.Having.{ident_tells, lifetime_tells, value_tells, no_word}
use Rattle.educe_names.proofs.words.is_word_of.Goals as goal

pub returns-in-Ident : goal.returns-in-Ident
returns-in-Ident c =
    ident_tells c.args.token.now c.unraw.result.now c.args.word.now c.eq.result c.in-Ident.is c.eq.ensures c.unraw.ensures.chars c.unraw.ensures.bytes c.utf8.word

pub returns-in-Lifetime : goal.returns-in-Lifetime
returns-in-Lifetime c = lifetime_tells c.args.token.now (chars c.args.word.now) c.is_lifetime.result c.in-Lifetime.is c.is_lifetime.ensures

pub returns-in-Some : goal.returns-in-Some
returns-in-Some c =
    let value = rw c.in-Some.is at c.in_ok-value-in_default.ensures.some in
    let holds : IsStringValue (lexeme_of c.args.token.now) (chars c.deref.result.now) = subst (λ (bytes : List ℕ). IsStringValue (lexeme_of c.args.token.now) (chars bytes)) (sym c.deref.ensures) value in
    value_tells c.args.token.now (chars c.args.word.now) (chars c.deref.result.now) c.is_run.result holds c.is_run.ensures

pub returns-in-None : goal.returns-in-None
returns-in-None c =
    let none = rw c.in-None.is at c.in_ok-value-in_default.ensures.none in (
      (λ h. absurd (false≢true h)),
      (λ h. absurd (no_word (chars c.args.word.now) (lexeme_of c.args.token.now) none c.in_default.not-Ident c.in_default.not-Lifetime h)),
    )
