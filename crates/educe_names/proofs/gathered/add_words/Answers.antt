use Rattle.std.proofs.Common.{◌∙◌, List, ℕ, sym, subst, chars}
use Rattle.std.proofs.lemmas.Result.{on_ok_weaker}
use Rattle.educe_tokens.specs.Lexes.{lexeme_of}
use Rattle.educe_tokens.specs.StringValue.{IsStringValue}
use Rattle.educe_names.specs.Held.{Gains}
use Rattle.educe_names.specs.Words.{IsRunOf}
use Rattle.educe_names.proofs.Gaining.{ident_gains, lifetime_gains, value_gains, other_gains}
use Rattle.educe_names.proofs.gathered.add_words.Goals as goal

pub returns-in_ok-from_str-in-Ident : goal.returns-in_ok-from_str-in-Ident
returns-in_ok-from_str-in-Ident c =
    on_ok_weaker c.push.result
    (λ adds. ident_gains c.args.token.now c.in_ok-from_str-in-Ident.field-0 c.args.words.now c.push.new.self c.in-Ident.is (c.in_ok-from_str-in-Ident.ensures ∙ c.unraw.ensures.chars) adds)
    c.push.ensures.ok

pub returns-in-Lifetime : goal.returns-in-Lifetime
returns-in-Lifetime c =
    on_ok_weaker c.add_lifetime.result (λ gains. lifetime_gains c.args.token.now c.args.words.now c.add_lifetime.new.words c.in-Lifetime.is gains) c.add_lifetime.ensures

pub returns-in_ok-letters-in-Some : goal.returns-in_ok-letters-in-Some
returns-in_ok-letters-in-Some c =
    let value = rw c.in-Some.is at c.in_ok-value-in_default.ensures.some in
    let holds : IsStringValue (lexeme_of c.args.token.now) (chars c.deref.result.now) = subst (λ (bytes : List ℕ). IsStringValue (lexeme_of c.args.token.now) (chars bytes)) (sym c.deref.ensures) value in
    on_ok_weaker c.add_runs.result
    (λ gains. value_gains c.args.token.now (chars c.deref.result.now) c.args.words.now c.add_runs.new.words holds
    (subst (λ (text : List ℕ). Gains c.args.words.now c.add_runs.new.words (λ word. IsRunOf word text)) (c.as_slice.ensures ∙ c.in_ok-letters-in-Some.ensures) gains))
    c.add_runs.ensures

pub returns-in-None : goal.returns-in-None
returns-in-None c =
    let none = rw c.in-None.is at c.in_ok-value-in_default.ensures.none in
    other_gains c.args.token.now c.args.words.now none c.in_default.not-Ident c.in_default.not-Lifetime
