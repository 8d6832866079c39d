use Rattle.std.proofs.Common.{◌∙◌, List, ℕ, IsTrue, ap, sym, subst, chars}
use Rattle.std.proofs.lemmas.Str.{chars-append}
use Rattle.educe_tokens.specs.TokenKind.TheVariants.{Ident}
use Rattle.educe_tokens.specs.Pieces.{spells}
use Rattle.educe_body_forms.proofs.bindings.behind_prefix.Goals as goal

pub invariant_of-result : goal.invariant_of-result
invariant_of-result c =
    let text = c.in_ok-text.ensures ∙ ap chars (c.deref.ensures ∙ c.in_ok-whole.ensures.ok) ∙ chars-append c.args.prefix.now c.args.rest.now c.utf8.prefix in
    let P : List ℕ → Type 0 = λ text. IsTrue (spells Ident text) in
    record { spelled = subst P (sym text) c.requires }

pub returns-clause-text : goal.returns-clause-text
returns-clause-text c = c.in_ok-text.ensures ∙ ap chars (c.deref.ensures ∙ c.in_ok-whole.ensures.ok) ∙ chars-append c.args.prefix.now c.args.rest.now c.utf8.prefix
