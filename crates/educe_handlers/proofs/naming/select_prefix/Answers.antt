use Rattle.std.proofs.Common.{◌≡◌, ◌∙◌, ℕ, List, ap, sym, subst, chars}
use Rattle.std.specs.Prelude.{string_bytes}
use Rattle.std.proofs.lemmas.Result.{IfOk-weaker}
use Rattle.educe_tokens.proofs.Quoting.{ascii_name_is}
use Rattle.educe_tokens.specs.Spells.{IsWord}
use Rattle.educe_body.specs.Chosen.{IsPrefix}
use Rattle.educe_body.specs.NameLaws.{ascii_is_word}
use Rattle.educe_handlers.proofs.naming.select_prefix.Goals as goal

pub returns-clause-chosen : goal.returns-clause-chosen
returns-clause-chosen c =
    let chosen = subst (λ (name : List ℕ). IsPrefix c.args.used.now name (chars (string_bytes c.in_ok-prefix.prefix))) (ascii_name_is c.args.name.now c.requires).1 c.in_ok-prefix.ensures.chosen in
    IfOk-weaker c.from_str.result (λ (text : List ℕ). text ≡ chars c.deref.result.now) (λ text. IsPrefix c.args.used.now c.args.name.now text)
    (λ text is. subst (IsPrefix c.args.used.now c.args.name.now) (sym (is ∙ ap chars c.deref.ensures)) chosen) c.from_str.ensures

pub returns-clause-word : goal.returns-clause-word
returns-clause-word c =
    let word = c.in_ok-prefix.ensures.word (ascii_is_word c.args.name.now c.requires) in
    IfOk-weaker c.from_str.result (λ (text : List ℕ). text ≡ chars c.deref.result.now) IsWord (λ text is. subst IsWord (sym (is ∙ ap chars c.deref.ensures)) word) c.from_str.ensures
