use Rattle.std.proofs.Common.{◌≡◌, List, ◌++◌, codes, sym, ap, ⊎_elim}
use Rattle.std.proofs.lemmas.Result.{on_ok_weaker}
use Rattle.educe_tokens.specs.Lexes.{Lexeme}
use Rattle.educe_tokens.specs.Quote.{quoted}
use Rattle.educe_tokens.proofs.Appending.{Appends-append, Appends-same}
use Rattle.educe_body_forms.specs.declared.shown.EntryKey.{EntryKey}
use Rattle.educe_body_forms.specs.Printouts.{name}
use Rattle.educe_body_forms.specs.ShownPrintouts.{entry_start}
use Rattle.educe_body_forms.proofs.print_shown.push_entry_start.Goals as goal

pub returns-in-Mapped-clause-ok : goal.returns-in-Mapped-clause-ok
returns-in-Mapped-clause-ok c =
    let same = sym (ap (λ key. (entry_start c.args.builder.now key).tokens) c.in-Mapped.is) in
    on_ok_weaker _ (λ back. Appends-same same (Appends-append c.in_ok-to_tokens.ensures.ok back)) c.quote.ensures.ok

pub returns-in-Unnamed-clause-ok : goal.returns-in-Unnamed-clause-ok
returns-in-Unnamed-clause-ok c =
    let builder = c.args.builder.now in
    let found : EntryKey → List Lexeme = λ key. (entry_start builder key).tokens in
    let same : found c.args.key.now ≡ (name builder).tokens ++ quoted (codes ". field") = ⊎_elim (λ is. ap found is) (λ held. ap found held.1) c.in-Unnamed.is in
    on_ok_weaker _ (λ back. Appends-same (sym same) (Appends-append c.in_ok-to_tokens.ensures.ok back)) c.quote-in-Unnamed.ensures.ok
