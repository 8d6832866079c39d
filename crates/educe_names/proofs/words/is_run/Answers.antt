use Rattle.std.proofs.Common.{◌≡◌, ◌∙◌, ◌↔◌, IsTrue, List, ℕ, subst, chars}
use Rattle.std.proofs.lemmas.Iterator.{items_from_collect, YieldsList-from_chars}
use Rattle.educe_names.specs.Words.{IsRunOf}
use Rattle.educe_names.proofs.words.is_run.Goals as goal

pub returns : goal.returns
returns c =
    let text = rw c.in_ok-text.was at (items_from_collect c.collect.result c.collect.ensures.ran (YieldsList-from_chars c.args.text.now c.utf8.text c.chars.ensures.rest)) in
    let word = rw c.in_ok-word.was at (items_from_collect c.collect-2.result c.collect-2.ensures.ran (YieldsList-from_chars c.args.word.now c.utf8.word c.chars-2.ensures.rest)) in
    let in_word : c.deref-2.result.now ≡ chars c.args.word.now = c.deref-2.ensures.value ∙ word in
    let in_text : c.deref.result.now ≡ chars c.args.text.now = c.deref.ensures.value ∙ text in
    subst (λ (t : List ℕ). IsTrue c.has_run.result ↔ IsRunOf (chars c.args.word.now) t) in_text
    (subst (λ (w : List ℕ). IsTrue c.has_run.result ↔ IsRunOf w c.deref.result.now) in_word c.has_run.ensures)
