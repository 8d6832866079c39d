use Rattle.std.proofs.Common.{List, ℕ, [], ◌∷◌, ap}
use Rattle.std.proofs.lemmas.Result.{on_ok_weaker}
use Rattle.educe_tokens.proofs.Appending.{Appends-same}
use Rattle.educe_tokens.specs.Quote.{word_lexeme}
use Rattle.educe_body_forms.proofs.print_patterns.push_count.Goals as goal

pub returns-clause-ok : goal.returns-clause-ok
returns-clause-ok c =
    let same = ap (λ (text : List ℕ). word_lexeme text ∷ []) c.in_ok-word.ensures in
    on_ok_weaker _ (λ found. Appends-same same found) c.push_word.ensures.ok
