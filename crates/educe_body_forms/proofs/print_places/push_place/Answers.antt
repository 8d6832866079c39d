use Rattle.std.proofs.lemmas.Result.{on_ok_weaker}
use Rattle.educe_tokens.proofs.Appending.{Appends-append}
use Rattle.educe_body_forms.proofs.print_places.push_place.Goals as goal

pub returns-clause-ok : goal.returns-clause-ok
returns-clause-ok c =
    on_ok_weaker _ (λ field. Appends-append (Appends-append c.in_ok-to_tokens.ensures.ok c.in_ok-quote.ensures.ok) field) c.push_word.ensures.ok
