use Rattle.std.proofs.Common.{sym, subst}
use Rattle.std.proofs.lemmas.Result.{IfOk-weaker}
use Rattle.educe_syntax.specs.Ident.{Ident}
use Rattle.educe_body.specs.Chosen.{IsChosen}
use Rattle.educe_body.specs.Held.{AreWordsOf}
use Rattle.educe_handlers.proofs.Chosen.{chosen_is}
use Rattle.educe_meaning.specs.Blocks.{IsParameter}
use Rattle.educe_handlers.proofs.naming.lent_parameter.Goals as goal

pub returns-clause-chosen : goal.returns-clause-chosen
returns-clause-chosen c =
    let d = c.args.ast.now in
    let plain = c.args.name.now in
    let words = c.in_ok-used.used in
    IfOk-weaker c.select.result (λ (name : Ident). IsChosen words plain name.text) (λ (name : Ident). IsParameter d plain name.text)
    (λ name chosen. chosen_is d words plain name.text (subst (AreWordsOf d.tokens) (sym c.in_ok-used.ensures) c.requires.words) chosen)
    c.select.ensures.chosen
