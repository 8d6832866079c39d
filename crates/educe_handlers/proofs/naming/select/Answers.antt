use Rattle.std.proofs.Common.{ℕ, List, subst}
use Rattle.std.specs.Prelude.{IfOk}
use Rattle.educe_tokens.proofs.Quoting.{ascii_name_is}
use Rattle.educe_syntax.specs.Ident.{Ident}
use Rattle.educe_body.specs.Chosen.{IsChosen}
use Rattle.educe_body.specs.NameLaws.{ascii_is_word}
use Rattle.educe_handlers.proofs.naming.select.Goals as goal

pub select-requires : goal.select-requires
select-requires c = ascii_is_word c.args.name.now c.requires

pub returns-clause-chosen : goal.returns-clause-chosen
returns-clause-chosen c =
    subst (λ (name : List ℕ). IfOk c.select.result (λ (ident : Ident). IsChosen c.args.used.now name ident.text)) (ascii_name_is c.args.name.now c.requires).1 c.select.ensures.chosen
