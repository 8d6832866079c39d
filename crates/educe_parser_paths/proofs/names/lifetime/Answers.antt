use Rattle.educe_parser_paths.proofs.Idents.{read_lifetime}
use Rattle.educe_parser_paths.proofs.names.lifetime.Goals as goal

pub returns : goal.returns
returns c = λ budget.
    let taken = c.in_ok-token.ensures.taken in let made = c.in_ok-lifetime_of.ensures in
    read_lifetime budget c.args.input.now _ c.in_ok-token.token.now taken.0 c.in_ok-lifetime_of.field-0 taken.1 made.text made.span
