use Rattle.educe_tokens.proofs.Lexed.{last_token}
use Rattle.educe_tokens.proofs.lexer.last_place.Goals as goal

pub returns-in-Some : goal.returns-in-Some
returns-in-Some c =
    let item = c.in-Some.ensures.item in
    last_token c.args.tokens.now c.in-Some.token.now _ item.3.0 (item.3.1 c.in-Some.token.now)
