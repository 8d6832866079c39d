use Rattle.std.proofs.Common.{sym, subst}
use Rattle.educe_syntax.specs.Expressions.{expr_path}
use Rattle.educe_syntax.specs.Laws.{lawful_parts}
use Rattle.educe_syntax.specs.Parsed.{IsWhole}
use Rattle.educe_syntax.specs.Steps.{Tokens}
use Rattle.educe_vectors.proofs.examples.readings.read_path.Goals as goal

pub returns-in-Ok : goal.returns-in-Ok
returns-in-Ok c =
    let path = c.in-Ok.path in
    let whole = c.in-Ok.ensures.found in
    subst (λ (tokens : Tokens). IsWhole expr_path tokens path) (sym (lawful_parts.path c.in_ok-tokens.tokens path whole)) whole
