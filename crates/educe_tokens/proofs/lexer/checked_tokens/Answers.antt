use Rattle.std.proofs.Common.{length, sym, ap, subst, chars}
use Rattle.std.proofs.lemmas.Result.{err_from_is_err_and}
use Rattle.std.proofs.lemmas.Str.{encodes-chars}
use Rattle.educe_tokens.specs.Causes.{IsLexicalCauseWithin}
use Rattle.educe_tokens.proofs.lexer.checked_tokens.Goals as goal

pub returns-in_default-clause-err : goal.returns-in_default-clause-err
returns-in_default-clause-err c = subst (IsLexicalCauseWithin c.args.nesting (chars c.args.source.now)) (sym c.alloc.ensures) IsLexicalCauseWithin.memory

pub returns-in_err-check_brackets-clause-err : goal.returns-in_err-check_brackets-clause-err
returns-in_err-check_brackets-clause-err c =
    let p = err_from_is_err_and c.from_residual-in_err-check_brackets.result c.from_residual-in_err-check_brackets.ensures.1 in
    rw (p.1, p.2) (c.in_err-check_brackets.ensures.err (chars c.args.source.now) c.in_ok-tokens.ensures.lexes (ap length (encodes-chars c.args.source.now c.utf8.source)))
