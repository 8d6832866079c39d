use Rattle.std.proofs.Common.{subst, Option, Bor}
use Rattle.std.specs.Prelude.{IfSome, IfNone}
use Rattle.educe_tokens.specs.declared.token.Token.{Token}
use Rattle.educe_grammar.specs.Refusal.{IsUnion, IsRefusalOf}
use Rattle.educe_syntax.proofs.Reporting.{union_refused, memory_refused}
use Rattle.educe_syntax.proofs.calls.unread.Goals as goal

pub returns-in-Ok-None : goal.returns-in-Ok-None
returns-in-Ok-None c =
    let never = subst (λ (o : Option (Bor Token)). IfNone o ((word : Token) → IsUnion c.args.tokens.now word → ⊥)) c.in-Ok-None.field-0-is c.in-Ok-None.ensures.none in
    IsRefusalOf.grammar never c.requires

pub returns-in-Ok-Some : goal.returns-in-Ok-Some
returns-in-Ok-Some c =
    let is = subst (λ (o : Option (Bor Token)). IfSome o (λ word. IsUnion c.args.tokens.now word.now)) c.in-Ok-Some.field-0-is c.in-Ok-Some.ensures.some in
    union_refused c.args.tokens.now c.in-Ok-Some.word.now c.union_error.result is c.union_error.ensures

pub returns-in-Err : goal.returns-in-Err
returns-in-Err c = memory_refused c.args.tokens.now c.alloc.result c.alloc.ensures
