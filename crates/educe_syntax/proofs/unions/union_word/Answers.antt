use Rattle.std.proofs.Common.{refl, sym, ◌∙◌}
use Rattle.educe_syntax.proofs.Heads.{if_some, if_none, union_seen, union_unseen, union_unread}
use Rattle.educe_syntax.proofs.unions.union_word.Goals as goal

pub returns-in-Ok-clause-some : goal.returns-in-Ok-clause-some
returns-in-Ok-clause-some c =
    if_some c.first_union.result (λ word first. union_seen c.args.tokens.now c.args.tokens.now c.in-Ok.rest.now c.in-Ok.rest.now word.now refl c.in-Ok.ensures.ok refl first) c.first_union.ensures.some

pub returns-in-Ok-clause-none : goal.returns-in-Ok-clause-none
returns-in-Ok-clause-none c =
    if_none c.first_union.result (union_unseen c.args.tokens.now c.args.tokens.now c.in-Ok.rest.now c.in-Ok.rest.now refl c.in-Ok.ensures.ok refl) c.first_union.ensures.none

pub returns-in-Err-Syntax-clause-none : goal.returns-in-Err-Syntax-clause-none
returns-in-Err-Syntax-clause-none c =
    union_unread c.args.tokens.now c.args.tokens.now c.in-Err-Syntax.field-0 refl (c.in-Err-Syntax.ensures.err (λ is. let at_one = sym c.in-Err-Syntax.field-0-is ∙ is in absurd (cc)))

pub returns-in-Err-TooDeep-clause-none : goal.returns-in-Err-TooDeep-clause-none
returns-in-Err-TooDeep-clause-none c =
    union_unread c.args.tokens.now c.args.tokens.now c.in-Err-TooDeep.field-0 refl (c.in-Err-TooDeep.ensures.err (λ is. let at_one = sym c.in-Err-TooDeep.field-0-is ∙ is in absurd (cc)))
