use Rattle.std.proofs.Common.{sym, ◌∙◌}
use Rattle.educe_syntax.proofs.Heads.{chars_union}
use Rattle.educe_syntax.proofs.unions.is_union.Goals as goal

pub returns-in-Ident : goal.returns-in-Ident
returns-in-Ident c = ((λ h. (c.in-Ident.is, c.is.ensures.0 h ∙ chars_union)), (λ w. c.is.ensures.1 (w.1 ∙ sym chars_union)))
