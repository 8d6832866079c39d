use Rattle.std.proofs.Common.{◌||◌, false, List, ℕ, ap, sym, subst, ◌∙◌, Bor}
use Rattle.std.specs.List.{AllByRecursion}
use Rattle.std.specs.Str.{bytes_eq, IsUtf8}
use Rattle.educe_bound_classes.specs.Texts.{texts_of, has_text}
use Rattle.educe_bound_classes.proofs.Texts.{insert_utf8, insert_adds}
use Rattle.educe_bound_classes.proofs.idents.IdentSet.insert.Goals as goal

pub invariant_of-self-2 : goal.invariant_of-self-2
invariant_of-self-2 c =
    subst (AllByRecursion (λ (t : Bor (List ℕ)). IsUtf8 t.now)) (sym c.in_ok-insert.ensures.keys) (insert_utf8 c.self.inside.texts.keys c.as_str.result c.self.invariant c.as_str.utf8)

pub returns-clause-ok : goal.returns-clause-ok
returns-clause-ok c = λ text.
    ap (λ (keys : List (Bor (List ℕ))). has_text (texts_of keys) text) c.in_ok-insert.ensures.keys
    ∙ insert_adds (λ known. bytes_eq text known) c.self.inside.texts.keys c.as_str.result
    ∙ (λ i. has_text (c.self.view_is i) text || (bytes_eq text (c.as_str.ensures.chars i) || false))
