use Rattle.std.proofs.Common.{Option, sym, subst}
use Rattle.std.specs.Prelude.{IfSome}
use Rattle.educe_tree.specs.Words.{IsOneWord}
use Rattle.educe_bound_traits.specs.declared.traits.Trait.{Trait}
use Rattle.educe_bound_traits.specs.Traits.{text_of}
use Rattle.educe_bound_traits.proofs.Apart.{named_is}
use Rattle.educe_bound_traits.proofs.traits.Trait.from_path.Goals as goal

pub returns-clause-named : goal.returns-clause-named
returns-clause-named c =
    subst (λ (found : Option Trait). IfSome found (λ which. IsOneWord c.args.path.now.written.tokens (text_of which))) (sym c.first_named.ensures) (named_is c.args.path.now)
