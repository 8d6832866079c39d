use Rattle.std.proofs.Common.{List, map, subst, sym}
use Rattle.std.specs.Borrow.{Bor}
use Rattle.educe_syntax.specs.Ty.{Ty}
use Rattle.educe_syntax.specs.WherePredicate.{WherePredicate}
use Rattle.educe_bound_classes.specs.Exceptions.{Exceptions}
use Rattle.educe_bound_classes.specs.Needs.{AreOwn}
use Rattle.educe_bound_traits.specs.declared.traits.Trait.TheVariants as trait
use Rattle.educe_bound.specs.declared.bound.Bound.{Bound}
use Rattle.educe_bound.specs.Predicates.{keys_of, asks_for, AreCopies, AreRead}
use Rattle.educe_bound.proofs.bound.Bound.packed_copy_predicates.Goals as goal

pub returns-in_ok-needed-in-Auto-clause-keys : goal.returns-in_ok-needed-in-Auto-clause-keys
returns-in_ok-needed-in-Auto-clause-keys c =
    let params = c.args.params.now in
    let self = c.args.self_ident.now.text in
    let types = map (λ (t : Bor Ty). t.now) c.args.types.now in
    let needed = c.in_ok-needed-in-Auto.needed in
    subst (λ (found : List WherePredicate). AreCopies c.args.self.now params self types (keys_of found)) (sym c.into_list.ensures.list)
    (subst (λ (bound : Bound). AreCopies bound params self types (keys_of needed)) (sym c.in-Auto.is)
    (subst (λ (ex : Exceptions). AreOwn ex params self (asks_for trait.Copy) types (keys_of needed)) c.exceptions_of-exceptions.ensures c.in_ok-needed-in-Auto.ensures.keys))

pub returns-in_ok-needed-in-Auto-clause-read : goal.returns-in_ok-needed-in-Auto-clause-read
returns-in_ok-needed-in-Auto-clause-read c = λ names types. subst AreRead (sym c.into_list.ensures.list) (c.in_ok-needed-in-Auto.ensures.read names types)
