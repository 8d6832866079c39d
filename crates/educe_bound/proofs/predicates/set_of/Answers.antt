use Rattle.std.proofs.Common.{List, [], ap, sym, subst}
use Rattle.educe_bound_classes.specs.Deriving.{Extends}
use Rattle.educe_bound.specs.Predicates.{Key, keys_of, AreRead}
use Rattle.educe_bound.proofs.predicates.set_of.Goals as goal

pub returns : goal.returns
returns c =
    let extended = c.in_ok-extend_where_predicates.ensures in
    record {
      keys = subst (λ (known : List Key). Extends known (keys_of c.args.predicates.now) (keys_of c.extend_where_predicates.new.own)) (ap keys_of c.new-set.ensures) extended.ok;
      read = λ read. extended.read (subst AreRead (sym c.new-set.ensures) tt) read;
    }
