use Rattle.educe_bound_classes.specs.Names.{params_of}
use Rattle.educe_bound_classes.proofs.Asking.{into_ok}
use Rattle.educe_bound_classes.proofs.Collecting.{adds_names_in}
use Rattle.educe_bound_classes.proofs.collect.add_idents.Goals as goal

pub returns-clause-ok : goal.returns-clause-ok
returns-clause-ok c =
    into_ok c.collect_type.result _ _ (adds_names_in (params_of c.args.names) c.args.exceptions.now c.args.ty.now c.args.set.now c.collect_type.new.set) c.collect_type.ensures.ok
