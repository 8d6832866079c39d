use Rattle.std.proofs.Common.{Ok, Err, refl, ap}
use Rattle.educe_attrs_values.specs.declared.kind.ValueKind.TheVariants as kind
use Rattle.educe_attrs_values.proofs.ReaderLaws.{answers}
use Rattle.educe_bound.proofs.bound.Bound.from_meta.Goals as goal

pub returns-in-Ok : goal.returns-in-Ok
returns-in-Ok c =
    let a = answers kind.Bound c.named_path.result.now c.args.meta.now c.named_path.ensures (Ok c.in-Ok.value) c.in-Ok.ensures (Ok c.in-Ok.value) refl in
    record { said = record { value = c.in-Ok.value; holds = a.said; is = c.from_value.ensures }; cause = tt; uncaused = a.uncaused }

pub returns-in-Err : goal.returns-in-Err
returns-in-Err c =
    let a = answers kind.Bound c.named_path.result.now c.args.meta.now c.named_path.ensures (Err c.in-Err.stop) c.in-Err.ensures (Err c.error_of.result) (ap Err c.error_of.ensures) in
    record { said = tt; cause = a.cause; uncaused = tt }
