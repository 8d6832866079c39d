use Rattle.educe_attrs_values.specs.declared.kind.ValueKind.TheVariants.{Path}
use Rattle.educe_attrs_values.proofs.ReaderLaws.{answers}
use Rattle.educe_attrs_values.proofs.readers.meta_2_path.Goals as goal

pub returns : goal.returns
returns c =
    let a = answers Path c.named_path.result.now c.args.meta.now c.named_path.ensures c.read_path.result c.read_path.ensures c.told.result c.told.ensures in
    record { said = a.said; cause = a.cause; uncaused = a.uncaused }
