use Rattle.educe_attrs_values.specs.declared.kind.ValueKind.TheVariants.{Integer}
use Rattle.educe_attrs_values.proofs.ReaderLaws.{answers}
use Rattle.educe_attrs_values.proofs.readers.meta_2_isize.Goals as goal

pub returns : goal.returns
returns c =
    let a = answers Integer c.named_path.result.now c.args.meta.now c.named_path.ensures c.read_integer.result c.read_integer.ensures c.told.result c.told.ensures in
    record { said = a.said; cause = a.cause; uncaused = a.uncaused }
