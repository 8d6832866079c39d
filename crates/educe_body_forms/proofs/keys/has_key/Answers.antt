use Rattle.std.proofs.Common.{◌<◌, ◌^◌, Some, subst, arith}
use Rattle.educe_body_forms.specs.Keys.{IsIndexOf}
use Rattle.educe_body_forms.specs.Indices.{index_tells}
use Rattle.educe_body_forms.proofs.keys.has_key.Goals as goal

pub returns-in-Some-index : goal.returns-in-Some-index
returns-in-Some-index c =
    let small : c.args.place < 2 ^ 64 = omega arith in
    let own : IsIndexOf c.args.key.now (Some c.in-Some-index.index) = subst (IsIndexOf c.args.key.now) c.in-Some-index.is c.requires in
    rw c.in-None.is (index_tells c.args.place c.in-Some-index.index c.args.key.now small own)
