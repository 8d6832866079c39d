use Rattle.std.proofs.Common.{refl}
use Rattle.std.proofs.lemmas.Result.{IfOk-weaker}
use Rattle.educe_meaning.specs.HashBodies.{IsPlaceStep}
use Rattle.educe_make_hash.proofs.feeding.place_step.Goals as goal

pub returns : goal.returns
returns c =
    IfOk-weaker c.feed.result _ (IsPlaceStep c.args.state.now.text c.args.place) (λ x fed. record { position = _; position_is = refl; is = fed }) c.feed.ensures
