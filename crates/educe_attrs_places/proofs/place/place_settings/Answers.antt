use Rattle.educe_attrs_places.proofs.PlaceLaws.{answer_settings, answer_said, answer_cause, answer_uncaused}
use Rattle.educe_attrs_places.proofs.place.place_settings.Goals as goal

pub returns : goal.returns
returns c = record {
  settings = answer_settings c.args.which c.args.row.now c.args.listed.now c.args.attributes.now c.read_place.result c.read_place.ensures;
  said = answer_said c.args.which c.args.row.now c.args.listed.now c.args.attributes.now c.read_place.result c.read_place.ensures;
  cause = answer_cause c.args.which c.args.row.now c.args.listed.now c.args.attributes.now c.read_place.result c.read_place.ensures;
  uncaused = answer_uncaused c.args.which c.args.row.now c.args.listed.now c.args.attributes.now c.read_place.result c.read_place.ensures;
}
