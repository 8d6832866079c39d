use Rattle.educe_attrs_places.proofs.FieldLaws.{answer_settings, answer_said, answer_cause, answer_uncaused}
use Rattle.educe_attrs_places.proofs.place.field_settings.Goals as goal

pub returns : goal.returns
returns c = record {
  settings = answer_settings c.args.which c.args.row.now c.args.listed.now c.args.attributes.now c.read_field.result c.read_field.ensures;
  said = answer_said c.args.which c.args.row.now c.args.listed.now c.args.attributes.now c.read_field.result c.read_field.ensures;
  cause = answer_cause c.args.which c.args.row.now c.args.listed.now c.args.attributes.now c.read_field.result c.read_field.ensures;
  uncaused = answer_uncaused c.args.which c.args.row.now c.args.listed.now c.args.attributes.now c.read_field.result c.read_field.ensures;
}
