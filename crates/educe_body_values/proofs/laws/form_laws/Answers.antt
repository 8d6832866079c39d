use Rattle.educe_body_values.proofs.Lawful.{lawful_forms}
use Rattle.educe_body_values.proofs.laws.form_laws.Goals as goal

pub returns : goal.returns
returns c = lawful_forms
