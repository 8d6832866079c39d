use Rattle.educe_attrs_places.proofs.Settled.{lawful_settings}
use Rattle.educe_attrs_places.proofs.laws.setting_laws.Goals as goal

pub returns : goal.returns
returns c = lawful_settings
