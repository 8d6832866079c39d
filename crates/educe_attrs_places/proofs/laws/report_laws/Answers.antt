use Rattle.educe_attrs_places.proofs.Reported.{lawful_reports}
use Rattle.educe_attrs_places.proofs.laws.report_laws.Goals as goal

pub returns : goal.returns
returns c = lawful_reports
