use Rattle.educe_attrs_rows.proofs.Listed.{named_answer}
use Rattle.educe_attrs_rows.proofs.reader.metas_in_pair.Goals as goal

pub returns-clause-named : goal.returns-clause-named
returns-clause-named c = named_answer c.in_ok-inside.inside c.whole_metas.result c.whole_metas.ensures
