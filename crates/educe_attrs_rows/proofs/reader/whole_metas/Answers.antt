use Rattle.educe_attrs_rows.proofs.Listed.{whole_found, whole_refused}
use Rattle.educe_attrs_rows.proofs.reader.whole_metas.Goals as goal

pub returns-in-Ok : goal.returns-in-Ok
returns-in-Ok c = whole_found c.args.tokens.now c.in-Ok.metas c.in-Ok.ensures.found

pub returns-in_default : goal.returns-in_default
returns-in_default c = λ told. whole_refused c.args.tokens.now c.in-Err.error c.in-Err.ensures.err c.in_default.not-Alloc
