use Rattle.educe_meaning.proofs.ReadHeaders.{lawful_headers}
use Rattle.educe_meaning.proofs.laws.header_laws.Goals as goal

pub returns : goal.returns
returns c = lawful_headers
