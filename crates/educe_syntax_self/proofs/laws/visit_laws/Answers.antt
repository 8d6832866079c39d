use Rattle.educe_syntax_self.proofs.Lawful.{lawful_types, lawful_paths, lawful_params, lawful_predicates}
use Rattle.educe_syntax_self.proofs.laws.visit_laws.Goals as goal

pub returns : goal.returns
returns c = record { types = lawful_types; paths = lawful_paths; params = lawful_params; predicates = lawful_predicates }
