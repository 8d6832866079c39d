use Rattle.educe_syntax.specs.Laws.{lawful_name, lawful_path, lawful_expression, lawful_predicates, lawful_metas, lawful_definition}
use Rattle.educe_syntax.proofs.laws.rule_laws.Goals as goal

pub returns : goal.returns
returns c = record {
  name = lawful_name;
  path = lawful_path;
  expression = lawful_expression;
  predicates = lawful_predicates;
  metas = lawful_metas;
  definition = lawful_definition;
}
