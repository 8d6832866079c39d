use Rattle.std.proofs.Common.{sym, subst}
use Rattle.educe_syntax.specs.Definitions.{definition}
use Rattle.educe_syntax.specs.Laws.{lawful_definitions, lawful_parts}
use Rattle.educe_syntax.specs.Parsed.{IsWhole}
use Rattle.educe_syntax.specs.Steps.{Tokens}
use Rattle.educe_vectors.proofs.examples.readings.read_definition.Goals as goal

pub returns-clause-read : goal.returns-clause-read
returns-clause-read c =
    let ast = c.in_ok-definition.field-0 in
    let reads = c.in_ok-definition.ensures.reads in
    record {
      whole = subst (λ (tokens : Tokens). IsWhole definition tokens ast) (sym (lawful_parts.definition_tokens reads.0 ast reads.2)) reads.2;
      apart = c.in_ok-definition.ensures.apart;
    }

pub returns-clause-parts : goal.returns-clause-parts
returns-clause-parts c = let reads = c.in_ok-definition.ensures.reads in lawful_definitions.parts reads.0 c.in_ok-definition.field-0 reads.2
