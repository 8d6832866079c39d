use Rattle.std.proofs.Common.{None, subst}
use Rattle.std.specs.List.{AllZip}
use Rattle.educe_meaning.specs.Arms.{IsConstant}
use Rattle.educe_meaning.specs.Discriminants.{counted_from}
use Rattle.educe_cmp.specs.Names.{names_of}
use Rattle.educe_cmp.specs.Laws.{lawful_comparisons}
use Rattle.educe_cmp.proofs.discriminants.discriminants_of.Goals as goal

pub returns-clause-constants : goal.returns-clause-constants
returns-clause-constants c = record {
  names = names_of c.in_ok-names.names;
  names_are = c.in_ok-names.ensures;
  each =
      subst (λ variants. AllZip (IsConstant c.in_ok-ty.ty c.in_ok-names.names.base.text) (counted_from None 0 variants) c.in_ok-constants.constants)
      c.variants_of.ensures c.in_ok-constants.ensures;
}

pub returns-clause-numbers : goal.returns-clause-numbers
returns-clause-numbers c = λ table numbers have.
    lawful_comparisons.constants table c.args.ast.now c.in_ok-ty.ty numbers c.in_ok-constants.constants have c.in_ok-ty.ensures.found (returns-clause-constants c)
