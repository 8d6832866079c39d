-- What the head of an impl says of generic parameters: their declarations, the arguments of the type, and the where clause.
use Rattle.std.specs.Prelude.{List, codes}
use Rattle.std.proofs.Common.{refl}
use Rattle.educe_tree.specs.declared.generics.GenericParam.{GenericParam}
use Rattle.educe_tree.specs.declared.generics.GenericParam.TheVariants.{Lifetime, TypeParam, Const}
use Rattle.educe_tree.specs.declared.generics.WherePredicate.{WherePredicate}
use Rattle.educe_tree.specs.Params.{written_of}
use Rattle.educe_body_forms.specs.Printing.{separated, unless_empty}
use Rattle.educe_body_forms.specs.Printouts.{Printout, says, name, lifetime, written, ◌beside◌, in_angle}

-- A parameter as it was written, without its default.
abbrev pub declared_printout : GenericParam → Printout
declared_printout param = written (written_of param)

-- `< 'a , T : Clone , const N : usize >`, where there are parameters.
abbrev pub params_printout : List GenericParam → Printout
params_printout params = unless_empty params (in_angle (separated declared_printout params))

-- The name of a parameter.
abbrev pub argument_printout : GenericParam → Printout
argument_printout (Lifetime param) = lifetime param.lifetime
argument_printout (TypeParam param) = name param.ident
argument_printout (Const param) = name param.ident

-- `< 'a , T , N >`, where there are parameters.
abbrev pub arguments_printout : List GenericParam → Printout
arguments_printout params = unless_empty params (in_angle (separated argument_printout params))

-- The printout of a predicate, as it was written.
abbrev pub predicate_printout : WherePredicate → Printout
predicate_printout predicate = written predicate.written

-- `where T : Clone , [ T ; N ] : Sized`, where there are predicates.
abbrev pub where_printout : List WherePredicate → Printout
where_printout predicates = unless_empty predicates (says (codes "where") refl beside separated predicate_printout predicates)
