-- Lists of parameters that are searched by name.
use Rattle.std.specs.Prelude.{List}
use Rattle.educe_tree.specs.declared.generics.GenericParam.{GenericParam}
use Rattle.educe_bound_classes.specs.declared.params.Names.{Names}
use Rattle.educe_bound_classes.specs.declared.params.Names.TheVariants.{Listed, Sorted}

-- The parameters, however they are searched.
abbrev pub params_of : Names → List GenericParam
params_of (Listed params) = params.now
params_of (Sorted names) = names.now.now
