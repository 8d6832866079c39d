-- Generic parameters as they were written.
use Rattle.educe_tokens.specs.declared.written.Written.{Written}
use Rattle.educe_tree.specs.declared.generics.GenericParam.{GenericParam}
use Rattle.educe_tree.specs.declared.generics.GenericParam.TheVariants.{Lifetime, TypeParam, Const}

-- The tokens of the parameter, without its default.
abbrev pub written_of : GenericParam → Written
written_of (Lifetime param) = param.written
written_of (TypeParam param) = param.written
written_of (Const param) = param.written
