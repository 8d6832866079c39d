use Rattle.std.proofs.Common.{subst}
use Rattle.std.specs.List.{AllByRecursion}
use Rattle.educe_syntax.specs.Few.{shape_fields}
use Rattle.educe_syntax.specs.Readings.{IsReadField}
use Rattle.educe_syntax.specs.Shape.{Shape}
use Rattle.educe_vectors.proofs.examples.readings.struct_fields.Goals as goal

pub returns-in-Struct : goal.returns-in-Struct
returns-in-Struct c = subst (λ (shape : Shape). AllByRecursion IsReadField (shape_fields shape)) c.in-Struct.is c.requires.fields
