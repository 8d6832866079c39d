-- The types of fields, behind references.
use Rattle.std.specs.Prelude.{List, map}
use Rattle.std.specs.Borrow.{Bor}
use Rattle.educe_syntax.specs.Field.{Field}
use Rattle.educe_syntax.specs.Ty.{Ty}

-- The types behind references.
abbrev pub behind : List (Bor Ty) → List Ty
behind types = map (λ (t : Bor Ty). t.now) types

-- The types of fields.
abbrev pub types_of : List Field → List Ty
types_of fields = map (λ (f : Field). f.ty) fields
