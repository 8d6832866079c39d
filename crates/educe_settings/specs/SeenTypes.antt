-- The types of fields that bounds speak of, behind the references.
use Rattle.std.specs.Prelude.{List, [], ◌∷◌}
use Rattle.educe_syntax.specs.Ty.{Ty}
use Rattle.educe_settings.specs.EveryType.{behind}
use Rattle.educe_settings.specs.declared.seen_types.SeenTypes.{SeenTypes}
use Rattle.educe_settings.specs.Settings.{How, plainly, by_method, by_order}

-- The types of the fields that are read.
abbrev pub read_of : SeenTypes → List Ty
read_of types = behind types.read.items

-- The types of those on which the trait's own function is called.
abbrev pub touched_of : SeenTypes → List Ty
touched_of types = behind types.touched.items

-- The type of a field on which the trait's own function is called, and none where it is treated by a method.
abbrev pub touched_one : How → Ty → List Ty
touched_one plainly ty = ty ∷ []
touched_one (by_method path) ty = []
touched_one (by_order path) ty = []
