-- Where no form may stand, each meta is rejected for its place.
use Rattle.std.proofs.Common.{◌≡◌, true, false, Some, inl, inr, refl, sym, ap, ◌∙◌}
use Rattle.std.proofs.lemmas.Bool.{false≢true}
use Rattle.educe_tokens.specs.declared.error.EduceError.{EduceError}
use Rattle.educe_tokens.specs.declared.error.Kind.TheVariants.{Alloc, AttributeIncorrectPlace}
use Rattle.educe_syntax.specs.Meta.{Meta}
use Rattle.educe_syntax.specs.Meta.TheVariants as said
use Rattle.educe_syntax.specs.MetaPath.{MetaPath}
use Rattle.educe_attrs_values.specs.Metas.{IsNamed}
use Rattle.educe_attrs_values.specs.Words.{path_of}
use Rattle.educe_attrs_rows.specs.Causes.{IsCause, HasNoCause, IsMetaCause}
use Rattle.educe_attrs_rows.specs.Causes as cause
use Rattle.educe_attrs_rows.specs.Refusals.{incorrect_place}
use Rattle.educe_attrs.specs.NoField.{no_row, IsOutOfPlace}

-- for its place alone
for_place : {e : EduceError} (name : MetaPath) (meta : Meta) → IsMetaCause no_row name meta e → e ≡ incorrect_place name
for_place name meta (cause.place h) = refl
for_place name meta (cause.format h form) = absurd (false≢true (sym h))
for_place name meta (cause.no_value h value none) = absurd (false≢true (sym h))
for_place name meta (cause.reset params later path p h lists reset is of) = absurd (false≢true (sym h))
for_place name meta (cause.param params m path p h lists among is of own) = absurd (false≢true (sym h))
for_place name meta (cause.equals b h value is own) = absurd (false≢true (sym h))
for_place name meta (cause.list h own) = absurd (false≢true (sym h))

pub out_of_place : (meta : Meta) (e : EduceError) → IsCause no_row meta e → IsOutOfPlace meta e
out_of_place meta e (cause.own h) = inr (h.0, h.1, for_place h.0 meta h.2)
out_of_place meta e cause.memory = inl refl

-- no meta of such a field is read
place_stands : (meta : Meta) (name : MetaPath) → path_of meta ≡ Some name → HasNoCause no_row meta → ⊥
place_stands meta name is none =
    let same : AttributeIncorrectPlace ≡ Alloc = none.none_stands (incorrect_place name) (cause.own (name, is, cause.place refl)) in
    cc

pub never_read : (meta : Meta) → IsNamed meta → HasNoCause no_row meta → ⊥
never_read (said.Word path) h none = place_stands (said.Word path) path refl none
never_read (said.List path tokens place) h none = place_stands (said.List path tokens place) path refl none
never_read (said.NameValue path value place) h none = place_stands (said.NameValue path value place) path refl none
never_read (said.Doc t) h none = absurd h
never_read (said.Unread path tokens place) h none = absurd h
