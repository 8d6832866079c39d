use Rattle.std.proofs.Common.{◌≡◌, ◌++◌, drop, map}
use Rattle.educe_attrs_places.specs.Fields.{settings_at, HaveNoCauses}
use Rattle.educe_attrs_places.proofs.fields.settings_of_fields.Given as goal

abbrev pub invariant-loop-field : goal.invariant-loop-field
invariant-loop-field l = record {
  said : l.all ++ map (settings_at l.which l.row l.listed) (drop l.field-index l.fields) ≡ map (settings_at l.which l.row l.listed) l.fields;
  uncaused : HaveNoCauses l.which l.row l.listed (drop l.field-index l.fields) → HaveNoCauses l.which l.row l.listed l.fields;
}
