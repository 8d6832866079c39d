use Rattle.std.proofs.Common.{◌≡◌, true, map, take}
use Rattle.std.specs.List.{AllZip}
use Rattle.educe_syntax.specs.DeriveInput.{DeriveInput}
use Rattle.educe_meaning.specs.Making.{IsInit}
use Rattle.educe_settings_types.specs.Defaults.{settings_by}
use Rattle.educe_make_default.proofs.default_body.inits.Given as goal

abbrev pub invariant-loop-place : goal.invariant-loop-place
invariant-loop-place l = (definition : DeriveInput) → l.settings ≡ map (settings_by true definition) l.fields → AllZip (IsInit definition) (take l.place l.fields) l.inits
