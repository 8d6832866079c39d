-- The laws of attributes as terms, which proofs cite without a call.
use Rattle.std.specs.Prelude.{List, Contains}
use Rattle.educe_tokens.specs.declared.error.EduceError.{EduceError}
use Rattle.educe_bound_traits.specs.declared.traits.Trait.{Trait}
use Rattle.educe_attrs_places.specs.Causes.{NoCause}
use Rattle.educe_attrs_places.specs.Phases.{Handling, OfHandler, OfLast}
use Rattle.educe_attrs_places.specs.Reports.{ReportLaws}
use Rattle.educe_attrs_places.specs.SettingLaws.{SettingLaws}
use Rattle.educe_attrs_places.proofs.Phased as phased
use Rattle.educe_attrs_places.proofs.Reported as reported
use Rattle.educe_attrs_places.proofs.Settled as settled

-- Errors of attributes have messages, and start at boundaries of tokens.
pub lawful_reports : ReportLaws
lawful_reports = reported.lawful_reports

-- Where attributes have no cause of rejection, the settings are what they say; the tokens of a method are among theirs,
-- or are those of the text of a string among them.
pub lawful_settings : SettingLaws
lawful_settings = settled.lawful_settings

-- If some trait is listed and no handler of a listed trait has a cause, the last phase has none.
pub all_handled : (h : Handling) (listed : List Trait) (some : Trait) → Contains listed some
    → ((which : Trait) → Contains listed which → NoCause (OfHandler h which)) → NoCause (OfLast h listed)
all_handled = phased.all_handled

-- A cause of a listed trait's handler is a cause of the last phase.
pub one_refused : (h : Handling) (listed : List Trait) (which : Trait) → Contains listed which
    → (e : EduceError) → OfHandler h which e → OfLast h listed e
one_refused = phased.one_refused
