-- The names that are needed.
use Rattle.std.specs.Prelude.{◌≡◌, Bool, true, false, ◌||◌, []}
use Rattle.std.specs.List.{AllByRecursion, list_any}
use Rattle.educe_tokens.specs.declared.error.EduceError.{EduceError}
use Rattle.educe_settings.specs.Settings.{keeps}
use Rattle.educe_make_debug.specs.Texts.{is_shown}
use Rattle.educe_make_debug.specs.declared.debug_shown.Case.{Case}
use Rattle.educe_make_debug.specs.declared.debug_shown.Shown.{Shown}

-- A name or a field of the case is shown.
abbrev pub shows : Case → Bool
shows case = is_shown case.name.text || list_any keeps case.settings

-- Nothing is shown, and the rejection for that is this one.
pub record IsNeeded (shows : Bool) (own e : EduceError) : Type 0 where
  pub nothing : shows ≡ false
  pub is : e ≡ own

-- Of each case something is shown; and where there is none, the name of the type is.
pub record AreEnough (shown : Shown) : Type 0 where
  pub cases : AllByRecursion (λ case. shows case ≡ true) shown.cases
  pub name : shown.cases ≡ [] → is_shown shown.name.text ≡ true
