-- Of each case of a definition something is shown.
use Rattle.std.proofs.Common.{◌≡◌, ◌∙◌, Bool, true, ◌||◌, List, [], ◌∷◌, ◌++◌, map, refl, ap, sym}
use Rattle.std.specs.List.{AllByRecursion, AllZip, list_any, flat_map}
use Rattle.educe_syntax.specs.DeriveInput.{DeriveInput}
use Rattle.educe_bound_traits.specs.declared.traits.Trait.TheVariants.{Debug}
use Rattle.educe_settings.specs.Settings.{keeps, kept_by, type_settings}
use Rattle.educe_settings.specs.Shown.{ShownCase, entry_settings, shown_fields, shown_cases, all_shown, type_text}
use Rattle.educe_make_debug.specs.Cases.{IsCaseOf, IsShown, kept_in}
use Rattle.educe_make_debug.specs.Texts.{is_shown}
use Rattle.educe_make_debug.specs.declared.debug_shown.Case.{Case}
use Rattle.educe_make_debug.specs.declared.debug_shown.Shown.{Shown}
use Rattle.educe_make_debug.specs.Needs.{shows, AreEnough}

module _ (d : DeriveInput) where
  -- a name or a field of the case is shown
  abbrev pub shows_of : ShownCase → Bool
  shows_of case = is_shown case.name || list_any keeps (map (entry_settings case.named d) case.fields)

  shows_same : (shown : ShownCase) (case : Case) → IsCaseOf d shown case → shows case ≡ shows_of shown
  shows_same shown case is = ap (λ settings. is_shown case.name.text || list_any keeps settings) is.settled ∙ ap shows_of is.is

  each_shows : (all : List ShownCase) (cases : List Case) → AllZip (IsCaseOf d) all cases → AllByRecursion (λ case. shows case ≡ true) cases
      → AllByRecursion (λ shown. shows_of shown ≡ true) all
  each_shows [] [] zip each = tt
  each_shows [] (c ∷ cs) zip each = absurd zip
  each_shows (s ∷ ss) [] zip each = absurd zip
  each_shows (s ∷ ss) (c ∷ cs) zip each = (sym (shows_same s c zip.0) ∙ each.0, each_shows ss cs zip.1 each.1)

  none_left : (all : List ShownCase) (cases : List Case) → AllZip (IsCaseOf d) all cases → all ≡ [] → cases ≡ []
  none_left [] [] zip is = refl
  none_left [] (c ∷ cs) zip is = absurd zip
  none_left (s ∷ ss) cases zip is = absurd (cc)

  -- the fields of a case that are shown
  kept_same : (shown : ShownCase) (case : Case) → IsCaseOf d shown case → kept_in case ≡ shown_fields d shown
  kept_same shown case is = ap (kept_by 0 case.fields.now) is.settled ∙ ap (shown_fields d) is.is

  -- the fields of all cases that are shown
  pub kept_all : (all : List ShownCase) (cases : List Case) → AllZip (IsCaseOf d) all cases → flat_map kept_in cases ≡ flat_map (shown_fields d) all
  kept_all [] [] zip = refl
  kept_all [] (c ∷ cs) zip = absurd zip
  kept_all (s ∷ ss) [] zip = absurd zip
  kept_all (s ∷ ss) (c ∷ cs) zip = λ i. kept_same s c zip.0 i ++ kept_all ss cs zip.1 i

-- of each case of the definition something is shown; and where there is none, the name of the type is
pub record HasEnough (d : DeriveInput) : Type 0 where
  pub cases : AllByRecursion (λ shown. shows_of d shown ≡ true) (shown_cases d)
  pub name : shown_cases d ≡ [] → is_shown (type_text d (type_settings Debug d)) ≡ true

pub has_enough : (shown : Shown) → IsShown shown → AreEnough shown → HasEnough shown.ast.now
has_enough shown is enough = record {
  cases = each_shows shown.ast.now (shown_cases shown.ast.now) shown.cases is.cases_are enough.cases;
  name = λ none. ap is_shown (sym is.name_is) ∙ enough.name (none_left shown.ast.now (shown_cases shown.ast.now) shown.cases is.cases_are none);
}

-- the fields that are shown, where the cases are those of a definition
pub shown_kept : (shown : Shown) (d : DeriveInput) → shown.ast.now ≡ d → IsShown shown → flat_map kept_in shown.cases ≡ all_shown d
shown_kept shown d is are = kept_all shown.ast.now (shown_cases shown.ast.now) shown.cases are.cases_are ∙ ap all_shown is
