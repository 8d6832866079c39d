-- Where no attribute of a trait can ignore a field, each field takes part.
use Rattle.std.proofs.Common.{◌≡◌, Bool, true, false, List, [], ◌∷◌, Option, Some, None, refl, sym, ap, ◌∙◌, subst}
use Rattle.std.specs.Prelude.{◌||◌, not, unwrap_or, if◌then◌else◌, find, option_and_then}
use Rattle.std.specs.List.{AllByRecursion}
use Rattle.std.proofs.lemmas.Bool.{false≢true, and_parts}
use Rattle.std.proofs.lemmas.Option.{none-some, same_Some}
use Rattle.educe_syntax.specs.Attribute.{Attribute}
use Rattle.educe_syntax.specs.DeriveInput.{DeriveInput}
use Rattle.educe_syntax.specs.Field.{Field}
use Rattle.educe_syntax.specs.Meta.{Meta}
use Rattle.educe_syntax.specs.MetaPath.{MetaPath}
use Rattle.educe_attrs.specs.FieldSettings.{FieldSettings}
use Rattle.educe_attrs.specs.Fields.{HaveNoCauses}
use Rattle.educe_attrs.specs.Laws.{lawful_settings}
use Rattle.educe_attrs.specs.Params.{all_params, word_of, alias_of}
use Rattle.educe_attrs.specs.Places.{fallback, IsFieldSaid}
use Rattle.educe_attrs.specs.Row.{Row}
use Rattle.educe_attrs.specs.Rows.{names, param_of}
use Rattle.educe_attrs.specs.Says.{IsGiven, Says}
use Rattle.educe_attrs.specs.Settings.{behind}
use Rattle.educe_attrs.specs.Values.{Values}
use Rattle.educe_bound_traits.specs.OneWord.{is_one_word}
use Rattle.educe_attrs.specs.Words.{path_of}
use Rattle.educe_bound_traits.specs.declared.traits.Trait.{Trait}
use Rattle.educe_attrs.specs.Param.TheVariants.{Ignore}
use Rattle.educe_settings.specs.Listed.{listed}
use Rattle.educe_settings.specs.Rows.{field_row}
use Rattle.educe_settings.specs.Settings.{keeps, is_kept}

-- ---- lists

passes_step : {X : Type 0} (test : X → Bool) (y : X) (more : Option X) (x : X) (b : Bool) → test y ≡ b → (more ≡ Some x → test x ≡ true) → (if b then Some y else more) ≡ Some x → test x ≡ true
passes_step test y more x true here later is = subst (λ z. test z ≡ true) (same_Some y x is) here
passes_step test y more x false here later is = later is

-- what is found passes the test
found_passes : {X : Type 0} (test : X → Bool) (xs : List X) (x : X) → find test xs ≡ Some x → test x ≡ true
found_passes test [] x is = absurd (none-some x is)
found_passes test (y ∷ ys) x is = passes_step test y (find test ys) x (test y) refl (found_passes test ys x) is

-- ---- one field

module _ (row : Row) (unignored : row.ignore ≡ false) where
  -- no meta is the parameter `ignore`
  never_ignore : (o : Option MetaPath) → option_and_then (param_of row) o ≡ Some Ignore → ⊥
  never_ignore None is = absurd (none-some Ignore is)
  never_ignore (Some path) is =
      let word = is_one_word (word_of Ignore) path.written.tokens || is_one_word (alias_of Ignore) path.written.tokens in
      false≢true (sym unignored ∙ (and_parts row.ignore word (found_passes (names row path) all_params Ignore is)).0)

  none_given : (params : List Meta) (o : Option Bool) → IsGiven row Ignore params o → o ≡ None
  none_given params None gives = refl
  none_given params (Some b) gives = absurd (never_ignore (path_of gives.0) gives.2)

  module _ (nothing : behind row.equals ≡ None) where
    -- what a meta says does not ignore the field
    says_none : (m : Meta) (values : Values) → Says row m values → values.ignore ≡ None
    says_none _ _ (Says.bare path flag) = refl
    says_none _ _ (Says.equals path x place b v is holds) = absurd (none-some b (sym nothing ∙ is))
    says_none _ _ (Says.params path group place found values whole given span_is) = none_given found values.ignore (given.gives Ignore)

    -- a field whose settings its attributes say takes part
    said_keeps : (which : Trait) (listed : List Trait) (attributes : List Attribute) → fallback which listed ≡ None → (settings : FieldSettings) → IsFieldSaid which row listed attributes settings
        → keeps settings ≡ true
    said_keeps which listed attributes alone _ (IsFieldSaid.own_said values there) = ap (λ (o : Option Bool). not (unwrap_or o false)) (says_none there.meta values there.says)
    said_keeps which listed attributes alone _ (IsFieldSaid.other_said other values other_is none there) = absurd (none-some other (sym alone ∙ other_is))
    said_keeps which listed attributes alone _ (IsFieldSaid.none_said none others) = refl

-- ---- several fields

-- where a trait has neither `ignore` nor a value behind `=` at fields, and takes nothing from another trait, fields of which none
-- says something wrong of it all take part
pub all_kept : (which : Trait) (d : DeriveInput) → (field_row which).ignore ≡ false → behind (field_row which).equals ≡ None → fallback which (listed d) ≡ None → (fields : List Field)
    → HaveNoCauses which (field_row which) (listed d) fields → AllByRecursion (λ field. is_kept which d field ≡ true) fields
all_kept which d unignored nothing alone [] uncaused = tt
all_kept which d unignored nothing alone (f ∷ fs) uncaused =
    let settings_said = lawful_settings.field_said which (field_row which) (listed d) f.attrs uncaused.0 in
    (said_keeps (field_row which) unignored nothing which (listed d) f.attrs alone _ settings_said, all_kept which d unignored nothing alone fs uncaused.1)
