-- Why a case is rejected of which nothing is shown.
use Rattle.std.proofs.Common.{◌≡◌, ◌∙◌, ℕ, zero, suc, ◌<◌, Bool, true, false, ◌||◌, List, [], ◌∷◌, map, length, get_or, inl, inr, refl, ap, sym, subst, arith}
use Rattle.std.specs.List.{AllByRecursion, AllZip, list_any}
use Rattle.std.proofs.lemmas.Bool.{true≢false}
use Rattle.educe_tokens.specs.declared.error.EduceError.{EduceError}
use Rattle.educe_tokens.specs.declared.error.Kind.{Kind}
use Rattle.educe_tokens.specs.declared.error.Kind.TheVariants.{UnitEnumNeedName}
use Rattle.educe_tokens.specs.declared.span.Span.{Span}
use Rattle.educe_syntax.specs.DeriveInput.{DeriveInput}
use Rattle.educe_syntax.specs.Few.{variants_of}
use Rattle.educe_syntax.specs.Field.{Field}
use Rattle.educe_syntax.specs.Shape.{Shape}
use Rattle.educe_syntax.specs.Shape.TheVariants.{Struct, Enum}
use Rattle.educe_attrs.specs.Causes.{OfStop}
use Rattle.educe_attrs.specs.Fields.{HaveNoCauses}
use Rattle.educe_attrs.specs.Laws.{lawful_settings}
use Rattle.educe_attrs.specs.Phases.{OfHandler}
use Rattle.educe_attrs.specs.Stop.{Stop}
use Rattle.educe_bound_traits.specs.declared.traits.Trait.{Trait}
use Rattle.educe_bound_traits.specs.declared.traits.Trait.TheVariants.{Debug}
use Rattle.educe_settings.specs.Cases.{is_unit}
use Rattle.educe_settings.specs.Handled.{handling}
use Rattle.educe_settings.specs.Listed.{listed}
use Rattle.educe_settings.specs.Settings.{keeps, type_settings}
use Rattle.educe_settings.specs.Shown.{ShownCase, entry_row, entry_settings, struct_shown, variant_shown, cases_for, shown_cases, type_text, IsCaseRead, IsVariantCase, IsIgnored, IsNameless, IsShownCause, name_needed}
use Rattle.educe_settings.proofs.Uncaused.{among_in}
use Rattle.educe_settings.proofs.Elements.{In, In-all}
use Rattle.educe_settings.proofs.ShownCauses.{struct_is, variant_is}
use Rattle.educe_settings.proofs.Stops.{stop_weaker}
use Rattle.educe_make_debug.specs.Cases.{shown_of, IsCaseOf, AreCases}
use Rattle.educe_make_debug.specs.Origins.{variant_kind, variant_place, IsOwnCase}
use Rattle.educe_make_debug.specs.Texts.{is_shown}
use Rattle.educe_make_debug.specs.declared.debug_shown.Case.{Case}
use Rattle.educe_settings_types.specs.Read.{IsTyped, IsNamingRead, AreRead}
use Rattle.educe_make_debug.specs.Needs.{shows, IsNeeded}
use Rattle.educe_settings_types.proofs.ReadCases.{one_stands, naming_said}

-- ---- lists

-- neither of two holds
pub neither : (a b : Bool) → (a || b) ≡ false → (a ≡ false) × (b ≡ false)
neither true b is = absurd (true≢false is)
neither false b is = (refl, is)

-- an item of the second of two lists that go side by side, and the one of the first
pub zip_at : {A B : Type 0} (R : A → B → Type 0) (xs : List A) (ys : List B) (i : ℕ) (d y : B) → i < length ys → y ≡ get_or ys i d → AllZip R xs ys → (x : A) × In x xs × R x y
zip_at R xs [] i d y less item zip = absurd (omega arith)
zip_at R [] (z ∷ ys) i d y less item zip = absurd zip
zip_at R (x ∷ xs) (z ∷ ys) zero d y less item zip = (x, inl refl, subst (R x) (sym item) zip.0)
zip_at R (x ∷ xs) (z ∷ ys) (suc i) d y less item zip = let rest = zip_at R xs ys i d y (omega arith) item zip.1 in (rest.0, inr rest.1, rest.2)

-- a list of no length has no items
pub no_items : {A : Type 0} (xs : List A) → length xs ≡ 0 → xs ≡ []
no_items [] is = refl
no_items (x ∷ xs) is = absurd (omega (arith, is))

-- ---- cases of which nothing is shown

-- a name that is not shown has no text
pub no_name : (name : List ℕ) → is_shown name ≡ false → name ≡ []
no_name [] is = refl
no_name (c ∷ name) is = absurd (true≢false is)

module _ (d : DeriveInput) where
  -- fields none of which takes part are ignored
  ignored : (named : Bool) (fields : List Field) → HaveNoCauses Debug (entry_row named) (listed d) fields → list_any keeps (map (entry_settings named d) fields) ≡ false
      → AllByRecursion (IsIgnored d named) fields
  ignored named [] read none = tt
  ignored named (f ∷ fs) read none =
      let both = neither (keeps (entry_settings named d f)) (list_any keeps (map (entry_settings named d) fs)) none in (
        record {
          all = entry_settings named d f;
          settings = record { read = read.0; said = lawful_settings.field_said Debug (entry_row named) (listed d) f.attrs read.0 };
          ignored = both.0;
        },
        ignored named fs read.1 both.1,
      )

  -- neither a name nor a field is shown of it
  nameless : (shown : ShownCase) (case : Case) → IsCaseOf d shown case → IsCaseRead d shown → shows case ≡ false → IsNameless d shown
  nameless shown case is read none =
      let both = neither (is_shown case.name.text) (list_any keeps case.settings) none in
      let own : IsCaseRead d (shown_of case) = subst (IsCaseRead d) (sym is.is) read in
      subst (IsNameless d) is.is (record {
        nameless = no_name case.name.text both.0;
        fieldless = ignored case.named case.fields.now own (sym (ap (list_any keeps) is.settled) ∙ both.1);
      })

  -- no case is one of an enum without variants
  no_cases : (cases : List Case) → AreCases d cases → cases ≡ [] → d.shape ≡ Enum []
  no_cases cases are none = by_shape d.shape refl (subst (AreCases d) none are)
    where
      by_shape : (shape : Shape) → d.shape ≡ shape → AllZip (IsCaseOf d) (cases_for d shape) [] → d.shape ≡ Enum []
      by_shape (Struct shape) is zip = absurd zip
      by_shape (Enum []) is zip = is
      by_shape (Enum (v ∷ vs)) is zip = absurd zip

  module _ (traits : List Trait) (typed : IsTyped d traits) where
    -- such a case is rejected
    own_refused : AllByRecursion (IsNamingRead d) (variants_of d) → (shown : ShownCase) (kind : Kind) (place : Span) → IsOwnCase d shown kind place → IsNameless d shown
        → IsShownCause d (name_needed kind place)
    own_refused namings _ _ _ (IsOwnCase.of_struct shape is) none = IsShownCause.by_struct (struct_shown d shape) (struct_is d shape is typed.own) none
    own_refused namings _ _ _ (IsOwnCase.of_variant variants v is among) none = by_unit (is_unit v) refl
      where
        own : IsVariantCase d v (variant_shown d v)
        own =
            let stands = one_stands d v (record { variants = variants; is = is; among = among }) in
            let read : IsNamingRead d v = In-all (IsNamingRead d) (variants_of d) v namings (among_in v (variants_of d) stands) in
            variant_is d variants is v among typed.own (naming_said d v read)

        by_unit : (b : Bool) → is_unit v ≡ b → IsShownCause d (name_needed (variant_kind b) (variant_place b v))
        by_unit true unit = IsShownCause.by_unit_variant v (variant_shown d v) own unit none.nameless
        by_unit false unit = IsShownCause.by_bracketed_variant v (variant_shown d v) own unit none

    -- a case of a definition of which nothing is shown is rejected
    pub case_refused : AreRead d → (cases : List Case) → AreCases d cases → (i : ℕ) (case : Case) → i < length cases → case ≡ get_or cases i case → shows case ≡ false
        → IsShownCause d (name_needed case.need case.place)
    case_refused read cases are i case less item none =
        let (shown, among, is) = zip_at (IsCaseOf d) (shown_cases d) cases i case case less item are in
        own_refused read.namings shown case.need case.place is.own (nameless shown case is (In-all (IsCaseRead d) (shown_cases d) shown read.cases among) none)

    -- an enum without variants is rejected where no name is shown
    pub enum_refused : (cases : List Case) → AreCases d cases → cases ≡ [] → (name : List ℕ) → name ≡ type_text d (type_settings Debug d) → is_shown name ≡ false
        → IsShownCause d (name_needed UnitEnumNeedName d.ident.span)
    enum_refused cases are none name is unshown =
        IsShownCause.by_empty_enum (record { own = type_settings Debug d; settings = typed.own; is = no_cases cases are none; nameless = sym is ∙ no_name name unshown })

  -- a need of a name is a cause of the handler
  pub needed_of : (shows : Bool) (kind : Kind) (place : Span) → (shows ≡ false → IsShownCause d (name_needed kind place)) → (e : EduceError)
      → IsNeeded shows (name_needed kind place) e → OfHandler (handling d) Debug e
  needed_of shows kind place cause e needed = inr (subst (IsShownCause d) (sym needed.is) (cause needed.nothing))

  -- a stop for a need of a name is one for the handler
  pub need_stopped : (shows : Bool) (kind : Kind) (place : Span) → (shows ≡ false → IsShownCause d (name_needed kind place)) → (s : Stop)
      → OfStop (IsNeeded shows (name_needed kind place)) s → OfStop (OfHandler (handling d) Debug) s
  need_stopped shows kind place cause s stopped =
      stop_weaker (IsNeeded shows (name_needed kind place)) (OfHandler (handling d) Debug) (needed_of shows kind place cause) s stopped
