-- The causes of the handler have messages, and start at boundaries of tokens.
use Rattle.std.proofs.Common.{ℕ, List, [], ◌∷◌, ◌++◌, Option, Some, None, Bool, true, false, inl, inr, refl, sym, subst}
use Rattle.std.specs.Prelude.{◌+◌, IfSome, is_none, unwrap_or, if◌then◌else◌}
use Rattle.std.specs.List.{AllByRecursion}
use Rattle.std.proofs.lemmas.List.Elements.{All-contains, All-from_recursion}
use Rattle.educe_tokens.specs.declared.error.EduceError.{EduceError}
use Rattle.educe_tokens.specs.declared.span.Span.{Span}
use Rattle.educe_tokens.specs.declared.token.Token.{Token}
use Rattle.educe_tokens.specs.Message.{HasWords}
use Rattle.educe_syntax.specs.DeriveInput.{DeriveInput}
use Rattle.educe_syntax.specs.Few.{shape_fields, shape_variants, variants_of, all_fields}
use Rattle.educe_syntax.specs.Field.{Field}
use Rattle.educe_syntax.specs.Parsed.{end_of}
use Rattle.educe_syntax.specs.Placed.{AreAttributesPlaced, IsFieldPlaced, AreFieldsPlaced, IsVariantPlaced, IsDefinitionPlaced}
use Rattle.educe_syntax.specs.Shape.{Shape}
use Rattle.educe_syntax.specs.Shape.TheVariants.{Struct, Enum}
use Rattle.educe_syntax.specs.Variant.{Variant}
use Rattle.educe_bound_traits.specs.declared.traits.Trait.{Trait}
use Rattle.educe_bound_traits.specs.declared.traits.Trait.TheVariants as trait
use Rattle.educe_attrs.specs.Among.{IsAmong}
use Rattle.educe_attrs.specs.Compared.{place_of}
use Rattle.educe_attrs.specs.Rank.{Rank}
use Rattle.educe_settings.specs.Cases.{fields_in, shape_cases, cases_of, variant_attributes, field_attributes}
use Rattle.educe_settings.specs.Defaults.{mark_row, value_row, IsCase, IsDefaultCause, AreMarkedTwice, IsNoneMarked}
use Rattle.educe_settings.specs.Handled.{places, IsReuse, IsFieldwiseCause, IsTraitCause, IsListsCause, IsListedCause}
use Rattle.educe_core.specs.Headline.{IsHandlerCause}
use Rattle.educe_settings.specs.Listed.{listed, IsListingCause}
use Rattle.educe_settings.specs.Rows.{type_row, variant_row, field_row}
use Rattle.educe_settings.specs.Settings.{settings_of, rank_span_of, Kept, is_kept, kept_at, kept_from, kept_fields}
use Rattle.educe_settings.specs.Shown.{ShownCase, naming_row, entry_row, IsVariantCase, IsShownCause}
use Rattle.educe_attrs.specs.Laws.{lawful_reports}
use Rattle.educe_attrs.specs.Messages.{HasMessage, IsBoundary}
use Rattle.educe_settings.proofs.Elements.{each_joined, each_mapped, each_weaker, each_apart}
use Rattle.educe_settings.proofs.ShownCauses.{case_within}

-- what holds of the causes of lists, of those of each trait that is read field by field, of those of `Debug` and of those of `Default`
-- holds of those of the listed traits
each_listed : (d : DeriveInput) (Q : EduceError → Type 0) → ((e : EduceError) → IsListsCause d e → Q e) → ((which : Trait) (e : EduceError) → IsFieldwiseCause which d e → Q e)
    → ((e : EduceError) → IsShownCause d e → Q e) → ((e : EduceError) → IsDefaultCause d e → Q e) → (e : EduceError) → IsListedCause d e → Q e
each_listed d Q lists fieldwise shown defaults e (inl cause) = lists e cause
each_listed d Q lists fieldwise shown defaults e (inr cause) = own cause.0 cause.2
  where
    own : (which : Trait) → IsTraitCause d which e → Q e
    own trait.PartialEq cause = fieldwise trait.PartialEq e cause
    own trait.Eq cause = fieldwise trait.Eq e cause
    own trait.PartialOrd cause = fieldwise trait.PartialOrd e cause
    own trait.Ord cause = fieldwise trait.Ord e cause
    own trait.Hash cause = fieldwise trait.Hash e cause
    own trait.Default cause = defaults e cause
    own trait.Debug cause = shown e cause
    own trait.Clone cause = fieldwise trait.Clone e cause
    own trait.Copy cause = fieldwise trait.Copy e cause

-- ---- messages

module _ (d : DeriveInput) where
  pub listing_message : (e : EduceError) → IsListingCause d e → HasMessage e
  listing_message e cause = lawful_reports.listing_message d.attrs (end_of d.tokens) e cause

  fieldwise_message : (which : Trait) (e : EduceError) → IsFieldwiseCause which d e → HasMessage e
  fieldwise_message which e (IsFieldwiseCause.by_type cause) = lawful_reports.said_message which (type_row which d) d.attrs e cause
  fieldwise_message which e (IsFieldwiseCause.by_variant variant among cause) = lawful_reports.said_message which (variant_row which) variant.attrs e cause
  fieldwise_message which e (IsFieldwiseCause.by_field field among cause) = lawful_reports.field_message which (field_row which) (listed d) field.attrs e cause
  fieldwise_message which e (IsFieldwiseCause.by_rank fields among cause) = subst HasMessage (sym cause.reuse.is) (record { kind = λ same. cc; words = refl })
  fieldwise_message which e (IsFieldwiseCause.by_copy is_clone lists cause) = lawful_reports.said_message trait.Copy (type_row trait.Copy d) d.attrs e cause

  shown_message : (e : EduceError) → IsShownCause d e → HasMessage e
  shown_message e (IsShownCause.by_type cause) = lawful_reports.said_message trait.Debug (type_row trait.Debug d) d.attrs e cause
  shown_message e (IsShownCause.by_variant variant among cause) = lawful_reports.said_message trait.Debug (naming_row variant) variant.attrs e cause
  shown_message e (IsShownCause.by_field case field is among cause) = lawful_reports.field_message trait.Debug (entry_row case.named) (listed d) field.attrs e cause
  shown_message _ (IsShownCause.by_struct case is nameless) = record { kind = λ same. cc; words = refl }
  shown_message _ (IsShownCause.by_bracketed_variant variant case is bracketed nameless) = record { kind = λ same. cc; words = refl }
  shown_message _ (IsShownCause.by_unit_variant variant case is unit nameless) = record { kind = λ same. cc; words = refl }
  shown_message _ (IsShownCause.by_empty_enum nameless) = record { kind = λ same. cc; words = refl }

  default_message : (e : EduceError) → IsDefaultCause d e → HasMessage e
  default_message e (IsDefaultCause.by_type cause) = lawful_reports.said_message trait.Default (type_row trait.Default d) d.attrs e cause
  default_message e (IsDefaultCause.by_variant own variant settings among cause) =
      lawful_reports.said_message trait.Default (mark_row (is_none own.expression)) variant.attrs e cause
  default_message e (IsDefaultCause.by_field fields written field case among cause) =
      lawful_reports.field_message trait.Default (value_row written) (listed d) field.attrs e cause
  default_message _ (IsDefaultCause.by_marks place twice) = record { kind = λ same. cc; words = refl }
  default_message _ (IsDefaultCause.by_no_mark place none) = record { kind = λ same. cc; words = refl }

  pub listed_message : (e : EduceError) → IsListedCause d e → HasMessage e
  listed_message e cause =
      each_listed d HasMessage (λ e lists. lawful_reports.place_message (listed d) lists.attributes e lists.cause) fieldwise_message shown_message default_message e cause

  pub handler_words : (e : EduceError) → IsHandlerCause d e → HasWords e.kind e.words
  handler_words e (IsHandlerCause.listing cause) = (listing_message e cause).words
  handler_words e (IsHandlerCause.handled none cause) = (listed_message e cause).words
  handler_words e IsHandlerCause.memory = refl

-- ---- places

-- what holds of each item holds of one
among_all : {X : Type 0} (P : X → Type 0) (front back : List X) (x : X) → AllByRecursion P (front ++ x ∷ back) → P x
among_all P [] back x each = each.0
among_all P (y ∷ ys) back x each = among_all P ys back x each.1

one_among : {X : Type 0} (P : X → Type 0) (xs : List X) (x : X) → AllByRecursion P xs → IsAmong x xs → P x
one_among P xs x each among = among_all P among.front among.back x (subst (AllByRecursion P) among.is each)

-- where all fields stand among the tokens, those of each case do
of_cases : (tokens : List Token) (shape : Shape) → AreFieldsPlaced tokens (shape_fields shape) → AllByRecursion (AreFieldsPlaced tokens) (shape_cases shape)
of_cases tokens (Struct shape) placed = (placed, tt)
of_cases tokens (Enum variants) placed = each_mapped (AreFieldsPlaced tokens) fields_in variants (each_apart (IsFieldPlaced tokens) fields_in variants placed)

-- the definition stands among the tokens
module _ (tokens : List Token) (d : DeriveInput) (placed : IsDefinitionPlaced tokens d) where
  -- the span starts at a boundary of them
  abbrev Starts : Span → Type 0
  Starts s = IsBoundary tokens s.start

  variants_attributes : AllByRecursion (AreAttributesPlaced tokens) (variant_attributes d)
  variants_attributes =
      each_mapped (AreAttributesPlaced tokens) (λ (v : Variant). v.attrs) (variants_of d)
      (each_weaker (IsVariantPlaced tokens) (λ (v : Variant). AreAttributesPlaced tokens v.attrs) (λ v is. is.attrs) (variants_of d) placed.variants)

  fields_attributes : AllByRecursion (AreAttributesPlaced tokens) (field_attributes d)
  fields_attributes =
      each_mapped (AreAttributesPlaced tokens) (λ (f : Field). f.attrs) (all_fields d)
      (each_weaker (IsFieldPlaced tokens) (λ (f : Field). AreAttributesPlaced tokens f.attrs) (λ f is. is.attrs) (all_fields d) placed.fields)

  lists_placed : (e : EduceError) → IsListsCause d e → Starts e.span
  lists_placed e lists =
      let all = each_joined (AreAttributesPlaced tokens) (d.attrs ∷ variant_attributes d) (field_attributes d) (placed.attrs, variants_attributes) fields_attributes in
      let here = one_among (AreAttributesPlaced tokens) (places d) lists.attributes all lists.stand in
      lawful_reports.place_placed tokens lists.attributes here (listed d) e lists.cause

  -- a rank, or else the other place
  or_other : (rank : Option Rank) (other : Span) → IfSome rank (λ (r : Rank). Starts r.span) → Starts other → Starts (unwrap_or (place_of rank) other)
  or_other None other has fallback = fallback
  or_other (Some rank) other has fallback = has

  rank_starts : (which : Trait) (f : Field) → IsFieldPlaced tokens f → Starts (rank_span_of which d f)
  rank_starts which f is =
      or_other (settings_of which d f).values.rank f.span (lawful_reports.rank_placed tokens f.attrs is.attrs which (field_row which) (listed d))
      (subst Starts (sym is.span.is) (IsBoundary.start is.span.first is.span.first_stands))

  -- the ranks of the fields that take part
  kept_start : (which : Trait) (place : ℕ) (fs : List Field) → AreFieldsPlaced tokens fs → AllByRecursion (λ (k : Kept). Starts k.rank_span) (kept_from which d place fs)
  kept_start which place [] each = tt
  kept_start which place (f ∷ fs) each = step (is_kept which d f) (kept_start which (place + 1) fs each.1)
    where
      step : (keeps : Bool) → AllByRecursion (λ (k : Kept). Starts k.rank_span) (kept_from which d (place + 1) fs)
          → AllByRecursion (λ (k : Kept). Starts k.rank_span) (if keeps then kept_at which d place f ∷ kept_from which d (place + 1) fs else kept_from which d (place + 1) fs)
      step true more = (rank_starts which f each.0, more)
      step false more = more

  rank_placed : (which : Trait) (fields : List Field) → IsAmong fields (cases_of d) → (e : EduceError) → IsReuse (kept_fields which d fields) e → Starts e.span
  rank_placed which fields among e cause =
      let own = one_among (AreFieldsPlaced tokens) (cases_of d) fields (of_cases tokens d.shape placed.fields) among in
      let kept = kept_fields which d fields in
      let each = All-from_recursion (λ (k : Kept). Starts k.rank_span) kept (kept_start which 0 fields own) in
      let later = All-contains (λ (k : Kept). Starts k.rank_span) kept cause.reuses.later each cause.reuses.later_kept in
      subst (λ (e : EduceError). Starts e.span) (sym cause.is) (subst Starts (sym cause.reuses.place_is) later)

  fieldwise_placed : (which : Trait) (e : EduceError) → IsFieldwiseCause which d e → Starts e.span
  fieldwise_placed which e (IsFieldwiseCause.by_type cause) = lawful_reports.said_placed tokens d.attrs placed.attrs which (type_row which d) e cause
  fieldwise_placed which e (IsFieldwiseCause.by_variant variant among cause) =
      let here = one_among (IsVariantPlaced tokens) (variants_of d) variant placed.variants among in
      lawful_reports.said_placed tokens variant.attrs here.attrs which (variant_row which) e cause
  fieldwise_placed which e (IsFieldwiseCause.by_field field among cause) =
      let here = one_among (IsFieldPlaced tokens) (all_fields d) field placed.fields among in
      lawful_reports.field_placed tokens field.attrs here.attrs which (field_row which) (listed d) e cause
  fieldwise_placed which e (IsFieldwiseCause.by_rank fields among cause) = rank_placed which fields among e cause.reuse
  fieldwise_placed which e (IsFieldwiseCause.by_copy is_clone lists cause) = lawful_reports.said_placed tokens d.attrs placed.attrs trait.Copy (type_row trait.Copy d) e cause

  -- a variant of a case stands among the tokens
  shown_variant : (variant : Variant) (case : ShownCase) → IsVariantCase d variant case → IsVariantPlaced tokens variant
  shown_variant variant case is =
      let all = subst (λ (s : Shape). AllByRecursion (IsVariantPlaced tokens) (shape_variants s)) is.is placed.variants in
      one_among (IsVariantPlaced tokens) is.variants variant all is.among

  shown_placed : (e : EduceError) → IsShownCause d e → Starts e.span
  shown_placed e (IsShownCause.by_type cause) = lawful_reports.said_placed tokens d.attrs placed.attrs trait.Debug (type_row trait.Debug d) e cause
  shown_placed e (IsShownCause.by_variant variant among cause) =
      let here = one_among (IsVariantPlaced tokens) (variants_of d) variant placed.variants among in
      lawful_reports.said_placed tokens variant.attrs here.attrs trait.Debug (naming_row variant) e cause
  shown_placed e (IsShownCause.by_field case field is among cause) =
      let here = one_among (IsFieldPlaced tokens) (all_fields d) field placed.fields (case_within d case is field among) in
      lawful_reports.field_placed tokens field.attrs here.attrs trait.Debug (entry_row case.named) (listed d) e cause
  shown_placed _ (IsShownCause.by_struct case is nameless) = IsBoundary.start d.ident.span placed.name
  shown_placed _ (IsShownCause.by_bracketed_variant variant case is bracketed nameless) = IsBoundary.start variant.ident.span (shown_variant variant case is).name
  shown_placed _ (IsShownCause.by_unit_variant variant case is unit nameless) =
      let span = (shown_variant variant case is).span in subst Starts (sym span.is) (IsBoundary.start span.first span.first_stands)
  shown_placed _ (IsShownCause.by_empty_enum nameless) = IsBoundary.start d.ident.span placed.name

  -- the fields of a case whose attributes `Default` reads stand among the tokens
  case_placed : (fields : List Field) (written : Bool) → IsCase d fields written → AreFieldsPlaced tokens fields
  case_placed _ _ (IsCase.of_struct own shape settings is) = subst (λ (s : Shape). AreFieldsPlaced tokens (shape_fields s)) is placed.fields
  case_placed _ _ (IsCase.of_variant own mark variants variant settings is among marked) =
      let all = subst (λ (s : Shape). AreFieldsPlaced tokens (shape_fields s)) is placed.fields in
      one_among (λ (v : Variant). AreFieldsPlaced tokens (fields_in v)) variants variant (each_apart (IsFieldPlaced tokens) fields_in variants all) among

  -- the later of two marks stands among the tokens
  twice_placed : (place : Span) → AreMarkedTwice d place → Starts place
  twice_placed place twice =
      let all = subst (λ (s : Shape). AllByRecursion (IsVariantPlaced tokens) (shape_variants s)) twice.chooses.is placed.variants in
      let later = among_all (IsVariantPlaced tokens) (twice.front ++ twice.first ∷ twice.between) twice.back twice.later (subst (AllByRecursion (IsVariantPlaced tokens)) twice.are all) in
      let mark = twice.later_marked.mark in
      subst Starts (sym twice.later_marked.place_is)
      (lawful_reports.span_placed tokens twice.later.attrs later.attrs trait.Default (mark_row (is_none twice.own.expression)) mark twice.later_marked.settings.said)

  -- and the attribute of a type of which no variant is marked
  none_placed : (place : Span) → IsNoneMarked d place → Starts place
  none_placed place none =
      subst Starts (sym none.place_is) (lawful_reports.span_placed tokens d.attrs placed.attrs trait.Default (type_row trait.Default d) none.own none.chooses.settings.said)

  default_placed : (e : EduceError) → IsDefaultCause d e → Starts e.span
  default_placed e (IsDefaultCause.by_type cause) = lawful_reports.said_placed tokens d.attrs placed.attrs trait.Default (type_row trait.Default d) e cause
  default_placed e (IsDefaultCause.by_variant own variant settings among cause) =
      let here = one_among (IsVariantPlaced tokens) (variants_of d) variant placed.variants among in
      lawful_reports.said_placed tokens variant.attrs here.attrs trait.Default (mark_row (is_none own.expression)) e cause
  default_placed e (IsDefaultCause.by_field fields written field case among cause) =
      let here = one_among (IsFieldPlaced tokens) fields field (case_placed fields written case) among in
      lawful_reports.field_placed tokens field.attrs here.attrs trait.Default (value_row written) (listed d) e cause
  default_placed _ (IsDefaultCause.by_marks place twice) = twice_placed place twice
  default_placed _ (IsDefaultCause.by_no_mark place none) = none_placed place none

  -- each cause of the handler starts at one
  pub handler_placed : (e : EduceError) → IsHandlerCause d e → IsBoundary tokens e.span.start
  handler_placed e (IsHandlerCause.listing cause) = lawful_reports.listing_placed tokens d.attrs placed.attrs (end_of d.tokens) e cause
  handler_placed e (IsHandlerCause.handled none cause) = each_listed d (λ e. Starts e.span) lists_placed fieldwise_placed shown_placed default_placed e cause
  handler_placed e IsHandlerCause.memory = IsBoundary.beginning
