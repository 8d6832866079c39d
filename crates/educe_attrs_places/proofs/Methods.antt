-- The tokens of a method stand among those of the attributes, or they are those of the text of a string among these.
use Rattle.std.proofs.Common.{◌≡◌, ℕ, ◌-◌, true, false, List, length, drop, Option, Some, None, refl, sym, subst, ap, ◌∙◌}
use Rattle.std.specs.Prelude.{Contains}
use Rattle.std.specs.List.{AllByRecursion}
use Rattle.std.proofs.lemmas.List.Elements.{All-take, All-drop, All-from_recursion, recursion_from_All}
use Rattle.std.proofs.lemmas.Option.{same_Some}
use Rattle.educe_tokens.specs.declared.token.Token.{Token}
use Rattle.educe_bound_traits.specs.declared.traits.Trait.{Trait}
use Rattle.educe_bound_traits.specs.declared.traits.Trait.TheVariants.{PartialOrd}
use Rattle.educe_syntax.specs.Attribute.{Attribute}
use Rattle.educe_syntax.specs.Attributes.{metas}
use Rattle.educe_syntax.specs.Expressions.{expr_path}
use Rattle.educe_syntax.specs.ExprPath.{ExprPath}
use Rattle.educe_syntax.specs.Laws.{lawful_parts}
use Rattle.educe_syntax.specs.Meta.{Meta}
use Rattle.educe_syntax.specs.Meta.TheVariants as said
use Rattle.educe_syntax.specs.Parsed.{IsWhole}
use Rattle.educe_syntax.specs.Within.{MetaWithin, AttributesWithin}
use Rattle.educe_attrs_values.specs.declared.kind.ValueKind.TheVariants as kind
use Rattle.educe_attrs_values.specs.declared.source.Source.{Source}
use Rattle.educe_attrs_values.specs.Sources.{inside, value_source}
use Rattle.educe_attrs_values.specs.Texts.{only_text}
use Rattle.educe_attrs_values.specs.Values.{ReadsBy, HoldsAmong}
use Rattle.educe_attrs_values.proofs.Boundaries.{each_joined}
use Rattle.educe_attrs_values.proofs.Texts.{only_string}
use Rattle.educe_attrs_rows.specs.declared.param.Param.TheVariants.{Method}
use Rattle.educe_attrs_rows.specs.declared.row.Row.{Row}
use Rattle.educe_attrs_rows.specs.declared.values.Values.{Values}
use Rattle.educe_attrs_rows.specs.Causes.{IsGiven, Says}
use Rattle.educe_attrs_rows.specs.Settings.{values_at}
use Rattle.educe_attrs_rows.proofs.Among.{among_all}
use Rattle.educe_attrs_rows.proofs.Reported.{IsOther, behind_leaves}
use Rattle.educe_attrs_places.specs.declared.place.FieldSettings.{FieldSettings}
use Rattle.educe_attrs_places.specs.Lists.{AreOwn, AreMetas}
use Rattle.educe_attrs_places.specs.Methods.{IsTextOf}
use Rattle.educe_attrs_places.specs.Places.{taken, IsFieldSaid}
use Rattle.educe_attrs_places.specs.Said.{SaysThere}
use Rattle.educe_attrs_places.proofs.Strings.{text_value}

-- what stands behind `=` gives no method
method_other : IsOther (λ (values : Values). values.method)
method_other = record { name = λ values x. refl; ignore = λ values b. refl; expression = λ values x. refl }

-- what is taken from the other order has its method, or none
taken_method : (which : Trait) (values : Values) (path : ExprPath) → (taken which values).values.method ≡ Some path → values.method ≡ Some path
taken_method PartialOrd values path is = is
taken_method _ values path is = absurd (cc)

module _ (all : List Token) where
  -- the token stands among all
  abbrev Stands : Token → Type 0
  Stands t = Contains all t

  -- the tokens of the path are those that stand there, or those of the text of a string that does
  abbrev HasText : ExprPath → Type 0
  HasText path = IsTextOf all path.written.tokens

  -- ---- values

  -- a path that tokens are, or the text of the string that they are
  read_text : (tokens : List Token) → AllByRecursion Stands tokens → (path : ExprPath) (o : Option (List ℕ)) → only_text tokens ≡ o → ReadsBy expr_path o tokens path → HasText path
  read_text tokens within path None is reads = subst (IsTextOf all) (sym (lawful_parts.path tokens path reads)) (IsTextOf.standing within)
  read_text tokens within path (Some text) is reads =
      let string = only_string tokens text is in
      let stands = (subst (AllByRecursion Stands) string.1 within).0 in
      subst (IsTextOf all) (sym (lawful_parts.path reads.inner path reads.whole))
      (IsTextOf.quoted string.0 text stands (text_value string.0 text (sym (ap only_text string.1) ∙ is)) reads.reading)

  inside_within : (tokens : List Token) → AllByRecursion Stands tokens → AllByRecursion Stands (inside tokens)
  inside_within tokens within = recursion_from_All Stands (inside tokens) (All-take Stands (length tokens - 2) (drop 1 tokens) (All-drop Stands 1 tokens (All-from_recursion Stands tokens within)))

  source_within : (m : Meta) → MetaWithin Stands m → (s : Source) → value_source m ≡ Some s → AllByRecursion Stands s.tokens
  source_within (said.Word path) within s is = absurd (cc)
  source_within (said.List path group place) within s is =
      subst (λ (s : Source). AllByRecursion Stands s.tokens) (same_Some (record { tokens = inside group.tokens; enclosed = true }) s is) (inside_within group.tokens within)
  source_within (said.NameValue path x place) within s is =
      subst (λ (s : Source). AllByRecursion Stands s.tokens) (same_Some (record { tokens = x.written.tokens; enclosed = false }) s is) within
  source_within (said.Doc t) within s is = absurd (cc)
  source_within (said.Unread path rest place) within s is = absurd (cc)

  held_text : (m : Meta) → MetaWithin Stands m → (path : ExprPath) (o : Option Source) → value_source m ≡ o → HoldsAmong kind.Path o path → HasText path
  held_text m within path None is holds = absurd (cc)
  held_text m within path (Some s) is holds = read_text s.tokens (source_within m within s is) path (only_text s.tokens) refl holds

  -- ---- metas

  given_text : (row : Row) (params : List Meta) → AllByRecursion (MetaWithin Stands) params → (o : Option ExprPath) → IsGiven row Method params o → (path : ExprPath) → o ≡ Some path → HasText path
  given_text row params within None gives path is = absurd (cc)
  given_text row params within (Some x) gives path is =
      let m = gives.0 in
      subst HasText (sym gives.3.is ∙ same_Some x path is) (held_text m (among_all (MetaWithin Stands) m params within gives.1) gives.3.value (value_source m) refl gives.3.holds)

  pair_within : (tokens : List Token) → AllByRecursion Stands tokens → (found : List Meta) → IsWhole metas (inside tokens) found → AllByRecursion (MetaWithin Stands) found
  pair_within tokens within found whole = lawful_parts.metas all (inside tokens) found (inside_within tokens within) whole

  says_text : (row : Row) (m : Meta) → MetaWithin Stands m → (values : Values) → Says row m values → (path : ExprPath) → values.method ≡ Some path → HasText path
  says_text row _ within _ (Says.bare name flag) path is = absurd (cc)
  says_text row _ within _ (Says.equals name x place b v behind_is holds) path is =
      let none : None ≡ Some path = sym (behind_leaves (λ (values : Values). values.method) method_other row.equals b behind_is v (values_at place)) ∙ is in absurd (cc)
  says_text row _ within _ (Says.params name group place found values whole given span_is) path is =
      given_text row found (pair_within group.tokens within found whole) values.method (given.gives Method) path is

  -- ---- places

  own_within : (a : Attribute) → MetaWithin Stands a.meta → (found : List Meta) → AreOwn a found → AllByRecursion (MetaWithin Stands) found
  own_within a within found (AreOwn.educe group _ educe whole) =
      pair_within group (subst (AllByRecursion Stands) (sym educe.tokens_are) (subst (MetaWithin Stands) educe.is within)) found whole
  own_within a within _ (AreOwn.other none) = tt

  metas_within : (attributes : List Attribute) → AttributesWithin Stands attributes → (found : List Meta) → AreMetas attributes found → AllByRecursion (MetaWithin Stands) found
  metas_within _ within _ AreMetas.none_left = tt
  metas_within _ within _ (AreMetas.one_more a more front found own rest) =
      each_joined (MetaWithin Stands) front found (own_within a within.0 front own) (metas_within more within.1 found rest)

  module _ (which : Trait) (row : Row) (listed : List Trait) (attributes : List Attribute) where
    there_text : AttributesWithin Stands attributes → (of : Trait) (values : Values) → SaysThere of row attributes values → (path : ExprPath) → values.method ≡ Some path → HasText path
    there_text within of values s path is = says_text row s.meta (among_all (MetaWithin Stands) s.meta s.found (metas_within attributes within s.found s.are) s.among) values s.says path is

    pub method_text : (settings : FieldSettings) (path : ExprPath) → AttributesWithin Stands attributes → IsFieldSaid which row listed attributes settings → settings.values.method ≡ Some path → HasText path
    method_text _ path within (IsFieldSaid.own_said values says) is = there_text within which values says path is
    method_text _ path within (IsFieldSaid.other_said other values other_is none says) is = there_text within other values says path (taken_method which values path is)
    method_text _ path within (IsFieldSaid.none_said none others) is = absurd (cc)
