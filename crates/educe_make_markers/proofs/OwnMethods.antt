-- A method is the value of its own tokens.
use Rattle.std.proofs.Common.{◌≡◌, ◌∙◌, ℕ, List, Option, Some, None, refl, sym, subst}
use Rattle.std.proofs.lemmas.Option.{same_Some}
use Rattle.educe_tokens.specs.declared.token.Token.{Token}
use Rattle.educe_syntax.specs.Attribute.{Attribute}
use Rattle.educe_syntax.specs.Expressions.{expr_path}
use Rattle.educe_syntax.specs.ExprPath.{ExprPath}
use Rattle.educe_syntax.specs.Laws.{lawful_parts}
use Rattle.educe_syntax.specs.Meta.{Meta}
use Rattle.educe_syntax.specs.Parsed.{IsWhole}
use Rattle.educe_syntax.specs.Readings.{IsReadPath}
use Rattle.educe_bound_traits.specs.declared.traits.Trait.{Trait}
use Rattle.educe_bound_traits.specs.declared.traits.Trait.TheVariants.{PartialOrd}
use Rattle.educe_attrs_values.specs.declared.kind.ValueKind.TheVariants as kind
use Rattle.educe_attrs_values.specs.declared.source.Source.{Source}
use Rattle.educe_attrs_values.specs.Sources.{value_source}
use Rattle.educe_attrs_values.specs.Texts.{only_text}
use Rattle.educe_attrs_values.specs.Values.{ReadsBy, HoldsAmong}
use Rattle.educe_attrs_rows.specs.declared.param.Param.TheVariants.{Method}
use Rattle.educe_attrs_rows.specs.declared.row.Row.{Row}
use Rattle.educe_attrs_rows.specs.declared.values.Values.{Values}
use Rattle.educe_attrs_rows.specs.Causes.{IsGiven, Says}
use Rattle.educe_attrs_rows.specs.Settings.{values_at}
use Rattle.educe_attrs_rows.proofs.Reported.{IsOther, behind_leaves}
use Rattle.educe_attrs_places.specs.declared.place.FieldSettings.{FieldSettings}
use Rattle.educe_attrs_places.specs.Places.{taken, IsFieldSaid}

-- what stands behind `=` gives no method
method_other : IsOther (λ (values : Values). values.method)
method_other = record { name = λ values x. refl; ignore = λ values b. refl; expression = λ values x. refl }

-- what is taken from the other order has its method, or none
taken_method : (which : Trait) (values : Values) (path : ExprPath) → (taken which values).values.method ≡ Some path → values.method ≡ Some path
taken_method PartialOrd values path is = is
taken_method _ values path is = absurd (cc)

read_own : (tokens : List Token) (path : ExprPath) (o : Option (List ℕ)) → ReadsBy expr_path o tokens path → IsReadPath path
read_own tokens path None reads = subst (λ (own : List Token). IsWhole expr_path own path) (sym (lawful_parts.path tokens path reads)) reads
read_own tokens path (Some text) reads = subst (λ (own : List Token). IsWhole expr_path own path) (sym (lawful_parts.path reads.inner path reads.whole)) reads.whole

held_own : (path : ExprPath) (o : Option Source) → HoldsAmong kind.Path o path → IsReadPath path
held_own path None holds = absurd (cc)
held_own path (Some s) holds = read_own s.tokens path (only_text s.tokens) holds

given_own : (row : Row) (params : List Meta) (o : Option ExprPath) → IsGiven row Method params o → (path : ExprPath) → o ≡ Some path → IsReadPath path
given_own row params None gives path is = absurd (cc)
given_own row params (Some x) gives path is = subst IsReadPath (sym gives.3.is ∙ same_Some x path is) (held_own gives.3.value (value_source gives.0) gives.3.holds)

says_own : (row : Row) (m : Meta) (values : Values) → Says row m values → (path : ExprPath) → values.method ≡ Some path → IsReadPath path
says_own row _ _ (Says.bare name flag) path is = absurd (cc)
says_own row _ _ (Says.equals name x place b v behind_is holds) path is =
    let none : None ≡ Some path = sym (behind_leaves (λ (values : Values). values.method) method_other row.equals b behind_is v (values_at place)) ∙ is in absurd (cc)
says_own row _ _ (Says.params name group place found values whole given span_is) path is = given_own row found values.method (given.gives Method) path is

-- the method of a field, as its attributes say
pub method_own : (which : Trait) (row : Row) (listed : List Trait) (attributes : List Attribute) (settings : FieldSettings) (path : ExprPath)
    → IsFieldSaid which row listed attributes settings → settings.values.method ≡ Some path → IsReadPath path
method_own which row listed attributes _ path (IsFieldSaid.own_said values says) is = says_own row says.meta values says.says path is
method_own which row listed attributes _ path (IsFieldSaid.other_said other values other_is none says) is = says_own row says.meta values says.says path (taken_method which values path is)
method_own which row listed attributes _ path (IsFieldSaid.none_said none others) is = absurd (cc)
