-- The predicates that the bound of a place lists are readings of their tokens.
use Rattle.std.proofs.Common.{◌≡◌, ◌∙◌, List, Option, None, Some, refl, ap, sym, subst}
use Rattle.educe_syntax.specs.Attribute.{Attribute}
use Rattle.educe_syntax.specs.DeriveInput.{DeriveInput}
use Rattle.educe_syntax.specs.Meta.{Meta}
use Rattle.educe_attrs_values.specs.declared.source.Source.{Source}
use Rattle.educe_attrs_values.specs.Sources.{value_source}
use Rattle.educe_attrs_rows.proofs.Reported.{IsOther, behind_leaves}
use Rattle.educe_attrs.specs.Causes.{NoCause}
use Rattle.educe_attrs.specs.Holds.{HoldsAmong}
use Rattle.educe_attrs.specs.Laws.{lawful_settings}
use Rattle.educe_attrs.specs.Param.TheVariants as param
use Rattle.educe_attrs.specs.Places.{place_settings, IsSaid, OfPlace}
use Rattle.educe_attrs.specs.Row.{Row}
use Rattle.educe_attrs.specs.Says.{IsGiven, Says}
use Rattle.educe_attrs.specs.Settings.{values_at}
use Rattle.educe_attrs.specs.ValueKind.TheVariants as kind
use Rattle.educe_attrs.specs.Values.{Values}
use Rattle.educe_attrs.specs.WherePredicatesOrBool.{WherePredicatesOrBool}
use Rattle.educe_bound.specs.declared.bound.Bound.{Bound}
use Rattle.educe_bound.specs.Bounds.{bound_of}
use Rattle.educe_bound.specs.Predicates.{IsReadBound}
use Rattle.educe_bound.proofs.AskedPredicates as predicates
use Rattle.educe_bound_traits.specs.declared.traits.Trait.{Trait}
use Rattle.educe_settings.specs.Listed.{listed}
use Rattle.educe_settings.specs.Rows.{type_row}
use Rattle.educe_settings.specs.Settings.{type_settings, bound_said, bound_for, IsBoundOf}

-- the predicates of the bound that is said are readings of their tokens
abbrev IsSaidRead : Option WherePredicatesOrBool → Type 0
IsSaidRead said = IsReadBound (bound_said said)

-- what stands behind `=` gives no bound
bound_other : IsOther (λ (values : Values). values.bound)
bound_other = record { name = λ values x. refl; ignore = λ values b. refl; expression = λ values x. refl }

-- a parameter that has a bound as its value does
held_read : (o : Option Source) (value : WherePredicatesOrBool) → HoldsAmong kind.Bound o value → IsReadBound (bound_of value)
held_read None value holds = absurd (cc)
held_read (Some s) value holds = predicates.laws.bounds value s holds

module _ (row : Row) where
  given_read : (params : List Meta) (o : Option WherePredicatesOrBool) → IsGiven row param.Bound params o → IsSaidRead o
  given_read params None none = tt
  given_read params (Some value) (m, among, is, gives) =
      subst (λ (value : WherePredicatesOrBool). IsReadBound (bound_of value)) (sym gives.is) (held_read (value_source m) gives.value gives.holds)

  says_read : (m : Meta) (values : Values) → Says row m values → IsSaidRead values.bound
  says_read _ _ (Says.bare path flag) = tt
  says_read _ _ (Says.equals path x place b v behind_is holds) =
      subst IsSaidRead (sym (behind_leaves (λ (values : Values). values.bound) bound_other row.equals b behind_is v (values_at place))) tt
  says_read _ _ (Says.params path tokens place found values whole given span_is) = given_read found values.bound (given.gives param.Bound)

  said_read : (which : Trait) (attributes : List Attribute) (values : Values) → IsSaid which row attributes values → IsSaidRead values.bound
  said_read which attributes _ (IsSaid.by_meta values there) = says_read there.meta values there.says
  said_read which attributes _ (IsSaid.by_none none) = tt

-- the bound of a place whose attributes have no cause of a rejection
pub bounds_read : (which : Trait) (row : Row) (listed : List Trait) (attributes : List Attribute) → NoCause (OfPlace which row listed attributes)
    → IsReadBound (bound_said (place_settings which row listed attributes).bound)
bounds_read which row listed attributes none = said_read row which attributes (place_settings which row listed attributes) (lawful_settings.place_said which row listed attributes none)

-- what is said of a bound by a type whose attributes have none is the bound for the trait
pub bound_is : (which : Trait) (d : DeriveInput) (said : Option WherePredicatesOrBool) (bound : Bound) → NoCause (OfPlace which (type_row which d) (listed d) d.attrs)
    → said ≡ (type_settings which d).bound → bound ≡ bound_said said → IsBoundOf which d bound
bound_is which d said bound none said_is is =
    let same : bound ≡ bound_for which d = is ∙ ap bound_said said_is in
    record { is = same; read = subst IsReadBound (sym same) (bounds_read which (type_row which d) (listed d) d.attrs none) }
