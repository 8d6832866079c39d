-- The parameters and predicates of a header are readings of their tokens, and so are the types that its bounds speak of.
use Rattle.std.proofs.Common.{Bool, true, false, not, List, [], ◌∷◌, sym, subst, cond}
use Rattle.std.specs.Prelude.{filter}
use Rattle.std.specs.List.{AllByRecursion}
use Rattle.educe_syntax.specs.DeriveInput.{DeriveInput}
use Rattle.educe_syntax.specs.GenericParam.{GenericParam}
use Rattle.educe_syntax.specs.GenericParam.TheVariants as param
use Rattle.educe_syntax.specs.Generics.{Generics}
use Rattle.educe_syntax.specs.Laws.{lawful_definitions}
use Rattle.educe_syntax.specs.Readings.{IsNamed, IsReadType, IsReadParam, IsReadPredicate, AreReadGenerics, HasReadParts}
use Rattle.educe_syntax.specs.Refusal.{IsDefinition}
use Rattle.educe_syntax.specs.Ty.{Ty}
use Rattle.educe_bound_classes.specs.Needs.{AreNames}
use Rattle.educe_bound.specs.Predicates.{is_lifetime}
use Rattle.educe_bound_traits.specs.declared.traits.Trait.{Trait}
use Rattle.educe_meaning.specs.Headers.{IsHeader}
use Rattle.educe_meaning.specs.HeaderLaws.{HeaderLaws}
use Rattle.educe_settings.specs.Types.{AreTypes}
use Rattle.educe_settings.proofs.Elements.{each_joined}
use Rattle.educe_settings.proofs.ReadBounds.{bounds_read}
use Rattle.educe_meaning.proofs.TraitTypes.{types_hold}

-- ---- a definition that is read

pub parts_read : (d : DeriveInput) → IsDefinition d.tokens d → HasReadParts d
parts_read d is = lawful_definitions.parts d.tokens d is.whole

-- where the names of parameters are names, so are those of its type parameters
params_named : (params : List GenericParam) → AllByRecursion IsNamed params → AreNames params
params_named [] named = tt
params_named (param.Lifetime p ∷ ps) named = (tt, params_named ps named.1)
params_named (param.TypeParam p ∷ ps) named = (named.0, params_named ps named.1)
params_named (param.Const p ∷ ps) named = (tt, params_named ps named.1)

pub names_read : (d : DeriveInput) → HasReadParts d → AreNames d.generics.params
names_read d parts = params_named d.generics.params parts.named.1

-- the types that are read, and those that have to have the trait
pub types_read : (which : Trait) (d : DeriveInput) (read touched : List Ty) → HasReadParts d → AreTypes which d read touched
    → AllByRecursion IsReadType read × AllByRecursion IsReadType touched
types_read which d read touched parts are = types_hold IsReadType d parts.fields which read touched are

-- ---- headers

-- what holds of an item and of others holds where the item may be left out
all_chosen : {A : Type 0} (P : A → Type 0) (x : A) (xs : List A) (b : Bool) → P x → AllByRecursion P xs → AllByRecursion P (cond b (x ∷ xs) xs)
all_chosen P x xs true one all = (one, all)
all_chosen P x xs false one all = all

-- what holds of each item holds of each that passes a test
all_filtered : {A : Type 0} (P : A → Type 0) (test : A → Bool) (xs : List A) → AllByRecursion P xs → AllByRecursion P (filter test xs)
all_filtered P test [] all = tt
all_filtered P test (x ∷ xs) all = all_chosen P x (filter test xs) (test x) all.0 (all_filtered P test xs all.1)

generics_read : (which : Trait) (d : DeriveInput) (g : Generics) → HasReadParts d → IsHeader which d g → AreReadGenerics g
generics_read which d g parts header =
    let params = d.generics.params in
    let each = parts.generics.0 in (
      subst (AllByRecursion IsReadParam) (sym header.params_are)
          (each_joined IsReadParam (filter is_lifetime params) (filter (λ p. not (is_lifetime p)) params) (all_filtered IsReadParam is_lifetime params each) (all_filtered IsReadParam (λ p. not (is_lifetime p)) params each)),
      subst (AllByRecursion IsReadPredicate) (sym header.predicates_are) (each_joined IsReadPredicate d.generics.predicates header.added parts.generics.1 header.added_read),
    )

pub lawful_headers : HeaderLaws
lawful_headers = record { generics = generics_read; bounds = bounds_read }
