-- What is said at several fields, and that one of them is rejected.
use Rattle.std.proofs.Common.{◌≡◌, ℕ, zero, suc, ◌<◌, ◌≤◌, List, [], ◌∷◌, ◌++◌, length, get_or, drop, map, sym, subst, ◌∙◌, ap, append-nil, arith}
use Rattle.std.proofs.lemmas.List.{drop_all}
use Rattle.educe_bound_traits.specs.declared.traits.Trait.{Trait}
use Rattle.educe_syntax.specs.Field.{Field}
use Rattle.educe_attrs_values.specs.declared.stop.Stop.{Stop}
use Rattle.educe_attrs_values.specs.declared.stop.Stop.TheVariants.{Memory, Refused}
use Rattle.educe_attrs_rows.specs.declared.row.Row.{Row}
use Rattle.educe_attrs_rows.specs.Among.{IsAmong}
use Rattle.educe_attrs_places.specs.declared.place.FieldSettings.{FieldSettings}
use Rattle.educe_attrs_places.specs.Causes.{OfStop}
use Rattle.educe_attrs_places.specs.Fields.{settings_at, AreFieldsSaid, OfFields, HaveNoCauses}
use Rattle.educe_attrs_places.specs.Places.{OfField}
use Rattle.educe_attrs_places.proofs.FieldLaws.{settings_said}
use Rattle.educe_attrs_rows.proofs.Among.{among_more}

-- the item at an index
pub among_at : {X : Type 0} (xs : List X) (i : ℕ) (x : X) → i < length xs → x ≡ get_or xs i x → IsAmong x xs
among_at [] i x within is = absurd (omega arith)
among_at (y ∷ ys) zero x within is = record { front = []; back = ys; is = ap (λ y. y ∷ ys) (sym is) }
among_at (y ∷ ys) (suc i) x within is = among_more y x ys (among_at ys i x (omega arith) is)

pub cause_among : (which : Trait) (row : Row) (listed : List Trait) (fields : List Field) (field : Field) → IsAmong field fields → (s : Stop) → OfStop (OfField which row listed field.attrs) s
    → OfStop (OfFields which row listed fields) s
cause_among which row listed fields field among Memory cause = tt
cause_among which row listed fields field among (Refused e) cause = (field, among, cause)

-- where none is rejected, the settings are what the attributes say
pub fields_said : (which : Trait) (row : Row) (listed : List Trait) (fields : List Field) → HaveNoCauses which row listed fields
    → AreFieldsSaid which row listed fields (map (settings_at which row listed) fields)
fields_said which row listed [] none = tt
fields_said which row listed (field ∷ fields) none = (settings_said which row listed field.attrs none.0, fields_said which row listed fields none.1)

-- behind the last field, those that were read are
pub all_said : (which : Trait) (row : Row) (listed : List Trait) (fields : List Field) (all : List FieldSettings) (i : ℕ) → length fields ≤ i
    → all ++ map (settings_at which row listed) (drop i fields) ≡ map (settings_at which row listed) fields
    → (HaveNoCauses which row listed (drop i fields) → HaveNoCauses which row listed fields) → AreFieldsSaid which row listed fields all
all_said which row listed fields all i behind said uncaused =
    let ended : drop i fields ≡ [] = drop_all i fields behind in
    let whole : all ≡ map (settings_at which row listed) fields = sym (ap (λ more. all ++ map (settings_at which row listed) more) ended ∙ append-nil all) ∙ said in
    subst (AreFieldsSaid which row listed fields) (sym whole) (fields_said which row listed fields (uncaused (subst (HaveNoCauses which row listed) (sym ended) tt)))
