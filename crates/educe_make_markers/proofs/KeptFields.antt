-- Fields that take part, and what is said of them.
use Rattle.std.proofs.Common.{◌≡◌, ℕ, ◌+◌, Bool, true, false, List, [], ◌∷◌, ◌++◌, map, inl, inr, refl, ap, sym, subst}
use Rattle.std.specs.Prelude.{if◌then◌else◌}
use Rattle.std.specs.List.{flat_map}
use Rattle.educe_syntax.specs.Field.{Field}
use Rattle.educe_attrs.specs.FieldSettings.{FieldSettings}
use Rattle.educe_settings.proofs.Uncaused.{in_one_of}
use Rattle.educe_settings.specs.Settings.{Kept, keeps, how_by, kept_with, kept_by}
use Rattle.educe_settings.proofs.Elements.{In, In-behind}

-- ---- elements

-- an element of the first of two joined lists
pub in_front : {X : Type 0} (xs ys : List X) (x : X) → In x xs → In x (xs ++ ys)
in_front [] ys x found = absurd found
in_front (y ∷ xs) ys x (inl here) = inl here
in_front (y ∷ xs) ys x (inr later) = inr (in_front xs ys x later)

-- an element of one of several lists, one behind the other
pub in_flat : {X Y : Type 0} (g : X → List Y) (xs : List X) (x : X) (y : Y) → In x xs → In y (g x) → In y (flat_map g xs)
in_flat g [] x y found inner = absurd found
in_flat g (z ∷ zs) x y (inl here) inner = in_front (g z) (flat_map g zs) y (subst (λ own. In y (g own)) (sym here) inner)
in_flat g (z ∷ zs) x y (inr later) inner = In-behind (g z) (flat_map g zs) y (in_flat g zs x y later inner)

-- ---- fields

-- what takes part is one of these fields, treated as is said of it
pub record IsMadeOf (said : Field → FieldSettings) (fields : List Field) (k : Kept) : Type 0 where
  pub field : Field
  pub found : In field fields
  pub kept : keeps (said field) ≡ true
  pub field_is : k.field ≡ field
  pub how_is : k.how ≡ how_by (said field)

module _ (said : Field → FieldSettings) where
  by_keeps : (place : ℕ) (f : Field) (fs : List Field) (rest : List Kept) (k : Kept) (b : Bool) → keeps (said f) ≡ b → (In k rest → IsMadeOf said fs k)
      → In k (if b then kept_with (said f) place f ∷ rest else rest) → IsMadeOf said (f ∷ fs) k
  by_keeps place f fs rest k true is later (inl here) =
      record { field = f; found = inl refl; kept = is; field_is = sym (ap (λ (k : Kept). k.field) here); how_is = sym (ap (λ (k : Kept). k.how) here) }
  by_keeps place f fs rest k true is later (inr behind) =
      let made = later behind in record { field = made.field; found = inr made.found; kept = made.kept; field_is = made.field_is; how_is = made.how_is }
  by_keeps place f fs rest k false is later behind =
      let made = later behind in record { field = made.field; found = inr made.found; kept = made.kept; field_is = made.field_is; how_is = made.how_is }

  from_kept : (place : ℕ) (fields : List Field) (k : Kept) → In k (kept_by place fields (map said fields)) → IsMadeOf said fields k
  from_kept place [] k found = absurd found
  from_kept place (f ∷ fs) k found = by_keeps place f fs (kept_by (place + 1) fs (map said fs)) k (keeps (said f)) refl (from_kept (place + 1) fs k) found

-- ---- the fields of cases

module _ {X : Type 0} (said : X → Field → FieldSettings) (fields_of : X → List Field) where
  -- the fields of a case that take part
  abbrev pub kept_in : X → List Kept
  kept_in x = kept_by 0 (fields_of x) (map (said x) (fields_of x))

  -- what takes part is a field of one of these cases
  pub from_cases : (cases : List X) (k : Kept) → In k (flat_map kept_in cases) → (x : X) × In x cases × IsMadeOf (said x) (fields_of x) k
  from_cases cases k found = let (x, outer, inner) = in_one_of kept_in cases k found in (x, outer, from_kept (said x) 0 (fields_of x) k inner)
