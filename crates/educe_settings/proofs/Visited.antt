-- Fields that are visited one after the other, and the types that are seen.
use Rattle.std.proofs.Common.{◌≡◌, ℕ, ◌+◌, ◌<◌, List, [], ◌∷◌, ◌++◌, map, take, get_or, length, sym, ◌∙◌, ap, append_assoc, refl}
use Rattle.std.proofs.lemmas.List.{take_more, map-append}
use Rattle.std.proofs.lemmas.List.Elements.{filter_map-append}
use Rattle.educe_syntax.specs.Ty.{Ty}
use Rattle.educe_settings.specs.declared.ranked.Ranked.{Ranked}
use Rattle.educe_settings.specs.Ranked.{kept_of}
use Rattle.educe_settings.specs.SeenTypes.{touched_one}
use Rattle.educe_settings.specs.Settings.{Kept, How, plainly, by_method, by_order}
use Rattle.educe_settings.specs.Types.{type_of, touched_by, read_types, touched_types}

-- what is made of a list, and of one item more
pub mapped_more : {A B : Type 0} (f : A → B) (xs : List A) (i : ℕ) (d x : A) → i < length xs → x ≡ get_or xs i d → map f (take (i + 1) xs) ≡ map f (take i xs) ++ f x ∷ []
mapped_more f xs i d x less item = ap (map f) (take_more xs i d less) ∙ map-append f (take i xs) (get_or xs i d ∷ []) ∙ ap (λ y. map f (take i xs) ++ f y ∷ []) (sym item)

-- the types that are read, of two lists of fields
pub read-append : (front back : List Kept) → read_types (front ++ back) ≡ read_types front ++ read_types back
read-append front back = map-append type_of front back

-- the types on which the trait's own function is called, of two lists of fields
pub touched-append : (front back : List Kept) → touched_types (front ++ back) ≡ touched_types front ++ touched_types back
touched-append front back = filter_map-append (λ (k : Kept). touched_by k.how (type_of k)) front back

-- of one field
touched_last : (how : How) (kept : Kept) → kept.how ≡ how → touched_types (kept ∷ []) ≡ touched_one how (type_of kept)
touched_last plainly kept is = rw is refl
touched_last (by_method path) kept is = rw is refl
touched_last (by_order path) kept is = rw is refl

module _ (fields : List Ranked) (i : ℕ) (d r : Ranked) (less : i < length fields) (item : r ≡ get_or fields i d) where
  kept_more : map kept_of (take (i + 1) fields) ≡ map kept_of (take i fields) ++ kept_of r ∷ []
  kept_more = mapped_more kept_of fields i d r less item

  -- a loop over fields that adds the type of each
  pub read_more : (begun before after : List Ty) → before ≡ begun ++ read_types (map kept_of (take i fields)) → after ≡ before ++ type_of (kept_of r) ∷ []
      → after ≡ begun ++ read_types (map kept_of (take (i + 1) fields))
  read_more begun before after so_far pushed =
      pushed ∙ ap (λ front. front ++ type_of (kept_of r) ∷ []) so_far ∙ append_assoc begun (read_types (map kept_of (take i fields))) (type_of (kept_of r) ∷ [])
      ∙ ap (λ more. begun ++ more) (sym (ap read_types kept_more ∙ read-append (map kept_of (take i fields)) (kept_of r ∷ [])))

  -- a loop over fields that adds the types on which the trait's own function is called
  pub touched_more : (begun before after : List Ty) → before ≡ begun ++ touched_types (map kept_of (take i fields))
      → after ≡ before ++ touched_one (kept_of r).how (type_of (kept_of r)) → after ≡ begun ++ touched_types (map kept_of (take (i + 1) fields))
  touched_more begun before after so_far pushed =
      let last = touched_last (kept_of r).how (kept_of r) refl in
      pushed ∙ ap (λ front. front ++ touched_one (kept_of r).how (type_of (kept_of r))) so_far
      ∙ append_assoc begun (touched_types (map kept_of (take i fields))) (touched_one (kept_of r).how (type_of (kept_of r)))
      ∙ ap (λ more. begun ++ more) (sym (ap touched_types kept_more ∙ touched-append (map kept_of (take i fields)) (kept_of r ∷ []) ∙ ap (λ one. touched_types (map kept_of (take i fields)) ++ one) last))
