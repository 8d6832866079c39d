-- The types of the fields of cases, as they are seen one case after the other.
use Rattle.std.proofs.Common.{◌≡◌, ℕ, ◌+◌, ◌<◌, List, [], ◌∷◌, ◌++◌, map, take, get_or, length, sym, subst, ◌∙◌, ap, append-nil, append_assoc, refl}
use Rattle.educe_syntax.specs.DeriveInput.{DeriveInput}
use Rattle.educe_syntax.specs.Field.{Field}
use Rattle.educe_syntax.specs.Variant.{Variant}
use Rattle.educe_bound_traits.specs.declared.traits.Trait.{Trait}
use Rattle.educe_settings.specs.declared.seen_types.SeenTypes.{SeenTypes}
use Rattle.educe_settings.specs.SeenTypes.{read_of, touched_of}
use Rattle.educe_settings.specs.Cases.{fields_in, cases_of}
use Rattle.educe_settings.specs.Settings.{Kept, kept_fields}
use Rattle.educe_settings.specs.Order.{IsInOrder}
use Rattle.educe_settings.specs.Types.{AreVisited, AreOfFields, read_types, touched_types}
use Rattle.educe_settings.proofs.Visited.{mapped_more, read-append, touched-append}
use Rattle.educe_settings_types.specs.Visits.{Sees}

module _ (which : Trait) (d : DeriveInput) where
  -- one case more is visited
  visited_push : (cases : List (List Field)) (fields : List Field) (own more : List Kept) → AreVisited which d cases own → AreVisited which d (fields ∷ []) more
      → AreVisited which d (cases ++ fields ∷ []) (own ++ more)
  visited_push [] fields own more none last = subst (λ front. AreVisited which d (fields ∷ []) (front ++ more)) (sym none) last
  visited_push (first ∷ cases) fields own more (here, rest, is, in_order, others) last =
      (here, rest ++ more, ap (λ all. all ++ more) is ∙ append_assoc here rest more, in_order, visited_push cases fields rest more others last)

  -- no case
  pub sees_none : (types : SeenTypes) → Sees which d [] types types
  sees_none types = record { own = []; own_are = refl; read_is = sym (append-nil (read_of types)); touched_is = sym (append-nil (touched_of types)) }

  -- one case
  pub sees_one : (fields : List Field) (ordered : List Kept) (before after : SeenTypes) → IsInOrder which (kept_fields which d fields) ordered
      → read_of after ≡ read_of before ++ read_types ordered → touched_of after ≡ touched_of before ++ touched_types ordered → Sees which d (fields ∷ []) before after
  sees_one fields ordered before after in_order read touched = record {
    own = ordered;
    own_are = (ordered, [], sym (append-nil ordered), in_order, refl);
    read_is = read;
    touched_is = touched;
  }

  -- one case more
  sees_push : (cases : List (List Field)) (fields : List Field) (before middle after : SeenTypes) → Sees which d cases before middle → Sees which d (fields ∷ []) middle after
      → Sees which d (cases ++ fields ∷ []) before after
  sees_push cases fields before middle after front last = record {
    own = front.own ++ last.own;
    own_are = visited_push cases fields front.own last.own front.own_are last.own_are;
    read_is = last.read_is ∙ ap (λ seen. seen ++ read_types last.own) front.read_is ∙ append_assoc (read_of before) (read_types front.own) (read_types last.own)
        ∙ ap (λ more. read_of before ++ more) (sym (read-append front.own last.own));
    touched_is = last.touched_is ∙ ap (λ seen. seen ++ touched_types last.own) front.touched_is ∙ append_assoc (touched_of before) (touched_types front.own) (touched_types last.own)
        ∙ ap (λ more. touched_of before ++ more) (sym (touched-append front.own last.own));
  }

  -- a loop over variants that sees the types of the fields of each
  pub sees_more : (variants : List Variant) (i : ℕ) (e variant : Variant) (before middle after : SeenTypes) → i < length variants → variant ≡ get_or variants i e
      → Sees which d (map fields_in (take i variants)) before middle → Sees which d (fields_in variant ∷ []) middle after
      → Sees which d (map fields_in (take (i + 1) variants)) before after
  sees_more variants i e variant before middle after less item front last =
      subst (λ cases. Sees which d cases before after) (sym (mapped_more fields_in variants i e variant less item))
      (sees_push (map fields_in (take i variants)) (fields_in variant) before middle after front last)

  -- where nothing was seen before, what was seen of all cases are the types of the fields
  pub sees_all : (before after : SeenTypes) → read_of before ≡ [] → touched_of before ≡ [] → Sees which d (cases_of d) before after
      → AreOfFields which d (read_of after) (touched_of after)
  sees_all before after unread untouched sees = record {
    visited = sees.own;
    visited_are = sees.own_are;
    read_are = sees.read_is ∙ ap (λ front. front ++ read_types sees.own) unread;
    touched_are = sees.touched_is ∙ ap (λ front. front ++ touched_types sees.own) untouched;
  }
