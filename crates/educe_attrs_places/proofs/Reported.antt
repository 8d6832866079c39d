-- The errors of a place's attributes have messages, and start at boundaries of tokens; so do the ranks of fields and the places of what is said.
use Rattle.std.proofs.Common.{◌≡◌, ℕ, List, ◌∷◌, ◌++◌, Some, Result, Ok, Err, refl, sym, subst, inl, inr}
use Rattle.std.specs.Prelude.{IfSome}
use Rattle.std.specs.Result.{result_unwrap_or}
use Rattle.educe_tokens.specs.declared.error.EduceError.{EduceError}
use Rattle.educe_tokens.specs.declared.span.Span.{Span}
use Rattle.educe_tokens.specs.declared.token.Token.{Token}
use Rattle.educe_bound_traits.specs.declared.traits.Trait.{Trait}
use Rattle.educe_bound_traits.specs.declared.traits.Trait.TheVariants.{PartialOrd}
use Rattle.educe_syntax.specs.Attribute.{Attribute}
use Rattle.educe_syntax.specs.Laws.{lawful_metas}
use Rattle.educe_syntax.specs.Meta.{Meta}
use Rattle.educe_syntax.specs.MetaPath.{MetaPath}
use Rattle.educe_syntax.specs.Placed.{AreWithin, IsMetaPlaced, AreMetasPlaced, AreAttributesPlaced}
use Rattle.educe_attrs_values.specs.declared.stop.Stop.{Stop}
use Rattle.educe_attrs_values.specs.Reports.{HasMessage, IsBoundary}
use Rattle.educe_attrs_values.specs.Sources.{inside}
use Rattle.educe_attrs_values.specs.Words.{path_of, place_of, meta_place}
use Rattle.educe_attrs_values.proofs.Boundaries.{each_joined, metas_within, pair_placed, name_boundary, meta_boundary}
use Rattle.educe_attrs_rows.specs.declared.row.Row.{Row}
use Rattle.educe_attrs_rows.specs.declared.values.Rank.{Rank}
use Rattle.educe_attrs_rows.specs.declared.values.Values.{Values}
use Rattle.educe_attrs_rows.specs.Among.{IsAmong}
use Rattle.educe_attrs_rows.specs.Causes.{Says}
use Rattle.educe_attrs_rows.specs.Settings.{values_at, no_values}
use Rattle.educe_attrs_rows.proofs.Among.{among_all}
use Rattle.educe_attrs_rows.proofs.Reported.{IsOther, behind_leaves, own_message, own_placed, rank_placed}
use Rattle.educe_attrs_places.specs.declared.place.FieldSettings.{FieldSettings}
use Rattle.educe_attrs_places.specs.Listing.{IsBareEduce, IsListingCause, OfListing}
use Rattle.educe_attrs_places.specs.Lists.{IsEduce, AreOwn, AreMetas, IsNameIn, IsListCause}
use Rattle.educe_attrs_places.specs.Named.{IsReused}
use Rattle.educe_attrs_places.specs.Places.{IsSaid, own_settings, taken, read_field, field_settings, IsFieldSaid, IsFieldCause}
use Rattle.educe_attrs_places.specs.Reports.{ReportLaws}
use Rattle.educe_attrs_places.specs.Said.{SaysThere, IsPlaceCause, IsSaidCause}
use Rattle.educe_attrs_places.proofs.FieldLaws.{field_said}
use Rattle.educe_attrs_places.proofs.Texts.{format_words}

-- ---- messages

list_message : (attributes : List Attribute) (e : EduceError) → IsListCause attributes e → HasMessage e
list_message attributes e cause = record { kind = cause.has_place; words = (lawful_metas.reported (inside cause.tokens) e cause.cause).words }

place_message : (listed : List Trait) (attributes : List Attribute) (e : EduceError) → IsPlaceCause listed attributes e → HasMessage e
place_message listed attributes e (IsPlaceCause.list cause) = list_message attributes e cause
place_message listed attributes e (IsPlaceCause.unsupported path n none) = record { kind = λ same. cc; words = refl }
place_message listed attributes e (IsPlaceCause.not_used path which n is unused) = record { kind = λ same. cc; words = refl }

said_message : (which : Trait) (row : Row) (attributes : List Attribute) (e : EduceError) → IsSaidCause which row attributes e → HasMessage e
said_message which row attributes e (IsSaidCause.reuse found later path are reused path_is) = record { kind = λ same. cc; words = refl }
said_message which row attributes e (IsSaidCause.meta found m are among of cause) = own_message row m e cause

field_message : (which : Trait) (row : Row) (listed : List Trait) (attributes : List Attribute) (e : EduceError) → IsFieldCause which row listed attributes e → HasMessage e
field_message which row listed attributes e (IsFieldCause.own_meta is cause) = said_message which row attributes e cause
field_message which row listed attributes e (IsFieldCause.other_meta other is none cause) = said_message other row attributes e cause

listing_message : (attributes : List Attribute) (end : ℕ) (e : EduceError) → OfListing attributes end e → HasMessage e
listing_message attributes end e (inl (IsListingCause.format a path among bare)) = record { kind = λ same. cc; words = format_words }
listing_message attributes end e (inl (IsListingCause.list cause)) = list_message attributes e cause
listing_message attributes end e (inl (IsListingCause.unsupported path n none)) = record { kind = λ same. cc; words = refl }
listing_message attributes end e (inl (IsListingCause.reuse which found later path are reused path_is)) = record { kind = λ same. cc; words = refl }
listing_message attributes end e (inr none) = subst HasMessage (sym none.1) (record { kind = λ same. cc; words = refl })

-- ---- the place of what is said

-- a value behind `=` leaves it
span_other : IsOther (λ (values : Values). values.span)
span_other = record { name = λ values x. refl; ignore = λ values b. refl; expression = λ values x. refl }

-- it is that of the meta that says it
says_at : (row : Row) (m : Meta) (values : Values) → Says row m values → values.span ≡ meta_place m
says_at row _ _ (Says.bare path flag) = refl
says_at row _ _ (Says.equals path x place b v is holds) = behind_leaves (λ (values : Values). values.span) span_other row.equals b is v (values_at place)
says_at row _ _ (Says.params path group place found values whole given span_is) = span_is

-- ---- what stands among tokens

-- the path of an attribute that is `educe` and no list
bare_path : (path : MetaPath) (m : Meta) → IsBareEduce path m → path_of m ≡ Some path
bare_path path _ (IsBareEduce.word named) = refl
bare_path path _ (IsBareEduce.name_value x place named) = refl
bare_path path _ (IsBareEduce.unread written place named) = refl

-- the second of two metas of a trait is one of them
reused_among : (which : Trait) (found : List Meta) (later : Meta) → IsReused which found later → IsAmong later found
reused_among which found later reused = record { front = reused.front ++ reused.earlier ∷ reused.between; back = reused.rest; is = reused.is }

module _ (tokens : List Token) where
  -- the error starts at a boundary of the tokens
  abbrev Starts : EduceError → Type 0
  Starts e = IsBoundary tokens e.span.start

  -- the tokens of an `educe` list stand among them
  educe_within : (a : Attribute) → IsMetaPlaced tokens a.meta → (group : List Token) → IsEduce a group → AreWithin tokens group
  educe_within a placed group educe = subst (AreWithin tokens) (sym educe.tokens_are) (subst (IsMetaPlaced tokens) educe.is placed).1

  -- the metas of an attribute stand among the tokens
  own_metas_placed : (a : Attribute) → IsMetaPlaced tokens a.meta → (found : List Meta) → AreOwn a found → AreMetasPlaced tokens found
  own_metas_placed a placed found (AreOwn.educe group _ educe whole) = metas_within tokens group (educe_within a placed group educe) found whole
  own_metas_placed a placed _ (AreOwn.other none) = tt

  -- the metas of all lists stand among the tokens
  metas_placed : (attributes : List Attribute) → AreAttributesPlaced tokens attributes → (found : List Meta) → AreMetas attributes found → AreMetasPlaced tokens found
  metas_placed _ placed _ AreMetas.none_left = tt
  metas_placed _ placed _ (AreMetas.one_more a more front found own rest) =
      each_joined (IsMetaPlaced tokens) front found (own_metas_placed a placed.0 front own) (metas_placed more placed.1 found rest)

  module _ (attributes : List Attribute) (placed : AreAttributesPlaced tokens attributes) where
    attribute_placed : (a : Attribute) → IsAmong a attributes → IsMetaPlaced tokens a.meta
    attribute_placed a among = among_all (λ (a : Attribute). IsMetaPlaced tokens a.meta) a attributes placed among

    meta_placed : (found : List Meta) → AreMetas attributes found → (m : Meta) → IsAmong m found → IsMetaPlaced tokens m
    meta_placed found are m among = among_all (IsMetaPlaced tokens) m found (metas_placed attributes placed found are) among

    -- ---- places of errors

    name_placed : (path : MetaPath) → IsNameIn attributes path → IsBoundary tokens (place_of path.written.tokens).start
    name_placed path n =
        let own = own_metas_placed n.attribute (attribute_placed n.attribute n.stands) n.found n.own in
        name_boundary tokens n.meta (among_all (IsMetaPlaced tokens) n.meta n.found own n.among) path n.path_is

    list_placed : (e : EduceError) → IsListCause attributes e → Starts e
    list_placed e c = pair_placed tokens c.tokens (educe_within c.attribute (attribute_placed c.attribute c.stands) c.tokens c.educe) e c.cause

    again_placed : (which : Trait) (found : List Meta) (later : Meta) (path : MetaPath) → AreMetas attributes found → IsReused which found later → path_of later ≡ Some path
        → IsBoundary tokens (place_of path.written.tokens).start
    again_placed which found later path are reused is = name_boundary tokens later (meta_placed found are later (reused_among which found later reused)) path is

    place_placed : (listed : List Trait) (e : EduceError) → IsPlaceCause listed attributes e → Starts e
    place_placed listed e (IsPlaceCause.list cause) = list_placed e cause
    place_placed listed e (IsPlaceCause.unsupported path n none) = name_placed path n
    place_placed listed e (IsPlaceCause.not_used path which n is unused) = name_placed path n

    said_placed : (which : Trait) (row : Row) (e : EduceError) → IsSaidCause which row attributes e → Starts e
    said_placed which row e (IsSaidCause.reuse found later path are reused path_is) = again_placed which found later path are reused path_is
    said_placed which row e (IsSaidCause.meta found m are among of cause) = own_placed tokens row m (meta_placed found are m among) e cause

    field_placed : (which : Trait) (row : Row) (listed : List Trait) (e : EduceError) → IsFieldCause which row listed attributes e → Starts e
    field_placed which row listed e (IsFieldCause.own_meta is cause) = said_placed which row e cause
    field_placed which row listed e (IsFieldCause.other_meta other is none cause) = said_placed other row e cause

    listing_placed : (end : ℕ) (e : EduceError) → OfListing attributes end e → Starts e
    listing_placed end e (inl (IsListingCause.format a path among bare)) = name_boundary tokens a.meta (attribute_placed a among) path (bare_path path a.meta bare)
    listing_placed end e (inl (IsListingCause.list cause)) = list_placed e cause
    listing_placed end e (inl (IsListingCause.unsupported path n none)) = name_placed path n
    listing_placed end e (inl (IsListingCause.reuse which found later path are reused path_is)) = again_placed which found later path are reused path_is
    listing_placed end e (inr none) = subst Starts (sym none.1) IsBoundary.beginning

    -- ---- places of what is said

    said_span : (which : Trait) (row : Row) (values : Values) → IsSaid which row attributes values → IsBoundary tokens values.span.start
    said_span which row _ (IsSaid.by_meta values s) =
        subst (λ (place : Span). IsBoundary tokens place.start) (sym (says_at row s.meta values s.says)) (meta_boundary tokens s.meta (meta_placed s.found s.are s.meta s.among))
    said_span which row _ (IsSaid.by_none none) = IsBoundary.beginning

    -- ---- places of ranks

    -- a rank, if there is one, starts at a boundary
    abbrev RankPlaced : Values → Type 0
    RankPlaced values = IfSome values.rank (λ (r : Rank). IsBoundary tokens r.span.start)

    there_placed : (which : Trait) (row : Row) (values : Values) → SaysThere which row attributes values → RankPlaced values
    there_placed which row values s = rank_placed tokens row s.meta (meta_placed s.found s.are s.meta s.among) values s.says

    -- what is taken from the other order has its rank
    taken_placed : (which : Trait) (values : Values) → RankPlaced values → RankPlaced (taken which values).values
    taken_placed PartialOrd values has = has
    taken_placed _ values has = has

    field_rank : (which : Trait) (row : Row) (listed : List Trait) (v : FieldSettings) → IsFieldSaid which row listed attributes v → RankPlaced v.values
    field_rank which row listed _ (IsFieldSaid.own_said values says) = there_placed which row values says
    field_rank which row listed _ (IsFieldSaid.other_said other values is none says) = taken_placed which values (there_placed other row values says)
    field_rank which row listed _ (IsFieldSaid.none_said none others) = tt

    read_rank : (which : Trait) (row : Row) (listed : List Trait) (r : Result FieldSettings Stop) → read_field which row listed attributes ≡ r → RankPlaced (result_unwrap_or r (own_settings no_values)).values
    read_rank which row listed (Ok v) is = field_rank which row listed v (field_said which row listed attributes v is)
    read_rank which row listed (Err s) is = tt

    settings_rank : (which : Trait) (row : Row) (listed : List Trait) → RankPlaced (field_settings which row listed attributes).values
    unfolding field_settings
    settings_rank which row listed = read_rank which row listed (read_field which row listed attributes) refl

-- errors and ranks have these laws
pub lawful_reports : ReportLaws
lawful_reports = record {
  listing_message = listing_message;
  place_message = place_message;
  said_message = said_message;
  field_message = field_message;
  listing_placed = listing_placed;
  place_placed = place_placed;
  said_placed = said_placed;
  field_placed = field_placed;
  rank_placed = settings_rank;
  span_placed = said_span;
}
