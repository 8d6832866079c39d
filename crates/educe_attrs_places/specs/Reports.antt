-- The laws of errors of the attributes of a type, a variant or a field.
use Rattle.std.specs.Prelude.{ℕ, List, IfSome}
use Rattle.educe_tokens.specs.declared.error.EduceError.{EduceError}
use Rattle.educe_tokens.specs.declared.token.Token.{Token}
use Rattle.educe_bound_traits.specs.declared.traits.Trait.{Trait}
use Rattle.educe_syntax.specs.Attribute.{Attribute}
use Rattle.educe_syntax.specs.Placed.{AreAttributesPlaced}
use Rattle.educe_attrs_values.specs.Reports.{HasMessage, IsBoundary}
use Rattle.educe_attrs_rows.specs.declared.row.Row.{Row}
use Rattle.educe_attrs_rows.specs.declared.values.Rank.{Rank}
use Rattle.educe_attrs_rows.specs.declared.values.Values.{Values}
use Rattle.educe_attrs_places.specs.Listing.{OfListing}
use Rattle.educe_attrs_places.specs.Places.{IsSaid, field_settings, IsFieldCause}
use Rattle.educe_attrs_places.specs.Said.{IsPlaceCause, IsSaidCause}

-- Laws of the attributes of a place, and of each error with one of their causes.
pub record ReportLaws : Type 0 where
  -- The error has a message.
  pub listing_message : (attributes : List Attribute) (end : ℕ) (e : EduceError) → OfListing attributes end e → HasMessage e
  pub place_message : (listed : List Trait) (attributes : List Attribute) (e : EduceError) → IsPlaceCause listed attributes e → HasMessage e
  pub said_message : (which : Trait) (row : Row) (attributes : List Attribute) (e : EduceError) → IsSaidCause which row attributes e → HasMessage e
  pub field_message : (which : Trait) (row : Row) (listed : List Trait) (attributes : List Attribute) (e : EduceError) → IsFieldCause which row listed attributes e → HasMessage e
  -- If the attributes lie among tokens, the error starts at a boundary of these.
  pub listing_placed : (tokens : List Token) (attributes : List Attribute) → AreAttributesPlaced tokens attributes
      → (end : ℕ) (e : EduceError) → OfListing attributes end e → IsBoundary tokens e.span.start
  pub place_placed : (tokens : List Token) (attributes : List Attribute) → AreAttributesPlaced tokens attributes
      → (listed : List Trait) (e : EduceError) → IsPlaceCause listed attributes e → IsBoundary tokens e.span.start
  pub said_placed : (tokens : List Token) (attributes : List Attribute) → AreAttributesPlaced tokens attributes
      → (which : Trait) (row : Row) (e : EduceError) → IsSaidCause which row attributes e → IsBoundary tokens e.span.start
  pub field_placed : (tokens : List Token) (attributes : List Attribute) → AreAttributesPlaced tokens attributes
      → (which : Trait) (row : Row) (listed : List Trait) (e : EduceError) → IsFieldCause which row listed attributes e → IsBoundary tokens e.span.start
  -- If a field's attributes lie among tokens, the rank that they give starts at a boundary of these.
  pub rank_placed : (tokens : List Token) (attributes : List Attribute) → AreAttributesPlaced tokens attributes
      → (which : Trait) (row : Row) (listed : List Trait) → IfSome (field_settings which row listed attributes).values.rank (λ (r : Rank). IsBoundary tokens r.span.start)
  -- If the attributes of a type or a variant lie among tokens, the span of the values starts at a boundary of these.
  pub span_placed : (tokens : List Token) (attributes : List Attribute) → AreAttributesPlaced tokens attributes
      → (which : Trait) (row : Row) (values : Values) → IsSaid which row attributes values → IsBoundary tokens values.span.start
