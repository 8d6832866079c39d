-- What holds of the headers of impls: each part of their generics is the reading of its tokens.
use Rattle.std.specs.Prelude.{List}
use Rattle.educe_syntax.specs.Attribute.{Attribute}
use Rattle.educe_syntax.specs.DeriveInput.{DeriveInput}
use Rattle.educe_syntax.specs.Generics.{Generics}
use Rattle.educe_syntax.specs.Readings.{HasReadParts, AreReadGenerics}
use Rattle.educe_attrs.specs.Causes.{NoCause}
use Rattle.educe_attrs.specs.Places.{place_settings, OfPlace}
use Rattle.educe_attrs.specs.Row.{Row}
use Rattle.educe_bound.specs.Predicates.{IsReadBound}
use Rattle.educe_bound_traits.specs.declared.traits.Trait.{Trait}
use Rattle.educe_meaning.specs.Headers.{IsHeader}
use Rattle.educe_settings.specs.Settings.{bound_said}

-- What holds of the parameters and predicates of headers: they are readings of their tokens, if those of the definition are, and
-- those that the bound of a place lists, if its attributes have no cause.
pub record HeaderLaws : Type 0 where
  -- The parameters and predicates of a header are readings of their tokens, where those of the definition are.
  pub generics : (which : Trait) (definition : DeriveInput) (header : Generics) → HasReadParts definition → IsHeader which definition header → AreReadGenerics header
  -- The predicates that a bound lists are readings of their tokens, where the attributes of its place have no cause of a
  -- rejection.
  pub bounds : (which : Trait) (row : Row) (listed : List Trait) (attributes : List Attribute) → NoCause (OfPlace which row listed attributes)
      → IsReadBound (bound_said (place_settings which row listed attributes).bound)
