-- The content of a type's `repr` lists, and the type of its discriminants (Rust Reference, Representations; Primitive
-- representations).
use Rattle.std.specs.Prelude.{◌≡◌, ◌⊎◌, Bool, true, false, if◌then◌else◌, List, [], ◌∷◌, ◌++◌, codes, Option, None}
use Rattle.std.specs.Option.{unwrap_or}
use Rattle.std.specs.List.{filter_map, last_or}
use Rattle.educe_tokens.specs.declared.token.Token.{Token}
use Rattle.educe_syntax.specs.Attribute.{Attribute}
use Rattle.educe_syntax.specs.Attributes.{metas}
use Rattle.educe_syntax.specs.Meta.{Meta}
use Rattle.educe_syntax.specs.Meta.TheVariants as said
use Rattle.educe_syntax.specs.Parsed.{IsWhole}
use Rattle.educe_syntax.specs.Terminal.TheVariants.{AnyWord}
use Rattle.educe_syntax.specs.Terminals.{accepts}
use Rattle.educe_attrs_values.specs.Sources.{inside}
use Rattle.educe_bound_traits.specs.OneWord.{is_one_word}
use Rattle.educe_discriminants.specs.declared.discriminant_type.DiscriminantType.{DiscriminantType}
use Rattle.educe_discriminants.specs.declared.discriminant_type.DiscriminantType.TheVariants.{ISize}
use Rattle.educe_discriminants.specs.Types.{type_named}

-- The content of the bracket pair is these metas; if it is no list of metas, there are none.
abbrev pub HoldsMetas : List Token → List Meta → Type 0
HoldsMetas tokens held = IsWhole metas (inside tokens) held ⊎ (((found : List Meta) → ¬ IsWhole metas (inside tokens) found) × (held ≡ []))

-- The list holds these metas if the test of its path holds, else none.
abbrev pub HoldsIf : Bool → List Token → List Meta → Type 0
HoldsIf true tokens held = HoldsMetas tokens held
HoldsIf false tokens held = held ≡ []

-- The attribute is a `repr` list of these metas; any other attribute holds none.
abbrev pub Represents : Meta → List Meta → Type 0
Represents (said.Word path) held = held ≡ []
Represents (said.List path tokens place) held = HoldsIf (is_one_word (codes "repr") path.written.tokens) tokens.tokens held
Represents (said.NameValue path value place) held = held ≡ []
Represents (said.Doc t) held = held ≡ []
Represents (said.Unread path tokens place) held = held ≡ []

-- The `repr` lists among the attributes hold these metas, in written order.
pub data AreHeld : List Attribute → List Meta → Type 0 where
  none_left : AreHeld [] []
  one_more : (a : Attribute) (more : List Attribute) (own held : List Meta) → Represents a.meta own → AreHeld more held → AreHeld (a ∷ more) (own ++ held)

-- The integer type with this name, if the tokens are one word.
abbrev pub type_of_word : List Token → Option DiscriminantType
type_of_word [] = None
type_of_word (t ∷ []) = if accepts AnyWord t then type_named t.spelling else None
type_of_word (t ∷ u ∷ more) = None

-- The integer type that a meta names, if it is a path of one word.
abbrev pub type_of : Meta → Option DiscriminantType
type_of (said.Word path) = type_of_word path.written.tokens
type_of (said.List path tokens place) = None
type_of (said.NameValue path value place) = None
type_of (said.Doc t) = None
type_of (said.Unread path tokens place) = None

-- The last integer type that the metas name, or `isize`.
abbrev pub last_type : List Meta → DiscriminantType
last_type held = unwrap_or (last_or None (filter_map type_of held)) ISize

-- The type is the last integer type that the `repr` lists name, or `isize`.
pub record IsDiscriminantType (attributes : List Attribute) (ty : DiscriminantType) : Type 0 where
  pub held : List Meta
  pub are_held : AreHeld attributes held
  pub is : ty ≡ last_type held
