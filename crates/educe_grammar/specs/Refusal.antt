-- The causes for which the tokens of a definition are rejected.
use Rattle.std.specs.Prelude.{◌≡◌, List, ◌∷◌, ◌++◌, codes}
use Rattle.educe_tokens.specs.TokenKind.TheVariants as kind
use Rattle.educe_tokens.specs.declared.token.Token.{Token}
use Rattle.educe_tokens.specs.declared.error.EduceError.{EduceError}
use Rattle.educe_tokens.specs.declared.error.Kind.TheVariants.{NotCarried, Alloc}
use Rattle.educe_tokens.specs.Refusals.{placeless, citing_at}
use Rattle.educe_tree.specs.declared.attr.Attribute.{Attribute}
use Rattle.educe_tree.specs.declared.derive.DeriveInput.{DeriveInput}
use Rattle.educe_grammar.specs.Steps.{Tokens}
use Rattle.educe_grammar.specs.Rules.{both}
use Rattle.educe_grammar.specs.Attributes.{attributes}
use Rattle.educe_grammar.specs.Definitions.{visibility, definition}
use Rattle.educe_grammar.specs.Parsed.{IsWhole, IsParseCause}
use Rattle.educe_grammar.specs.Naming.{Named, IsRepeatedIn, AreNamesApart, scopes, duplicate_of}

-- The list is this definition, and its names are distinct; of the tokens that a definition keeps it says that a text may give the
-- definition.
pub record IsDefinition (tokens : Tokens) (found : DeriveInput) : Type 0 where
  pub whole : IsWhole definition tokens found
  pub apart : AreNamesApart found

-- The token is the identifier `union` (Rust Reference, Keywords: weak keywords).
abbrev pub IsUnionWord : Token → Type 0
IsUnionWord t = (t.kind ≡ kind.Ident) × (t.spelling ≡ codes "union")

-- The tokens are attributes and a visibility, followed by the word `union`, with which no other definition begins, and
-- anything.
pub record IsUnion (tokens : Tokens) (word : Token) : Type 0 where
  pub front : Tokens
  pub rest : Tokens
  pub read : List Attribute × Unit {0}
  pub is : tokens ≡ front ++ word ∷ rest
  pub reads : IsWhole (both attributes visibility) front read
  pub word_is : IsUnionWord word

-- The rejection of a union as unsupported, at its keyword.
abbrev pub union_of : Token → EduceError
union_of word = citing_at NotCarried word.span word.spelling

-- The causes of rejection: the tokens begin as a union; or they don't, and are no definition within the limits; or a
-- name of the definition is duplicate. Out of memory may end any call.
pub data IsRefusalOf (tokens : Tokens) : EduceError → Type 0 where
  union : (word : Token) → IsUnion tokens word → IsRefusalOf tokens (union_of word)
  grammar : {e : EduceError} → ((word : Token) → IsUnion tokens word → ⊥) → IsParseCause definition tokens e → IsRefusalOf tokens e
  memory : IsRefusalOf tokens (placeless Alloc)
  repeated : (found : DeriveInput) (name : Named) → IsWhole definition tokens found → IsRepeatedIn name (scopes found) → IsRefusalOf tokens (duplicate_of name)
