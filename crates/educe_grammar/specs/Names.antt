-- Names, lifetimes and simple paths.
use Rattle.std.specs.Prelude.{◌≡◌, ℕ, Bool, true, IsTrue, List, []}
use Rattle.std.proofs.Common.{refl, subst}
use Rattle.std.specs.Bool.{passes}
use Rattle.educe_tokens.specs.TokenKind.{TokenKind}
use Rattle.educe_tokens.specs.TokenKind.TheVariants as kind
use Rattle.educe_tokens.specs.Pieces.{spells}
use Rattle.educe_tokens.specs.declared.token.Token.{Token}
use Rattle.educe_tree.specs.declared.ident.Ident.{Ident}
use Rattle.educe_tree.specs.declared.lifetime.Lifetime.{Lifetime}
use Rattle.educe_grammar.specs.declared.terminal.Terminal.{Terminal}
use Rattle.educe_grammar.specs.declared.terminal.Terminal.TheVariants as terminal
use Rattle.educe_grammar.specs.Terminals.{Words, some_words, segment_words, only_words, set_of, token_in, accepts}
use Rattle.educe_grammar.specs.Steps.{Found}
use Rattle.educe_grammar.specs.Rules as rule
use Rattle.educe_grammar.specs.Rules.{Rule, token, both, made}
use Rattle.educe_grammar.specs.Combining.{at_colons, unit, flag, colons}

-- A token in a set that contains only words is an identifier.
pub word_kind : (words : Words) (k : TokenKind) (text : List ℕ) → token_in (only_words words) k text ≡ true → k ≡ kind.Ident
word_kind words kind.Ident text h = refl
word_kind words kind.Lifetime text h = absurd (passes _ h)
word_kind words (kind.Literal l) text h = absurd (passes _ h)
word_kind words (kind.Punct c joint) text h = absurd (passes _ h)
word_kind words (kind.Start b) text h = absurd (passes _ h)
word_kind words (kind.Stop b) text h = absurd (passes _ h)
word_kind words kind.Doc text h = absurd (passes _ h)

-- A token in the set of lifetimes is a lifetime.
pub lifetime_kind : (k : TokenKind) (text : List ℕ) → token_in (set_of terminal.Lifetime) k text ≡ true → k ≡ kind.Lifetime
lifetime_kind kind.Ident text h = absurd (passes _ h)
lifetime_kind kind.Lifetime text h = refl
lifetime_kind (kind.Literal l) text h = absurd (passes _ h)
lifetime_kind (kind.Punct c joint) text h = absurd (passes _ h)
lifetime_kind (kind.Start b) text h = absurd (passes _ h)
lifetime_kind (kind.Stop b) text h = absurd (passes _ h)
lifetime_kind kind.Doc text h = absurd (passes _ h)

-- The identifier of a token that is in a set of words.
abbrev pub ident_in : (words : Words) (t : Token) → IsTrue (token_in (only_words words) t.kind t.spelling) → Ident
ident_in words t h = record { text = t.spelling; span = t.span; spelled = subst (λ k. IsTrue (spells k t.spelling)) (word_kind words t.kind t.spelling h) t.spelled }

-- An accepted token is in the requested set.
pub accepted : (asked : Terminal) (t : Token) → IsTrue (accepts asked t) → IsTrue (token_in (set_of asked) t.kind t.spelling)
unfolding accepts
accepted asked t passes = passes

-- The `Ident` of a token that is a name.
abbrev pub name_of : Found (accepts terminal.Name) → Ident
name_of found = ident_in (some_words true []) found.token (accepted terminal.Name found.token found.passes)

-- The `Ident` of a token that is the name of a segment.
abbrev pub segment_name_of : Found (accepts terminal.PathSegment) → Ident
segment_name_of found = ident_in segment_words found.token (accepted terminal.PathSegment found.token found.passes)

-- The `Lifetime` of a token.
abbrev pub lifetime_of : Found (accepts terminal.Lifetime) → Lifetime
lifetime_of found = record {
  text = found.token.spelling;
  span = found.token.span;
  spelled =
      subst (λ k. IsTrue (spells k found.token.spelling)) (lifetime_kind found.token.kind found.token.spelling (accepted terminal.Lifetime found.token found.passes)) found.token.spelled;
}

-- Rule for a name (Rust Reference, Identifiers).
unfoldable pub name : Rule Ident
name = made name_of (token terminal.Name)

-- Rule for the name of a segment, which may be `self`, `Self`, `super` or `crate` (Rust Reference, Paths).
unfoldable pub segment_name : Rule Ident
segment_name = made segment_name_of (token terminal.PathSegment)

-- Rule for a lifetime (Rust Reference, Lifetimes and loop labels).
unfoldable pub lifetime : Rule Lifetime
lifetime = made lifetime_of (token terminal.Lifetime)

-- Rule for one token of the terminal, whose value is discarded.
unfoldable pub mere_token : Terminal → Rule (Unit {0})
mere_token asked = unit (token asked)

-- Rule for tokens of the terminal with `::` between them and optionally before the first (Rust Reference, Simple
-- paths).
unfoldable pub simple_path : Terminal → Rule (Bool × List (Unit {0}))
simple_path asked = both (flag at_colons colons) (rule.path (mere_token asked))
