-- Attributes and metas (Rust Reference, Attributes).
use Rattle.std.specs.Prelude.{◌-◌, Bool, List, [], ◌∷◌, length, slice_get, Option, Some}
use Rattle.educe_tokens.specs.Bracket.TheVariants.{Round, Square, Curly}
use Rattle.educe_tokens.specs.declared.span.Span.{Span}
use Rattle.educe_tokens.specs.declared.token.Token.{Token}
use Rattle.educe_tokens.specs.declared.written.Written.{Written}
use Rattle.educe_tree.specs.declared.attr.Attribute.{Attribute}
use Rattle.educe_tree.specs.declared.attr.Meta.{Meta}
use Rattle.educe_tree.specs.declared.attr.Meta.TheVariants as said
use Rattle.educe_tree.specs.declared.attr.MetaPath.{MetaPath}
use Rattle.educe_tree.specs.declared.expr.Expr.{Expr}
use Rattle.educe_grammar.specs.declared.terminal.Terminal.TheVariants as terminal
use Rattle.educe_grammar.specs.Steps.{Tokens, Found}
use Rattle.educe_grammar.specs.Ahead.{one, start, doc, finish, Look, documents}
use Rattle.educe_grammar.specs.Rules.{Rule, documentation, empty, both, made, either, nest, many, sliced, written, part, exprs, trees}
use Rattle.educe_grammar.specs.Combining.{at, at_sign, skipping, sign, commas}
use Rattle.educe_grammar.specs.Names.{simple_path}
use Rattle.educe_grammar.specs.Expressions.{some_trees, group}

-- ---- spans

-- The span from the start of one token to the end of another.
abbrev pub through : Token → Token → Span
through first last = record { start = first.span.start; end = last.span.end }

-- The span from one optional token to the other; none unless both are there.
abbrev pub between : Option Token → Option Token → Span
between (Some first) (Some last) = through first last
between _ _ = record { start = 0; end = 0 }

-- The span from the first token of the list to the last.
unfoldable pub span_of : Tokens → Span
span_of tokens = between (slice_get tokens 0) (slice_get tokens (length tokens - 1))

-- ---- metas

-- The path of a meta.
abbrev pub meta_path_of : (Bool × List (Unit {0})) × Written → MetaPath
meta_path_of p = record { written = p.1 }

-- Rule for the path of a meta.
unfoldable pub meta_path : Rule MetaPath
meta_path = made meta_path_of (written (simple_path terminal.AnyWord))

-- What follows the path of a meta: nothing, a group, a value, or tokens that aren't parsed.
pub data MetaTail : Type 0 where
  no_tail : MetaTail
  group_tail : Written → MetaTail
  value_tail : Expr → MetaTail
  unread_tail : Written → MetaTail

-- A lookahead: a bracket pair.
abbrev pub at_group : Look
at_group = (start Round ∷ []) ∷ (start Square ∷ []) ∷ (start Curly ∷ []) ∷ []

-- A bracket pair whose tokens are kept.
unfoldable pub written_group : Rule MetaTail
written_group = made (λ p. group_tail p.1) (written group)

-- Rule for `=` followed by at least one token tree.
unfoldable pub unread_value : Rule (Unit {0})
unread_value = skipping (sign 61) (skipping (part trees) some_trees)

-- An unread value, with its tokens.
unfoldable pub unread : Rule MetaTail
unread = made (λ p. unread_tail p.1) (written unread_value)

-- The meta of a path and what follows it; its span is that of all of its tokens.
abbrev pub meta_of : (MetaPath × MetaTail) × Tokens → Meta
meta_of p = elim p.0.1 [
  | no_tail ↦ said.Word p.0.0
  | group_tail tokens ↦ said.List p.0.0 tokens (span_of p.1)
  | value_tail value ↦ said.NameValue p.0.0 value (span_of p.1)
  | unread_tail tokens ↦ said.Unread p.0.0 tokens (span_of p.1)
]

-- Rule for a meta.
unfoldable pub meta : Rule Meta
meta = made meta_of (sliced (both meta_path (either at_group written_group (either (at_sign 61) (made value_tail (skipping (sign 61) (part exprs))) (empty no_tail)))))

-- Rule for a comma-separated list of metas.
unfoldable pub metas : Rule (List Meta)
metas = commas (at finish) meta

-- ---- attributes

-- Rule for the content of an attribute; a value after `=` is kept as tokens.
unfoldable pub outer_meta : Rule Meta
outer_meta = made meta_of (sliced (both meta_path (either at_group written_group (either (at_sign 61) unread (empty no_tail)))))

-- The attribute of documentation.
abbrev pub documented : Found documents → Attribute
documented found = record { meta = said.Doc found.token }

-- The attribute of a meta.
abbrev pub attribute_of : Meta → Attribute
attribute_of m = record { meta = m }

-- Rule for an outer attribute or documentation.
unfoldable pub attribute : Rule Attribute
attribute = either (at doc) (made documented documentation) (made attribute_of (skipping (sign 35) (nest Square outer_meta)))

-- Lookahead for an attribute.
abbrev pub at_attribute : Look
at_attribute = (doc ∷ []) ∷ (one (terminal.Sign 35) ∷ []) ∷ []

-- Rule for the attributes before a construct.
unfoldable pub attributes : Rule (List Attribute)
attributes = many at_attribute attribute
