-- The metas of a list have names: none is documentation, and none has a value that isn't read.
use Rattle.std.proofs.Common.{ℕ, Bool, List, sym, subst, inl, inr}
use Rattle.std.specs.List.{AllByRecursion}
use Rattle.educe_tokens.specs.declared.token.Token.{Token}
use Rattle.educe_syntax.specs.Attributes.{MetaTail, no_tail, group_tail, value_tail, unread_tail, meta_of, meta, metas, meta_path, written_group, at_group}
use Rattle.educe_syntax.specs.Combining.{at_sign, skipping, sign}
use Rattle.educe_syntax.specs.Meta.{Meta}
use Rattle.educe_syntax.specs.MetaPath.{MetaPath}
use Rattle.educe_syntax.specs.Parsed.{depth_limit, IsWhole}
use Rattle.educe_syntax.specs.Reading.{Parses, Listed}
use Rattle.educe_syntax.specs.Reads.{parts}
use Rattle.educe_syntax.specs.Rules.{Rule, both, made, either, sliced, part, exprs, empty}
use Rattle.educe_syntax.specs.Steps.{Tokens}
use Rattle.educe_attrs_values.specs.Metas.{IsNamed}

-- what stands behind the path is read
abbrev IsRead : MetaTail → Type 0
IsRead no_tail = Unit {0}
IsRead (group_tail tokens) = Unit {0}
IsRead (value_tail value) = Unit {0}
IsRead (unread_tail tokens) = ⊥

-- a meta with such a tail has a name
named_by : (x : (MetaPath × MetaTail) × Tokens) → IsRead x.0.1 → IsNamed (meta_of x)
named_by ((path, no_tail), tokens) read = tt
named_by ((path, group_tail inner), tokens) read = tt
named_by ((path, value_tail value), tokens) read = tt
named_by ((path, unread_tail inner), tokens) read = absurd read

-- what may stand behind the path of a meta in a list
abbrev tail : Rule MetaTail
tail = either at_group written_group (either (at_sign 61) (made value_tail (skipping (sign 61) (part exprs))) (empty no_tail))

tail_read : (budget : ℕ) (tokens : Tokens) (t : MetaTail) → Parses parts budget tail tokens t → IsRead t
unfolding Parses written_group
tail_read budget tokens t is = elim is [
  | inl pair ↦ subst IsRead (sym pair.1) tt
  | inr behind ↦ elim behind [ inl value ↦ subst IsRead (sym value.1) tt | inr none ↦ subst IsRead (sym none.1) tt ]
]

sliced_read : (budget : ℕ) (tokens : Tokens) (x : (MetaPath × MetaTail) × Tokens) → Parses parts budget (sliced (both meta_path tail)) tokens x → IsRead x.0.1
unfolding Parses
sliced_read budget tokens x is = let pair = is.0 in tail_read budget pair.1 x.0.1 pair.4

meta_named : (budget : ℕ) (tokens : Tokens) (m : Meta) → Parses parts budget meta tokens m → IsNamed m
unfolding Parses meta
meta_named budget tokens m is = subst IsNamed (sym is.1) (named_by is.0 (sliced_read budget tokens is.0 is.2))

listed_named : (budget : ℕ) (separates : Token → Bool) {tokens : Tokens} {found : List Meta} → Listed (Parses parts budget meta) separates tokens found → AllByRecursion IsNamed found
listed_named budget separates Listed.none = tt
listed_named budget separates (Listed.last {x = x} tokens is) = (meta_named budget tokens x is, tt)
listed_named budget separates (Listed.more {x = x} front rest separator is between others) = (meta_named budget front x is, listed_named budget separates others)

-- each meta of a list has a name
pub metas_named : (tokens : Tokens) (found : List Meta) → IsWhole metas tokens found → AllByRecursion IsNamed found
unfolding Parses metas
metas_named tokens found whole = listed_named depth_limit _ whole
