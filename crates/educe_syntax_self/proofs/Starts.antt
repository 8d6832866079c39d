-- How tokens begin with others in place of `Self`: with the same token, or with a name where `Self` was.
use Rattle.std.proofs.Common.{◌≡◌, ℕ, Bool, true, false, not, ◌&&◌, [], ◌∷◌, ◌++◌, Option, Some, None, refl, sym, ap, ◌∙◌}
use Rattle.std.proofs.lemmas.Bool.{and_right, both_ways, false_from_ne_true}
use Rattle.educe_tokens.specs.TokenKind.{TokenKind}
use Rattle.educe_tokens.specs.TokenKind.TheVariants as kind
use Rattle.educe_tokens.specs.declared.token.Token.{Token}
use Rattle.educe_grammar.specs.declared.operator.Operator.{Operator}
use Rattle.educe_grammar.specs.declared.terminal.Keyword.TheVariants as keyword
use Rattle.educe_grammar.specs.declared.terminal.Terminal.TheVariants as terminal
use Rattle.educe_grammar.specs.Ahead.{is_sign, is_joint, sees, begins_pair, begins_lone}
use Rattle.educe_grammar.specs.Operators.{pair_operator, single_operator, longer_of, operator_at}
use Rattle.educe_grammar.specs.Steps.{Tokens}
use Rattle.educe_grammar.specs.Terminals.{set_of, accepts}
use Rattle.educe_grammar.proofs.Sets.{are_disjoint, disjoint_sound}
use Rattle.educe_syntax_self.specs.Selves.{is_self}
use Rattle.educe_syntax_self.proofs.Words.{self_ident}

-- ---- the first kinds

-- the kind of the first token; no token counts as an identifier
next_kind : Tokens → TokenKind
next_kind [] = kind.Ident
next_kind (t ∷ ts) = t.kind

-- an operator of two puncts is one by its first two kinds
pair_kinds : (c d : ℕ) (t : Token) (ts : Tokens) → begins_pair c d (t ∷ ts) ≡ (is_joint c t.kind && is_sign d (next_kind ts))
unfolding begins_pair next_kind
pair_kinds c d t [] = sym (and_right (is_joint c t.kind) false refl)
pair_kinds c d t (u ∷ ts) = refl

-- no operator has an identifier in it
no_second : (k : TokenKind) → pair_operator k kind.Ident ≡ None
no_second (kind.Punct c true) = refl
no_second (kind.Punct c false) = refl
no_second kind.Ident = refl
no_second kind.Lifetime = refl
no_second (kind.Literal l) = refl
no_second (kind.Start b) = refl
no_second (kind.Stop b) = refl
no_second kind.Doc = refl

operator_kinds : (t : Token) (ts : Tokens) → operator_at (t ∷ ts) ≡ longer_of (pair_operator t.kind (next_kind ts)) (single_operator t.kind)
unfolding operator_at next_kind
operator_kinds t [] = ap (λ o. longer_of o (single_operator t.kind)) (sym (no_second t.kind))
operator_kinds t (u ∷ ts) = refl

-- ---- beginnings

-- the token is a name, and not the word `for`
pub record IsNamed (t : Token) : Type 0 where
  pub named : t.kind ≡ kind.Ident
  pub other : accepts (terminal.Word keyword.For) t ≡ false

-- The two lists begin alike, or the second with a name where the first begins with `Self`.
pub data SameStart : Tokens → Tokens → Type 0 where
  none : SameStart [] []
  kept : (t : Token) (ts us : Tokens) → SameStart (t ∷ ts) (t ∷ us)
  changed : (t u : Token) (ts us : Tokens) → is_self t ≡ true → IsNamed u → SameStart (t ∷ ts) (u ∷ us)

-- a list begins as itself
pub same_start : (ts : Tokens) → SameStart ts ts
same_start [] = SameStart.none
same_start (t ∷ ts) = SameStart.kept t ts ts

-- lists that begin alike do so before lists that begin alike
pub start_both : {ts us vs ws : Tokens} → SameStart ts us → SameStart vs ws → SameStart (ts ++ vs) (us ++ ws)
start_both SameStart.none more = more
start_both {vs = vs} {ws = ws} (SameStart.kept t ts us) more = SameStart.kept t (ts ++ vs) (us ++ ws)
start_both {vs = vs} {ws = ws} (SameStart.changed t u ts us is named) more = SameStart.changed t u (ts ++ vs) (us ++ ws) is named

-- the first kind stays
start_kind : {ts us : Tokens} → SameStart ts us → next_kind us ≡ next_kind ts
unfolding next_kind
start_kind SameStart.none = refl
start_kind (SameStart.kept t ts us) = refl
start_kind (SameStart.changed t u ts us is named) = named.named ∙ sym (self_ident t is)

-- an operator of two puncts stays
pair_stays : (c d : ℕ) (t : Token) {ts us : Tokens} → SameStart ts us → begins_pair c d (t ∷ us) ≡ begins_pair c d (t ∷ ts)
pair_stays c d t {ts = ts} {us = us} same = pair_kinds c d t us ∙ ap (λ k. is_joint c t.kind && is_sign d k) (start_kind same) ∙ sym (pair_kinds c d t ts)

-- one punct stays
pub lone_stays : (c d : ℕ) (t : Token) {ts us : Tokens} → SameStart ts us → begins_lone c d (t ∷ us) ≡ begins_lone c d (t ∷ ts)
unfolding begins_lone
lone_stays c d t same = ap (λ b. is_sign c t.kind && not b) (pair_stays c d t same)

-- a binary operator stays
pub operator_stays : (t : Token) (op : Tokens) {ts us : Tokens} → SameStart ts us → operator_at (t ∷ op ++ us) ≡ operator_at (t ∷ op ++ ts)
unfolding operator_at
operator_stays t [] {ts = ts} {us = us} same = operator_kinds t us ∙ ap (λ k. longer_of (pair_operator t.kind k) (single_operator t.kind)) (start_kind same) ∙ sym (operator_kinds t ts)
operator_stays t (u ∷ op) same = refl

-- the word `for` is not `Self`
for_no_self : (t : Token) → is_self t ≡ true → accepts (terminal.Word keyword.For) t ≡ false
unfolding accepts are_disjoint
for_no_self t is = false_from_ne_true (accepts (terminal.Word keyword.For) t) (λ word.
    both_ways (is_self t) (disjoint_sound (set_of (terminal.Word keyword.For)) (set_of (terminal.Word keyword.SelfType)) t.kind t.spelling refl word) is)

-- tokens that did not begin with `for` don't
pub for_stays : {ts us : Tokens} → SameStart ts us → sees (accepts (terminal.Word keyword.For)) us ≡ sees (accepts (terminal.Word keyword.For)) ts
unfolding sees
for_stays SameStart.none = refl
for_stays (SameStart.kept t ts us) = refl
for_stays (SameStart.changed t u ts us is named) = named.other ∙ sym (for_no_self t is)
