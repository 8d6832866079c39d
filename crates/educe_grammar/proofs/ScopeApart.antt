-- No type is a scope in brackets, such as `(crate)`: a lone `crate`, `self` or `super` is no path.
use Rattle.std.proofs.Common.{◌≡◌, ℕ, zero, suc, ◌-◌, Bool, true, false, not, ◌&&◌, ◌||◌, List, [], ◌∷◌, ◌++◌, length, refl, ap, sym, subst, ◌∙◌, IsTrue, inl, inr, ⊎_elim, arith, codes, append_assoc, length-append}
use Rattle.std.specs.Str.{bytes_eq}
use Rattle.std.proofs.lemmas.Slice.Eq.{bytes_eq-Decides}
use Rattle.std.proofs.lemmas.Bool.{false≢true, false_from_ne_true, both_ways, and_from, or_cases}
use Rattle.educe_tokens.specs.TokenKind.{TokenKind}
use Rattle.educe_tokens.specs.TokenKind.TheVariants as kind
use Rattle.educe_tokens.specs.Bracket.TheVariants.{Round, Square}
use Rattle.educe_tokens.specs.declared.token.Token.{Token}
use Rattle.educe_tree.specs.declared.ident.Ident.{Ident}
use Rattle.educe_tree.specs.declared.ty.Ty.{Ty}
use Rattle.educe_tree.specs.declared.path.Path.{Path, out-roll-Path}
use Rattle.educe_grammar.specs.declared.ending.Ending.{Ending}
use Rattle.educe_grammar.specs.declared.terminal.Keyword.TheVariants as keyword
use Rattle.educe_grammar.specs.declared.terminal.Terminal.TheVariants as terminal
use Rattle.educe_grammar.specs.Terminals.{set_of, token_in, accepts}
use Rattle.educe_grammar.specs.Steps.{Tokens}
use Rattle.educe_grammar.specs.Ahead.{one, start, stop, finish, Look, sees, sees_any, behind, opens, closes}
use Rattle.educe_grammar.specs.Rules.{Rule, part, types, made, checked, either, under}
use Rattle.educe_grammar.specs.Reading.{Linked, Parses}
use Rattle.educe_grammar.specs.Combining.{at, at_word, at_sign, at_angle, skipping, flag, sign, colons, at_colons}
use Rattle.educe_grammar.specs.Names.{segment_name}
use Rattle.educe_grammar.specs.Types.{no_args, angle_read, angle_args, round_read, round_args, type_args, has_no_args, ArgsRead, SegmentRead, type_segment, type_segments, is_scope_word, is_scope_segment, are_scope, path_read, is_path_read, type_path, at_fn, path_form, FormRead, some_bounds, bounds, bounds_form, never_of, reference, pointer, square_form, qualified, fn_pointer, round_form, plain_form, any_bounds_form, any_type}
use Rattle.educe_grammar.specs.Definitions.{at_scope}
use Rattle.educe_grammar.specs.Reads.{parts_below, parts, readers_below}
use Rattle.educe_grammar.proofs.Apart.{all_apart, all_apart_sound}
use Rattle.educe_grammar.proofs.Looks.{anything}
use Rattle.educe_grammar.proofs.PartFronts.{parts_seen}
use Rattle.educe_grammar.proofs.Computed.{computed}
use Rattle.educe_grammar.proofs.Deciding.{finish_seen, one_seen, stop_seen, seen_one}
use Rattle.educe_grammar.proofs.DefinitionsAgain.{NoScope}
use Rattle.educe_grammar.proofs.Known.{firsts, Known, begins_not, begins_apart, not_empty}

-- what is known of how the parts begin
abbrev begun : (n : ℕ) → Known (readers_below n) (parts_below n) 0
begun n = record { reads = λ budget room. absurd (omega arith); begins = parts_seen 2 n }

-- ---- words

-- a scope is one of the words
scope_is_word : (k : TokenKind) (text : List ℕ) → token_in (set_of terminal.Scope) k text ≡ true → is_scope_word text ≡ true
scope_is_word kind.Ident text h = ⊎_elim (is (codes "crate") refl) (λ more. ⊎_elim (is (codes "self") refl) (λ last. ⊎_elim (is (codes "super") refl) (λ none. absurd (false≢true none))
    (or_cases _ false last)) (or_cases _ _ more)) (or_cases _ _ h)
  where
    is : (word : List ℕ) → is_scope_word word ≡ true → bytes_eq word text ≡ true → is_scope_word text ≡ true
    is word scoped same = subst (λ u. is_scope_word u ≡ true) ((bytes_eq-Decides word text).0 same) scoped
scope_is_word k text h = absurd (cc)

-- one token in two parts, of which the first has one
one_token : (t : Token) (a b : Tokens) (u : Token) → t ∷ [] ≡ a ++ b → a ≡ u ∷ [] → (t ≡ u) × (b ≡ [])
one_token t a b u whole first = let e : t ∷ [] ≡ u ∷ b = whole ∙ ap (λ ts. ts ++ b) first in (cc, cc)

module _ (n budget : ℕ) where
  -- behind a word alone stand no arguments
  no_arguments : (a : _) → Parses (parts_below n) budget type_args [] a → a ≡ no_args
  unfolding type_args Parses computed
  no_arguments a (inl h) = absurd (not_empty (begun n) (made angle_read (skipping (flag at_colons colons) angle_args)) budget refl a h)
  no_arguments a (inr (inl h)) = absurd (not_empty (begun n) (made round_read round_args) budget refl a h)
  no_arguments a (inr (inr h)) = h.1

  -- one word is a segment of that name, with no arguments
  lone_segment : (t : Token) (s : SegmentRead) → Parses (parts_below n) budget type_segment (t ∷ []) s → IsTrue (accepts terminal.Scope t) → is_scope_segment s.0 ≡ true
  unfolding type_segment segment_name Parses accepts
  lone_segment t s h scope =
      let named = h.2.3 in
      let first = one_token t h.2.0 h.2.1 named.0.token h.2.2 named.2 in
      let none = no_arguments h.0.1 (subst (λ ts. Parses (parts_below n) budget type_args ts h.0.1) first.1 h.2.4) in
      let worded : is_scope_word named.0.token.spelling ≡ true = ap (λ (u : Token). is_scope_word u.spelling) (sym first.0) ∙ scope_is_word t.kind t.spelling scope in
      let text : is_scope_word h.0.0.text ≡ true = ap (λ (i : Ident). is_scope_word i.text) named.1 ∙ worded in
      let bare : has_no_args h.0.1.0 ≡ true = ap (λ (a : ArgsRead). has_no_args a.0) none in
      ap (λ (r : SegmentRead). is_scope_segment r.0) h.1 ∙ and_from (is_scope_word h.0.0.text) (has_no_args h.0.1.0) text bare

  -- a scope alone is no path
  lone_path : (t : Token) (y : Path × Ending) → Parses (parts_below n) budget type_path (t ∷ []) y → IsTrue (accepts terminal.Scope t) → ⊥
  unfolding type_path type_segments Parses
  lone_path t y h scope = no_path h.1.0.0 h.1.0.1 h.1.2.0 h.1.2.1 h.1.2.2 h.1.2.3 h.1.2.4.1 (subst (λ (q : Path × Ending). is_path_read q ≡ true) h.1.1 h.0)
    where
      segments : (xs : List SegmentRead) (b : Tokens) → t ∷ [] ≡ b → Linked (Parses (parts_below n) budget type_segment) b xs → is_path_read (path_read (false, xs)) ≡ true → ⊥
      segments xs b whole (Linked.last {x = s} ts r) ok =
          let lone = lone_segment t s (subst (λ us. Parses (parts_below n) budget type_segment us s) (sym whole) r) scope in
          let opened : is_path_read (path_read (false, s ∷ [])) ≡ not (is_scope_segment s.0) = ap (λ r. not (are_scope r.leading r.segments)) (out-roll-Path _) in
          both_ways (is_path_read (path_read (false, s ∷ []))) (opened ∙ ap not lone) ok
      segments xs b whole (Linked.more front back u v r joint others) ok = absurd (omega (arith, ap length whole, length-append front (u ∷ v ∷ back)))

      no_path : (leading : Bool) (xs : List SegmentRead) (a b : Tokens) → t ∷ [] ≡ a ++ b → Parses (parts_below n) budget (flag at_colons colons) a leading
          → Linked (Parses (parts_below n) budget type_segment) b xs → is_path_read (path_read (leading, xs)) ≡ true → ⊥
      no_path leading xs a b whole (inl p) links ok = absurd (omega (arith, ap length whole, length-append a b, p.2.0))
      no_path leading xs a b whole (inr p) links ok =
          segments xs b (whole ∙ ap (λ us. us ++ b) p.0) links (subst (λ l. is_path_read (path_read (l, xs)) ≡ true) p.1 ok)

  -- no other form of a type begins with a scope word
  lone_other : (t : Token) (f : FormRead) (g : Rule FormRead) → IsTrue (accepts terminal.Scope t) → all_apart (firsts g anything) (at (one terminal.Scope)) ≡ true
      → Parses (parts_below n) budget g (t ∷ []) f → ⊥
  lone_other t f g scope apart p =
      both_ways (sees_any (at (one terminal.Scope)) (t ∷ [])) (begins_not (begun n) g (at (one terminal.Scope)) budget (t ∷ []) [] f apart p) (one_seen terminal.Scope t [] scope)

  -- a scope word alone is no type
  lone_form : (t : Token) (f : FormRead) → Parses (parts_below n) budget any_bounds_form (t ∷ []) f → IsTrue (accepts terminal.Scope t) → ⊥
  unfolding any_bounds_form plain_form Parses computed
  lone_form t f (inl p) scope = lone_other t f (made bounds_form (under (terminal.Word keyword.Dyn) (checked some_bounds bounds))) scope refl p
  lone_form t f (inr (inl p)) scope = lone_other t f round_form scope refl p
  lone_form t f (inr (inr (inl p))) scope = lone_other t f (made never_of (sign 33)) scope refl p
  lone_form t f (inr (inr (inr (inl p)))) scope = lone_other t f reference scope refl p
  lone_form t f (inr (inr (inr (inr (inl p))))) scope = lone_other t f pointer scope refl p
  lone_form t f (inr (inr (inr (inr (inr (inl p)))))) scope = lone_other t f square_form scope refl p
  lone_form t f (inr (inr (inr (inr (inr (inr (inl p))))))) scope = lone_other t f qualified scope refl p
  lone_form t f (inr (inr (inr (inr (inr (inr (inr (inl p)))))))) scope = lone_other t f fn_pointer scope refl p
  lone_form t f (inr (inr (inr (inr (inr (inr (inr (inr p)))))))) scope = lone_path t p.0 p.2 scope

-- what a type in brackets would begin with, if it were a scope
abbrev scope_inside : Look
scope_inside = (one terminal.Scope ∷ stop Round ∷ []) ∷ (one (terminal.Word keyword.In) ∷ []) ∷ []

-- a scope alone is no type
lone_type : (n budget : ℕ) (t : Token) (x : Ty) → parts_below n budget types (t ∷ []) x → IsTrue (accepts terminal.Scope t) → ⊥
unfolding parts_below any_type Parses
lone_type zero budget t x h scope = absurd h
lone_type (suc n) budget t x h scope = lone_form n budget t h.0.0 h.2.0 scope

-- two tokens are all that is looked at
two_seen : (t u : Token) (ts us : Tokens) → sees_any scope_inside (t ∷ u ∷ ts) ≡ false → sees_any scope_inside (t ∷ u ∷ us) ≡ false
unfolding sees_any sees behind
two_seen t u ts us h = h

-- one token that is neither
neither_seen : (t : Token) (rest : Tokens) → accepts terminal.Scope t ≡ false → accepts (terminal.Word keyword.In) t ≡ false → sees_any scope_inside (t ∷ rest) ≡ false
unfolding sees_any sees
neither_seen t rest scope word = rw (scope, word) refl

-- the only token of a type is no scope word
only_type : (n budget : ℕ) (t : Token) (x : Ty) → Parses (parts_below n) budget (part types) (t ∷ []) x → accepts terminal.Scope t ≡ false
unfolding Parses
only_type n budget t x p = false_from_ne_true (accepts terminal.Scope t) (λ is. lone_type n budget t x p is)

-- no `in` comes
no_in : (t : Token) (rest : Tokens) → sees_any (at_word keyword.In) (t ∷ rest) ≡ false → accepts (terminal.Word keyword.In) t ≡ false
unfolding sees_any sees
no_in t rest h = sym (seen_one (accepts (terminal.Word keyword.In) t)) ∙ h

-- what begins with a type doesn't begin so
type_inside : (n budget : ℕ) (front rest : Tokens) (x : Ty) → Parses (parts_below n) budget (part types) front x → sees_any scope_inside (front ++ rest) ≡ false
unfolding computed
type_inside n budget [] rest x p = absurd (not_empty (begun n) (part types) budget refl x p)
type_inside n budget (t ∷ []) rest x p =
    neither_seen t rest (only_type n budget t x p) (no_in t rest (begins_not (begun n) (part types) (at_word keyword.In) budget (t ∷ []) rest x refl p))
type_inside n budget (t ∷ u ∷ ts) rest x p =
    two_seen t u (ts ++ []) (ts ++ rest) (begins_apart (begun n) (part types) (at finish) scope_inside budget (t ∷ u ∷ ts) [] x refl p finish_seen)

-- behind an opening bracket stands what a scope begins with
behind_opening : (t : Token) (ts : Tokens) → sees_any scope_inside ts ≡ false → sees_any at_scope (t ∷ ts) ≡ false
unfolding sees_any behind
behind_opening t ts h = go (sees (opens Round) (t ∷ ts)) _ _ h
  where
    go : (b x y : Bool) → (x || (y || false)) ≡ false → ((b && x) || ((b && y) || false)) ≡ false
    go true x y h = h
    go false x y h = refl

-- a closing bracket is no scope
closing_inside : (t : Token) (rest : Tokens) → IsTrue (closes Round t) → sees_any scope_inside (t ∷ rest) ≡ false
unfolding computed
closing_inside t rest h = all_apart_sound (at (stop Round)) scope_inside (t ∷ rest) refl (stop_seen Round t rest h)

module _ (n budget : ℕ) where
  -- a type in brackets is no scope in brackets
  round_apart : (front rest : Tokens) (f : FormRead) → Parses (parts_below n) budget round_form front f → sees_any at_scope (front ++ rest) ≡ false
  unfolding round_form Parses
  round_apart front rest f p =
      let tail : Tokens = p.inside ++ p.last ∷ rest in
      let regrouped : front ++ rest ≡ p.first ∷ tail = ap (λ ts. ts ++ rest) p.is ∙ ap (λ ts. p.first ∷ ts) (append_assoc p.inside (p.last ∷ []) rest) in
      ap (sees_any at_scope) regrouped ∙ behind_opening p.first tail (elim p.reads [
        | inl q ↦ ap (λ ts. sees_any scope_inside (ts ++ p.last ∷ rest)) q.0 ∙ closing_inside p.last rest p.closes
        | inr q ↦ ap (λ ts. sees_any scope_inside (ts ++ p.last ∷ rest)) q.2.2 ∙ ap (sees_any scope_inside) (append_assoc q.2.0 q.2.1 (p.last ∷ rest))
            ∙ type_inside n (budget - 1) q.2.0 (q.2.1 ++ p.last ∷ rest) q.0.0 q.2.3
      ])

  -- no form of a type begins as a scope in brackets
  form_apart : (front rest : Tokens) (f : FormRead) → Parses (parts_below n) budget any_bounds_form front f → sees_any at_scope (front ++ rest) ≡ false
  unfolding any_bounds_form plain_form Parses computed
  form_apart front rest f (inl p) = begins_not (begun n) (made bounds_form (under (terminal.Word keyword.Dyn) (checked some_bounds bounds))) at_scope budget front rest f refl p
  form_apart front rest f (inr (inl p)) = round_apart front rest f p
  form_apart front rest f (inr (inr p)) =
      begins_not (begun n) (either (at_sign 33) (made never_of (sign 33)) (either (at_sign 38) reference (either (at_sign 42) pointer (either (at (start Square)) square_form
      (either at_angle qualified (either at_fn fn_pointer (made path_form type_path))))))) at_scope budget front rest f refl p

-- no type begins as a scope in brackets
pub no_scope : NoScope parts
unfolding any_type Parses parts_below
no_scope budget front rest x p = form_apart budget budget front rest p.0.0 p.2.0
