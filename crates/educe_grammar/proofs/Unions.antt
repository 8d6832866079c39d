-- What begins as a union is no definition, and begins so at one place.
use Rattle.std.proofs.Common.{◌≡◌, ℕ, suc, true, false, ◌&&◌, List, [], ◌∷◌, ◌++◌, refl, ap, sym, subst, ◌∙◌, Ok, arith, append_assoc, append-nil}
use Rattle.std.proofs.lemmas.Bool.{both_ways, or_right}
use Rattle.educe_tokens.specs.declared.token.Token.{Token}
use Rattle.educe_tree.specs.declared.attr.Attribute.{Attribute}
use Rattle.educe_tree.specs.declared.derive.DeriveInput.{DeriveInput}
use Rattle.educe_tree.specs.Names.{is_keyword}
use Rattle.educe_grammar.specs.declared.terminal.Keyword.TheVariants as keyword
use Rattle.educe_grammar.specs.declared.terminal.Terminal.TheVariants as terminal
use Rattle.educe_grammar.specs.Terminals.{accepts}
use Rattle.educe_grammar.specs.Steps.{Tokens}
use Rattle.educe_grammar.specs.Ahead.{one, Look, sees, sees_any}
use Rattle.educe_grammar.specs.Attributes.{attributes}
use Rattle.educe_grammar.specs.Combining.{at_word}
use Rattle.educe_grammar.specs.Definitions.{visibility, enum_item, struct_item, definition, Item}
use Rattle.educe_grammar.specs.Parsed.{depth_limit, IsWhole}
use Rattle.educe_grammar.specs.Reading.{Parses}
use Rattle.educe_grammar.specs.Reads.{parts, Reads, readers, read}
use Rattle.educe_grammar.specs.Refusal.{IsUnionWord, IsUnion}
use Rattle.educe_grammar.specs.Rules.{Rule, both, either}
use Rattle.educe_grammar.proofs.Steps.{ok_pair}
use Rattle.educe_grammar.proofs.Apart.{all_apart_sound}
use Rattle.educe_grammar.proofs.Computed.{computed, more_computed}
use Rattle.educe_grammar.proofs.Sound.{reads_sound}
use Rattle.educe_grammar.proofs.Again.{Again, again_weaker}
use Rattle.educe_grammar.proofs.Deciding.{Seen}
use Rattle.educe_grammar.proofs.Known.{begins, again_then_before}
use Rattle.educe_grammar.proofs.Knot.{known}
use Rattle.educe_grammar.proofs.DefinitionsAgain.{visibility_going_on, again_visibility}

-- ---- what stands before an item

-- attributes and a visibility
abbrev pub head : Rule (List Attribute × Unit {0})
head = both attributes visibility

-- how an item begins, or a union
abbrev at_item : Look
at_item = (one terminal.Name ∷ []) ∷ (one (terminal.Word keyword.Enum) ∷ []) ∷ (one (terminal.Word keyword.Struct) ∷ []) ∷ []

-- how an item begins
abbrev at_defined : Look
at_defined = (one (terminal.Word keyword.Enum) ∷ []) ∷ (one (terminal.Word keyword.Struct) ∷ []) ∷ []

-- a struct or an enum
abbrev item : Rule Item
item = either (at_word keyword.Enum) enum_item struct_item

-- attributes and a visibility are read before either
again_head : (budget : ℕ) → Again readers parts budget head (Seen at_item)
unfolding computed more_computed
again_head budget =
    again_then_before (known budget) false at_item budget (omega arith) refl
    (again_weaker readers parts budget (again_visibility (known budget) budget (omega arith)) (λ front rest x p s. all_apart_sound at_item visibility_going_on rest refl s))

-- the rest is what stands behind them
head_read : (budget : ℕ) (tokens front rest : Tokens) (x : List Attribute × Unit {0}) → tokens ≡ front ++ rest → Reads budget head front x → sees_any at_item rest ≡ true
    → read budget head tokens ≡ Ok (x, rest)
head_read budget tokens front rest x is reads seen = ap (read budget head) is ∙ (again_head budget).reads front rest x reads seen

-- ---- unions

-- the word is no keyword
union_name : (word : Token) → IsUnionWord word → accepts terminal.Name word ≡ true
unfolding accepts is_keyword
union_name word is = rw (is.0, is.1) refl

-- it stands where an item may
union_seen : (word : Token) (rest : Tokens) → IsUnionWord word → sees_any at_item (word ∷ rest) ≡ true
unfolding sees_any sees
union_seen word rest is = rw (union_name word is) refl

-- it is neither `struct` nor `enum`
union_unseen : (word : Token) (rest : Tokens) → IsUnionWord word → sees_any at_defined (word ∷ rest) ≡ false
unfolding sees_any sees accepts
union_unseen word rest is = rw (is.0, is.1) refl

-- what stands before the word is read
pub union_read : (tokens : Tokens) (word : Token) (is : IsUnion tokens word) → read depth_limit head tokens ≡ Ok (is.read, word ∷ is.rest)
union_read tokens word is = head_read depth_limit tokens is.front (word ∷ is.rest) is.read is.is is.reads (union_seen word is.rest is.word_is)

-- where the word stands behind what was read, the tokens begin as a union
pub union_found : (tokens rest : Tokens) (word : Token) (x : List Attribute × Unit {0}) → read depth_limit head tokens ≡ Ok (x, word ∷ rest) → IsUnionWord word → IsUnion tokens word
union_found tokens rest word x h is =
    let t = reads_sound depth_limit head tokens (word ∷ rest) x h in
    record { front = t.front; rest = rest; read = x; is = t.whole; reads = t.is_in; word_is = is }

-- tokens begin as a union at one place
pub one_union : (tokens : Tokens) (word other : Token) → IsUnion tokens word → IsUnion tokens other → word ≡ other
one_union tokens word other is was =
    let same : word ∷ is.rest ≡ other ∷ was.rest = (ok_pair (sym (union_read tokens word is) ∙ union_read tokens other was)).1 in cc

-- ---- definitions

-- What stands before the item of a definition, and how that begins.
record Headed (budget : ℕ) (tokens : Tokens) : Type 0 where
  pub front : Tokens
  pub rest : Tokens
  pub value : List Attribute × Unit {0}
  pub is : tokens ≡ front ++ rest
  pub reads : Reads budget head front value
  pub begins : sees_any at_defined rest ≡ true

-- the parts of a definition
headed : (budget : ℕ) (tokens : Tokens) (found : DeriveInput) → Reads budget definition tokens found → Headed budget tokens
unfolding computed more_computed Parses
headed budget tokens found p =
    let q = p.2.0 in
    let r = q.4 in
    let seen = begins (known (suc budget)) item at_defined budget r.2.1 [] r.0.1 refl r.2.4 in
    record {
      front = q.0 ++ r.2.0;
      rest = r.2.1;
      value = (p.0.0.0, r.0.0);
      is = q.2 ∙ ap (λ ts. q.0 ++ ts) r.2.2 ∙ sym (append_assoc q.0 r.2.0 r.2.1);
      reads = (q.0, r.2.0, refl, q.3, r.2.3);
      begins = subst (λ ts. sees_any at_defined ts ≡ true) (append-nil r.2.1) seen;
    }

-- how an item begins, or a union
defined_seen : (rest : Tokens) → sees_any at_defined rest ≡ true → sees_any at_item rest ≡ true
unfolding sees_any
defined_seen rest h = or_right (sees (accepts terminal.Name) rest && true) _ h

-- what begins as a union is no definition
pub union_undefined : (tokens : Tokens) (word : Token) (found : DeriveInput) → IsUnion tokens word → IsWhole definition tokens found → ⊥
union_undefined tokens word found is whole =
    let h = headed depth_limit tokens found whole in
    let read = head_read depth_limit tokens h.front h.rest h.value h.is h.reads (defined_seen h.rest h.begins) in
    let rest : h.rest ≡ word ∷ is.rest = (ok_pair (sym read ∙ union_read tokens word is)).1 in
    both_ways (sees_any at_defined (word ∷ is.rest)) (union_unseen word is.rest is.word_is) (subst (λ ts. sees_any at_defined ts ≡ true) rest h.begins)
