-- An identifier by itself is read as the path of that word alone, without arguments, whether it is a name or not.
use Rattle.std.proofs.Common.{◌≡◌, ℕ, ◌-◌, Bool, true, false, ◌&&◌, ◌||◌, List, [], ◌∷◌, ◌++◌, length, refl, ap, sym, subst, ◌∙◌, inl, inr, IsTrue, arith, length-append}
use Rattle.std.specs.List.{list_any}
use Rattle.std.specs.Str.{bytes_eq}
use Rattle.std.proofs.lemmas.Bool.{false≢true, both_ways}
use Rattle.educe_tokens.specs.TokenKind.{TokenKind}
use Rattle.educe_tokens.specs.TokenKind.TheVariants as kind
use Rattle.educe_tokens.specs.declared.token.Token.{Token}
use Rattle.educe_tokens.specs.declared.written.Written.{Written}
use Rattle.educe_tree.specs.Names.{is_name}
use Rattle.educe_tree.specs.declared.ident.Ident.{Ident}
use Rattle.educe_tree.specs.declared.ty.Ty.{Ty}
use Rattle.educe_tree.specs.declared.path.Path.{Path}
use Rattle.educe_grammar.specs.declared.ending.Ending.{Ending}
use Rattle.educe_grammar.specs.declared.terminal.Terminal.TheVariants as terminal
use Rattle.educe_grammar.specs.declared.terminal.Keyword.{Keyword}
use Rattle.educe_grammar.specs.declared.terminal.Keyword.TheVariants.{SelfValue, SelfType, Super, Crate}
use Rattle.educe_grammar.specs.Terminals.{accepts, text_of, segment_words, set_of, token_in, word_in}
use Rattle.educe_grammar.specs.Steps.{Tokens, Found}
use Rattle.educe_grammar.specs.Ahead.{one, finish, Look, sees, sees_any, behind, at_end}
use Rattle.educe_grammar.specs.Rules.{Rule, made}
use Rattle.educe_grammar.specs.Reading.{Parses, Linked, Listed}
use Rattle.educe_grammar.specs.Reads.{parts, Reads}
use Rattle.educe_grammar.specs.Combining.{at_colons, colons, flag, sign, skipping}
use Rattle.educe_grammar.specs.Names.{segment_name, segment_name_of}
use Rattle.educe_grammar.specs.Types.{ArgsRead, no_args, angle_read, angle_args, round_read, round_args, type_args, SegmentRead, segment_read, type_segment, type_segments, path_read, type_path, BoundRead, bound, some_bounds, FormRead, path_form, round_form, never_of, reference, pointer, square_form, qualified, fn_pointer, plain_form, any_bounds_form, untyped_of, any_type}
use Rattle.educe_grammar.specs.Alike.{kind_aside}
use Rattle.educe_grammar.proofs.Apart.{all_apart}
use Rattle.educe_grammar.proofs.Computed.{computed}
use Rattle.educe_grammar.proofs.Knot.{known}
use Rattle.educe_grammar.proofs.Known.{firsts, begins_not, not_empty}
use Rattle.educe_grammar.proofs.Looks.{anything}

-- a kind that is an identifier's, jointness aside, is an identifier's
pub ident_aside : (k : TokenKind) → kind_aside k ≡ kind.Ident → k ≡ kind.Ident
ident_aside kind.Ident h = refl
ident_aside (kind.Punct c joint) h = cc
ident_aside kind.Lifetime h = cc
ident_aside (kind.Literal l) h = cc
ident_aside (kind.Start b) h = cc
ident_aside (kind.Stop b) h = cc
ident_aside kind.Doc h = cc

-- a name may be a segment
name_in : (text : List ℕ) → is_name kind.Ident text ≡ true → word_in segment_words text ≡ true
name_in text h = ap (λ b. b || list_any (λ (word : Keyword). bytes_eq (text_of word) text) (SelfValue ∷ SelfType ∷ Super ∷ Crate ∷ [])) h

-- the token of a name may be a segment
pub name_accepted : (t : Token) → t.kind ≡ kind.Ident → is_name kind.Ident t.spelling ≡ true → IsTrue (accepts terminal.PathSegment t)
unfolding accepts
name_accepted t ident name = ap (λ k. token_in (set_of terminal.PathSegment) k t.spelling) ident ∙ name_in t.spelling name

-- ---- the type of one segment

-- the segment without arguments
abbrev name_segment : Found (accepts terminal.PathSegment) → SegmentRead
name_segment found = segment_read (segment_name_of found, no_args)

abbrev name_segments : Found (accepts terminal.PathSegment) → List SegmentRead
name_segments found = name_segment found ∷ []

-- the path of it alone, as it is read
abbrev name_read : Found (accepts terminal.PathSegment) → Path × Ending
name_read found = path_read (false, name_segments found)

abbrev pub name_path : Found (accepts terminal.PathSegment) → Path
name_path found = (name_read found).0

-- the form that it is
abbrev name_form : Found (accepts terminal.PathSegment) → FormRead
name_form found = path_form (name_read found)

-- the type that it is
abbrev pub name_type : Found (accepts terminal.PathSegment) → Written → Ty
name_type found w = untyped_of (name_form found, w)

-- ---- what one token is read as

-- what the function makes of the token
abbrev IsOf : {A : Type 0} → (Found (accepts terminal.PathSegment) → A) → Token → A → Type 0
IsOf build t x = (found : Found (accepts terminal.PathSegment)) × (found.token ≡ t) × (x ≡ build found)

-- one token in two parts, of which the first has one
first_alone : (t : Token) (a b : Tokens) (u : Token) → t ∷ [] ≡ a ++ b → a ≡ u ∷ [] → (t ≡ u) × (b ≡ [])
first_alone t a b u whole first = let e : t ∷ [] ≡ u ∷ b = whole ∙ ap (λ ts. ts ++ b) first in (cc, cc)

-- a word, and nothing behind it
abbrev one_word : Look
one_word = (one terminal.AnyWord ∷ finish ∷ []) ∷ []

-- an identifier alone is one
word_seen : (t : Token) → t.kind ≡ kind.Ident → sees_any one_word (t ∷ []) ≡ true
unfolding sees_any sees behind at_end accepts
word_seen t ident = ap (λ k. (token_in (set_of terminal.AnyWord) k t.spelling && true) || false) ident

module _ (budget : ℕ) where
  -- no tokens are no arguments
  no_arguments : (a : ArgsRead) → Parses parts budget type_args [] a → a ≡ no_args
  unfolding type_args Parses computed
  no_arguments a (inl h) = absurd (not_empty (known budget) (made angle_read (skipping (flag at_colons colons) angle_args)) budget refl a h)
  no_arguments a (inr (inl h)) = absurd (not_empty (known budget) (made round_read round_args) budget refl a h)
  no_arguments a (inr (inr h)) = h.1

  -- no tokens are no bounds
  no_bounds : (ts : Tokens) (xs : List BoundRead) → ts ≡ [] → Listed (Parses parts budget bound) (accepts (terminal.Sign 43)) ts xs → some_bounds xs ≡ true → ⊥
  unfolding computed
  no_bounds ts xs empty Listed.none some = false≢true some
  no_bounds ts xs empty (Listed.last {x = x} us is) some = not_empty (known budget) bound budget refl x (subst (λ (vs : Tokens). Parses parts budget bound vs x) empty is)
  no_bounds ts xs empty (Listed.more front rest separator is between others) some = absurd (omega (arith, ap length empty, length-append front (separator ∷ rest)))

module _ (budget : ℕ) (t : Token) where
  -- one token that is a segment has no arguments
  lone_segment : (s : SegmentRead) → Parses parts budget type_segment (t ∷ []) s → IsOf name_segment t s
  unfolding type_segment segment_name Parses
  lone_segment s h =
      let named = h.2.3 in
      let first = first_alone t h.2.0 h.2.1 named.0.token h.2.2 named.2 in
      let none = no_arguments budget h.0.1 (subst (λ (ts : Tokens). Parses parts budget type_args ts h.0.1) first.1 h.2.4) in
      (named.0, sym first.0, h.1 ∙ ap (λ (i : Ident). segment_read (i, h.0.1)) named.1 ∙ ap (λ (a : ArgsRead). segment_read (segment_name_of named.0, a)) none)

  -- one token that is a path is one segment
  lone_path : (y : Path × Ending) → Parses parts budget type_path (t ∷ []) y → IsOf name_read t y
  unfolding type_path type_segments Parses
  lone_path y h =
      let only = alone h.1.0.0 h.1.0.1 h.1.2.0 h.1.2.1 h.1.2.2 h.1.2.3 h.1.2.4.1 in
      (only.0, only.1, h.1.1 ∙ ap (λ (l : Bool). path_read (l, h.1.0.1)) only.2 ∙ ap (λ (xs : List SegmentRead). path_read (false, xs)) only.3)
    where
      segments : (xs : List SegmentRead) (b : Tokens) → t ∷ [] ≡ b → Linked (Parses parts budget type_segment) b xs → IsOf name_segments t xs
      segments xs b whole (Linked.last {x = s} ts r) =
          let only = lone_segment s (subst (λ (us : Tokens). Parses parts budget type_segment us s) (sym whole) r) in
          (only.0, only.1, ap (λ (z : SegmentRead). z ∷ []) only.2)
      segments xs b whole (Linked.more front back u v r joint others) = absurd (omega (arith, ap length whole, length-append front (u ∷ v ∷ back)))

      alone : (leading : Bool) (xs : List SegmentRead) (a b : Tokens) → t ∷ [] ≡ a ++ b → Parses parts budget (flag at_colons colons) a leading
          → Linked (Parses parts budget type_segment) b xs → (found : Found (accepts terminal.PathSegment)) × (found.token ≡ t) × (leading ≡ false) × (xs ≡ name_segments found)
      alone leading xs a b whole (inl p) links = absurd (omega (arith, ap length whole, length-append a b, p.2.0))
      alone leading xs a b whole (inr p) links =
          let only = segments xs b (whole ∙ ap (λ us. us ++ b) p.0) links in (only.0, only.1, p.1, only.2)

  module _ (ident : t.kind ≡ kind.Ident) where
    -- no other form begins with a word and ends there
    no_form : (f : FormRead) (g : Rule FormRead) → all_apart (firsts g anything) one_word ≡ true → Parses parts budget g (t ∷ []) f → ⊥
    no_form f g apart p = both_ways (sees_any one_word (t ∷ [])) (begins_not (known budget) g one_word budget (t ∷ []) [] f apart p) (word_seen t ident)

    lone_form : (f : FormRead) → Parses parts budget any_bounds_form (t ∷ []) f → IsOf name_form t f
    unfolding any_bounds_form plain_form Parses computed
    lone_form f (inl p) = absurd (no_bounds (budget - 1) p.2.inside p.0 (first_alone t (p.2.first ∷ []) p.2.inside p.2.first p.2.is refl).1 p.2.reads.1 p.2.reads.0)
    lone_form f (inr (inl p)) = absurd (no_form f round_form refl p)
    lone_form f (inr (inr (inl p))) = absurd (no_form f (made never_of (sign 33)) refl p)
    lone_form f (inr (inr (inr (inl p)))) = absurd (no_form f reference refl p)
    lone_form f (inr (inr (inr (inr (inl p))))) = absurd (no_form f pointer refl p)
    lone_form f (inr (inr (inr (inr (inr (inl p)))))) = absurd (no_form f square_form refl p)
    lone_form f (inr (inr (inr (inr (inr (inr (inl p))))))) = absurd (no_form f qualified refl p)
    lone_form f (inr (inr (inr (inr (inr (inr (inr (inl p)))))))) = absurd (no_form f fn_pointer refl p)
    lone_form f (inr (inr (inr (inr (inr (inr (inr (inr p)))))))) = let only = lone_path p.0 p.2 in (only.0, only.1, p.1 ∙ ap path_form only.2)

    -- An identifier alone that is a type is the path of one segment.
    pub lone_type : (x : Ty) → Reads budget any_type (t ∷ []) x → (found : Found (accepts terminal.PathSegment)) × (found.token ≡ t) × (w : Written) × (x ≡ name_type found w)
    unfolding any_type Parses
    lone_type x h = let only = lone_form h.0.0 h.2.0 in (only.0, only.1, h.0.1, h.1 ∙ ap (λ (f : FormRead). untyped_of (f, h.0.1)) only.2)
