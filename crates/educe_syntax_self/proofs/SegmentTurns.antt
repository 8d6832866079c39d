-- Segments and paths with the head in place of a first `Self`: what becomes of their values.
use Rattle.std.proofs.Common.{◌≡◌, ◌≢◌, ℕ, suc, Bool, true, false, not, ◌&&◌, ◌||◌, IsTrue, List, [], ◌∷◌, ◌++◌, map, Option, None, Some, codes, refl, sym, ap, subst, ◌∙◌, ◌⊎◌, inl, inr, ⊎_elim}
use Rattle.std.specs.Prelude.{if◌then◌else◌}
use Rattle.std.specs.Str.{bytes_eq}
use Rattle.std.proofs.lemmas.Bool.{and_parts, and_from, or_cases, false≢true}
use Rattle.std.proofs.lemmas.Slice.Eq.{bytes_eq-Decides}
use Rattle.educe_tokens.specs.declared.token.Token.{Token}
use Rattle.educe_tree.specs.declared.ident.Ident.{Ident}
use Rattle.educe_tree.specs.declared.ty.Ty.{Ty}
use Rattle.educe_tree.specs.declared.path.Path.{Path, out-roll-Path}
use Rattle.educe_tree.specs.declared.path.Segment.{out-roll-Segment}
use Rattle.educe_grammar.specs.declared.ending.Ending.{Ending}
use Rattle.educe_grammar.specs.declared.ending.Ending.TheVariants.{Closed, Arguments, Name}
use Rattle.educe_grammar.specs.declared.terminal.Keyword.TheVariants as keyword
use Rattle.educe_grammar.specs.declared.terminal.Terminal.TheVariants as terminal
use Rattle.educe_grammar.specs.Names.{segment_name, segment_name_of, accepted, word_kind}
use Rattle.educe_grammar.specs.Reading.{Parses}
use Rattle.educe_grammar.specs.Reads.{parts}
use Rattle.educe_grammar.specs.Rules.{Rule, both, Typed}
use Rattle.educe_grammar.specs.Steps.{Tokens, Found}
use Rattle.educe_grammar.specs.Terminals.{segment_words, set_of, token_in, accepts}
use Rattle.educe_grammar.specs.Types.{has_no_args, is_scope_word, is_scope_segment, are_scope, are_self, is_path, may_follow, last_ending, no_args, ArgsRead, returned, round_read, SegmentRead, segment_of, segment_read, path_ending, path_read}
use Rattle.educe_syntax_self.specs.Selves.{is_self, begins_self}
use Rattle.educe_syntax_self.proofs.HeadReads.{is_self_segment}
use Rattle.educe_syntax_self.proofs.PathTurns.{Headed, Started}
use Rattle.educe_syntax_self.proofs.Turns.{Pairwise, Optionally}

-- ---- endings

-- A name may become arguments, and any ending stays.
pub data Freer : Ending → Ending → Type 0 where
  same : (e : Ending) → Freer e e
  freer : Freer Name Arguments

-- the endings are so
abbrev pub Ended : {A : Type 0} → A × Ending → A × Ending → Type 0
Ended x y = Freer x.1 y.1

-- both are closed
pub both_closed : (e f : Ending) → e ≡ Closed → f ≡ Closed → Freer e f
both_closed e f first second = subst (λ g. Freer g f) (sym first) (subst (Freer Closed) (sym second) (Freer.same Closed))

-- ---- arguments of segments

pub record ArgsTurned (x y : ArgsRead) : Type 0 where
  pub ending : Freer x.1 y.1
  pub follows : x.2 ≡ true → y.2 ≡ true
  pub none : has_no_args y.0 ≡ true → has_no_args x.0 ≡ true

-- the arguments stay as they end
pub same_args : (x : ArgsRead) → ArgsTurned x x
same_args x = record { ending = Freer.same x.1; follows = λ h. h; none = λ h. h }

pub returned_turned : (xs ys : List Ty) (t u : Ty) (e f : Ending) → Freer e f → ArgsTurned (returned xs t e) (returned ys u f)
returned_turned xs ys t u e f (Freer.same Closed) = record { ending = Freer.same Arguments; follows = λ h. h; none = λ h. h }
returned_turned xs ys t u e f (Freer.same Arguments) = record { ending = Freer.same Arguments; follows = λ h. h; none = λ h. h }
returned_turned xs ys t u e f (Freer.same Name) = record { ending = Freer.same Name; follows = λ h. h; none = λ h. h }
returned_turned xs ys t u e f Freer.freer = record { ending = Freer.freer; follows = λ h. h; none = λ h. h }

pub round_turned : (xs ys : List Ty) (o p : Option Typed) → Optionally Ended o p → ArgsTurned (round_read (xs, o)) (round_read (ys, p))
round_turned xs ys o p Optionally.none = record { ending = Freer.same Arguments; follows = λ h. h; none = λ h. h }
round_turned xs ys o p (Optionally.some {x = x} {y = y} h) = returned_turned xs ys x.0 y.0 x.1 y.1 h

-- ---- segments

-- a segment that keeps its name
pub record SegmentTurned (x y : SegmentRead) : Type 0 where
  pub ending : Freer x.1 y.1
  pub follows : x.2 ≡ true → y.2 ≡ true
  pub scope : is_scope_segment y.0 ≡ true → is_scope_segment x.0 ≡ true
  pub self : is_self_segment y.0 ≡ is_self_segment x.0

-- the head in place of a segment that is `Self`
pub record SelfTurned (x y : SegmentRead) : Type 0 where
  pub was : is_self_segment x.0 ≡ true
  pub self : is_self_segment y.0 ≡ false
  pub ending : Freer Name y.1
  pub follows : y.2 ≡ true
  pub scope : is_scope_segment y.0 ≡ false

-- of two that hold, the first holds where the second follows from it
first_of : (a b c : Bool) → (b ≡ true → c ≡ true) → (a && b) ≡ true → (a && c) ≡ true
first_of true b c goes h = goes h
first_of false b c goes h = h

-- other arguments
pub segment_turned : (i : Ident) (x y : ArgsRead) → ArgsTurned x y → SegmentTurned (segment_read (i, x)) (segment_read (i, y))
segment_turned i x y h =
    let first = out-roll-Segment (record { ident = i; args = x.0 }) in
    let second = out-roll-Segment (record { ident = i; args = y.0 }) in
    record {
      ending = h.ending;
      follows = h.follows;
      scope = λ is.
          ap (λ r. is_scope_word r.ident.text && has_no_args r.args) first
          ∙ first_of (is_scope_word i.text) (has_no_args y.0) (has_no_args x.0) h.none (sym (ap (λ r. is_scope_word r.ident.text && has_no_args r.args) second) ∙ is);
      self = ap (λ r. bytes_eq r.ident.text (codes "Self")) second ∙ sym (ap (λ r. bytes_eq r.ident.text (codes "Self")) first);
    }

-- the last endings
pub last_turned : {xs ys : List SegmentRead} → Pairwise SegmentTurned xs ys → Freer (last_ending xs) (last_ending ys)
unfolding last_ending
last_turned Pairwise.none = Freer.same Closed
last_turned (Pairwise.one h Pairwise.none) = h.ending
last_turned (Pairwise.one h (Pairwise.one k more)) = last_turned (Pairwise.one k more)

-- another may stand behind each but the last
pub follow_turned : {xs ys : List SegmentRead} → Pairwise SegmentTurned xs ys → IsTrue (may_follow xs) → IsTrue (may_follow ys)
unfolding may_follow
follow_turned Pairwise.none is = is
follow_turned (Pairwise.one h Pairwise.none) is = is
follow_turned (Pairwise.one {x = x} {y = y} h (Pairwise.one {x = u} {y = v} {xs = us} {ys = vs} k more)) is =
    let both = and_parts x.2 (may_follow (u ∷ us)) is in
    and_from y.2 (may_follow (v ∷ vs)) (h.follows both.0) (follow_turned (Pairwise.one k more) both.1)

pub started_follow : (xs ys : List SegmentRead) → Started SelfTurned SegmentTurned xs ys → IsTrue (may_follow xs) → IsTrue (may_follow ys)
unfolding may_follow
started_follow xs ys (inr h) is = follow_turned h is
started_follow xs ys (inl (Headed.leads h Pairwise.none)) is = refl
started_follow xs ys (inl (Headed.leads {x = x} {y = y} h (Pairwise.one {x = u} {y = v} {xs = us} {ys = vs} k more))) is =
    let both = and_parts x.2 (may_follow (u ∷ us)) is in and_from y.2 (may_follow (v ∷ vs)) h.follows (follow_turned (Pairwise.one k more) both.1)

-- ---- paths

pub record PathTurned (p q : Path × Ending) : Type 0 where
  pub ending : Freer p.1 q.1
  pub path : is_path p.0 ≡ true → is_path q.0 ≡ true

-- the segments behind `::` stay, and others may begin with the head
abbrev pub SegmentsTurned : Bool → List SegmentRead → List SegmentRead → Type 0
SegmentsTurned true xs ys = Pairwise SegmentTurned xs ys
SegmentsTurned false xs ys = Started SelfTurned SegmentTurned xs ys

-- a lone `Self` ends as a name
self_ends : (x y : Ending) (b c : Bool) → c ≡ b → Freer x y → Freer (if b then Name else x) (if c then Name else y)
self_ends x y b c e h = subst (λ d. Freer (if b then Name else x) (if d then Name else y)) (sym e) (ends b)
  where
    ends : (b : Bool) → Freer (if b then Name else x) (if b then Name else y)
    ends true = Freer.same Name
    ends false = h

head_ends : (x y : Ending) (b c : Bool) → b ≡ true → c ≡ false → Freer Name y → Freer (if b then Name else x) (if c then Name else y)
head_ends x y b c was now h = subst (λ d. Freer (if d then Name else x) (if c then Name else y)) (sym was) (subst (λ d. Freer Name (if d then Name else y)) (sym now) h)

path_ends : (leading : Bool) (xs ys : List SegmentRead) → SegmentsTurned leading xs ys → Freer (path_ending leading xs) (path_ending leading ys)
unfolding last_ending
path_ends true xs ys h = last_turned h
path_ends false xs ys (inr Pairwise.none) = Freer.same Closed
path_ends false xs ys (inr (Pairwise.one {x = x} {y = y} h Pairwise.none)) = self_ends x.1 y.1 (is_self_segment x.0) (is_self_segment y.0) h.self h.ending
path_ends false xs ys (inr (Pairwise.one h (Pairwise.one k more))) = last_turned (Pairwise.one k more)
path_ends false xs ys (inl (Headed.leads {x = x} {y = y} h Pairwise.none)) = head_ends x.1 y.1 (is_self_segment x.0) (is_self_segment y.0) h.was h.self h.ending
path_ends false xs ys (inl (Headed.leads h (Pairwise.one k more))) = last_turned (Pairwise.one k more)

-- it is a path where it was one
pub not_back : (a b : Bool) → (b ≡ true → a ≡ true) → not a ≡ true → not b ≡ true
not_back true true back h = h
not_back true false back h = refl
not_back false true back h = absurd (false≢true (back refl))
not_back false false back h = h

scope_turned : (leading : Bool) (xs ys : List SegmentRead) → SegmentsTurned leading xs ys → not (are_scope leading (map (λ s. s.0) xs)) ≡ true → not (are_scope leading (map (λ s. s.0) ys)) ≡ true
scope_turned true xs ys h is = is
scope_turned false xs ys (inr Pairwise.none) is = is
scope_turned false xs ys (inr (Pairwise.one {x = x} {y = y} h Pairwise.none)) is = not_back (is_scope_segment x.0) (is_scope_segment y.0) h.scope is
scope_turned false xs ys (inr (Pairwise.one h (Pairwise.one k more))) is = is
scope_turned false xs ys (inl (Headed.leads h Pairwise.none)) is = ap not h.scope
scope_turned false xs ys (inl (Headed.leads h (Pairwise.one k more))) is = refl

path_turned : (leading : Bool) (xs ys : List SegmentRead) → SegmentsTurned leading xs ys → PathTurned (path_read (leading, xs)) (path_read (leading, ys))
path_turned leading xs ys h = record {
  ending = path_ends leading xs ys h;
  path = λ is. ap (λ r. not (are_scope r.leading r.segments)) (out-roll-Path _) ∙ scope_turned leading xs ys h (sym (ap (λ r. not (are_scope r.leading r.segments)) (out-roll-Path _)) ∙ is);
}

pub paths_turned : (x y : Bool × List SegmentRead) → (y.0 ≡ x.0) × SegmentsTurned x.0 x.1 y.1 → PathTurned (path_read x) (path_read y)
paths_turned x y h = subst (λ leading. PathTurned (path_read x) (path_read (leading, y.1))) (sym h.0) (path_turned x.0 x.1 y.1 h.1)

-- ---- names of segments

-- a text is equal the other way round
turned_so : (s t : List ℕ) → bytes_eq s t ≡ true → bytes_eq t s ≡ true
turned_so s t e = (bytes_eq-Decides t s).1 (sym ((bytes_eq-Decides s t).0 e))

-- the name of a segment that is `Self` is spelled so
self_text : (found : Found (accepts terminal.PathSegment)) → is_self found.token ≡ true → bytes_eq (segment_name_of found).text (codes "Self") ≡ true
unfolding accepts
self_text found is =
    let ident = word_kind segment_words found.token.kind found.token.spelling (accepted terminal.PathSegment found.token found.passes) in
    let spelled : (bytes_eq (codes "Self") found.token.spelling || false) ≡ true = sym (ap (λ k. token_in (set_of (terminal.Word keyword.SelfType)) k found.token.spelling) ident) ∙ is in
    turned_so (codes "Self") found.token.spelling (⊎_elim (λ h. h) (λ h. absurd (false≢true h)) (or_cases (bytes_eq (codes "Self") found.token.spelling) false spelled))

pub named_self : (budget : ℕ) {A : Type 0} (h : Rule A) (tokens : Tokens) (x : Ident × A) → begins_self tokens ≡ true → Parses parts budget (both segment_name h) tokens x → bytes_eq x.0.text (codes "Self") ≡ true
unfolding Parses segment_name begins_self
named_self budget h tokens x begins is =
    let name = is.3 in
    let found = name.0 in
    let all : tokens ≡ found.token ∷ is.1 = is.2 ∙ ap (λ us. us ++ is.1) name.2 in
    ap (λ (i : Ident). bytes_eq i.text (codes "Self")) name.1 ∙ self_text found (sym (ap begins_self all) ∙ begins)

-- a segment has a token
pub segment_filled : (budget : ℕ) {A : Type 0} (h : Rule A) (x : Ident × A) → Parses parts budget (both segment_name h) [] x → ⊥
unfolding Parses segment_name
segment_filled budget h x is = empty is.3.0.token is.1 (is.2 ∙ ap (λ us. us ++ is.1) is.3.2)
  where
    empty : (t : Token) (ts : Tokens) → [] ≡ t ∷ ts → ⊥
    empty t ts e = cc
