-- Expressions with the head in place of each path's `Self`.
use Rattle.std.proofs.Common.{◌≡◌, ℕ, ◌<◌, ◌≤◌, Bool, true, false, not, ◌&&◌, IsTrue, List, [], ◌∷◌, ◌++◌, Option, Some, None, refl, sym, ap, subst, ◌∙◌, ◌⊎◌, inl, inr, Ok}
use Rattle.std.specs.List.{list_all}
use Rattle.std.proofs.lemmas.Bool.{and_parts, and_from, both_ways, false≢true}
use Rattle.std.proofs.lemmas.List.{append-nil, append_cancel_left}
use Rattle.educe_tokens.specs.Bracket.TheVariants.{Round, Square, Curly}
use Rattle.educe_tokens.specs.Bracket.{Bracket}
use Rattle.educe_tokens.specs.TokenKind.{TokenKind}
use Rattle.educe_tokens.specs.TokenKind.TheVariants as kind
use Rattle.educe_tokens.specs.declared.token.Token.{Token}
use Rattle.educe_tree.specs.declared.ident.Ident.{Ident}
use Rattle.educe_tree.specs.declared.ty.Ty.{Ty}
use Rattle.educe_tree.specs.declared.path.AngleArg.{AngleArg}
use Rattle.educe_tree.specs.declared.path.Args.TheVariants as args
use Rattle.educe_tree.specs.declared.path.Path.{Path, out-Path, out-roll-Path}
use Rattle.educe_tree.specs.declared.path.Segment.{Segment, out-Segment, out-roll-Segment}
use Rattle.educe_tree.specs.declared.expr.ExprPath.{ExprPath}
use Rattle.educe_grammar.specs.declared.ending.Ending.{Ending}
use Rattle.educe_grammar.specs.declared.ending.Ending.TheVariants.{Closed, Arguments, Name}
use Rattle.educe_grammar.specs.declared.ending.Link.{Link}
use Rattle.educe_grammar.specs.declared.ending.Link.TheVariants.{Cast, Binary}
use Rattle.educe_grammar.specs.declared.ending.Tail.{Tail}
use Rattle.educe_grammar.specs.declared.ending.Tail.TheVariants as tail
use Rattle.educe_grammar.specs.declared.operator.Operator.{Operator}
use Rattle.educe_grammar.specs.declared.operator.Operator.TheVariants.{Joins, Compares, Less, ShiftsLeft, Calculates}
use Rattle.educe_grammar.specs.declared.parse_stream.ParseStream.{ParseStream}
use Rattle.educe_grammar.specs.declared.terminal.Keyword.TheVariants as keyword
use Rattle.educe_grammar.specs.declared.terminal.Terminal.TheVariants as terminal
use Rattle.educe_grammar.specs.Ahead.{is_sign, is_start, begins_lone}
use Rattle.educe_grammar.specs.Combining.{at_colons, skipping, optional, flag, word, colons, in_round}
use Rattle.educe_grammar.specs.NotedReads.{read}
use Rattle.educe_grammar.specs.Reading.{Parses}
use Rattle.educe_grammar.specs.Reads.{parts}
use Rattle.educe_grammar.specs.Rules.{Rule, token, both, made, nest, chain, part, exprs}
use Rattle.educe_grammar.specs.Rules as rule
use Rattle.educe_grammar.specs.Steps.{Tokens}
use Rattle.educe_grammar.specs.Types.{has_no_args, is_scope_word, is_scope_segment, are_scope, is_path, segment_of, angle_args}
use Rattle.educe_grammar.specs.Expressions.{group, macro_group, self_begins_paths, segment_with, at_turbofish, expr_segment, local_path, qualified_expr_path, local_expr_path, any_expr_path, expr_path, no_segment_args, has_no_self, is_mod_path, inits, path_tail, fits_tail, primary, at_prefix, prefix, at_postfix, postfix, unary, link, begins_with_less, may_stand_before, casts_end, compares_once, links_fit, operation, expression}
use Rattle.educe_grammar.proofs.Keeping.{has_no_documentation}
use Rattle.educe_grammar.proofs.Productions.{productions}
use Rattle.educe_syntax_self.specs.Replacing.{is_replaced}
use Rattle.educe_syntax_self.specs.Selves.{begins_call, is_opening}
use Rattle.educe_syntax_self.proofs.HeadReads.{expr_head}
use Rattle.educe_syntax_self.proofs.PathTurns.{BehindColons, BeforeCall, calls_stay, Headed, Started, Segments, turns_path, turns_path_kept, colons_stay, turns_leading, turns_behind}
use Rattle.educe_syntax_self.proofs.Pieces.{Setting}
use Rattle.educe_syntax_self.proofs.QuietReads.{group_quiet}
use Rattle.educe_syntax_self.proofs.SimpleTurns.{is_simple, PartTurns}
use Rattle.educe_syntax_self.proofs.Turns.{Any, Same, Pairwise, Optionally, Place, Anywhere, Turned, Turns, turns_anywhere, turns_weaker, turns_both, turns_both_then, turns_both_knowing, turns_made, turns_checked, turns_either, turns_lone, turns_binary, turns_chain, turns_written, turns_sliced, turns_nothing, turns_skipping, turns_optional, turns_flag, turns_operator}
use Rattle.educe_syntax_self.proofs.SegmentTurns.{Freer, Ended, not_back, segment_filled}
use Rattle.educe_syntax_self.proofs.TypeTurns.{turns_segment_name, plainly, turns_qualified_self, turns_plain_type}

-- ---- segments

-- no lone scope is made, and no arguments are
record SegmentKept (x y : Segment) : Type 0 where
  scope : is_scope_segment y ≡ true → is_scope_segment x ≡ true
  none : has_no_args (out-Segment x).args ≡ true → has_no_args (out-Segment y).args ≡ true

-- the head is no scope
abbrev SelfReplaced : Segment → Segment → Type 0
SelfReplaced x y = is_scope_segment y ≡ false

-- a segment that keeps its name
segment_kept : (i : Ident) (o p : Option (List AngleArg)) → Optionally Any o p → SegmentKept (segment_with (i, o)) (segment_with (i, p))
segment_kept i o p Optionally.none = record { scope = λ is. is; none = λ is. is }
segment_kept i o p (Optionally.some {x = x} {y = y} h) = record {
  scope = λ is.
      absurd (both_ways (is_scope_segment (segment_of i (args.Angle y)))
      (ap (λ r. is_scope_word r.ident.text && has_no_args r.args) (out-roll-Segment (record { ident = i; args = args.Angle y })) ∙ no_scope (is_scope_word i.text)) is);
  none = λ is. absurd (false≢true (sym (ap (λ r. has_no_args r.args) (out-roll-Segment (record { ident = i; args = args.Angle x }))) ∙ is));
}
  where
    no_scope : (b : Bool) → (b && false) ≡ false
    no_scope true = refl
    no_scope false = refl

-- ---- paths

-- the segments behind `::` stay, and others may begin with the head
abbrev SegmentsKept : Bool → List Segment → List Segment → Type 0
SegmentsKept true xs ys = Pairwise SegmentKept xs ys
SegmentsKept false xs ys = Started SelfReplaced SegmentKept xs ys

-- it is a path where it was one
abbrev LocalTurned : Option Ty × Path → Option Ty × Path → Type 0
LocalTurned p q = is_path p.1 ≡ true → is_path q.1 ≡ true

scopes_turned : (leading : Bool) (xs ys : List Segment) → SegmentsKept leading xs ys → not (are_scope leading xs) ≡ true → not (are_scope leading ys) ≡ true
scopes_turned true xs ys h is = is
scopes_turned false xs ys (inr Pairwise.none) is = is
scopes_turned false xs ys (inr (Pairwise.one {x = x} {y = y} h Pairwise.none)) is = not_back (is_scope_segment x) (is_scope_segment y) h.scope is
scopes_turned false xs ys (inr (Pairwise.one h (Pairwise.one k more))) is = is
scopes_turned false xs ys (inl (Headed.leads h Pairwise.none)) is = ap not h
scopes_turned false xs ys (inl (Headed.leads h (Pairwise.one k more))) is = refl

local_turned : (x y : Bool × List Segment) → (y.0 ≡ x.0) × SegmentsKept x.0 x.1 y.1 → LocalTurned (local_path x) (local_path y)
local_turned x y h is =
    ap (λ r. not (are_scope r.leading r.segments)) (out-roll-Path _)
    ∙ ap (λ leading. not (are_scope leading y.1)) h.0
    ∙ scopes_turned x.0 x.1 y.1 h.1 (sym (ap (λ r. not (are_scope r.leading r.segments)) (out-roll-Path _)) ∙ is)

-- ---- paths of macros

-- it is a path without arguments where it was one
abbrev ModTurned : Option Ty × Path → Option Ty × Path → Type 0
ModTurned p q = (has_no_self p.0 && no_segment_args (out-Path p.1).segments) ≡ true → (has_no_self q.0 && no_segment_args (out-Path q.1).segments) ≡ true

no_args_kept : {xs ys : List Segment} → Pairwise SegmentKept xs ys → no_segment_args xs ≡ true → no_segment_args ys ≡ true
no_args_kept Pairwise.none is = is
no_args_kept (Pairwise.one {x = x} {y = y} {xs = xs} {ys = ys} h more) is =
    let both = and_parts (has_no_args (out-Segment x).args) (no_segment_args xs) is in and_from (has_no_args (out-Segment y).args) (no_segment_args ys) (h.none both.0) (no_args_kept more both.1)

-- both at once
abbrev LocalKept : Option Ty × Path → Option Ty × Path → Type 0
LocalKept p q = LocalTurned p q × ModTurned p q

kept_scopes : (leading : Bool) {xs ys : List Segment} → Pairwise SegmentKept xs ys → SegmentsKept leading xs ys
kept_scopes true h = h
kept_scopes false h = inr h

local_kept : (x y : Bool × List Segment) → (y.0 ≡ x.0) × Pairwise SegmentKept x.1 y.1 → LocalKept (local_path x) (local_path y)
local_kept x y h = (
  local_turned x y (h.0, kept_scopes x.0 h.1),
  λ is. ap (λ r. no_segment_args r.segments) (out-roll-Path _) ∙ no_args_kept h.1 (sym (ap (λ r. no_segment_args r.segments) (out-roll-Path _)) ∙ is),
)

-- ---- macros

-- a bracket that opens
start_opens : (b : Bracket) (k : TokenKind) → is_start b k ≡ true → is_opening k ≡ true
start_opens b (kind.Start c) is = refl
start_opens b (kind.Stop c) is = is
start_opens b kind.Ident is = is
start_opens b kind.Lifetime is = is
start_opens b (kind.Literal l) is = is
start_opens b (kind.Punct c joint) is = is
start_opens b kind.Doc is = is

-- a group begins with a bracket
group_opens : (budget : ℕ) (ts : Tokens) (x : Unit {0}) → Parses parts budget group ts x → (t : Token) × (us : Tokens) × (ts ≡ t ∷ us) × (is_opening t.kind ≡ true)
unfolding Parses group
group_opens budget ts x (inl is) = (is.first, is.inside ++ is.last ∷ [], is.is, start_opens Round is.first.kind is.opens)
group_opens budget ts x (inr (inl is)) = (is.first, is.inside ++ is.last ∷ [], is.is, start_opens Square is.first.kind is.opens)
group_opens budget ts x (inr (inr is)) = (is.first, is.inside ++ is.last ∷ [], is.is, start_opens Curly is.first.kind is.opens)

-- what begins with a punct alone begins with a punct
lone_sign : (t : Token) (ts : Tokens) → begins_lone 33 61 (t ∷ ts) ≡ true → is_sign 33 t.kind ≡ true
unfolding begins_lone
lone_sign t ts h = (and_parts (is_sign 33 t.kind) _ h).0

-- the call of a macro begins one
call_begins : (budget : ℕ) (tokens behind : Tokens) (x : Unit {0}) → Parses parts budget (rule.lone 33 61 macro_group) tokens x → begins_call (tokens ++ behind) ≡ true
unfolding Parses macro_group begins_call
call_begins budget tokens behind x is =
    let opened = group_opens budget is.1 is.4.0.0 is.4.2.1.0 in
    let all : tokens ≡ is.0 ∷ opened.0 ∷ opened.1 = is.2 ∙ ap (λ us. is.0 ∷ us) opened.2 in
    let sign : is_sign 33 is.0.kind ≡ true = lone_sign is.0 is.1 (sym (ap (begins_lone 33 61) is.2) ∙ is.3) in
    ap (λ us. begins_call (us ++ behind)) all ∙ and_from (is_sign 33 is.0.kind) (is_opening opened.0.kind) sign opened.3

-- ---- what stands behind a path

-- before the call of a macro
abbrev TailPlace : Tail → Place
TailPlace tail.Nothing before behind = Unit {0}
TailPlace tail.Fields before behind = Unit {0}
TailPlace tail.Call before behind = BeforeCall before behind

-- a path without arguments stays one there
abbrev TailTurned : Tail → ExprPath → ExprPath → Type 0
TailTurned tail.Nothing p q = Unit {0}
TailTurned tail.Fields p q = Unit {0}
TailTurned tail.Call p q = is_mod_path p ≡ true → is_mod_path q ≡ true

tail_place : (budget : ℕ) (before front behind : Tokens) (y : Tail) → Parses parts budget path_tail front y → TailPlace y before (front ++ behind)
unfolding Parses path_tail
tail_place budget before front behind tail.Nothing is = tt
tail_place budget before front behind tail.Fields is = tt
tail_place budget before front behind tail.Call (inl is) = absurd (let e = is.1 in cc)
tail_place budget before front behind tail.Call (inr (inl is)) = call_begins budget front behind is.0 is.2
tail_place budget before front behind tail.Call (inr (inr is)) = absurd (let e = is.1 in cc)

tail_fits : (x y : ExprPath × Tail) → TailTurned x.1 x.0 y.0 × (y.1 ≡ x.1) → IsTrue (fits_tail x) → IsTrue (fits_tail y)
tail_fits x y h is = subst (λ (t : Tail). IsTrue (fits_tail (y.0, t))) (sym h.1) (fits x.1 h.0 is)
  where
    fits : (t : Tail) → TailTurned t x.0 y.0 → IsTrue (fits_tail (x.0, t)) → IsTrue (fits_tail (y.0, t))
    fits tail.Nothing h is = is
    fits tail.Fields h is = is
    fits tail.Call h is = h is

-- ---- links

-- the operator stays, and a cast ends as before or with arguments
data LinkTurned : Link → Link → Type 0 where
  cast : {e f : Ending} → Freer e f → LinkTurned (Cast e) (Cast f)
  binary : (o : Operator) → LinkTurned (Binary o) (Binary o)

compare_turned : (may : Bool) {xs ys : List Link} → Pairwise LinkTurned xs ys → compares_once may xs ≡ true → compares_once may ys ≡ true
unfolding compares_once
compare_turned may Pairwise.none is = is
compare_turned may (Pairwise.one (LinkTurned.cast h) more) is = compare_turned may more is
compare_turned may (Pairwise.one (LinkTurned.binary Joins) more) is = compare_turned true more is
compare_turned may (Pairwise.one {xs = xs} {ys = ys} (LinkTurned.binary Compares) more) is =
    let both = and_parts may (compares_once false xs) is in and_from may (compares_once false ys) both.0 (compare_turned false more both.1)
compare_turned may (Pairwise.one {xs = xs} {ys = ys} (LinkTurned.binary Less) more) is =
    let both = and_parts may (compares_once false xs) is in and_from may (compares_once false ys) both.0 (compare_turned false more both.1)
compare_turned may (Pairwise.one (LinkTurned.binary ShiftsLeft) more) is = compare_turned may more is
compare_turned may (Pairwise.one (LinkTurned.binary Calculates) more) is = compare_turned may more is

-- a link begins as it did
less_turned : {x y : Link} → LinkTurned x y → begins_with_less y ≡ begins_with_less x
less_turned (LinkTurned.cast h) = refl
less_turned (LinkTurned.binary o) = refl

before_turned : {x y u v : Link} → LinkTurned x y → LinkTurned u v → may_stand_before x u ≡ true → may_stand_before y v ≡ true
before_turned (LinkTurned.cast (Freer.same Closed)) k is = refl
before_turned (LinkTurned.cast (Freer.same Arguments)) k is = refl
before_turned (LinkTurned.cast (Freer.same Name)) k is = ap not (less_turned k) ∙ is
before_turned (LinkTurned.cast Freer.freer) k is = refl
before_turned (LinkTurned.binary o) k is = refl

casts_turned : {xs ys : List Link} → Pairwise LinkTurned xs ys → casts_end xs ≡ true → casts_end ys ≡ true
unfolding casts_end
casts_turned Pairwise.none is = is
casts_turned (Pairwise.one h Pairwise.none) is = is
casts_turned (Pairwise.one {x = x} {y = y} h (Pairwise.one {x = u} {y = v} {xs = us} {ys = vs} k more)) is =
    let both = and_parts (may_stand_before x u) (casts_end (u ∷ us)) is in
    and_from (may_stand_before y v) (casts_end (v ∷ vs)) (before_turned h k both.0) (casts_turned (Pairwise.one k more) both.1)

links_turned : (xs ys : List Link) → Pairwise LinkTurned xs ys → IsTrue (links_fit xs) → IsTrue (links_fit ys)
links_turned xs ys h is =
    let both = and_parts (compares_once true xs) (casts_end xs) is in and_from (compares_once true ys) (casts_end ys) (compare_turned true h both.0) (casts_turned h both.1)

module _ (c : Setting) (bound_below : ℕ) (each : (budget : ℕ) → budget < bound_below → PartTurns c Ended budget) where
  -- ---- paths

  turns_turbofish : (budget : ℕ) → budget ≤ bound_below → Turns c Anywhere budget (optional at_turbofish (skipping colons angle_args)) (Optionally Any)
  unfolding productions is_simple
  turns_turbofish budget room = turns_optional c (plainly c bound_below each (skipping colons angle_args) budget room refl)

  turns_segment : (budget : ℕ) → budget ≤ bound_below → Turns c Anywhere budget expr_segment SegmentKept
  unfolding expr_segment
  turns_segment budget room =
      turns_made c (turns_both c (turns_segment_name c) (turns_turbofish budget room))
      (λ x y h. subst (λ i. SegmentKept (segment_with x) (segment_with (i, y.1))) (sym h.0) (segment_kept x.0 x.1 y.1 h.1))

  segments_turn : (budget : ℕ) → budget ≤ bound_below → Segments c budget expr_segment SelfReplaced SegmentKept
  unfolding Parses expr_segment
  segments_turn budget room =
      let own_head = expr_head budget c.head c.is_head in
      record {
        value = own_head.value;
        reads = own_head.reads;
        filled = λ x is. segment_filled budget (optional at_turbofish (skipping colons angle_args)) is.0 is.2;
        first = λ tokens x begins is. own_head.scope;
        each = turns_segment budget room;
      }

  turns_segments : (budget : ℕ) → budget ≤ bound_below → Turns c Anywhere budget (rule.path expr_segment) (Started SelfReplaced SegmentKept)
  turns_segments budget room = turns_path c budget expr_segment SelfReplaced SegmentKept (segments_turn budget room)

  -- where nothing is replaced
  turns_kept_segments : (P : Place) → ((before front behind : Tokens) → P before behind → is_replaced before front behind ≡ false) → (budget : ℕ) → budget ≤ bound_below
      → Turns c P budget (rule.path expr_segment) (Pairwise SegmentKept)
  turns_kept_segments P stays budget room = turns_path_kept c budget expr_segment SelfReplaced SegmentKept (segments_turn budget room) P stays

  turns_local_path : (budget : ℕ) → budget ≤ bound_below → Turns c Anywhere budget local_expr_path LocalTurned
  unfolding local_expr_path
  turns_local_path budget room =
      turns_checked c (turns_made c (turns_leading c (turns_kept_segments BehindColons colons_stay budget room) (turns_segments budget room) SegmentsKept (λ x y h. h) (λ x y h. h)) local_turned) (λ p q h is. h is)

  turns_called_path : (budget : ℕ) → budget ≤ bound_below → Turns c BeforeCall budget local_expr_path LocalKept
  unfolding local_expr_path
  turns_called_path budget room =
      turns_checked c (turns_made c (turns_both_then c {Q = λ x. BeforeCall} (turns_flag c (turns_operator c 58 58)) (λ before front behind x here is. here) (λ x. turns_kept_segments BeforeCall calls_stay budget room)) local_kept)
      (λ p q h is. h.0 is)

  turns_qualified_path : (budget : ℕ) → budget ≤ bound_below → Turns c Anywhere budget qualified_expr_path ModTurned
  unfolding qualified_expr_path
  turns_qualified_path budget room =
      turns_made c (turns_both c (turns_qualified_self c bound_below each budget room) (turns_behind c (turns_kept_segments BehindColons colons_stay budget room))) (λ x y h is. absurd (false≢true is))

  turns_any_expr_path : (budget : ℕ) → budget ≤ bound_below → Turns c Anywhere budget any_expr_path Any
  unfolding any_expr_path
  turns_any_expr_path budget room = turns_either c (turns_weaker c (turns_qualified_path budget room) (λ x y h. tt)) (turns_weaker c (turns_local_path budget room) (λ x y h. tt))

  turns_any_called_path : (budget : ℕ) → budget ≤ bound_below → Turns c BeforeCall budget any_expr_path ModTurned
  unfolding any_expr_path
  turns_any_called_path budget room = turns_either c (turns_anywhere c (turns_qualified_path budget room)) (turns_weaker c (turns_called_path budget room) (λ x y h. h.1))

  pub turns_expr_path : (budget : ℕ) → budget ≤ bound_below → Turns c Anywhere budget expr_path Any
  unfolding productions has_no_documentation
  turns_expr_path budget room = turns_made c (turns_written c refl (turns_any_expr_path budget room)) (λ x y h. tt)

  -- before the call of a macro
  turns_macro_path : (budget : ℕ) → budget ≤ bound_below → Turns c BeforeCall budget expr_path (λ p q. is_mod_path p ≡ true → is_mod_path q ≡ true)
  unfolding productions has_no_documentation
  turns_macro_path budget room = turns_made c (turns_written c refl (turns_any_called_path budget room)) (λ x y h. h)

  -- ---- operands

  -- what a macro is called with stays
  turns_group : (budget : ℕ) → budget ≤ bound_below → Turns c Anywhere budget group Any
  unfolding productions is_simple
  turns_group budget room = plainly c bound_below each group budget room refl

  group_stays : (budget : ℕ) (before : Tokens) (s t : ParseStream) (x : Unit {0}) → read budget group s ≡ Ok (x, t) → (this : Turned c budget group Any before s t x) → this.out ≡ this.front
  group_stays budget before s t x is this = this.piece.quiet (append_cancel_left s.selves this.piece.notes [] (sym this.piece.noted ∙ group_quiet budget s t x is ∙ sym (append-nil s.selves)))

  turns_macro_group : (budget : ℕ) → budget ≤ bound_below → Turns c Anywhere budget macro_group Any
  unfolding macro_group
  turns_macro_group budget room =
      turns_made c (turns_checked c (turns_sliced c {W = λ p q. q.1 ≡ p.1} (turns_group budget room) (group_stays budget)) (λ p q h is. subst (λ ts. IsTrue (self_begins_paths ts)) (sym h) is)) (λ x y h. tt)

  turns_inits : (budget : ℕ) → budget ≤ bound_below → Turns c Anywhere budget (nest Curly inits) Any
  unfolding productions is_simple
  turns_inits budget room = plainly c bound_below each (nest Curly inits) budget room refl

  turns_path_tail : (budget : ℕ) → budget ≤ bound_below → Turns c Anywhere budget path_tail Same
  unfolding path_tail
  turns_path_tail budget room =
      turns_either c (turns_made c (turns_inits budget room) (λ x y h. refl))
      (turns_either c (turns_made c (turns_lone c (turns_macro_group budget room)) (λ x y h. refl)) (turns_nothing c tail.Nothing refl))

  -- the path and what stands behind it
  turns_tailed : (budget : ℕ) → budget ≤ bound_below → Turns c Anywhere budget (both expr_path path_tail) (λ x y. TailTurned x.1 x.0 y.0 × (y.1 ≡ x.1))
  turns_tailed budget room = turns_both_knowing c {P = TailPlace} {V = TailTurned} choose (turns_path_tail budget room) (tail_place budget)
    where
      choose : (t : Tail) → Turns c (TailPlace t) budget expr_path (TailTurned t)
      choose tail.Nothing = turns_expr_path budget room
      choose tail.Fields = turns_expr_path budget room
      choose tail.Call = turns_macro_path budget room

  turns_primary : (budget : ℕ) → budget ≤ bound_below → Turns c Anywhere budget primary Any
  unfolding primary is_simple
  turns_primary budget room =
      turns_either c (turns_made c (plainly c bound_below each (token terminal.Literal) budget room refl) (λ x y h. tt))
      (turns_either c (turns_made c (plainly c bound_below each (token terminal.Truth) budget room refl) (λ x y h. tt))
      (turns_either c (turns_made c (plainly c bound_below each (in_round (part exprs)) budget room refl) (λ x y h. tt))
      (turns_made c (turns_checked c (turns_tailed budget room) tail_fits) (λ x y h. tt))))

  turns_unary : (budget : ℕ) → budget ≤ bound_below → Turns c Anywhere budget unary Any
  unfolding productions is_simple
  turns_unary budget room =
      turns_made c (turns_both c (plainly c bound_below each (chain at_prefix prefix) budget room refl) (turns_both c (turns_primary budget room) (plainly c bound_below each (chain at_postfix postfix) budget room refl))) (λ x y h. tt)

  -- ---- operators

  turns_link : (budget : ℕ) → budget ≤ bound_below → Turns c Anywhere budget link LinkTurned
  unfolding link is_simple
  turns_link budget room =
      turns_either c (turns_made c (turns_skipping c (plainly c bound_below each (word keyword.As) budget room refl) (turns_plain_type c bound_below each budget room)) (λ x y h. LinkTurned.cast h))
      (turns_made c (turns_binary c (turns_unary budget room)) (λ x y h. subst (λ o. LinkTurned (Binary x.0) (Binary o)) (sym h.0) (LinkTurned.binary x.0)))

  turns_operation : (budget : ℕ) → budget ≤ bound_below → Turns c Anywhere budget operation Any
  unfolding operation
  turns_operation budget room = turns_made c (turns_both c (turns_unary budget room) (turns_checked c (turns_chain c (turns_link budget room)) links_turned)) (λ x y h. tt)

  pub turns_expression : (budget : ℕ) → budget ≤ bound_below → Turns c Anywhere budget expression Any
  unfolding productions has_no_documentation
  turns_expression budget room = turns_made c (turns_written c refl (turns_operation budget room)) (λ x y h. tt)
