-- The tests of types and of expressions answer the same of copies, so that copies of types are read.
use Rattle.std.proofs.Common.{◌≡◌, ℕ, zero, suc, ◌<◌, Bool, true, false, not, ◌&&◌, ◌||◌, IsTrue, List, [], ◌∷◌, map, codes, refl, ap, sym, subst, ◌∙◌, inl, inr, Option, Some, None, arith}
use Rattle.std.specs.Prelude.{if◌then◌else◌}
use Rattle.std.specs.Str.{bytes_eq}
use Rattle.std.proofs.lemmas.Bool.{and_parts, false≢true}
use Rattle.educe_tokens.specs.Copied.{copied}
use Rattle.educe_tokens.specs.Lexes.{Lexeme, lexemes}
use Rattle.educe_tree.specs.declared.expr.ExprPath.{ExprPath}
use Rattle.educe_tree.specs.declared.ident.Ident.{Ident}
use Rattle.educe_tree.specs.declared.path.AngleArg.{AngleArg}
use Rattle.educe_tree.specs.declared.path.Args.TheVariants as args
use Rattle.educe_tree.specs.declared.path.Path.{Path, out-Path, out-roll-Path}
use Rattle.educe_tree.specs.declared.path.Segment.{Segment, out-Segment, out-roll-Segment}
use Rattle.educe_tree.specs.declared.ty.Ty.{Ty}
use Rattle.educe_grammar.specs.declared.ending.Ending.{Ending}
use Rattle.educe_grammar.specs.declared.ending.Ending.TheVariants.{Closed, Arguments, Name}
use Rattle.educe_grammar.specs.declared.ending.Link.{Link}
use Rattle.educe_grammar.specs.declared.ending.Link.TheVariants.{Cast, Binary}
use Rattle.educe_grammar.specs.declared.ending.Tail.{Tail}
use Rattle.educe_grammar.specs.declared.terminal.Keyword.TheVariants as keyword
use Rattle.educe_grammar.specs.declared.ending.Tail.TheVariants as tail
use Rattle.educe_grammar.specs.Ahead.{Look}
use Rattle.educe_grammar.specs.Combining.{at_sign, at_word, optional, flag, sign, colons, at_colons, at_arrow}
use Rattle.educe_grammar.specs.Expressions.{segment_with, expr_segment, local_path, local_expr_path, qualified_expr_path, any_expr_path, expr_path, no_segment_args, has_no_self, is_mod_path, self_begins_paths, group, macro_group, inits, path_tail, fits_tail, primary, prefix, postfix, unary, link, links_fit, operation, expression, tree}
use Rattle.educe_grammar.specs.Names.{segment_name}
use Rattle.educe_grammar.specs.Reads.{Reads, parts, rule_of}
use Rattle.educe_grammar.specs.Rules.{Rule, token, documentation, empty, both, made, checked, either, prefer, operator, lone, binary, nest, angles, under, arrow, list, many, chain, sliced, written, part, Part, TreeOf, Typed, types, plains, exprs, trees}
use Rattle.educe_grammar.specs.Rules as rule
use Rattle.educe_grammar.specs.Steps.{Tokens}
use Rattle.educe_grammar.specs.Types.{ArgsRead, returned, round_read, round_args, type_args, SegmentRead, segment_read, type_segment, may_follow, last_ending, type_segments, is_scope_word, has_no_args, is_scope_segment, are_scope, is_path, are_self, path_ending, path_read, type_path, qualified_self, qualified, for_all, bound_path, BoundRead, bound, some_bounds, FormRead, round_of, round_form, reference, pointer, square_of, square_form, fn_of, fn_pointer, plain_form, one_bound_form, any_bounds_form, plain_type, any_type}
use Rattle.educe_grammar.proofs.Keeping.{has_no_documentation}
use Rattle.educe_grammar.proofs.Productions.{productions}
use Rattle.educe_grammar.proofs.ReadAlike.{Pairwise, related_as}
use Rattle.educe_grammar.proofs.Unrolling.{part_inside, parts_roll, parts_unroll}
use Rattle.educe_bound.proofs.CopiedTokens.{Copy, opens_comment, copy_of, pair_same}
use Rattle.educe_bound.proofs.CopiedReads.{Kin, Alike, Fits, Copied, copied_rule}

-- ---- rules without tests

-- the rule has no test, no operator of it opens a comment, and what is written has no documentation
unfoldable is_plain : {A : Type 0} → Rule A → Bool
is_plain (token asked) = true
is_plain documentation = true
is_plain (empty z) = true
is_plain (both g h) = is_plain g && is_plain h
is_plain (made f g) = is_plain g
is_plain (checked test g) = false
is_plain (either look g h) = is_plain g && is_plain h
is_plain (prefer asked g h) = is_plain g && is_plain h
is_plain (operator c d) = not (opens_comment c d)
is_plain (lone c d g) = not (opens_comment c d) && is_plain g
is_plain (binary g) = is_plain g
is_plain (nest b g) = is_plain g
is_plain (angles g) = is_plain g
is_plain (under asked g) = is_plain g
is_plain (arrow g) = is_plain g
is_plain (list separator stop g) = is_plain g
is_plain (many look g) = is_plain g
is_plain (chain look g) = is_plain g
is_plain (rule.path g) = is_plain g
is_plain (sliced g) = is_plain g
is_plain (written g) = has_no_documentation g && is_plain g
is_plain (part p) = true

fails : (b : Bool) → not b ≡ true → b ≡ false
fails true h = sym h
fails false h = refl

plain_fits : {A : Type 0} (g : Rule A) → is_plain g ≡ true → Fits g
unfolding is_plain Fits
plain_fits (token asked) h = tt
plain_fits documentation h = tt
plain_fits (empty z) h = tt
plain_fits (both g k) h = let w = and_parts (is_plain g) (is_plain k) h in (plain_fits g w.0, plain_fits k w.1)
plain_fits (made f g) h = plain_fits g h
plain_fits (checked test g) h = absurd (false≢true h)
plain_fits (either look g k) h = let w = and_parts (is_plain g) (is_plain k) h in (plain_fits g w.0, plain_fits k w.1)
plain_fits (prefer asked g k) h = let w = and_parts (is_plain g) (is_plain k) h in (plain_fits g w.0, plain_fits k w.1)
plain_fits (operator c d) h = fails (opens_comment c d) h
plain_fits (lone c d g) h = let w = and_parts (not (opens_comment c d)) (is_plain g) h in (fails (opens_comment c d) w.0, plain_fits g w.1)
plain_fits (binary g) h = plain_fits g h
plain_fits (nest b g) h = plain_fits g h
plain_fits (angles g) h = plain_fits g h
plain_fits (under asked g) h = plain_fits g h
plain_fits (arrow g) h = plain_fits g h
plain_fits (list separator stop g) h = plain_fits g h
plain_fits (many look g) h = plain_fits g h
plain_fits (chain look g) h = plain_fits g h
plain_fits (rule.path g) h = plain_fits g h
plain_fits (sliced g) h = plain_fits g h
plain_fits (written g) h = let w = and_parts (has_no_documentation g) (is_plain g) h in (w.0, plain_fits g w.1)
plain_fits (part p) h = tt

-- ---- words of productions

-- whether something stands there
flag_same : {A : Type 0} (look : Look) (g : Rule A) (x y : Bool) → Alike (flag look g) x y → y ≡ x
unfolding Alike
flag_same look g x y (inl is) = is.3 ∙ sym is.2
flag_same look g x y (inr is) = is.1 ∙ sym is.0

-- the values of parts that end alike, where there are any
data BothEnd : Option Typed → Option Typed → Type 0 where
  neither : BothEnd None None
  these : {t u : Typed} → u.1 ≡ t.1 → BothEnd (Some t) (Some u)

arrows_end : (x y : Option Typed) → Alike (optional at_arrow (arrow (part plains))) x y → BothEnd x y
unfolding Alike
arrows_end x y (inl is) = related_as BothEnd (sym is.2) (sym is.3) (BothEnd.these is.4)
arrows_end x y (inr is) = related_as BothEnd (sym is.0) (sym is.1) BothEnd.neither

-- values that are both this are equal
both_are : {A : Type 0} {x y z : A} → x ≡ z → y ≡ z → y ≡ x
both_are e f = f ∙ sym e

-- lists of which the items are so related
pairwise_into : {A : Type 0} {R S : A → A → Type 0} → ((x y : A) → R x y → S x y) → {xs ys : List A} → Pairwise R xs ys → Pairwise S xs ys
pairwise_into into Pairwise.nothing = Pairwise.nothing
pairwise_into into (Pairwise.another {x = x} {y = y} r more) = Pairwise.another (into x y r) (pairwise_into into more)

-- ---- segments of types

-- names are spelled the same
name_same : (i j : Ident) → Alike segment_name i j → j.text ≡ i.text
unfolding Alike segment_name
name_same i j is = ap (λ (k : Ident). k.text) is.3 ∙ sym (ap (λ (l : Lexeme). l.spelling) is.4) ∙ sym (ap (λ (k : Ident). k.text) is.2)

record ArgsAlike (x y : ArgsRead) : Type 0 where
  ending : y.1 ≡ x.1
  follows : y.2 ≡ x.2
  none : has_no_args y.0 ≡ has_no_args x.0

returned_alike : (xs ys : List Ty) (t u : Ty) (e f : Ending) → f ≡ e → ArgsAlike (returned xs t e) (returned ys u f)
returned_alike xs ys t u e f same = subst (λ g. ArgsAlike (returned xs t e) (returned ys u g)) (sym same) (one e)
  where
    one : (e : Ending) → ArgsAlike (returned xs t e) (returned ys u e)
    one Closed = record { ending = refl; follows = refl; none = refl }
    one Arguments = record { ending = refl; follows = refl; none = refl }
    one Name = record { ending = refl; follows = refl; none = refl }

round_alike : (xs ys : List Ty) (o p : Option Typed) → BothEnd o p → ArgsAlike (round_read (xs, o)) (round_read (ys, p))
round_alike xs ys o p BothEnd.neither = record { ending = refl; follows = refl; none = refl }
round_alike xs ys o p (BothEnd.these {t = t} {u = u} same) = returned_alike xs ys t.0 u.0 t.1 u.1 same

args_alike : (x y : ArgsRead) → Alike type_args x y → ArgsAlike x y
unfolding Alike type_args round_args
args_alike x y (inl is) = related_as ArgsAlike (sym is.2) (sym is.3) (record { ending = refl; follows = refl; none = refl })
args_alike x y (inr (inl is)) = related_as ArgsAlike (sym is.2) (sym is.3) (round_alike is.0.0 is.1.0 is.0.1 is.1.1 (arrows_end is.0.1 is.1.1 is.4.1))
args_alike x y (inr (inr is)) = related_as ArgsAlike (sym is.0) (sym is.1) (record { ending = refl; follows = refl; none = refl })

record SegmentAlike (x y : SegmentRead) : Type 0 where
  ending : y.1 ≡ x.1
  follows : y.2 ≡ x.2
  scope : is_scope_segment y.0 ≡ is_scope_segment x.0
  self : bytes_eq (out-Segment y.0).ident.text (codes "Self") ≡ bytes_eq (out-Segment x.0).ident.text (codes "Self")

read_alike : (i j : Ident) (a b : ArgsRead) → j.text ≡ i.text → ArgsAlike a b → SegmentAlike (segment_read (i, a)) (segment_read (j, b))
read_alike i j a b named same =
    let first = out-roll-Segment (record { ident = i; args = a.0 }) in
    let second = out-roll-Segment (record { ident = j; args = b.0 }) in
    record {
      ending = same.ending;
      follows = same.follows;
      scope =
          ap (λ r. is_scope_word r.ident.text && has_no_args r.args) second
          ∙ (λ k. is_scope_word (named k) && same.none k)
          ∙ sym (ap (λ r. is_scope_word r.ident.text && has_no_args r.args) first);
      self =
          ap (λ r. bytes_eq r.ident.text (codes "Self")) second ∙ ap (λ text. bytes_eq text (codes "Self")) named
          ∙ sym (ap (λ r. bytes_eq r.ident.text (codes "Self")) first);
    }

segment_alike : (x y : SegmentRead) → Alike type_segment x y → SegmentAlike x y
unfolding Alike type_segment
segment_alike x y is =
    related_as SegmentAlike (sym is.2) (sym is.3) (read_alike is.0.0 is.1.0 is.0.1 is.1.1 (name_same is.0.0 is.1.0 is.4.0) (args_alike is.0.1 is.1.1 is.4.1))

-- the last of them end alike
last_same : {xs ys : List SegmentRead} → Pairwise SegmentAlike xs ys → last_ending ys ≡ last_ending xs
unfolding last_ending
last_same Pairwise.nothing = refl
last_same (Pairwise.another h Pairwise.nothing) = h.ending
last_same (Pairwise.another h (Pairwise.another k more)) = last_same (Pairwise.another k more)

-- another may stand behind each but the last
follow_same : {xs ys : List SegmentRead} → Pairwise SegmentAlike xs ys → may_follow ys ≡ may_follow xs
unfolding may_follow
follow_same Pairwise.nothing = refl
follow_same (Pairwise.another h Pairwise.nothing) = refl
follow_same (Pairwise.another h (Pairwise.another k more)) = λ i. h.follows i && follow_same (Pairwise.another k more) i

segments_alike : (xs ys : List SegmentRead) → Alike type_segments xs ys → Pairwise SegmentAlike xs ys
unfolding Alike type_segments
segments_alike xs ys is = pairwise_into segment_alike is

segments_fit : Fits type_segments
unfolding Fits Alike is_plain has_no_documentation type_segments productions
segments_fit = (plain_fits type_segment refl, λ xs ys is holds. follow_same (pairwise_into segment_alike is) ∙ holds)

-- ---- paths of types

-- one scope alone, or none
scopes_same : (leading : Bool) {xs ys : List SegmentRead} → Pairwise SegmentAlike xs ys → are_scope leading (map (λ s. s.0) ys) ≡ are_scope leading (map (λ s. s.0) xs)
scopes_same true more = refl
scopes_same false Pairwise.nothing = refl
scopes_same false (Pairwise.another h Pairwise.nothing) = h.scope
scopes_same false (Pairwise.another h (Pairwise.another k more)) = refl

-- one `Self` alone, or none
selves_same : (leading : Bool) {xs ys : List SegmentRead} → Pairwise SegmentAlike xs ys → are_self leading (map (λ s. s.0) ys) ≡ are_self leading (map (λ s. s.0) xs)
selves_same true more = refl
selves_same false Pairwise.nothing = refl
selves_same false (Pairwise.another h Pairwise.nothing) = h.self
selves_same false (Pairwise.another h (Pairwise.another k more)) = refl

record PathAlike (x y : Path × Ending) : Type 0 where
  path : is_path y.0 ≡ is_path x.0
  ending : y.1 ≡ x.1

path_read_alike : (x y : Bool × List SegmentRead) → y.0 ≡ x.0 → Pairwise SegmentAlike x.1 y.1 → PathAlike (path_read x) (path_read y)
path_read_alike x y leading same = record {
  path =
      ap (λ r. not (are_scope r.leading r.segments)) (out-roll-Path _)
      ∙ ap (λ b. not (are_scope b (map (λ s. s.0) y.1))) leading
      ∙ ap not (scopes_same x.0 same)
      ∙ sym (ap (λ r. not (are_scope r.leading r.segments)) (out-roll-Path _));
  ending =
      ap (λ b. path_ending b y.1) leading
      ∙ (λ i. if selves_same x.0 same i then Name else last_same same i);
}

-- what is read as a path, before the test
made_alike : (x y : Path × Ending) → Alike (made path_read (both (flag at_colons colons) type_segments)) x y → PathAlike x y
unfolding Alike
made_alike x y is =
    related_as PathAlike (sym is.2) (sym is.3) (path_read_alike is.0 is.1 (flag_same at_colons colons is.0.0 is.1.0 is.4.0) (segments_alike is.0.1 is.1.1 is.4.1))

path_alike : (x y : Path × Ending) → Alike type_path x y → PathAlike x y
unfolding Alike type_path
path_alike x y is = made_alike x y is

path_fits : Fits type_path
unfolding Fits Alike is_plain has_no_documentation type_path
path_fits = ((plain_fits (flag at_colons colons) refl, segments_fit), λ x y is holds. (made_alike x y is).path ∙ holds)

-- ---- bounds

bound_path_alike : (x y : Path × Ending) → Alike bound_path x y → PathAlike x y
unfolding Alike bound_path
bound_path_alike x y is =
    let inner = is.4.1 in
    related_as PathAlike (sym is.2) (sym is.3) (related_as PathAlike (sym inner.2) (sym inner.3) (path_alike inner.0.1 inner.1.1 inner.4.1))

bound_ends : (x y : BoundRead) → Alike bound x y → y.1 ≡ x.1
unfolding Alike bound
bound_ends x y (inl is) = both_are (ap (λ z. z.1) is.2) (ap (λ z. z.1) is.3)
bound_ends x y (inr (inl is)) = both_are (ap (λ z. z.1) is.2) (ap (λ z. z.1) is.3)
bound_ends x y (inr (inr is)) = ap (λ z. z.1) is.3 ∙ (bound_path_alike is.0 is.1 is.4).ending ∙ sym (ap (λ z. z.1) is.2)

bound_path_fits : Fits bound_path
unfolding Fits is_plain has_no_documentation productions
bound_path_fits = (plain_fits (flag (at_sign 63) (sign 63)) refl, (plain_fits (flag (at_word keyword.For) for_all) refl, path_fits))

bound_fits : Fits bound
unfolding Fits is_plain has_no_documentation bound productions
bound_fits = (tt, (bound_path_fits, bound_path_fits))

-- there are some, or none
some_same : {R : BoundRead → BoundRead → Type 0} {xs ys : List BoundRead} → Pairwise R xs ys → some_bounds ys ≡ some_bounds xs
some_same Pairwise.nothing = refl
some_same (Pairwise.another r more) = refl

-- ---- forms of types

round_closed : (p : Ty × Option (List Ty)) → (round_of p).1 ≡ Closed
round_closed p = closed p.1
  where
    closed : (o : Option (List Ty)) → (round_of (p.0, o)).1 ≡ Closed
    closed None = refl
    closed (Some more) = refl

round_ends : (x y : FormRead) → Alike round_form x y → y.1 ≡ x.1
unfolding Alike round_form
round_ends x y (inl is) = both_are (ap (λ z. z.1) is.0) (ap (λ z. z.1) is.1)
round_ends x y (inr is) = both_are (ap (λ z. z.1) is.2 ∙ round_closed is.0) (ap (λ z. z.1) is.3 ∙ round_closed is.1)

square_ends : (x y : FormRead) → Alike square_form x y → y.1 ≡ x.1
unfolding Alike square_form
square_ends x y is = both_are (ap (λ z. z.1) is.2 ∙ closed is.0.0 is.0.1) (ap (λ z. z.1) is.3 ∙ closed is.1.0 is.1.1)
  where
    closed : (t : Ty) (o : Option _) → (square_of (t, o)).1 ≡ Closed
    closed t None = refl
    closed t (Some length) = refl

fn_ends : (xs ys : List Ty) (o p : Option Typed) → BothEnd o p → (fn_of (ys, p)).1 ≡ (fn_of (xs, o)).1
fn_ends xs ys o p BothEnd.neither = refl
fn_ends xs ys o p (BothEnd.these same) = same

pointer_ends : (x y : FormRead) → Alike fn_pointer x y → y.1 ≡ x.1
unfolding Alike fn_pointer
pointer_ends x y is =
    let outer = is.4 in
    let inner = outer.4.1 in
    let ends : BothEnd is.0.1 is.1.1 =
    related_as BothEnd (sym (ap (λ p. p.1) (outer.2 ∙ inner.2))) (sym (ap (λ p. p.1) (outer.3 ∙ inner.3))) (arrows_end inner.0.1.1 inner.1.1.1 inner.4.1.1) in
    ap (λ z. z.1) is.3 ∙ fn_ends is.0.0 is.1.0 is.0.1 is.1.1 ends ∙ sym (ap (λ z. z.1) is.2)

reference_ends : (x y : FormRead) → Alike reference x y → y.1 ≡ x.1
unfolding Alike reference
reference_ends x y is =
    let inner = is.4 in
    ap (λ z. z.1) is.3 ∙ ap (λ p. p.1.1) inner.3 ∙ inner.4.1.1 ∙ sym (ap (λ p. p.1.1) inner.2) ∙ sym (ap (λ z. z.1) is.2)

raw_ends : (x y : FormRead) → Alike pointer x y → y.1 ≡ x.1
unfolding Alike pointer
raw_ends x y is = let inner = is.4 in ap (λ z. z.1) is.3 ∙ ap (λ t. t.1) inner.3 ∙ inner.4.1 ∙ sym (ap (λ t. t.1) inner.2) ∙ sym (ap (λ z. z.1) is.2)

qualified_ends : (x y : FormRead) → Alike qualified x y → y.1 ≡ x.1
unfolding Alike qualified
qualified_ends x y is =
    let inner = is.4.1 in
    ap (λ z. z.1) is.3 ∙ ap last_ending inner.3 ∙ last_same (segments_alike inner.0.1 inner.1.1 inner.4.1) ∙ sym (ap last_ending inner.2) ∙ sym (ap (λ z. z.1) is.2)

plain_ends : (x y : FormRead) → Alike plain_form x y → y.1 ≡ x.1
unfolding Alike plain_form
plain_ends x y (inl is) = round_ends x y is
plain_ends x y (inr (inl is)) = both_are (ap (λ z. z.1) is.2) (ap (λ z. z.1) is.3)
plain_ends x y (inr (inr (inl is))) = reference_ends x y is
plain_ends x y (inr (inr (inr (inl is)))) = raw_ends x y is
plain_ends x y (inr (inr (inr (inr (inl is))))) = square_ends x y is
plain_ends x y (inr (inr (inr (inr (inr (inl is)))))) = qualified_ends x y is
plain_ends x y (inr (inr (inr (inr (inr (inr (inl is))))))) = pointer_ends x y is
plain_ends x y (inr (inr (inr (inr (inr (inr (inr is))))))) = ap (λ z. z.1) is.3 ∙ (path_alike is.0 is.1 is.4).ending ∙ sym (ap (λ z. z.1) is.2)

one_bound_ends : (x y : FormRead) → Alike one_bound_form x y → y.1 ≡ x.1
unfolding Alike one_bound_form
one_bound_ends x y (inl is) = ap (λ z. z.1) is.3 ∙ bound_ends is.0 is.1 is.4 ∙ sym (ap (λ z. z.1) is.2)
one_bound_ends x y (inr is) = plain_ends x y is

typed_ends : (x y : Typed) → Alike plain_type x y → y.1 ≡ x.1
unfolding Alike plain_type
typed_ends x y is = ap (λ z. z.1) is.3 ∙ one_bound_ends is.0.0 is.1.0 is.4 ∙ sym (ap (λ z. z.1) is.2)

qualified_self_fits : Fits qualified_self
unfolding Fits is_plain has_no_documentation qualified_self
qualified_self_fits = (tt, ((tt, path_fits), tt))

plain_form_fits : Fits plain_form
unfolding Fits is_plain has_no_documentation plain_form productions
plain_form_fits = (
  plain_fits round_form refl,
  (
    tt,
    (
      plain_fits reference refl,
      (plain_fits pointer refl, (plain_fits square_form refl, ((qualified_self_fits, (refl, segments_fit)), (plain_fits fn_pointer refl, path_fits)))),
    ),
  ),
)

plain_type_fits : Fits plain_type
unfolding Fits has_no_documentation plain_type one_bound_form productions
plain_type_fits = (refl, (bound_fits, plain_form_fits))

pub any_type_fits : Fits any_type
unfolding Fits Alike has_no_documentation any_type any_bounds_form productions
any_type_fits = (refl, ((bound_fits, λ xs ys is holds. some_same is ∙ holds), plain_form_fits))

-- ---- segments of expressions

record NamesAlike (x y : Segment) : Type 0 where
  scope : is_scope_segment y ≡ is_scope_segment x
  none : has_no_args (out-Segment y).args ≡ has_no_args (out-Segment x).args

-- there are arguments, or none
data BothHave : Option (List AngleArg) → Option (List AngleArg) → Type 0 where
  neither : BothHave None None
  these : {xs ys : List AngleArg} → BothHave (Some xs) (Some ys)

no_scope : (a b : Bool) → (a && false) ≡ (b && false)
no_scope true true = refl
no_scope true false = refl
no_scope false true = refl
no_scope false false = refl

names_alike : (i j : Ident) (o p : Option (List AngleArg)) → j.text ≡ i.text → BothHave o p → NamesAlike (segment_with (i, o)) (segment_with (j, p))
names_alike i j o p named BothHave.neither =
    let first = out-roll-Segment (record { ident = i; args = args.None }) in
    let second = out-roll-Segment (record { ident = j; args = args.None }) in
    record {
      scope =
          ap (λ r. is_scope_word r.ident.text && has_no_args r.args) second ∙ ap (λ text. is_scope_word text && true) named
          ∙ sym (ap (λ r. is_scope_word r.ident.text && has_no_args r.args) first);
      none = ap (λ r. has_no_args r.args) second ∙ sym (ap (λ r. has_no_args r.args) first);
    }
names_alike i j o p named (BothHave.these {xs = xs} {ys = ys}) =
    let first = out-roll-Segment (record { ident = i; args = args.Angle xs }) in
    let second = out-roll-Segment (record { ident = j; args = args.Angle ys }) in
    record {
      scope =
          ap (λ r. is_scope_word r.ident.text && has_no_args r.args) second ∙ no_scope (is_scope_word j.text) (is_scope_word i.text)
          ∙ sym (ap (λ r. is_scope_word r.ident.text && has_no_args r.args) first);
      none = ap (λ r. has_no_args r.args) second ∙ sym (ap (λ r. has_no_args r.args) first);
    }

expr_segment_alike : (x y : Segment) → Alike expr_segment x y → NamesAlike x y
unfolding Alike expr_segment
expr_segment_alike x y is =
    let have : BothHave is.0.1 is.1.1 = elim is.4.1 [ inl w ↦ related_as BothHave (sym w.2) (sym w.3) BothHave.these | inr w ↦ related_as BothHave (sym w.0) (sym w.1) BothHave.neither ] in
    related_as NamesAlike (sym is.2) (sym is.3) (names_alike is.0.0 is.1.0 is.0.1 is.1.1 (name_same is.0.0 is.1.0 is.4.0) have)

-- ---- paths of expressions

one_scope : (leading : Bool) {xs ys : List Segment} → Pairwise NamesAlike xs ys → are_scope leading ys ≡ are_scope leading xs
one_scope true more = refl
one_scope false Pairwise.nothing = refl
one_scope false (Pairwise.another h Pairwise.nothing) = h.scope
one_scope false (Pairwise.another h (Pairwise.another k more)) = refl

args_same : {xs ys : List Segment} → Pairwise NamesAlike xs ys → no_segment_args ys ≡ no_segment_args xs
args_same Pairwise.nothing = refl
args_same (Pairwise.another h more) = λ i. h.none i && args_same more i

-- without a type before it, or with one
abbrev is_mod : Option Ty × Path → Bool
is_mod p = has_no_self p.0 && no_segment_args (out-Path p.1).segments

record LocalAlike (x y : Option Ty × Path) : Type 0 where
  path : is_path y.1 ≡ is_path x.1
  bare : is_mod y ≡ is_mod x

local_alike : (x y : Option Ty × Path) → Alike (made local_path (both (flag at_colons colons) (rule.path expr_segment))) x y → LocalAlike x y
unfolding Alike
local_alike x y is =
    let leading = flag_same at_colons colons is.0.0 is.1.0 is.4.0 in
    let same = pairwise_into expr_segment_alike is.4.1 in
    related_as LocalAlike (sym is.2) (sym is.3) (record {
      path =
          ap (λ r. not (are_scope r.leading r.segments)) (out-roll-Path _)
          ∙ ap (λ b. not (are_scope b is.1.1)) leading
          ∙ ap not (one_scope is.0.0 same)
          ∙ sym (ap (λ r. not (are_scope r.leading r.segments)) (out-roll-Path _));
      bare = ap (λ r. no_segment_args r.segments) (out-roll-Path _) ∙ args_same same ∙ sym (ap (λ r. no_segment_args r.segments) (out-roll-Path _));
    })

any_alike : (x y : Option Ty × Path) → Alike any_expr_path x y → is_mod y ≡ is_mod x
unfolding Alike any_expr_path qualified_expr_path local_expr_path
any_alike x y (inl is) = both_are {z = false} (ap is_mod is.2) (ap is_mod is.3)
any_alike x y (inr is) = (local_alike x y is).bare

expr_path_alike : (x y : ExprPath) → Alike expr_path x y → is_mod_path y ≡ is_mod_path x
unfolding Alike expr_path
expr_path_alike x y is = ap is_mod_path is.3 ∙ any_alike is.0.0 is.1.0 is.4 ∙ sym (ap is_mod_path is.2)

expr_path_fits : Fits expr_path
unfolding Fits Alike is_plain has_no_documentation expr_path any_expr_path qualified_expr_path local_expr_path productions
expr_path_fits = (
  refl,
  (
    (qualified_self_fits, (refl, plain_fits expr_segment refl)),
    ((plain_fits (flag at_colons colons) refl, plain_fits expr_segment refl), λ x y is holds. (local_alike x y is).path ∙ holds),
  ),
)

-- ---- what stands behind a path

selves_begin : (ts us : Tokens) → Copy ts us → self_begins_paths us ≡ self_begins_paths ts
unfolding self_begins_paths
selves_begin [] [] copy = refl
selves_begin [] (u ∷ us) copy = absurd copy
selves_begin (t ∷ ts) [] copy = absurd copy
selves_begin (t ∷ ts) (u ∷ us) copy = λ i. (not (bytes_eq (copy.0.spelling_is i) (codes "self")) || pair_same 58 58 ts us refl copy.1 i) && selves_begin ts us copy.1 i

macro_group_fits : Fits macro_group
unfolding Fits Alike is_plain has_no_documentation macro_group productions
macro_group_fits = (plain_fits group refl, λ x y is holds. selves_begin x.1 y.1 is.1 ∙ holds)

path_tail_fits : Fits path_tail
unfolding Fits is_plain has_no_documentation path_tail productions
path_tail_fits = (plain_fits inits refl, ((refl, macro_group_fits), tt))

tail_same : (x y : Tail) → Alike path_tail x y → y ≡ x
unfolding Alike path_tail
tail_same x y (inl is) = both_are is.2 is.3
tail_same x y (inr (inl is)) = both_are is.2 is.3
tail_same x y (inr (inr is)) = both_are is.0 is.1

fits_same : (p q : ExprPath) (t : Tail) → is_mod_path q ≡ is_mod_path p → IsTrue (fits_tail (p, t)) → IsTrue (fits_tail (q, t))
fits_same p q tail.Nothing same holds = holds
fits_same p q tail.Fields same holds = holds
fits_same p q tail.Call same holds = same ∙ holds

primary_fits : Fits primary
unfolding Fits Alike is_plain has_no_documentation primary productions
primary_fits = (
  tt,
  (
    tt,
    (
      tt,
      (
        (expr_path_fits, path_tail_fits),
        λ x y is holds. subst (λ t. IsTrue (fits_tail (y.0, t))) (sym (tail_same x.1 y.1 is.1)) (fits_same x.0 y.0 x.1 (expr_path_alike x.0 y.0 is.0) holds),
      ),
    ),
  ),
)

-- ---- operators

unary_fits : Fits unary
unfolding Fits is_plain has_no_documentation unary productions
unary_fits = (plain_fits prefix refl, (primary_fits, plain_fits postfix refl))

link_same : (x y : Link) → Alike link x y → y ≡ x
unfolding Alike link
link_same x y (inl is) = let inner = is.4 in is.3 ∙ ap Cast (ap (λ t. t.1) inner.3 ∙ typed_ends inner.0.1 inner.1.1 inner.4.1 ∙ sym (ap (λ t. t.1) inner.2)) ∙ sym is.2
link_same x y (inr is) = is.3 ∙ ap Binary is.4.0 ∙ sym is.2

links_same : {xs ys : List Link} → Pairwise (λ x y. y ≡ x) xs ys → ys ≡ xs
links_same Pairwise.nothing = refl
links_same (Pairwise.another e more) = λ i. e i ∷ links_same more i

link_fits : Fits link
unfolding Fits is_plain has_no_documentation link productions
link_fits = ((tt, plain_type_fits), unary_fits)

expression_fits : Fits expression
unfolding Fits Alike has_no_documentation expression operation productions
expression_fits = (refl, (unary_fits, (link_fits, λ xs ys is holds. subst (λ ls. IsTrue (links_fit ls)) (sym (links_same (pairwise_into link_same is))) holds)))

-- ---- parts

part_fits : (p : Part) → Fits (rule_of p)
unfolding Fits is_plain has_no_documentation productions
part_fits types = any_type_fits
part_fits plains = plain_type_fits
part_fits exprs = expression_fits
part_fits trees = plain_fits tree refl

part_kin : (p : Part) (x y : TreeOf p) → Alike (rule_of p) x y → Kin p x y
part_kin types x y is = tt
part_kin plains x y is = typed_ends x y is
part_kin exprs x y is = tt
part_kin trees x y is = tt

-- copies of parts are read
parts_copied : (n budget : ℕ) → budget < n → (p : Part) (ts us : Tokens) (x : TreeOf p) → Copy ts us → parts budget p ts x → Copied (parts budget p) (Kin p) us x
parts_copied zero budget room p ts us x copy is = absurd (omega arith)
parts_copied (suc n) budget room p ts us x copy is =
    let one = copied_rule n (parts_copied n) (rule_of p) budget (inr (omega arith, part_inside p)) (part_fits p) ts us x copy (parts_unroll budget p ts x is) in
    record { value = one.value; reads = parts_roll budget p us one.value one.reads; alike = part_kin p x one.value one.alike }

-- the copy of a type is a type
pub copied_type : (budget : ℕ) (ts us : Tokens) (x : Ty) → lexemes us ≡ copied (lexemes ts) → Reads budget any_type ts x → (y : Ty) × Reads budget any_type us y
copied_type budget ts us x is reads =
    let one = parts_copied (suc budget) budget (omega arith) types ts us x (copy_of ts us is) (parts_roll budget types ts x reads) in (one.value, parts_unroll budget types us one.value one.reads)
