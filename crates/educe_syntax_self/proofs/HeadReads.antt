-- A head is read as the segment of a path, in types and in expressions, with any budget above 0.
use Rattle.std.proofs.Common.{◌≡◌, ℕ, suc, ◌-◌, Bool, true, false, not, ◌&&◌, ◌||◌, IsTrue, List, [], ◌∷◌, ◌++◌, Some, None, codes, refl, sym, ap, subst, ◌∙◌, ◌⊎◌, inl, inr, ⊎_elim, arith}
use Rattle.std.specs.Prelude.{if◌then◌else◌}
use Rattle.std.specs.Str.{bytes_eq}
use Rattle.std.proofs.lemmas.Bool.{and_parts, or_cases, or_parts, not-true, both_ways, false≢true, false_from_ne_true}
use Rattle.std.proofs.lemmas.Slice.Eq.{bytes_eq-Decides}
use Rattle.educe_tokens.specs.TokenKind.TheVariants as kind
use Rattle.educe_tokens.specs.Lexes.{lexeme_of, lexemes}
use Rattle.educe_tokens.specs.declared.token.Token.{Token}
use Rattle.educe_tokens.specs.declared.written.Written.{Written}
use Rattle.educe_tree.specs.declared.ty.Ty.{Ty}
use Rattle.educe_tree.specs.declared.path.AngleArg.{AngleArg}
use Rattle.educe_tree.specs.declared.path.AngleArg.TheVariants as arg
use Rattle.educe_tree.specs.declared.path.Args.{Args}
use Rattle.educe_tree.specs.declared.path.Args.TheVariants as args
use Rattle.educe_tree.specs.declared.path.Path.{out-roll-Path}
use Rattle.educe_tree.specs.declared.path.Segment.{Segment, out-Segment, out-roll-Segment}
use Rattle.educe_grammar.specs.declared.terminal.Keyword.TheVariants as keyword
use Rattle.educe_grammar.specs.declared.terminal.Terminal.TheVariants as terminal
use Rattle.educe_grammar.specs.declared.terminal.Terminal.TheVariants.{Sign}
use Rattle.educe_grammar.specs.declared.ending.Ending.TheVariants.{Arguments, Name}
use Rattle.educe_grammar.specs.Ahead.{is_sign, is_joint, begins_pair, begins_lone}
use Rattle.educe_grammar.specs.Expressions.{expr_segment, segment_with}
use Rattle.educe_grammar.specs.Names.{segment_name, segment_name_of, lifetime, lifetime_of, word_kind}
use Rattle.educe_grammar.specs.Reading.{Parses}
use Rattle.educe_grammar.specs.Reading as reading
use Rattle.educe_grammar.specs.Reads.{parts}
use Rattle.educe_grammar.specs.Rules.{types}
use Rattle.educe_grammar.specs.Steps.{Tokens, Found}
use Rattle.educe_grammar.specs.Terminals.{some_words, set_of, token_in, accepts}
use Rattle.educe_grammar.specs.Types.{has_no_args, is_scope_word, is_scope_segment, are_scope, is_path_read, may_follow, no_args, path_read, path_form, untyped_of, type_segments, type_path, plain_form, any_bounds_form, any_type, angle_arg, angle_args, type_args, type_segment, angle_read, segment_read, segment_of, SegmentRead}
use Rattle.educe_grammar.proofs.Sets.{are_disjoint, disjoint_sound, is_within, within_sound}
use Rattle.educe_grammar.proofs.TokenKinds.{sign_token}
use Rattle.educe_grammar.proofs.Unrolling.{parts_roll}
use Rattle.educe_syntax_self.specs.Heads.{is_a, is_argument, ends_arguments, is_arguments, is_head, IsHead}
use Rattle.educe_syntax_self.proofs.Copyable.{set_copied}
use Rattle.educe_syntax_self.proofs.Starts.{IsNamed}

-- ---- names

-- a name is an identifier
name_ident : (t : Token) → token_in (set_of terminal.Name) t.kind t.spelling ≡ true → t.kind ≡ kind.Ident
name_ident t is = word_kind (some_words true []) t.kind t.spelling is

-- a name may be a segment
name_segment : (t : Token) → token_in (set_of terminal.Name) t.kind t.spelling ≡ true → IsTrue (accepts terminal.PathSegment t)
unfolding accepts is_within
name_segment t is = within_sound (set_of terminal.Name) (set_of terminal.PathSegment) t.kind t.spelling refl is

-- it is no `for`
name_no_for : (t : Token) → token_in (set_of terminal.Name) t.kind t.spelling ≡ true → accepts (terminal.Word keyword.For) t ≡ false
unfolding accepts are_disjoint
name_no_for t is = disjoint_sound (set_of terminal.Name) (set_of (terminal.Word keyword.For)) t.kind t.spelling refl is

-- equal texts are equal the other way round
pub turned : (s t : List ℕ) → bytes_eq s t ≡ false → bytes_eq t s ≡ false
turned s t apart = false_from_ne_true (bytes_eq t s) (λ same. both_ways (bytes_eq s t) apart ((bytes_eq-Decides s t).1 (sym ((bytes_eq-Decides t s).0 same))))

-- it is none of `self`, `super` and `crate`
name_no_scope : (t : Token) → token_in (set_of terminal.Name) t.kind t.spelling ≡ true → is_scope_word t.spelling ≡ false
unfolding are_disjoint
name_no_scope t is =
    let none = sym (ap (λ k. token_in (set_of terminal.Scope) k t.spelling) (name_ident t is)) ∙ disjoint_sound (set_of terminal.Name) (set_of terminal.Scope) t.kind t.spelling refl is in
    let first = or_parts (bytes_eq (codes "crate") t.spelling) (bytes_eq (codes "self") t.spelling || (bytes_eq (codes "super") t.spelling || false)) none in
    let second = or_parts (bytes_eq (codes "self") t.spelling) (bytes_eq (codes "super") t.spelling || false) first.1 in
    let third = or_parts (bytes_eq (codes "super") t.spelling) false second.1 in
    λ i. if turned (codes "self") t.spelling second.0 i then true else if turned (codes "super") t.spelling third.0 i then true else turned (codes "crate") t.spelling first.0 i

-- it is not `Self`
name_no_self : (t : Token) → token_in (set_of terminal.Name) t.kind t.spelling ≡ true → bytes_eq t.spelling (codes "Self") ≡ false
unfolding are_disjoint
name_no_self t is =
    let none = sym (ap (λ k. token_in (set_of (terminal.Word keyword.SelfType)) k t.spelling) (name_ident t is)) ∙ disjoint_sound (set_of terminal.Name) (set_of (terminal.Word keyword.SelfType)) t.kind t.spelling refl is in
    turned (codes "Self") t.spelling (or_parts (bytes_eq (codes "Self") t.spelling) false none).0

-- ---- segments

-- the segment is spelled `Self`
abbrev pub is_self_segment : Segment → Bool
is_self_segment s = bytes_eq (out-Segment s).ident.text (codes "Self")

abbrev found : (t : Token) → token_in (set_of terminal.Name) t.kind t.spelling ≡ true → Found (accepts terminal.PathSegment)
found t is = record { token = t; passes = name_segment t is }

-- ---- a name as an argument, with any budget

module _ (budget : ℕ) (t : Token) (is : token_in (set_of terminal.Name) t.kind t.spelling ≡ true) (written : Written) (alone : written.tokens ≡ t ∷ []) where
  abbrev named_type : Ty
  named_type = untyped_of (path_form (path_read (false, segment_read (segment_name_of (found t is), no_args) ∷ [])), written)

  is_no_scope : is_path_read (path_read (false, segment_read (segment_name_of (found t is), no_args) ∷ [])) ≡ true
  is_no_scope =
      ap (λ r. not (are_scope r.leading r.segments)) (out-roll-Path _) ∙ ap (λ r. not (is_scope_word r.ident.text && has_no_args r.args)) (out-roll-Segment (record { ident = segment_name_of (found t is); args = args.None }))
      ∙ ap (λ (b : Bool). not (b && true)) (name_no_scope t is)

  name_is_type : parts budget types (t ∷ []) named_type
  unfolding Parses may_follow any_type any_bounds_form plain_form type_path type_segments type_segment segment_name type_args
  name_is_type =
      let s = segment_read (segment_name_of (found t is), no_args) in
      parts_roll budget types (t ∷ []) named_type (
        (path_form (path_read (false, s ∷ [])), written),
        refl,
        (
          inr (inr (inr (inr (inr (inr (inr (inr (
            path_read (false, s ∷ []),
            refl,
            (
              is_no_scope,
              (
                (false, s ∷ []),
                refl,
                (
                  [],
                  t ∷ [],
                  refl,
                  inr (refl, refl),
                  (
                    refl,
                    reading.Linked.last (t ∷ [])
                        ((segment_name_of (found t is), no_args), refl, (t ∷ [], [], refl, (found t is, refl, refl), inr (inr (refl, refl)))),
                  ),
                ),
              ),
            ),
          )))))))),
          alone,
        ),
      )

-- a lifetime or a name is an argument
argument_reads : (budget : ℕ) (t : Token) → is_argument (lexeme_of t) ≡ true → (x : AngleArg) × Parses parts budget angle_arg (t ∷ []) x
unfolding Parses angle_arg lifetime accepts
argument_reads budget t is = ⊎_elim
    (λ is.
    (let one : Found (accepts terminal.Lifetime) = record { token = t; passes = is } in
    (arg.Lifetime (lifetime_of one), inl (lifetime_of one, refl, (one, refl, refl)))))
    (λ is.
    (let written : Written = record { tokens = t ∷ []; written = set_copied (set_of terminal.Name) t.kind t.spelling is } in
    (arg.Plain (named_type budget t is written refl), inr (inr (inr (named_type budget t is written refl, refl, name_is_type budget t is written refl))))))
    (or_cases (is_a terminal.Lifetime (lexeme_of t)) (is_a terminal.Name (lexeme_of t)) is)

-- ---- arguments

-- Arguments up to `>`.
record Ends (budget : ℕ) (t : Token) (more : Tokens) : Type 0 where
  front : Tokens
  last : Token
  is : more ≡ front ++ last ∷ []
  closes : IsTrue (accepts (Sign 62) last)
  values : List AngleArg
  reads : reading.Listed (Parses parts budget angle_arg) (accepts (Sign 44)) (t ∷ front) values

ends : (budget : ℕ) (t : Token) (more : Tokens) → is_argument (lexeme_of t) ≡ true → ends_arguments (lexemes more) ≡ true → Ends budget t more
unfolding ends_arguments accepts
ends budget t [] is h = absurd (false≢true h)
ends budget t (last ∷ []) is h =
    let one = argument_reads budget t is in
    record { front = []; last = last; is = refl; closes = h; values = one.0 ∷ []; reads = reading.Listed.last (t ∷ []) one.1 }
ends budget t (comma ∷ u ∷ more) is h =
    let first = and_parts (is_a (Sign 44) (lexeme_of comma)) (is_argument (lexeme_of u) && ends_arguments (lexemes more)) h in
    let second = and_parts (is_argument (lexeme_of u)) (ends_arguments (lexemes more)) first.1 in
    let one = argument_reads budget t is in
    let others = ends budget u more second.0 second.1 in
    record {
      front = comma ∷ u ∷ others.front;
      last = others.last;
      is = ap (λ us. comma ∷ u ∷ us) others.is;
      closes = others.closes;
      values = one.0 ∷ others.values;
      reads = reading.Listed.more (t ∷ []) (u ∷ others.front) comma one.1 first.0 others.reads;
    }

-- what the tests of arguments say
record Opened (a b c d : Token) (more : Tokens) : Type 0 where
  colons : begins_pair 58 58 (a ∷ b ∷ []) ≡ true
  less : IsTrue (accepts (Sign 60) c)
  alone : begins_lone 60 61 (c ∷ d ∷ more) ≡ true
  first : is_argument (lexeme_of d) ≡ true
  others : ends_arguments (lexemes more) ≡ true

opened : (a b c d : Token) (more : Tokens) → is_arguments (lexemes (a ∷ b ∷ c ∷ d ∷ more)) ≡ true → Opened a b c d more
unfolding is_arguments begins_pair begins_lone accepts
opened a b c d more h =
    let one = and_parts (is_joint 58 a.kind) _ h in
    let two = and_parts (is_sign 58 b.kind) _ one.1 in
    let three = and_parts (is_sign 60 c.kind) _ two.1 in
    let four = and_parts (not (is_joint 60 c.kind)) _ three.1 in
    let five = and_parts (is_argument (lexeme_of d)) (ends_arguments (lexemes more)) four.1 in
    record {
      colons = ap (λ x. x && is_sign 58 b.kind) one.0 ∙ two.0;
      less = sign_token 60 c.kind c.spelling three.0;
      alone = ap (λ x. x && not (is_joint 60 c.kind && is_sign 61 d.kind)) three.0 ∙ ap (λ x. not (x && is_sign 61 d.kind)) (not-true (is_joint 60 c.kind) four.0);
      first = five.0;
      others = five.1;
    }

one_less : (budget : ℕ) → budget ≡ suc budget - 1
one_less budget = omega arith

-- they are read
args_read : (budget : ℕ) (a b c d : Token) (more : Tokens) → Opened a b c d more → (values : List AngleArg) × Parses parts (suc budget) angle_args (c ∷ d ∷ more) values
unfolding Parses angle_args
args_read budget a b c d more h =
    let inside = ends budget d more h.first h.others in (
      inside.values,
      (
        record {
          first = c;
          inside = d ∷ inside.front;
          last = inside.last;
          is = ap (λ us. c ∷ d ∷ us) inside.is;
          allowed = omega arith;
          opens = h.less;
          closes = inside.closes;
          reads = subst (λ (n : ℕ). reading.Listed (Parses parts n angle_arg) (accepts (Sign 44)) (d ∷ inside.front) inside.values) (one_less budget) inside.reads;
        },
        h.alone,
      ),
    )

-- ---- the head

-- The head as a segment of a type.
pub record TypeHead (budget : ℕ) (head : Tokens) : Type 0 where
  pub value : SegmentRead
  pub reads : Parses parts (suc budget) type_segment head value
  pub ending : (value.1 ≡ Name) ⊎ (value.1 ≡ Arguments)
  pub follows : value.2 ≡ true
  pub scope : is_scope_segment value.0 ≡ false
  pub self : is_self_segment value.0 ≡ false

-- The head as a segment of a path in an expression.
pub record ExprHead (budget : ℕ) (head : Tokens) : Type 0 where
  pub value : Segment
  pub reads : Parses parts (suc budget) expr_segment head value
  pub scope : is_scope_segment value ≡ false

-- no segment of a name is a scope
segment_no_scope : (t : Token) (is : token_in (set_of terminal.Name) t.kind t.spelling ≡ true) (written : Args) → is_scope_segment (segment_of (segment_name_of (found t is)) written) ≡ false
segment_no_scope t is written =
    ap (λ r. is_scope_word r.ident.text && has_no_args r.args) (out-roll-Segment (record { ident = segment_name_of (found t is); args = written })) ∙ ap (λ b. b && has_no_args written) (name_no_scope t is)

-- no segment of a name is `Self`
segment_no_self : (t : Token) (is : token_in (set_of terminal.Name) t.kind t.spelling ≡ true) (written : Args) → is_self_segment (segment_of (segment_name_of (found t is)) written) ≡ false
segment_no_self t is written = ap (λ r. bytes_eq r.ident.text (codes "Self")) (out-roll-Segment (record { ident = segment_name_of (found t is); args = written })) ∙ name_no_self t is

-- How a head looks.
data Head : Tokens → Type 0 where
  alone : (t : Token) → token_in (set_of terminal.Name) t.kind t.spelling ≡ true → Head (t ∷ [])
  applied : (t a b c d : Token) (more : Tokens) → token_in (set_of terminal.Name) t.kind t.spelling ≡ true → Opened a b c d more → Head (t ∷ a ∷ b ∷ c ∷ d ∷ more)

looks : (head : Tokens) → IsHead head → Head head
unfolding is_head is_arguments
looks [] h = absurd (false≢true h)
looks (t ∷ []) h = Head.alone t h
looks (t ∷ a ∷ []) h = absurd (false≢true (and_parts (is_a terminal.Name (lexeme_of t)) false h).1)
looks (t ∷ a ∷ b ∷ []) h = absurd (false≢true (and_parts (is_a terminal.Name (lexeme_of t)) false h).1)
looks (t ∷ a ∷ b ∷ c ∷ []) h = absurd (false≢true (and_parts (is_a terminal.Name (lexeme_of t)) false h).1)
looks (t ∷ a ∷ b ∷ c ∷ d ∷ more) h =
    let both = and_parts (is_a terminal.Name (lexeme_of t)) (is_arguments (lexemes (a ∷ b ∷ c ∷ d ∷ more))) h in
    Head.applied t a b c d more both.0 (opened a b c d more both.1)

-- It begins with a name.
pub record BeginsNamed (head : Tokens) : Type 0 where
  pub first : Token
  pub rest : Tokens
  pub is : head ≡ first ∷ rest
  pub named : IsNamed first

head_named : (head : Tokens) → Head head → BeginsNamed head
head_named head (Head.alone t is) = record { first = t; rest = []; is = refl; named = record { named = name_ident t is; other = name_no_for t is } }
head_named head (Head.applied t a b c d more is h) = record { first = t; rest = a ∷ b ∷ c ∷ d ∷ more; is = refl; named = record { named = name_ident t is; other = name_no_for t is } }

pub named : (head : Tokens) → IsHead head → BeginsNamed head
named head h = head_named head (looks head h)

-- it is read
in_type : (budget : ℕ) (head : Tokens) → Head head → TypeHead budget head
unfolding Parses type_segment segment_name type_args
in_type budget head (Head.alone t is) =
    let name = segment_name_of (found t is) in
    record {
      value = segment_read (name, no_args);
      reads = ((name, no_args), refl, (t ∷ [], [], refl, (found t is, refl, refl), inr (inr (refl, refl))));
      ending = inl refl;
      follows = refl;
      scope = segment_no_scope t is args.None;
      self = segment_no_self t is args.None;
    }
in_type budget head (Head.applied t a b c d more is h) =
    let name = segment_name_of (found t is) in
    let inside = args_read budget a b c d more h in
    record {
      value = segment_read (name, angle_read inside.0);
      reads = (
        (name, angle_read inside.0),
        refl,
        (
          t ∷ [],
          a ∷ b ∷ c ∷ d ∷ more,
          refl,
          (found t is, refl, refl),
          inl (inside.0, refl, ((true, inside.0), refl, (a ∷ b ∷ [], c ∷ d ∷ more, refl, inl (tt, refl, (refl, h.colons)), inside.1))),
        ),
      );
      ending = inr refl;
      follows = refl;
      scope = segment_no_scope t is (args.Angle inside.0);
      self = segment_no_self t is (args.Angle inside.0);
    }

pub type_head : (budget : ℕ) (head : Tokens) → IsHead head → TypeHead budget head
type_head budget head h = in_type budget head (looks head h)

in_expr : (budget : ℕ) (head : Tokens) → Head head → ExprHead budget head
unfolding Parses expr_segment segment_name
in_expr budget head (Head.alone t is) =
    let name = segment_name_of (found t is) in
    record {
      value = segment_with (name, None);
      reads = ((name, None), refl, (t ∷ [], [], refl, (found t is, refl, refl), inr (refl, refl)));
      scope = segment_no_scope t is args.None;
    }
in_expr budget head (Head.applied t a b c d more is h) =
    let name = segment_name_of (found t is) in
    let inside = args_read budget a b c d more h in
    record {
      value = segment_with (name, Some inside.0);
      reads = (
        (name, Some inside.0),
        refl,
        (
          t ∷ [],
          a ∷ b ∷ c ∷ d ∷ more,
          refl,
          (found t is, refl, refl),
          inl (inside.0, refl, ((tt, inside.0), refl, (a ∷ b ∷ [], c ∷ d ∷ more, refl, (refl, h.colons), inside.1))),
        ),
      );
      scope = segment_no_scope t is (args.Angle inside.0);
    }

pub expr_head : (budget : ℕ) (head : Tokens) → IsHead head → ExprHead budget head
expr_head budget head h = in_expr budget head (looks head h)
