-- Whole lists: what is spliced of one by what is noted of it is read with one more of the budget, with the head in place of
-- each `Self` that a path begins with.
use Rattle.std.proofs.Common.{◌≡◌, ℕ, zero, suc, ◌<◌, List, [], ◌∷◌, ◌++◌, Option, refl, sym, ap, subst, ◌∙◌, append-nil, arith, Ok}
use Rattle.educe_tree.specs.declared.expr.ExprPath.{ExprPath}
use Rattle.educe_tree.specs.declared.generics.GenericParam.{GenericParam}
use Rattle.educe_tree.specs.declared.generics.WherePredicate.{WherePredicate}
use Rattle.educe_tree.specs.declared.ty.Ty.{Ty}
use Rattle.educe_grammar.specs.declared.parse_stream.ParseStream.{ParseStream}
use Rattle.educe_grammar.specs.declared.parse_stream.SelfPath.{SelfPath}
use Rattle.educe_grammar.specs.Expressions.{expr_path, tree}
use Rattle.educe_grammar.specs.Generics.{generic_param, predicate}
use Rattle.educe_grammar.specs.NotedReads.{read}
use Rattle.educe_grammar.specs.Noting.{run}
use Rattle.educe_grammar.specs.Parsed.{depth_limit, IsWhole}
use Rattle.educe_grammar.specs.Reads.{rule_of, Reads}
use Rattle.educe_grammar.specs.Rules.{Rule, Part, TreeOf, part, types, plains, exprs, trees}
use Rattle.educe_grammar.specs.Steps.{Tokens}
use Rattle.educe_grammar.specs.Types.{any_type}
use Rattle.educe_grammar.proofs.NotedUnrolling.{readers_unroll}
use Rattle.educe_grammar.proofs.Productions.{productions}
use Rattle.educe_grammar.proofs.ReadsAgain.{ReadsAgain}
use Rattle.educe_syntax_self.specs.Heads.{IsHead}
use Rattle.educe_syntax_self.specs.Replacing.{changes_below, Replaces, Changed}
use Rattle.educe_syntax_self.specs.Splicing.{note_at, walk, spliced, notes_of}
use Rattle.educe_syntax_self.proofs.ExprTurns.{turns_expr_path, turns_expression}
use Rattle.educe_syntax_self.proofs.GenericTurns.{ParamTurned, turns_generic_param, turns_predicate}
use Rattle.educe_syntax_self.proofs.KnownReads.{unread, notes_known}
use Rattle.educe_syntax_self.proofs.Pieces.{Setting, Piece}
use Rattle.educe_syntax_self.proofs.ReplacedReads.{replaces_reads, parts_replaced}
use Rattle.educe_syntax_self.proofs.SegmentTurns.{Ended}
use Rattle.educe_syntax_self.proofs.SimpleTurns.{is_simple, PartTurns}
use Rattle.educe_syntax_self.proofs.Turns.{Any, Anywhere, Turns}
use Rattle.educe_syntax_self.proofs.TypeTurns.{plainly, turns_any_type, turns_plain_type}

module _ (head : Tokens) (is_head : IsHead head) (whole : Tokens) (at : ℕ → Option ℕ) where
  -- where the parts have budgets below the number
  abbrev pub setting : ℕ → Setting
  setting n = record { head = head; is_head = is_head; whole = whole; at = at; changes = changes_below head n; back = parts_replaced head n }

  -- a piece is the same whatever the parts become
  same_piece : (n m : ℕ) {s t : ParseStream} {front out : Tokens} → Piece (setting n) s t front out → Piece (setting m) s t front out
  same_piece n m p = record { all = p.all; notes = p.notes; noted = p.noted; begin = p.begin; starts = p.starts; quiet = p.quiet; splices = p.splices }

  -- a part is its rule
  part_turns : (n budget : ℕ) (p : Part) {V : TreeOf p → TreeOf p → Type 0} → Turns (setting n) Anywhere budget (rule_of p) V → Turns (setting (suc n)) Anywhere budget (part p) V
  unfolding run Replaces changes_below
  part_turns n budget p inner = record {
    turn = λ before s t x here at is.
        (let one = inner.turn before s t x here at (sym (readers_unroll budget p s) ∙ is) in
        record { front = one.front; out = one.out; value = one.value; piece = same_piece n (suc n) one.piece; is = one.is; related = one.related });
  }

  parts_turn : (n budget : ℕ) → budget < n → PartTurns (setting n) Ended budget
  unfolding productions is_simple
  parts_turn zero budget room = absurd (omega arith)
  parts_turn (suc n) budget room = record {
    a_type = part_turns n budget types (turns_any_type (setting n) n (parts_turn n) budget (omega arith));
    a_plain = part_turns n budget plains (turns_plain_type (setting n) n (parts_turn n) budget (omega arith));
    an_expression = part_turns n budget exprs (turns_expression (setting n) n (parts_turn n) budget (omega arith));
    a_tree = part_turns n budget trees (plainly (setting n) n (parts_turn n) tree budget (omega arith) refl);
  }

-- ---- whole lists

-- The whole list is read as the value, and this is noted of it.
pub record Notes {A : Type 0} (g : Rule A) (tokens : Tokens) (x : A) (notes : List SelfPath) : Type 0 where
  pub reads : read depth_limit g (unread tokens) ≡ Ok (x, record { cursor = []; selves = notes })

-- what is noted of a list that is read to its end
pub noted : {A : Type 0} (g : Rule A) → ReadsAgain g → (tokens : Tokens) (x : A) → IsWhole g tokens x → Notes g tokens x (notes_of g tokens)
noted g again tokens x is = record { reads = notes_known g again tokens x is }

-- What is spliced of the tokens, and its value.
pub record Visit (head : Tokens) {A : Type 0} (g : Rule A) (V : A → A → Type 0) (tokens : Tokens) (x : A) (notes : List SelfPath) : Type 0 where
  pub value : A
  pub changed : Changed head g tokens x (spliced head tokens notes) value
  pub reads : Reads (suc depth_limit) g (spliced head tokens notes) value
  pub related : V x value

module _ (head : Tokens) (is_head : IsHead head) where
  -- the setting of a whole list of which this is noted
  abbrev known : Tokens → List SelfPath → Setting
  known tokens notes = setting head is_head tokens (note_at tokens notes) (suc depth_limit)

  visited : {A : Type 0} (g : Rule A) (V : A → A → Type 0) (tokens : Tokens) (x : A) (notes : List SelfPath) → Turns (known tokens notes) Anywhere depth_limit g V → Notes g tokens x notes → Visit head g V tokens x notes
  unfolding walk
  visited g V tokens x notes turns n =
      let t : ParseStream = record { cursor = []; selves = notes } in
      let one = turns.turn [] (unread tokens) t x tt refl n.reads in
      let front : one.front ≡ tokens = sym (one.piece.all ∙ append-nil one.front) in
      let out : spliced head tokens notes ≡ one.out = one.piece.splices (λ place least most. ap (λ (ns : List SelfPath). note_at tokens ns place) one.piece.noted) ∙ append-nil one.out in
      let changed : Changed head g tokens x (spliced head tokens notes) one.value =
      subst (λ (us : Tokens). Changed head g tokens x us one.value) (sym out) (subst (λ (us : Tokens). Changed head g us x one.out one.value) front one.is) in
      record {
        value = one.value;
        changed = changed;
        reads = replaces_reads head (changes_below head (suc depth_limit)) (parts_replaced head (suc depth_limit)) g depth_limit [] tokens [] x (spliced head tokens notes) one.value changed;
        related = one.related;
      }

  -- ---- types, paths, parameters and predicates

  pub type_visited : (tokens : Tokens) (x : Ty) (notes : List SelfPath) → Notes any_type tokens x notes → Visit head any_type Any tokens x notes
  type_visited tokens x notes is =
      visited any_type Any tokens x notes (turns_any_type (known tokens notes) (suc depth_limit) (parts_turn head is_head tokens (note_at tokens notes) (suc depth_limit)) depth_limit (omega arith)) is

  pub path_visited : (tokens : Tokens) (x : ExprPath) (notes : List SelfPath) → Notes expr_path tokens x notes → Visit head expr_path Any tokens x notes
  path_visited tokens x notes is =
      visited expr_path Any tokens x notes (turns_expr_path (known tokens notes) (suc depth_limit) (parts_turn head is_head tokens (note_at tokens notes) (suc depth_limit)) depth_limit (omega arith)) is

  pub param_visited : (tokens : Tokens) (x : GenericParam) (notes : List SelfPath) → Notes generic_param tokens x notes → Visit head generic_param ParamTurned tokens x notes
  param_visited tokens x notes is =
      visited generic_param ParamTurned tokens x notes
      (turns_generic_param (known tokens notes) (suc depth_limit) (parts_turn head is_head tokens (note_at tokens notes) (suc depth_limit)) depth_limit (omega arith)) is

  pub predicate_visited : (tokens : Tokens) (x : WherePredicate) (notes : List SelfPath) → Notes predicate tokens x notes → Visit head predicate Any tokens x notes
  predicate_visited tokens x notes is =
      visited predicate Any tokens x notes (turns_predicate (known tokens notes) (suc depth_limit) (parts_turn head is_head tokens (note_at tokens notes) (suc depth_limit)) depth_limit (omega arith)) is
